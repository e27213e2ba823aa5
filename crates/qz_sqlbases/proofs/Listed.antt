-- What calls do to the lists of databases in memory, by what they do to their slots.
use Rattle.std.proofs.Common.{◌≡◌, ⊎_elim, ℕ, true, false, List, [], Option, Some, None, refl, sym, ap, ap₂, subst, ◌∙◌}
use Rattle.std.specs.Prelude.{IfSome, is_some, option_map}
use Rattle.sqlite.specs.Held.{state}
use Rattle.sqlite.specs.Steps.{over_memory}
use Rattle.qz_disks.specs.Keepers.{MayStand, Reopens, StaysShut}
use Rattle.qz_disks.specs.Shelves.{Place}
use Rattle.qz_sqlkeep.specs.Keeping.{Stands}
use Rattle.qz_sqlkeep.proofs.Keeping.{payloads_are}
use Rattle.qz_sqlbases.specs.Databases.{ChangesAt, HandsOut, SameLists, TakesBack, standing_as}
use Rattle.qz_disks.specs.Slots.{Puts, stands_at}
use Rattle.qz_disks.specs.declared.slots.Slot.{Slot}
use Rattle.qz_disks.proofs.SlotLemmas.{apart_or_same}
use Rattle.qz_sqlbases.specs.Slots.{Kept, doubt_in, folder_lists, is_taken, list_in, list_of, memory_lists}

pub not_there : {T : Type 0} (o : Option T) → is_some o ≡ false → o ≡ None
not_there None absent = refl
not_there (Some x) absent = absurd cc

others_stay : (at : Place) (value : Option Kept) (old new : List (Slot (Option Kept))) → Puts at value old new → ChangesAt at (memory_lists old) (memory_lists new)
others_stay at value old new puts = record { is_out = λ other ne. ap is_taken (puts.others other ne); list = λ other ne. ap list_in (puts.others other ne) }

-- a keeper was opened again, and handed out
pub handed : (at : Place) (old new : List (Slot (Option Kept))) (k after : Kept) (found : List (List ℕ)) → stands_at at old ≡ Some (Some k) → Puts at None old new
    → Reopens (list_of k).payloads (list_of after).payloads k.doubt after.doubt found → HandsOut at (memory_lists old) (memory_lists new) true (list_of after).payloads after.doubt found
handed at old new k after found there puts reopens = record {
  stands = subst (λ o. Reopens (list_in o).payloads (list_of after).payloads (list_in o).doubt after.doubt found) (sym there) reopens;
  told = reopens.kept;
  out = ap is_taken puts.there;
  others = others_stay at None old new puts;
}

-- a keeper of an empty list was handed out
pub made_out : (at : Place) (old new : List (Slot (Option Kept))) (k : Kept) → stands_at at old ≡ None → Puts at None old new → Stands [] (state over_memory k.conn).now → k.doubt ≡ None
    → HandsOut at (memory_lists old) (memory_lists new) true (list_of k).payloads k.doubt []
made_out at old new k none puts stands no_doubt =
    let bare : (list_of k).payloads ≡ Some [] = ap Some (payloads_are [] (state over_memory k.conn).now stands) in
    record {
      stands = subst (λ o. Reopens (list_in o).payloads (list_of k).payloads (list_in o).doubt k.doubt []) (sym none) (record { stands = refl; kept = bare; no_doubt = no_doubt });
      told = bare;
      out = ap is_taken puts.there;
      others = others_stay at None old new puts;
    }

-- a keeper that was not opened again stands where it stood
pub put_back : (at : Place) (old mid new : List (Slot (Option Kept))) (k after : Kept) → stands_at at old ≡ Some (Some k) → Puts at None old mid → Puts at (Some after) mid new
    → StaysShut (list_of k).payloads (list_of after).payloads k.doubt after.doubt → SameLists (memory_lists old) (memory_lists new)
put_back at old mid new k after there taken back stays = record {
  is_out = λ other. ⊎_elim (λ same. subst (λ p. is_taken (stands_at p new) ≡ is_taken (stands_at p old)) (sym same) (ap is_taken back.there ∙ sym (ap is_taken there)))
      (λ apart. ap is_taken (back.others other apart ∙ taken.others other apart)) (apart_or_same other at);
  list = λ other. ⊎_elim (λ same. subst (λ p. list_in (stands_at p new) ≡ list_in (stands_at p old)) (sym same) (ap list_in back.there ∙ ap₂ standing_as stays.kept stays.same_doubt ∙ sym (ap list_in there)))
      (λ apart. ap list_in (back.others other apart ∙ taken.others other apart)) (apart_or_same other at);
}

pub taken_back : (at : Place) (old new : List (Slot (Option Kept))) (k : Kept) → Puts at (Some k) old new → TakesBack at (memory_lists old) (memory_lists new) (list_of k)
taken_back at old new k puts = record { stands = ap list_in puts.there; here = ap is_taken puts.there; others = others_stay at (Some k) old new puts }

-- ---- over folders

others_noted : (at : Place) (value : Option (Option (List ℕ))) (old new : List (Slot (Option (Option (List ℕ))))) → Puts at value old new → ChangesAt at (folder_lists old) (folder_lists new)
others_noted at value old new puts = record { is_out = λ other ne. ap is_taken (puts.others other ne); list = λ other ne. ap doubt_in (puts.others other ne) }

pub folder_out : (at : Place) (old mid new : List (Slot (Option (Option (List ℕ))))) (doubt : Option (List ℕ)) (found : List (List ℕ)) → SameLists (folder_lists old) (folder_lists mid) → Puts at None mid new
    → ((folder_lists old).list at).payloads ≡ None → doubt ≡ None → HandsOut at (folder_lists old) (folder_lists new) false None doubt found
folder_out at old mid new doubt found same puts untold none = record {
  stands = record { stands = subst (λ o. IfSome o (λ payloads. MayStand payloads ((folder_lists old).list at).doubt found)) (sym untold) tt; kept = ap (option_map (λ _. found)) (sym untold); no_doubt = none };
  told = refl;
  out = ap is_taken puts.there;
  others =
      let changes = others_noted at None mid new puts in
      record { is_out = λ other ne. changes.is_out other ne ∙ same.is_out other; list = λ other ne. changes.list other ne ∙ same.list other };
}

untold_by : (o : Option (Option (Option (List ℕ)))) → (doubt_in o).payloads ≡ None
untold_by None = refl
untold_by (Some None) = refl
untold_by (Some (Some doubt)) = refl

pub untold_at : (at : Place) (slots : List (Slot (Option (Option (List ℕ))))) → ((folder_lists slots).list at).payloads ≡ None
untold_at at slots = untold_by (stands_at at slots)

pub folder_back : (at : Place) (old new : List (Slot (Option (Option (List ℕ))))) (doubt : Option (List ℕ)) → Puts at (Some doubt) old new → TakesBack at (folder_lists old) (folder_lists new) (standing_as None doubt)
folder_back at old new doubt puts = record { stands = ap doubt_in puts.there; here = ap is_taken puts.there; others = others_noted at (Some doubt) old new puts }

-- a database that is out has a slot
pub there_while_out : {T : Type 0} (o : Option (Option T)) → is_taken o ≡ true → is_some o ≡ true
there_while_out None out = absurd cc
there_while_out (Some held) out = refl
