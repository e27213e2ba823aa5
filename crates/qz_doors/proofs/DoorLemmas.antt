-- Links that are served in turn.
use Rattle.std.proofs.Common.{◌≡◌, ◌⊎◌, inl, inr, ℕ, ◌+◌, ◌<◌, ◌≤◌, Bool, true, false, List, [], ◌∷◌, ◌++◌, length, filter, Option, Some, None, refl, sym, ap, ◌∙◌, subst, append-nil, append_assoc, length-append, arith}
use Rattle.std.specs.Prelude.{option_map}
use Rattle.std.proofs.lemmas.Bool.{false≢true}
use Rattle.std.proofs.lemmas.List.Elements.{filter-append}
use Rattle.qz_terms.specs.declared.ask.Ask.{Ask}
use Rattle.qz_terms.specs.declared.reply.Reply.{Reply}
use Rattle.qz_http.specs.declared.items.LinkEnd.{LinkEnd}
use Rattle.qz_outside.specs.Causes.{HasRisen}
use Rattle.std.specs.Prelude.{IfSome}
use Rattle.qz_doors.specs.declared.door.DoorEnd.{DoorEnd}
use Rattle.qz_doors.specs.Doors.{Entrance, ServesDoor, ServesInTurn, ServesNext, TakesNoLink, is_short, shorter}
use Rattle.qz_doors.specs.Doors as turns
use Rattle.qz_asking.specs.Asking.{Answerer}
use Rattle.qz_doors.specs.Links.{LinkEnds, Peer}

-- one link more is served
serves_more : {L S : Type 0} (asks : S → S → Ask → Reply → Type 0) (peer : L → Peer) (a b c : S) (links back : List L) (ends : List LinkEnd) (link served : L) (why : LinkEnd)
    → ServesInTurn asks peer a links back ends b → LinkEnds asks (peer link) (peer served) b c why → ServesInTurn asks peer a (links ++ link ∷ []) (back ++ served ∷ []) (ends ++ why ∷ []) c
serves_more asks peer a _ c _ _ _ link served why (turns.none _) serves = turns.one a c c link served why [] [] [] serves (turns.none c)
serves_more asks peer a b c _ _ _ link served why (turns.one _ m _ first then how links back ends is rest) serves =
    turns.one a m c first then how (links ++ link ∷ []) (back ++ served ∷ []) (ends ++ why ∷ []) is (serves_more asks peer m b c links back ends link served why rest serves)

-- a door while its links are served: these were taken, and each was given back
pub record IsAtDoor {L S : Type 0} (asks : S → S → Ask → Reply → Type 0) (peer : L → Peer) (old new : Entrance L) (a b : S) (taken short : ℕ) : Type 0 where
  pub links : List L
  pub back : List L
  pub ends : List LinkEnd
  pub served : ServesInTurn asks peer a links back ends b
  pub left : old.left ≡ option_map (λ left. links ++ left) new.left
  pub returned : new.returned ≡ option_map (λ returned. returned ++ back) old.returned
  pub returns : new.returns ≡ old.returns + length links
  pub out : new.out ≡ old.out
  pub count : taken ≡ length links
  pub shorts : short ≡ length (filter is_short ends)
  pub few : short ≤ taken
  pub later : old.faults ≤ new.faults

takes_nothing : {L : Type 0} (o : Option (List L)) → o ≡ option_map (λ left. [] ++ left) o
takes_nothing None = refl
takes_nothing (Some left) = refl

returns_nothing : {L : Type 0} (o : Option (List L)) → o ≡ option_map (λ returned. returned ++ []) o
returns_nothing None = refl
returns_nothing (Some returned) = ap Some (sym (append-nil returned))

takes_one : {L : Type 0} (old mid new : Option (List L)) (links : List L) (link : L) → old ≡ option_map (λ left. links ++ left) mid → mid ≡ option_map (λ left. link ∷ left) new
    → old ≡ option_map (λ left. (links ++ link ∷ []) ++ left) new
takes_one old mid None links link first second = first ∙ ap (option_map (λ left. links ++ left)) second
takes_one old mid (Some left) links link first second = first ∙ (ap (option_map (λ l. links ++ l)) second ∙ ap Some (sym (append_assoc links (link ∷ []) left)))

returns_one : {L : Type 0} (old mid new : Option (List L)) (back : List L) (link : L) → mid ≡ option_map (λ returned. returned ++ back) old → new ≡ option_map (λ returned. returned ++ link ∷ []) mid
    → new ≡ option_map (λ returned. returned ++ (back ++ link ∷ [])) old
returns_one None mid new back link first second = second ∙ ap (option_map (λ r. r ++ link ∷ [])) first
returns_one (Some returned) mid new back link first second = second ∙ (ap (option_map (λ r. r ++ link ∷ [])) first ∙ ap Some (append_assoc returned back (link ∷ [])))

pub at_door_none : {L S : Type 0} (asks : S → S → Ask → Reply → Type 0) (peer : L → Peer) (old : Entrance L) (a : S) → IsAtDoor asks peer old old a a 0 0
at_door_none asks peer old a = record {
  links = [];
  back = [];
  ends = [];
  served = turns.none a;
  left = takes_nothing old.left;
  returned = returns_nothing old.returned;
  returns = omega arith;
  out = refl;
  count = refl;
  shorts = refl;
  few = omega arith;
  later = omega arith;
}

short_more : (ends : List LinkEnd) (why : LinkEnd) (short : ℕ) → short ≡ length (filter is_short ends) → shorter (is_short why) short ≡ length (filter is_short (ends ++ why ∷ []))
short_more ends why short is = by (is_short why) refl
  where
    by : (t : Bool) → is_short why ≡ t → shorter (is_short why) short ≡ length (filter is_short (ends ++ why ∷ []))
    by true t = rw (filter-append is_short ends (why ∷ []), t) (omega (arith, is, length-append (filter is_short ends) (why ∷ [])))
    by false t = rw (filter-append is_short ends (why ∷ []), t) (omega (arith, is, length-append (filter is_short ends) []))

few_more : (t : Bool) (short taken : ℕ) → short ≤ taken → shorter t short ≤ taken + 1
few_more true short taken few = omega (arith, few)
few_more false short taken few = omega (arith, few)

-- one link more was taken, served and given back
pub at_door_one : {L S : Type 0} (asks : S → S → Ask → Reply → Type 0) (peer : L → Peer) (old mid new : Entrance L) (a b c : S) (taken short : ℕ) (why : LinkEnd)
    → IsAtDoor asks peer old mid a b taken short → ServesNext asks peer mid new b c why → IsAtDoor asks peer old new a c (taken + 1) (shorter (is_short why) short)
at_door_one asks peer old mid new a b c taken short why d n = record {
  links = d.links ++ n.link ∷ [];
  back = d.back ++ n.served ∷ [];
  ends = d.ends ++ why ∷ [];
  served = serves_more asks peer a b c d.links d.back d.ends n.link n.served why d.served n.serves;
  left = takes_one old.left mid.left new.left d.links n.link d.left n.left;
  returned = returns_one old.returned mid.returned new.returned d.back n.served d.returned n.returned;
  returns = omega (arith, d.returns, n.returns, length-append d.links (n.link ∷ []));
  out = n.out ∙ d.out;
  count = omega (arith, d.count, length-append d.links (n.link ∷ []));
  shorts = short_more d.ends why short d.shorts;
  few = few_more (is_short why) short taken d.few;
  later = omega (arith, d.later, n.later);
}

ends_at_door : {L S : Type 0} (asks : S → S → Ask → Reply → Type 0) (peer : L → Peer) (most : ℕ) (old mid new : Entrance L) (a b c : S) (result : DoorEnd)
    → IsAtDoor asks peer old mid a b result.taken result.short → TakesNoLink mid new → c ≡ b → result.taken ≤ most
    → (result.taken < most → IfSome new.left (λ left. left ≡ []) ⊎ (result.fault ≡ true)) → (result.fault ≡ true → HasRisen old.faults new.faults) → ServesDoor asks peer most old new a c result
ends_at_door asks peer most old mid new a b c result d n same within fewer fault = record {
  links = d.links;
  back = d.back;
  ends = d.ends;
  served = subst (λ (x : _). ServesInTurn asks peer a d.links d.back d.ends x) (sym same) d.served;
  taken = d.left ∙ ap (option_map (λ left. d.links ++ left)) (sym n.left);
  returned = n.returned ∙ d.returned;
  returns = n.returns ∙ d.returns;
  out = n.out ∙ d.out;
  count = d.count;
  within = within;
  fewer = fewer;
  fault = fault;
  short = d.shorts;
  later = omega (arith, d.later, n.later);
}

-- none is left
pub ends_empty : {L S : Type 0} (asks : S → S → Ask → Reply → Type 0) (peer : L → Peer) (most : ℕ) (old mid new : Entrance L) (a b c : S) (result : DoorEnd)
    → IsAtDoor asks peer old mid a b result.taken result.short → result.fault ≡ false → result.taken ≤ most → c ≡ b → TakesNoLink mid new → IfSome new.left (λ left. left ≡ []) → ServesDoor asks peer most old new a c result
ends_empty asks peer most old mid new a b c result d fine within same none empty =
    ends_at_door asks peer most old mid new a b c result d none same within (λ below. inl empty) (λ is. absurd (false≢true (sym fine ∙ is)))

-- the door failed
pub ends_failed : {L S : Type 0} (asks : S → S → Ask → Reply → Type 0) (peer : L → Peer) (most : ℕ) (old mid new : Entrance L) (a b c : S) (result : DoorEnd)
    → IsAtDoor asks peer old mid a b result.taken result.short → result.fault ≡ true → result.taken ≤ most → c ≡ b → TakesNoLink mid new → HasRisen mid.faults new.faults → ServesDoor asks peer most old new a c result
ends_failed asks peer most old mid new a b c result d failed within same none risen =
    ends_at_door asks peer most old mid new a b c result d none same within (λ below. inr failed) (λ is below. omega (arith, d.later, risen below))

pub same_answerer : {D C : Type 0} (desk now : D) (clock later : C) → now ≡ desk → later ≡ clock
    → ◌≡◌ {A = Answerer D C} (record { desk = now; clock = later }) (record { desk = desk; clock = clock })
same_answerer desk now clock later same steady = rw (same, steady) refl
