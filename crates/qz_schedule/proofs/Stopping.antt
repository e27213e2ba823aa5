-- A stop, after which each list stands with one record more at most.
use mathlib.Core.List.{IsPrefix}
use Rattle.std.proofs.Common.{◌≡◌, ◌⊎◌, inl, inr, ℕ, zero, suc, List, [], ◌∷◌, ◌++◌, Option, Some, None, IfSome, length, refl, sym, ap, ◌∙◌, subst, append-nil}
use Rattle.std.specs.Prelude.{slice_get, unwrap_or}
use Rattle.qz_keeper.specs.Lists.{EachMayStand}
use Rattle.qz_school.proofs.Agreeing.{all-empty}
use Rattle.qz_terms.specs.declared.record.Record.{Record}
use Rattle.qz_terms.specs.Legal.{AllAgree, IsLegal, IsLegalCatalog}
use Rattle.qz_terms.specs.SchoolAnswer.{part_at}
use Rattle.qz_terms.specs.Serial.{Held, Lists, held_in}
use Rattle.qz_schedule.specs.EverySchedule.{IsSound}
use Rattle.qz_schedule.specs.Worlds.{Answers, CouldPut, Drops, KeepIsPossible, StopIsPossible, Turns, World, after, fresh_visit, held_at, kept_parts, kept_with, lists_in, stopped}
use Rattle.qz_schedule.proofs.Keeping.{Good, IsVisiting, Longer, agree-on, answer-on, founded-on, no_list}
use Rattle.qz_schedule.proofs.Lists.{at, begins-adding, mapped-get, no-longer, none-begins, replicate-at, replicate-length}
use Rattle.qz_schedule.proofs.Single.{OneList, one-turn}
use Rattle.qz_schedule.proofs.Turning.{good-turn}

-- ---- a record that a turn could put now

turned : (n : ℕ) (w : World) (part : Option ℕ) (r : Record) → Good n w → (c : CouldPut w part r) → Good n (after w (Turns c.caller c.moment c.next Drops Answers))
turned n w part r g c = good-turn n w c.caller c.moment c.next Drops Answers g (record { formed = c.formed; mends = tt })

put-agrees : (n : ℕ) (w u : World) (k : ℕ) (r : Record) → Good n u → OneList w u → (held_at u (Some k)).list ≡ (held_at w (Some k)).list ++ r ∷ [] → AllAgree w.records.list ((held_at w (Some k)).list ++ r ∷ [])
put-agrees n w u k r g (inl same) puts = subst (λ (h : Held). AllAgree h.list ((held_at w (Some k)).list ++ r ∷ [])) same (subst (AllAgree u.records.list) puts (g.lists.agree k).without)
put-agrees n w u k r g (inr same) puts =
    absurd (no-longer (held_at w (Some k)).list r (sym (ap (λ (hs : List Held). (at no_list hs k).list) same) ∙ puts))

-- ---- what is kept of each list

kept-by : (P : List Record → Type 0) (held : Held) (o : Option Record) → P held.list → ((r : Record) → o ≡ Some r → P (held.list ++ r ∷ [])) → EachMayStand P (kept_with held o)
kept-by P held None is more = record { without = subst P (sym (append-nil held.list)) is; with_doubt = tt }
kept-by P held (Some r) is more = record { without = more r refl; with_doubt = tt }

doubt-is : (P : List Record → Type 0) (held : Held) (r : Record) → EachMayStand P held → held.doubt ≡ Some r → P (held.list ++ r ∷ [])
doubt-is P held r each is = let more : IfSome (Some r) (λ (s : Record). P (held.list ++ s ∷ [])) = subst (λ (o : Option Record). IfSome o (λ (s : Record). P (held.list ++ s ∷ []))) is each.with_doubt in more

catalog-may : (n : ℕ) (w : World) (o : Option Record) (r : Record) → Good n w → KeepIsPossible w None o → o ≡ Some r → IsLegalCatalog (w.records.list ++ r ∷ [])
catalog-may n w None r g may is = absurd cc
catalog-may n w (Some s) r g (inl doubt) is = doubt-is IsLegalCatalog w.records r g.lists.records (doubt ∙ is)
catalog-may n w (Some s) r g (inr c) is =
    let same : s ≡ r = cc in
    subst (λ (t : Record). IsLegalCatalog (w.records.list ++ t ∷ [])) same (subst IsLegalCatalog c.puts (turned n w None s g c).lists.records.without)

legal-may : (n : ℕ) (w : World) (k : ℕ) (o : Option Record) (r : Record) → Good n w → KeepIsPossible w (Some k) o → o ≡ Some r → IsLegal k n ((held_at w (Some k)).list ++ r ∷ [])
legal-may n w k None r g may is = absurd cc
legal-may n w k (Some s) r g (inl doubt) is = doubt-is (IsLegal k n) (held_at w (Some k)) r (g.lists.legal k) (doubt ∙ is)
legal-may n w k (Some s) r g (inr c) is =
    let same : s ≡ r = cc in
    subst (λ (t : Record). IsLegal k n ((held_at w (Some k)).list ++ t ∷ [])) same (subst (IsLegal k n) c.puts ((turned n w (Some k) s g c).lists.legal k).without)

agree-may : (n : ℕ) (w : World) (k : ℕ) (o : Option Record) (r : Record) → Good n w → KeepIsPossible w (Some k) o → o ≡ Some r → AllAgree w.records.list ((held_at w (Some k)).list ++ r ∷ [])
agree-may n w k None r g may is = absurd cc
agree-may n w k (Some s) r g (inl doubt) is = doubt-is (AllAgree w.records.list) (held_at w (Some k)) r (g.lists.agree k) (doubt ∙ is)
agree-may n w k (Some s) r g (inr c) is =
    let same : s ≡ r = cc in
    let u = after w (Turns c.caller c.moment c.next Drops Answers) in
    subst (λ (t : Record). AllAgree w.records.list ((held_at w (Some k)).list ++ t ∷ [])) same
    (put-agrees n w u k s (turned n w (Some k) s g c) (one-turn w c.caller c.moment c.next (slice_get w.visits c.caller)) c.puts)

-- ---- each shard

kept-length : (hs : List Held) (os : List (Option Record)) → length (kept_parts hs os) ≡ length hs
kept-length [] os = refl
kept-length (h ∷ hs) [] = ap suc (kept-length hs [])
kept-length (h ∷ hs) (o ∷ os) = ap suc (kept-length hs os)

abbrev kept_at : List Held → List (Option Record) → ℕ → Held
kept_at hs os k = kept_with (at no_list hs k) (unwrap_or (slice_get os k) None)

kept-is : (hs : List Held) (os : List (Option Record)) (k : ℕ) → (at no_list (kept_parts hs os) k ≡ kept_at hs os k) ⊎ ((at no_list (kept_parts hs os) k ≡ no_list) × (at no_list hs k ≡ no_list))
kept-is [] os k = inr (refl, refl)
kept-is (h ∷ hs) [] zero = inl refl
kept-is (h ∷ hs) [] (suc k) = kept-is hs [] k
kept-is (h ∷ hs) (o ∷ os) zero = inl refl
kept-is (h ∷ hs) (o ∷ os) (suc k) = kept-is hs os k

none-stands : {A : Type 0} (l : List A) (x : A) (rest : List A) → [] ≡ l ++ x ∷ rest → ⊥
none-stands [] x rest e = absurd cc
none-stands (y ∷ l) x rest e = absurd cc

pub empty-legal : (k n : ℕ) → IsLegal k n []
empty-legal k n = record { each = λ l r rest e. absurd (none-stands l r rest e) }

module _ (n : ℕ) (w : World) (kept : Option Record) (parts : List (Option Record)) (g : Good n w) (possible : StopIsPossible w kept parts) where
  longer_catalog : IsPrefix w.records.list (kept_with w.records kept).list
  longer_catalog = begins-adding w.records.list (kept_with w.records kept).list kept refl

  stopped_legal : (k : ℕ) → EachMayStand (IsLegal k n) (at no_list (kept_parts w.parts parts) k)
  stopped_legal k = elim (kept-is w.parts parts k) [
    | inl is ↦ subst (EachMayStand (IsLegal k n)) (sym is) (kept-by (IsLegal k n) (held_at w (Some k)) (unwrap_or (slice_get parts k) None) (g.lists.legal k).without (λ r put. legal-may n w k (unwrap_or (slice_get parts k) None) r g (possible.each k) put))
    | inr none ↦ subst (EachMayStand (IsLegal k n)) (sym none.0) (record { without = empty-legal k n; with_doubt = tt })
  ]

  stopped_agree : (k : ℕ) → EachMayStand (AllAgree (kept_with w.records kept).list) (at no_list (kept_parts w.parts parts) k)
  stopped_agree k = elim (kept-is w.parts parts k) [
    | inl is ↦ subst (EachMayStand (AllAgree (kept_with w.records kept).list)) (sym is)
        (kept-by (AllAgree (kept_with w.records kept).list) (held_at w (Some k)) (unwrap_or (slice_get parts k) None)
        (agree-on w.records.list (kept_with w.records kept).list (held_at w (Some k)).list longer_catalog (g.lists.agree k).without)
        (λ r put. agree-on w.records.list (kept_with w.records kept).list ((held_at w (Some k)).list ++ r ∷ []) longer_catalog (agree-may n w k (unwrap_or (slice_get parts k) None) r g (possible.each k) put)))
    | inr none ↦ subst (EachMayStand (AllAgree (kept_with w.records kept).list)) (sym none.0) (record { without = all-empty (kept_with w.records kept).list; with_doubt = tt })
  ]

  stopped_longer : Longer (lists_in w) (lists_in (stopped w kept parts))
  stopped_longer = record {
    records = longer_catalog;
    each = λ k. elim (kept-is w.parts parts k) [
      | inl is ↦ subst (λ (h : Held). IsPrefix (held_at w (Some k)).list h.list) (sym is) (begins-adding (held_at w (Some k)).list _ (unwrap_or (slice_get parts k) None) refl)
      | inr none ↦ subst (λ (h : Held). IsPrefix h.list (at no_list (kept_parts w.parts parts) k).list) (sym none.1) (none-begins (at no_list (kept_parts w.parts parts) k).list)
    ];
  }

  stopped_sound : IsSound n (lists_in (stopped w kept parts))
  stopped_sound = record {
    counts = kept-length w.parts parts ∙ g.lists.counts;
    founded = founded-on w.records.list (kept_with w.records kept).list n longer_catalog g.lists.founded;
    records = kept-by IsLegalCatalog w.records kept g.lists.records.without (λ r put. catalog-may n w kept r g possible.records put);
    legal = stopped_legal;
    agree = stopped_agree;
  }

-- ---- who has seen nothing

fresh-begins : (n : ℕ) (k : ℕ) (l : List Record) → IsPrefix (part_at (fresh_visit n).parts k) l
fresh-begins n k l = subst (λ (h : List Record). IsPrefix h l) (sym (replicate-at n [] k)) (none-begins l)

pub fresh-visiting : (n : ℕ) (a : Lists) → IsVisiting n a (fresh_visit n)
fresh-visiting n a = record {
  sees = record { begins = record { records = none-begins a.records.list; each = λ k. fresh-begins n k (held_in a (Some k)).list }; counts = replicate-length n [] };
  stands = record { user = refl; made = refl; rows = refl };
}

pub good-stopped : (n : ℕ) (w : World) (kept : Option Record) (parts : List (Option Record)) → Good n w → StopIsPossible w kept parts → Good n (stopped w kept parts)
good-stopped n w kept parts g possible = record {
  lists = stopped_sound n w kept parts g possible;
  visits = λ k v is. subst (IsVisiting n (lists_in (stopped w kept parts))) (ap fresh_visit (sym g.lists.counts) ∙ mapped-get (fresh_visit (length w.parts)) w.visits v k is) (fresh-visiting n (lists_in (stopped w kept parts)));
  told = λ i t is. answer-on (lists_in w) (lists_in (stopped w kept parts)) t (stopped_longer n w kept parts g possible) (g.told i t is);
}
