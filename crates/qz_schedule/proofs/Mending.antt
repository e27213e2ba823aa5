-- The first part of a turn: its list is mended, or stays in doubt.
use mathlib.Core.List.{IsPrefix}
use Rattle.std.proofs.Common.{◌≡◌, ℕ, ◌<◌, true, false, List, [], ◌∷◌, ◌++◌, Option, Some, None, refl, sym, ◌∙◌, subst, arith}
use Rattle.std.specs.Prelude.{slice_set}
use Rattle.std.proofs.lemmas.List.{length-set}
use Rattle.qz_grading.specs.declared.refusal.Refusal.{Refusal}
use Rattle.qz_grading.specs.declared.refusal.Refusal.TheVariants as refusal
use Rattle.qz_keeper.specs.Lists.{EachMayStand}
use Rattle.qz_terms.specs.declared.ask.Ask.{Ask}
use Rattle.qz_terms.specs.declared.record.Record.{Record}
use Rattle.qz_terms.specs.declared.reply.Reply.{Reply}
use Rattle.qz_terms.specs.declared.reply.Reply.TheVariants as reply
use Rattle.qz_terms.specs.Laws.{is_from_outside}
use Rattle.qz_terms.specs.Legal.{AllAgree, IsLegal, IsLegalCatalog}
use Rattle.qz_terms.specs.SchoolAnswer.{part_at}
use Rattle.qz_terms.specs.Serial.{Held, Lists, held_in, with_list}
use Rattle.qz_schedule.specs.Worlds.{Adopts, Choice, Drops, Mending, MendingIsPossible, Stage, Stays, Visit, World, held_at, is_keep_or_memory, lists_in, mended_by, replied, second_part, seeing, turn_at, with_held}
use Rattle.qz_schedule.proofs.Keeping.{Good, Longer, Sees, good-part, good-records, good-replied, longer-part, no_list, sees-on}
use Rattle.qz_schedule.proofs.Lists.{begins-on, set-at, set-each, whole-begins}

-- ---- a list that is mended

abbrev pub held_so : List Record → Option Record → Held
held_so l o = record { list = l; doubt = o }

mended-begins : (l : List Record) (o : Option Record) (m : Mending) → IsPrefix l (mended_by m (held_so l o) o).list
mended-begins l None Adopts = whole-begins l
mended-begins l None m = whole-begins l
mended-begins l (Some x) Adopts = (x ∷ [], refl)
mended-begins l (Some x) Drops = whole-begins l
mended-begins l (Some x) (Stays r) = whole-begins l

mended-each : (P : List Record → Type 0) (l : List Record) (o : Option Record) (m : Mending) → EachMayStand P (held_so l o) → EachMayStand P (mended_by m (held_so l o) o)
mended-each P l None Adopts each = each
mended-each P l None m each = each
mended-each P l (Some x) Adopts each = record { without = each.with_doubt; with_doubt = tt }
mended-each P l (Some x) Drops each = record { without = each.without; with_doubt = tt }
mended-each P l (Some x) (Stays r) each = each

-- a mending by itself
pub good-mended : (n : ℕ) (w : World) (part : Option ℕ) (m : Mending) → Good n w → Good n (with_held w part (mended_by m (held_at w part) (held_at w part).doubt))
good-mended n w None m g =
    let h = w.records in
    good-records n w (mended_by m h h.doubt) g (mended-begins h.list h.doubt m) (mended-each IsLegalCatalog h.list h.doubt m g.lists.records)
good-mended n w (Some k) m g =
    let h = held_at w (Some k) in
    good-part n w k (mended_by m h h.doubt) g (mended-begins h.list h.doubt m) (mended-each (IsLegal k n) h.list h.doubt m (g.lists.legal k)) (mended-each (AllAgree w.records.list) h.list h.doubt m (g.lists.agree k))

-- ---- what a caller sees goes

pub sees-set : (n : ℕ) (a b : Lists) (v : Visit) (k : ℕ) (l : List Record) → Longer a b → Sees n a v → IsPrefix l (held_in b (Some k)).list → Sees n b (seeing v (Some k) l)
sees-set n a b v k l more s begins =
    let on = sees-on n a b v more s in
    record {
      begins = record {
        records = on.begins.records;
        each = λ j. set-each [] (λ i h. IsPrefix h (held_in b (Some i)).list) v.parts k j l begins (on.begins.each j);
      };
      counts = length-set v.parts k l ∙ s.counts;
    }

-- A caller at the catalogue, of which no record is in doubt.
pub record AtCatalog (n : ℕ) (w : World) (v : Visit) (l : List Record) : Type 0 where
  pub good : Good n w
  pub held : w.records ≡ with_list l
  pub saw : IsPrefix v.records l
  pub sees : Sees n (lists_in w) (seeing v None l)

-- A caller at a shard that is there, of which no record is in doubt.
pub record AtPart (n : ℕ) (w : World) (v : Visit) (k : ℕ) (l : List Record) : Type 0 where
  pub good : Good n w
  pub inside : k < n
  pub held : held_at w (Some k) ≡ with_list l
  pub saw : IsPrefix (part_at v.parts k) l
  pub sees : Sees n (lists_in w) (seeing v (Some k) l)
  pub own : part_at (slice_set v.parts k l) k ≡ l

at-catalog : (n : ℕ) (w : World) (v : Visit) (l : List Record) → Good n w → Sees n (lists_in w) v → IsPrefix w.records.list l → EachMayStand IsLegalCatalog (with_list l) → AtCatalog n (with_held w None (with_list l)) v l
at-catalog n w v l g s more legal = record {
  good = good-records n w (with_list l) g more legal;
  held = refl;
  saw = begins-on v.records w.records.list l s.begins.records more;
  sees = record { begins = record { records = whole-begins l; each = s.begins.each }; counts = s.counts };
}

at-part : (n : ℕ) (w : World) (v : Visit) (k : ℕ) (l : List Record) → Good n w → Sees n (lists_in w) v → k < n → IsPrefix (held_at w (Some k)).list l → EachMayStand (IsLegal k n) (with_list l) → EachMayStand (AllAgree w.records.list) (with_list l)
    → AtPart n (with_held w (Some k) (with_list l)) v k l
at-part n w v k l g s inside more legal agree =
    let counts = g.lists.counts in
    let seen = s.counts in
    let now : held_at (with_held w (Some k) (with_list l)) (Some k) ≡ with_list l = set-at no_list w.parts k (with_list l) (omega arith) in
    let whole : IsPrefix l (held_at (with_held w (Some k) (with_list l)) (Some k)).list = subst (λ (h : Held). IsPrefix l h.list) (sym now) (whole-begins l) in
    record {
      good = good-part n w k (with_list l) g more legal agree;
      inside = inside;
      held = now;
      saw = begins-on (part_at v.parts k) (held_at w (Some k)).list l (s.begins.each k) more;
      sees = sees-set n (lists_in w) (lists_in (with_held w (Some k) (with_list l))) v k l (longer-part (lists_in w) k (with_list l) more) s whole;
      own = set-at [] v.parts k l (omega arith);
    }

-- ---- a turn

-- refusals that tell of what is outside
outside-by : (r : Refusal) → is_keep_or_memory r ≡ true → is_from_outside r ≡ true
outside-by refusal.KeepFault is = refl
outside-by refusal.Memory is = refl
outside-by r is = absurd cc

outside-answers : (r : Refusal) (told : Reply) → is_from_outside r ≡ true → is_from_outside r ≡ false → reply.Refused r ≡ told
outside-answers r told one other = absurd (let both : true ≡ false = sym one ∙ other in cc)

-- an ask that ends with one
pub good-outside : (n : ℕ) (w : World) (k moment : ℕ) (ask : Ask) (v : Visit) (r : Refusal) → Good n w → Sees n (lists_in w) v → is_from_outside r ≡ true → Good n (replied w k moment ask v v (reply.Refused r))
good-outside n w k moment ask v r g s outside =
    good-replied n w k moment ask v v (reply.Refused r) g s (record { seen = record { records = s.begins.records; each = s.begins.each }; answer = λ own. outside-answers r _ outside own })

module _ (n : ℕ) (w : World) (k moment : ℕ) (ask : Ask) (v : Visit) (choice : Choice) (stage : Stage) (good : Good n w) (sees : Sees n (lists_in w) v) where
  catalog-turn : (l : List Record) (o : Option Record) (m : Mending) → w.records ≡ held_so l o → EachMayStand IsLegalCatalog (held_so l o) → MendingIsPossible m
      → ((u : World) (d : List Record) → AtCatalog n u v d → Good n (second_part u k moment ask (seeing v None d) None d n choice stage))
      → Good n (turn_at w k moment ask v n m choice None (held_so l o) stage)
  catalog-turn l None Adopts is each possible goes = goes (with_held w None (with_list l)) l (at-catalog n w v l good sees (subst (λ (h : Held). IsPrefix h.list l) (sym is) (whole-begins l)) each)
  catalog-turn l None m is each possible goes = goes (with_held w None (with_list l)) l (at-catalog n w v l good sees (subst (λ (h : Held). IsPrefix h.list l) (sym is) (whole-begins l)) each)
  catalog-turn l (Some x) Adopts is each possible goes =
      goes (with_held w None (with_list (l ++ x ∷ []))) (l ++ x ∷ []) (at-catalog n w v (l ++ x ∷ []) good sees (subst (λ (h : Held). IsPrefix h.list (l ++ x ∷ [])) (sym is) (x ∷ [], refl)) (record { without = each.with_doubt; with_doubt = tt }))
  catalog-turn l (Some x) Drops is each possible goes =
      goes (with_held w None (with_list l)) l (at-catalog n w v l good sees (subst (λ (h : Held). IsPrefix h.list l) (sym is) (whole-begins l)) (record { without = each.without; with_doubt = tt }))
  catalog-turn l (Some x) (Stays r) is each possible goes =
      let seen : Sees n (lists_in w) (seeing v None l) = record { begins = record { records = subst (λ (h : Held). IsPrefix l h.list) (sym is) (whole-begins l); each = sees.begins.each }; counts = sees.counts } in
      good-outside n w k moment ask (seeing v None l) r good seen (outside-by r possible)

  part-turn : (j : ℕ) (l : List Record) (o : Option Record) (m : Mending) → j < n → held_at w (Some j) ≡ held_so l o → EachMayStand (IsLegal j n) (held_so l o) → EachMayStand (AllAgree w.records.list) (held_so l o) → MendingIsPossible m
      → ((u : World) (d : List Record) → AtPart n u v j d → Good n (second_part u k moment ask (seeing v (Some j) d) (Some j) d n choice stage))
      → Good n (turn_at w k moment ask v n m choice (Some j) (held_so l o) stage)
  part-turn j l None Adopts inside is legal agree possible goes =
      goes (with_held w (Some j) (with_list l)) l (at-part n w v j l good sees inside (subst (λ (h : Held). IsPrefix h.list l) (sym is) (whole-begins l)) legal agree)
  part-turn j l None m inside is legal agree possible goes =
      goes (with_held w (Some j) (with_list l)) l (at-part n w v j l good sees inside (subst (λ (h : Held). IsPrefix h.list l) (sym is) (whole-begins l)) legal agree)
  part-turn j l (Some x) Adopts inside is legal agree possible goes =
      goes (with_held w (Some j) (with_list (l ++ x ∷ []))) (l ++ x ∷ [])
      (at-part n w v j (l ++ x ∷ []) good sees inside (subst (λ (h : Held). IsPrefix h.list (l ++ x ∷ [])) (sym is) (x ∷ [], refl)) (record { without = legal.with_doubt; with_doubt = tt }) (record { without = agree.with_doubt; with_doubt = tt }))
  part-turn j l (Some x) Drops inside is legal agree possible goes =
      goes (with_held w (Some j) (with_list l)) l
      (at-part n w v j l good sees inside (subst (λ (h : Held). IsPrefix h.list l) (sym is) (whole-begins l)) (record { without = legal.without; with_doubt = tt }) (record { without = agree.without; with_doubt = tt }))
  part-turn j l (Some x) (Stays r) inside is legal agree possible goes =
      let whole : IsPrefix l (held_at w (Some j)).list = subst (λ (h : Held). IsPrefix l h.list) (sym is) (whole-begins l) in
      let same : Longer (lists_in w) (lists_in w) = record { records = whole-begins w.records.list; each = λ i. whole-begins (held_at w (Some i)).list } in
      good-outside n w k moment ask (seeing v (Some j) l) r good (sees-set n (lists_in w) (lists_in w) v j l same sees whole) (outside-by r possible)

  -- a turn at the catalogue
  pub at-the-catalog : (m : Mending) → MendingIsPossible m
      → ((u : World) (d : List Record) → AtCatalog n u v d → Good n (second_part u k moment ask (seeing v None d) None d n choice stage))
      → Good n (turn_at w k moment ask v n m choice None (held_at w None) stage)
  at-the-catalog m possible goes = catalog-turn w.records.list w.records.doubt m refl good.lists.records possible goes

  -- a turn at a shard that is there
  pub at-the-part : (j : ℕ) (m : Mending) → j < n → MendingIsPossible m
      → ((u : World) (d : List Record) → AtPart n u v j d → Good n (second_part u k moment ask (seeing v (Some j) d) (Some j) d n choice stage))
      → Good n (turn_at w k moment ask v n m choice (Some j) (held_at w (Some j)) stage)
  at-the-part j m inside possible goes = part-turn j (held_at w (Some j)).list (held_at w (Some j)).doubt m inside refl (good.lists.legal j) (good.lists.agree j) possible goes
