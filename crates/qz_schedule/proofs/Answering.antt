-- The second part of a request's own turn: it is answered, its record is left in doubt, or memory is wanting.
use mathlib.Core.List.{IsPrefix}
use Rattle.std.proofs.Common.{◌≡◌, ℕ, List, [], ◌∷◌, ◌++◌, Option, Some, None, length, drop, refl, sym, subst, arith}
use Rattle.std.specs.Prelude.{slice_set}
use Rattle.qz_grading.specs.declared.refusal.Refusal.TheVariants as refusal
use Rattle.qz_keeper.specs.Lists.{EachMayStand}
use Rattle.qz_school.proofs.Calls.{stands_alone}
use Rattle.qz_terms.specs.declared.ask.Ask.{Ask}
use Rattle.qz_terms.specs.declared.record.Record.{Record}
use Rattle.qz_terms.specs.Legal.{AllAgree, IsLegal, IsLegalCatalog}
use Rattle.qz_terms.specs.Lists.{first_of}
use Rattle.qz_terms.specs.SchoolAnswer.{school_answer}
use Rattle.qz_terms.specs.Serial.{Held, with_list}
use Rattle.qz_schedule.specs.Worlds.{Answered, Answers, Choice, LacksMemory, LeavesInDoubt, Visit, World, held_at, lists_in, request_doubted, request_made, request_turn, seeing, with_held}
use Rattle.qz_schedule.proofs.Keeping.{Good, begin-on, good-part, good-records, good-replied, longer-part, longer-records, no_list, sees-on}
use Rattle.qz_schedule.proofs.Lists.{begins-adding, set-at, whole-begins}
use Rattle.qz_schedule.proofs.Mending.{AtCatalog, AtPart, good-outside, held_so, sees-set}
use Rattle.qz_schedule.proofs.Recording.{AddsTo, added-is}

in-doubt : (P : List Record → Type 0) (l : List Record) (x : Record) → P l → P (l ++ x ∷ []) → EachMayStand P (held_so l (Some x))
in-doubt P l x is also = record { without = is; with_doubt = also }

-- ---- at a shard

-- what is left of its list
pub record IsLeftAt (n : ℕ) (w : World) (j : ℕ) (l : List Record) (a : Answered) : Type 0 where
  pub adds : AddsTo l a.list
  pub legal : IsLegal j n a.list
  pub agree : AllAgree w.records.list a.list

module _ (n : ℕ) (w : World) (k moment : ℕ) (ask : Ask) (v : Visit) (j : ℕ) (l : List Record) (a : Answered) (p : AtPart n w v j l) (left : IsLeftAt n w j l a) where
  grows : (g : List Record) → IsPrefix l g → IsPrefix (held_at w (Some j)).list g
  grows g more = subst (λ (h : Held). IsPrefix h.list g) (sym p.held) more

  part-made : a.reply ≡ school_answer v.records (slice_set v.parts j l) moment ask → Good n (request_made w k moment ask (seeing v (Some j) l) (Some j) l a)
  part-made right =
      let u : Visit = seeing v (Some j) l in
      let more = grows a.list (begins-adding l a.list left.adds.put left.adds.is) in
      let after : World = with_held w (Some j) (with_list a.list) in
      let longer = longer-part (lists_in w) j (with_list a.list) more in
      let counts = p.good.lists.counts in
      let inside = p.inside in
      let now : held_at after (Some j) ≡ with_list a.list = set-at no_list w.parts j (with_list a.list) (omega arith) in
      let whole : IsPrefix a.list (held_at after (Some j)).list = subst (λ (h : Held). IsPrefix a.list h.list) (sym now) (whole-begins a.list) in
      good-replied n after k moment ask u (seeing u (Some j) a.list) a.reply
      (good-part n w j (with_list a.list) p.good more (stands_alone (IsLegal j n) (with_list a.list) refl left.legal) (stands_alone (AllAgree w.records.list) (with_list a.list) refl left.agree))
      (sees-set n (lists_in w) (lists_in after) u j a.list longer p.sees whole)
      (record { seen = begin-on (lists_in w) (lists_in after) u.records u.parts longer p.sees.begins; answer = λ own. right })

  part-doubted : (o : Option Record) → first_of (drop (length l) a.list) ≡ o → a.reply ≡ school_answer v.records (slice_set v.parts j l) moment ask → Good n (request_doubted w k moment ask (seeing v (Some j) l) (Some j) l a o)
  part-doubted None none right = part-made right
  part-doubted (Some x) found right =
      let u : Visit = seeing v (Some j) l in
      let more = grows l (whole-begins l) in
      let after : World = with_held w (Some j) (held_so l (Some x)) in
      let longer = longer-part (lists_in w) j (held_so l (Some x)) more in
      let put = added-is l a.list x left.adds found in
      let legal : IsLegal j n l = (subst (EachMayStand (IsLegal j n)) p.held (p.good.lists.legal j)).without in
      let agree : AllAgree w.records.list l = (subst (EachMayStand (AllAgree w.records.list)) p.held (p.good.lists.agree j)).without in
      good-outside n after k moment ask u refusal.KeepFault
      (good-part n w j (held_so l (Some x)) p.good more (in-doubt (IsLegal j n) l x legal (subst (IsLegal j n) put left.legal)) (in-doubt (AllAgree w.records.list) l x agree (subst (AllAgree w.records.list) put left.agree)))
      (sees-on n (lists_in w) (lists_in after) u longer p.sees) refl

  pub part-request : (choice : Choice) → a.reply ≡ school_answer v.records (slice_set v.parts j l) moment ask → Good n (request_turn w k moment ask (seeing v (Some j) l) (Some j) l choice a)
  part-request Answers right = part-made right
  part-request LeavesInDoubt right = part-doubted (first_of (drop (length l) a.list)) refl right
  part-request LacksMemory right = good-outside n w k moment ask (seeing v (Some j) l) refusal.Memory p.good p.sees refl

-- ---- at the catalogue

module _ (n : ℕ) (w : World) (k moment : ℕ) (ask : Ask) (v : Visit) (l : List Record) (a : Answered) (c : AtCatalog n w v l) (adds : AddsTo l a.list) (legal : IsLegalCatalog a.list) where
  grown : (g : List Record) → IsPrefix l g → IsPrefix w.records.list g
  grown g more = subst (λ (h : Held). IsPrefix h.list g) (sym c.held) more

  catalog-made : a.reply ≡ school_answer l v.parts moment ask → Good n (request_made w k moment ask (seeing v None l) None l a)
  catalog-made right =
      let u : Visit = seeing v None l in
      let more = grown a.list (begins-adding l a.list adds.put adds.is) in
      let after : World = with_held w None (with_list a.list) in
      let longer = longer-records (lists_in w) (with_list a.list) more in
      let on = sees-on n (lists_in w) (lists_in after) u longer c.sees in
      good-replied n after k moment ask u (seeing u None a.list) a.reply
      (good-records n w (with_list a.list) c.good more (stands_alone IsLegalCatalog (with_list a.list) refl legal))
      (record { begins = record { records = whole-begins a.list; each = on.begins.each }; counts = on.counts })
      (record { seen = begin-on (lists_in w) (lists_in after) u.records u.parts longer c.sees.begins; answer = λ own. right })

  catalog-doubted : (o : Option Record) → first_of (drop (length l) a.list) ≡ o → a.reply ≡ school_answer l v.parts moment ask → Good n (request_doubted w k moment ask (seeing v None l) None l a o)
  catalog-doubted None none right = catalog-made right
  catalog-doubted (Some x) found right =
      let u : Visit = seeing v None l in
      let more = grown l (whole-begins l) in
      let after : World = with_held w None (held_so l (Some x)) in
      let longer = longer-records (lists_in w) (held_so l (Some x)) more in
      let put = added-is l a.list x adds found in
      let before : IsLegalCatalog l = (subst (EachMayStand IsLegalCatalog) c.held c.good.lists.records).without in
      good-outside n after k moment ask u refusal.KeepFault
      (good-records n w (held_so l (Some x)) c.good more (in-doubt IsLegalCatalog l x before (subst IsLegalCatalog put legal)))
      (sees-on n (lists_in w) (lists_in after) u longer c.sees) refl

  pub catalog-request : (choice : Choice) → a.reply ≡ school_answer l v.parts moment ask → Good n (request_turn w k moment ask (seeing v None l) None l choice a)
  catalog-request Answers right = catalog-made right
  catalog-request LeavesInDoubt right = catalog-doubted (first_of (drop (length l) a.list)) refl right
  catalog-request LacksMemory right = good-outside n w k moment ask (seeing v None l) refusal.Memory c.good c.sees refl
