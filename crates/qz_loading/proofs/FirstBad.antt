-- The first record of a list that doesn't agree with a catalogue is one.
use Rattle.std.proofs.Common.{◌≡◌, ℕ, ◌+◌, ◌<◌, ⊎_elim, List, [], ◌∷◌, ◌++◌, length, None, Some, ap, sym, refl, ◌∙◌, arith}
use Rattle.std.proofs.lemmas.Bool.{cases_lt}
use Rattle.qz_loading.proofs.Within.{names-none-past}
use Rattle.qz_terms.specs.declared.record.Record.{Record}
use Rattle.qz_terms.specs.Legal.{Agrees, AllAgree, IsAltered, IsBehind, IsLegal, past_end}

-- ---- two cuts of one list

-- an item stands in a list, behind these
record StandsBehind {X : Type 0} (list front : List X) (x : X) : Type 0 where
  rest : List X
  is : list ≡ front ++ x ∷ rest

cells : {X : Type 0} (x y : X) (xs ys : List X) → x ≡ y → xs ≡ ys → x ∷ xs ≡ y ∷ ys
cells x y xs ys one other = cc

head-same : {X : Type 0} (x y : X) (xs ys : List X) → x ∷ xs ≡ y ∷ ys → x ≡ y
head-same x y xs ys e = cc

tail-same : {X : Type 0} (x y : X) (xs ys : List X) → x ∷ xs ≡ y ∷ ys → xs ≡ ys
tail-same x y xs ys e = cc

in-front : {X : Type 0} (a b : List X) (x y : X) (r s : List X) → a ++ x ∷ r ≡ b ++ y ∷ s → length a < length b → StandsBehind b a x
in-front [] [] x y r s e less = absurd (omega arith)
in-front [] (z ∷ b) x y r s e less = record { rest = b; is = cells z x b b (sym (head-same x z r (b ++ y ∷ s) e)) refl }
in-front (w ∷ a) [] x y r s e less = absurd (omega arith)
in-front (w ∷ a) (z ∷ b) x y r s e less =
    let t = in-front a b x y r s (tail-same w z (a ++ x ∷ r) (b ++ y ∷ s) e) (omega (arith, less)) in
    record { rest = t.rest; is = cells z w b (a ++ x ∷ t.rest) (sym (head-same w z (a ++ x ∷ r) (b ++ y ∷ s) e)) t.is }

same-front : {X : Type 0} (a b : List X) (x y : X) (r s : List X) → a ++ x ∷ r ≡ b ++ y ∷ s → length a ≡ length b → (a ≡ b) × (x ≡ y)
same-front [] [] x y r s e n = (refl, head-same x y r s e)
same-front [] (z ∷ b) x y r s e n = absurd (omega (arith, n))
same-front (w ∷ a) [] x y r s e n = absurd (omega (arith, n))
same-front (w ∷ a) (z ∷ b) x y r s e n =
    let t = same-front a b x y r s (tail-same w z (a ++ x ∷ r) (b ++ y ∷ s) e) (omega (arith, n)) in
    (cells w z a b (head-same w z (a ++ x ∷ r) (b ++ y ∷ s) e) t.0, t.1)

-- ---- the first that disagrees

pub record IsFirstBad (c h before : List Record) (own : Record) : Type 0 where
  pub rest : List Record
  pub list : h ≡ before ++ own ∷ rest
  pub agree : AllAgree c before
  pub bad : Agrees c before own → ⊥

pub behind-bad : (c h : List Record) (k count position : ℕ) → IsLegal k count h → (b : IsBehind c h position) → IsFirstBad c h b.before b.own
behind-bad c h k count position legal b = record {
  rest = b.rest;
  list = b.list;
  agree = b.agree;
  bad = λ agrees. (let none : None ≡ Some position = sym (names-none-past c b.before b.own k count agrees (legal.each b.before b.own b.rest b.list)) ∙ b.past in absurd cc);
}

pub altered-bad : (c h : List Record) (nth : ℕ) → (a : IsAltered c h nth) → IsFirstBad c h a.before a.own
altered-bad c h nth a = record { rest = a.rest; list = a.list; agree = a.agree; bad = a.disagrees }

-- a list that agrees has none
pub none-bad : (c h before : List Record) (own : Record) → AllAgree c h → IsFirstBad c h before own → ⊥
none-bad c h before own agree f = f.bad (agree.each before own f.rest f.list)

not-earlier : (c h a b : List Record) (x y : Record) → IsFirstBad c h a x → IsFirstBad c h b y → length a < length b → ⊥
not-earlier c h a b x y one other less = let t = in-front a b x y one.rest other.rest (sym one.list ∙ other.list) less in one.bad (other.agree.each a x t.rest t.is)

bad-same : (c h a b : List Record) (x y : Record) → IsFirstBad c h a x → IsFirstBad c h b y → (a ≡ b) × (x ≡ y)
bad-same c h a b x y one other =
    ⊎_elim
    (λ less. absurd (not-earlier c h a b x y one other less))
    (λ from. ⊎_elim (λ more. absurd (not-earlier c h b a y x other one more)) (λ to. same-front a b x y one.rest other.rest (sym one.list ∙ other.list) (omega (arith, from, to))) (cases_lt (length b) (length a)))
    (cases_lt (length a) (length b))

pub one-position : (c h : List Record) (k count p q : ℕ) → IsLegal k count h → IsBehind c h p → IsBehind c h q → p ≡ q
one-position c h k count p q legal a b =
    let s = bad-same c h a.before b.before a.own b.own (behind-bad c h k count p legal a) (behind-bad c h k count q legal b) in
    let two : Some p ≡ Some q = sym a.past ∙ ap (past_end c) s.1 ∙ b.past in
    cc

pub behind-or-altered : (c h : List Record) (k count p nth : ℕ) → IsLegal k count h → IsBehind c h p → IsAltered c h nth → ⊥
behind-or-altered c h k count p nth legal a b =
    let s = bad-same c h a.before b.before a.own b.own (behind-bad c h k count p legal a) (altered-bad c h nth b) in
    let two : Some p ≡ None = sym a.past ∙ ap (past_end c) s.1 ∙ b.within in
    absurd cc

pub one-nth : (c h : List Record) (n m : ℕ) → IsAltered c h n → IsAltered c h m → n ≡ m
one-nth c h n m a b =
    let s = bad-same c h a.before b.before a.own b.own (altered-bad c h n a) (altered-bad c h m b) in
    a.at ∙ ap (λ (l : List Record). length l + 1) s.0 ∙ sym b.at
