-- Lists that agree with one catalogue have the same question for each version that they bind.
use Rattle.std.proofs.Common.{◌≡◌, ℕ, eqb, ◌&&◌, Bool, true, false, List, [], ◌∷◌, ◌++◌, Option, Some, None, drop, refl, ap, ◌∙◌, sym, subst, take, append_assoc}
use Rattle.std.specs.Prelude.{◌==◌, filter_map}
use Rattle.std.specs.List.{cons_option}
use Rattle.std.proofs.lemmas.Bool.{eqb-true}
use Rattle.std.proofs.lemmas.List.{take-append-drop}
use Rattle.std.proofs.lemmas.List.Elements.{filter_map-append}
use Rattle.qz_grading.specs.declared.question.Question.{Question}
use Rattle.qz_grading.specs.declared.refusal.AttemptId.{AttemptId}
use Rattle.qz_terms.specs.declared.plan.Bound.{Bound}
use Rattle.qz_terms.specs.declared.record.Event.{Event}
use Rattle.qz_terms.specs.declared.record.Event.TheVariants as event
use Rattle.qz_terms.specs.declared.record.Learned.{Learned}
use Rattle.qz_terms.specs.declared.record.Record.{Record}
use Rattle.qz_terms.specs.Catalog as catalog
use Rattle.qz_terms.specs.History as history
use Rattle.qz_terms.specs.Laws.{own_records}
use Rattle.qz_terms.specs.Legal.{AllAgree, EventAgrees, IsLegal, LearnsFrom}
use Rattle.qz_terms.specs.Lists.{first_of}
use Rattle.qz_terms.proofs.Walks.{IsToldIn, first_told_in, last_told_in}
use Rattle.qz_isolation.proofs.Own.{and-left, and-right}
use Rattle.qz_isolation.proofs.Alike.{binds-own, known-in, owners}
use Rattle.qz_school.specs.Alike.{AlikeInASchool}
use Rattle.qz_serial.proofs.Longer.{version-stays}

-- ---- what was learned is the catalogue's

-- so many records of the catalogue, and those behind them
pub front-stays : (c : List Record) (n e v : ℕ) (q : Question) → catalog.version (take n c) e v ≡ Some q → catalog.version c e v ≡ Some q
front-stays c n e v q is = ap (λ (d : List Record). catalog.version d e v) (sym (take-append-drop n c)) ∙ version-stays (take n c) (drop n c) e v q is

learned-step : (c : List Record) (e v : ℕ) (q : Question) (l : Learned) (ls : List Learned) (b : Bool) → ((l.entry == e) && (l.version == v)) ≡ b → catalog.version c l.entry l.version ≡ Some l.question
    → first_of (filter_map (history.learned_version e v) (l ∷ ls)) ≡ Some q → (first_of (filter_map (history.learned_version e v) ls) ≡ Some q → catalog.version c e v ≡ Some q) → catalog.version c e v ≡ Some q
learned-step c e v q l ls true is here found later =
    let entry : l.entry ≡ e = eqb-true l.entry e (and-left (eqb l.entry e) (eqb l.version v) is) in
    let number : l.version ≡ v = eqb-true l.version v (and-right (eqb l.entry e) (eqb l.version v) is) in
    let first : Some l.question ≡ Some q = rw is at found in
    ap (λ n. catalog.version c n v) (sym entry) ∙ ap (catalog.version c l.entry) (sym number) ∙ here ∙ first
learned-step c e v q l ls false is here found later = later (rw is at found)

learned-agrees : (c : List Record) (e v : ℕ) (q : Question) (ls : List Learned) → LearnsFrom c ls → first_of (filter_map (history.learned_version e v) ls) ≡ Some q → catalog.version c e v ≡ Some q
learned-agrees c e v q [] from found = absurd cc
learned-agrees c e v q (l ∷ ls) from found =
    let here : catalog.version c l.entry l.version ≡ Some l.question = cc in
    let rest : LearnsFrom c ls = cc in
    learned-step c e v q l ls ((l.entry == e) && (l.version == v)) refl here found (learned-agrees c e v q ls rest)

event-agrees : (c l : List Record) (r : Record) (d : Event) (e v : ℕ) (q : Question) → EventAgrees c l r d → first_of (filter_map (history.learned_version e v) (history.learned_by d)) ≡ Some q → catalog.version c e v ≡ Some q
event-agrees c l r (event.Started quiz nth behaviour bounds learned) e v q agrees found = front-stays c agrees.its_terms.terms.at e v q (learned-agrees (take agrees.its_terms.terms.at c) e v q learned agrees.learns found)
event-agrees c l r (event.Rebound job a k bound learned) e v q agrees found = front-stays c bound.at e v q (learned-agrees (take bound.at c) e v q learned agrees.learns found)
event-agrees c l r d e v q agrees found = absurd cc

pub version-agrees : (c h : List Record) (e v : ℕ) (q : Question) → AllAgree c h → history.version h e v ≡ Some q → catalog.version c e v ≡ Some q
version-agrees c h e v q agree found =
    let t = first_told_in (history.learns e v) h q found in
    event-agrees c t.front t.item t.item.event e v q (agree.each t.front t.item t.rest t.stands).event t.tells

-- ---- what one list tells, another tells too

told-behind : {A B : Type 0} (f : A → Option B) (x : A) (xs : List A) (y : B) → IsToldIn f xs y → IsToldIn f (x ∷ xs) y
told-behind f x xs y t = record { front = x ∷ t.front; item = t.item; rest = t.rest; stands = ap (λ (l : List _). x ∷ l) t.stands; tells = t.tells }

told-step : {A B : Type 0} (f : A → Option B) (x : A) (xs : List A) (front rest : List B) (y : B) (o : Option B) → f x ≡ o → filter_map f (x ∷ xs) ≡ front ++ y ∷ rest → ((before : List B) → filter_map f xs ≡ before ++ y ∷ rest → IsToldIn f xs y) → IsToldIn f (x ∷ xs) y
told-step f x xs front rest y None is told later = told-behind f x xs y (later front (rw is at told))
told-step f x xs [] rest y (Some z) is told later =
    let list : z ∷ filter_map f xs ≡ y ∷ rest = rw is at told in
    let same : z ≡ y = cc in
    record { front = []; item = x; rest = xs; stands = refl; tells = is ∙ ap (λ (w : _). Some w) same }
told-step f x xs (w ∷ front) rest y (Some z) is told later =
    let list : z ∷ filter_map f xs ≡ w ∷ front ++ y ∷ rest = rw is at told in
    told-behind f x xs y (later front (let tail : filter_map f xs ≡ front ++ y ∷ rest = cc in tail))

none-told : {B : Type 0} (front rest : List B) (y : B) → [] ≡ front ++ y ∷ rest → ⊥
none-told [] rest y is = absurd cc
none-told (x ∷ front) rest y is = absurd cc

told-among : {A B : Type 0} (f : A → Option B) (xs : List A) (front rest : List B) (y : B) → filter_map f xs ≡ front ++ y ∷ rest → IsToldIn f xs y
told-among f [] front rest y told = absurd (none-told front rest y told)
told-among f (x ∷ xs) front rest y told = told-step f x xs front rest y (f x) refl told (λ before e. told-among f xs before rest y e)

told-there : {A B : Type 0} (f : A → Option B) (xs ys : List A) (y : B) → filter_map f xs ≡ filter_map f ys → IsToldIn f xs y → IsToldIn f ys y
told-there f xs ys y same t =
    let one : filter_map f (t.item ∷ t.rest) ≡ y ∷ filter_map f t.rest = ap (λ (o : Option _). cons_option o (filter_map f t.rest)) t.tells in
    told-among f ys (filter_map f t.front) (filter_map f t.rest) y (sym same ∙ ap (filter_map f) t.stands ∙ filter_map-append f t.front (t.item ∷ t.rest) ∙ ap (λ (l : List _). filter_map f t.front ++ l) one)

-- in a longer list
told-longer : {A B : Type 0} (f : A → Option B) (xs more ys : List A) (y : B) → ys ≡ xs ++ more → IsToldIn f xs y → IsToldIn f ys y
told-longer f xs more ys y is t = record { front = t.front; item = t.item; rest = t.rest ++ more; stands = is ∙ ap (λ (l : List _). l ++ more) t.stands ∙ append_assoc t.front (t.item ∷ t.rest) more; tells = t.tells }

-- ---- alike

bound-alike : (c : List Record) (index count : ℕ) (a : AttemptId) (k : ℕ) (b : Bound) (h g : List Record) → IsLegal index count h → IsLegal index count g → AllAgree c h → AllAgree c g → own_records a.user h ≡ own_records a.user g → IsToldIn (history.binds a k) h b
    → history.version h b.entry b.version ≡ history.version g b.entry b.version
bound-alike c index count a k b h g legal other_legal agree other_agree own t =
    let same : filter_map (history.binds a k) h ≡ filter_map (history.binds a k) g =
    binds-own index count a k h (owners index count h legal) ∙ ap (filter_map (history.binds a k)) own ∙ sym (binds-own index count a k g (owners index count g other_legal)) in
    let here = known-in index count h a k b legal t in
    let there = known-in index count g a k b other_legal (told-there (history.binds a k) h g b same t) in
    here.1 ∙ sym (version-agrees c h b.entry b.version here.0 agree here.1) ∙ version-agrees c g b.entry b.version there.0 other_agree there.1 ∙ sym there.1

pub alone_law : AlikeInASchool
alone_law = record {
  alike = λ c index count u h g legal other_legal agree other_agree asked other_asked own. record {
    legal = legal;
    other_legal = other_legal;
    asked = asked;
    other_asked = other_asked;
    own = own;
    versions = λ l rest a k b is mine bound.
        let P : ℕ → Type 0 = λ n. own_records n h ≡ own_records n g in
        bound-alike c index count a k b h g legal other_legal agree other_agree (subst P (sym mine) own) (told-longer (history.binds a k) l rest h b is (last_told_in (history.binds a k) l b bound));
  };
}
