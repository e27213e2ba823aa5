-- A turn: it comes, an errand goes, and it is given on.
use Rattle.std.proofs.Common.{◌≡◌, ℕ, [], ◌∷◌, Some, ap, sym, ◌∙◌, subst}
use Rattle.qz_lemmas.proofs.Options.{same-some}
use Rattle.atomic_table.specs.Table.{Me}
use Rattle.qz_turn.specs.declared.view.Tale.{Tale}
use Rattle.qz_turn.specs.declared.view.View.{View}
use Rattle.qz_turn.specs.Tales.{Follows}
use Rattle.qz_turn.specs.Steps.{Comes, Ends, HasServed, IsKeyed, MayEnd, Went, served, serving}
use Rattle.qz_turn.proofs.Serving.{carried_one}

module _ {I K S E : Type 0} (tells : S → Tale I) (fits : K → S → Type 0) (can : K → Tale I → E → Type 0) (does : E → S → S → E → Type 0) where
  -- what is known once the errand went
  pub record IsSent (m m2 : Me S (View I K)) (errand done : E) : Type 0 where
    pub ticket : ℕ
    pub before : S
    pub after : S
    pub is : m2 ≡ (serving ticket (tells before) m.0, (0, after) ∷ [])
    pub went : does errand before after done
    pub begins : Follows m.0.seen (tells before)
    pub grows : Follows (tells before) (tells after)
    pub fits_before : (key : K) → m.0.key ≡ Some key → fits key before
    pub fits_after : (key : K) → m.0.key ≡ Some key → fits key after

  pub sent : (m m1 m2 : Me S (View I K)) (errand done : E) → IsKeyed (λ key. can key m.0.seen errand) m.0 → Comes tells fits m m1 → Went tells fits can does m1 m2 errand done → IsSent m m2 errand done
  sent m m1 m2 errand done may c w =
      let held : (0, c.value) ∷ [] ≡ (0, w.before) ∷ [] = sym (ap (λ (x : Me S (View I K)). x.1) c.after) ∙ w.held in
      let same : c.value ≡ w.before = carried_one c.value w.before held in
      let first : m1.0 ≡ serving c.ticket (tells w.before) m.0 = ap (λ (x : Me S (View I K)). x.0) c.after ∙ ap (λ v. serving c.ticket (tells v) m.0) same in
      let begins : Follows m.0.seen (tells w.before) = subst (λ v. Follows m.0.seen (tells v)) same c.begins in
      let fitted = λ (key : K) (is : m.0.key ≡ Some key). subst (λ v. fits key v) same (c.fits_key key is) in
      record {
        ticket = c.ticket;
        before = w.before;
        after = w.after;
        is = w.holds ∙ ap (λ v. (v, (0, w.after) ∷ [])) first;
        went = w.went;
        begins = begins;
        grows = w.grows;
        fits_before = fitted;
        fits_after = λ key is. w.fits_still.still key m.0.seen (fitted key is) begins (subst (λ k. can k m.0.seen errand) (same-some m.0.key may.key key may.keyed is) may.of_key);
      }

  -- the turn may be given on
  pub sent_may_end : (m m2 : Me S (View I K)) (errand done : E) → IsKeyed (λ key. can key m.0.seen errand) m.0 → IsSent m m2 errand done → MayEnd tells fits m2
  sent_may_end m m2 errand done may s = record {
    ticket = s.ticket;
    serves = ap (λ (x : Me S (View I K)). x.0.stage) s.is;
    value = s.after;
    holds = ap (λ (x : Me S (View I K)). x.1) s.is;
    grows = subst (λ t. Follows t (tells s.after)) (sym (ap (λ (x : Me S (View I K)). x.0.found) s.is)) s.grows;
    key = may.key;
    keyed = ap (λ (x : Me S (View I K)). x.0.key) s.is ∙ may.keyed;
    fits_key = s.fits_after may.key may.keyed;
  }

  pub turned : (m m2 m3 : Me S (View I K)) (errand done : E) → IsSent m m2 errand done → Ends tells m2 m3 → HasServed tells fits does m m3 errand done
  turned m m2 m3 errand done s e = record {
    before = s.before;
    after = s.after;
    went = s.went;
    rests = e.after s.after (ap (λ (x : Me S (View I K)). x.1) s.is) ∙ ap (λ (x : Me S (View I K)). (served (tells s.after) x.0, [])) s.is;
    begins = s.begins;
    grows = s.grows;
    fits_before = s.fits_before;
    fits_after = s.fits_after;
  }
