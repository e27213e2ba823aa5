use Rattle.std.proofs.Common.{◌≡◌, ℕ, List, Some, None, Option, refl, sym, ap, subst, ◌∙◌}
use Rattle.std.specs.BTreeMap.{UpdatesBy, get_by_text}
use Rattle.std.specs.Cmp.Lexicographic.{slice_cmp}
use Rattle.std.specs.Option.{option_or}
use Rattle.std.specs.Ordering.{nat_cmp}
use Rattle.std.specs.Prelude.{bytes_eq, if◌then◌else◌, string_bytes, string_cmp}
use Rattle.qz_index.specs.declared.keys.Replied.{Replied}
use Rattle.qz_index.specs.Keys.{replied_at}
use Rattle.qz_index.proofs.TextLemmas.{text_put}
use Rattle.qz_index.proofs.texts.Texts.put.Goals as goal

pub returns : goal.returns
returns c = λ text.
    let m = c.args.self.now.replied in
    let n = c.get_mut.follows.lender c.keep.new.entry in
    let bs = c.as_str.result.now in
    let v : Replied = record { at = c.args.at; reply = c.args.reply } in
    let some : get_by_text m bs ≡ Some c.in-Some.entry.now = sym c.in-Some.ensures.value in
    let updates : UpdatesBy string_cmp (λ k. slice_cmp nat_cmp bs (string_bytes k)) m n (Some c.keep.new.entry) = (c.get_mut.follows.holds c.keep.new.entry).3 (rw some refl) in
    text_put m n bs c.in-Some.entry.now v (subst (λ (w : Option Replied). UpdatesBy string_cmp (λ k. slice_cmp nat_cmp bs (string_bytes k)) m n (Some w)) c.keep.ensures updates) some text
    ∙ ap (λ (l : List ℕ). option_or (replied_at c.args.self.now text) (if bytes_eq l text then Some v else None)) c.as_str.ensures
