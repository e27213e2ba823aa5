use Rattle.std.proofs.Common.{◌++◌, string_bytes, codes, ap, ◌∙◌, append_assoc}
use Rattle.qz_grading.specs.Canonical.{category_path}
use Rattle.gift_write.proofs.categories.path_line_onto.Goals as goal

pub returns : goal.returns
returns c =
    let begun = string_bytes c.args.out.now ++ codes "$CATEGORY: " in
    let named = c.in_ok-path_onto.ensures ∙ ap (λ t. t ++ category_path c.args.path.now) c.in_ok-push_str.ensures.bytes in
    c.in_ok-push_str-2.ensures.bytes ∙ ap (λ t. t ++ codes "\n\n") (named ∙ append_assoc (string_bytes c.args.out.now) (codes "$CATEGORY: ") (category_path c.args.path.now))
    ∙ append_assoc (string_bytes c.args.out.now) (codes "$CATEGORY: " ++ category_path c.args.path.now) (codes "\n\n")
