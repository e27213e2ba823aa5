use Rattle.std.proofs.Common.{rules, ◌≡◌, ◌++◌, string_bytes, decimal, append_assoc, ap, ◌∙◌, ℕ, List}
use Rattle.qz_wire.specs.Refusals.{refusal_number, refusal_list}
use Rattle.qz_wire.specs.Spaced.{behind}
use Rattle.qz_wire.proofs.refusals.numbered_onto.Goals as goal

pub returns : goal.returns
returns c =
    let number = decimal (refusal_number c.args.refusal.now) in
    let words = behind (refusal_list c.args.refusal.now) in
    let first : string_bytes c.write.new.self ≡ string_bytes c.args.out.now ++ number = search rules in
    let then : string_bytes c.behind_onto.new.out ≡ string_bytes c.write.new.self ++ words = search rules in
    then ∙ ap (λ (front : List ℕ). front ++ words) first ∙ append_assoc (string_bytes c.args.out.now) number words
