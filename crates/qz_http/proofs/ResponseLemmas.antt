-- Phrases.
use Rattle.std.proofs.Common.{◌≡◌, ℕ, ◌<◌, ◌≤◌, true, List, [], Bor, ap, refl, sym, ◌∙◌, arith}
use Rattle.std.specs.Prelude.{Option, Some, None, nat_le, nat_lt, option_map, unwrap_or}
use Rattle.std.proofs.lemmas.Bool.Decides.{nat_tests}
use Rattle.http.specs.StatusCode.{reason_phrase}
use Rattle.qz_http.specs.Responses.{phrase}

read_out : (o : Option (Bor (List ℕ))) (other : Bor (List ℕ)) (t : Option (List ℕ)) → option_map (λ s. s.now) o ≡ t → (unwrap_or o other).now ≡ unwrap_or t other.now
read_out None other t is = ap (λ v. unwrap_or v other.now) is
read_out (Some s) other t is = ap (λ v. unwrap_or v other.now) is

pub phrase_read : (status code : ℕ) (o : Option (Bor (List ℕ))) (shown other : Bor (List ℕ)) → 100 ≤ status → status < 1000 → code ≡ status
    → option_map (λ s. s.now) o ≡ reason_phrase code → shown ≡ unwrap_or o other → other.now ≡ [] → shown.now ≡ phrase status
phrase_read status code o shown other low high same is unwrapped empty =
    let least : nat_le 100 status ≡ true = grind (arith, nat_tests) in
    let most : nat_lt status 1000 ≡ true = grind (arith, nat_tests) in
    ap (λ s. s.now) unwrapped ∙ read_out o other (reason_phrase code) is ∙ ap (λ v. unwrap_or (reason_phrase code) v) empty ∙ ap (λ n. unwrap_or (reason_phrase n) []) same ∙ sym (rw (least, most) refl)
