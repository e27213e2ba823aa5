-- Sixteen bytes of a number: eight of its lower half, and eight of its upper half.
use Rattle.std.proofs.Common.{◌≡◌, ℕ, ◌+◌, ◌*◌, ◌/◌, ◌%◌, ◌^◌, ◌<◌, List, ◌∷◌, ◌++◌, length, get_or, take, drop, refl, ap, ◌∙◌, arith}
use Rattle.std.specs.Int.{w64, w128, to_le_bytes, from_le_bytes}
use Rattle.std.proofs.lemmas.List.{take-append-drop, length-take, length-drop, get_or-drop, get_or-take}
use Rattle.std.proofs.lemmas.Nat.{le_bytes_8, from_le_bytes-to_le_bytes_8}
use Rattle.qz_record.proofs.Codes.{IsBytes, IsBytes-take}

cell : (x y : ℕ) (xs ys : List ℕ) → x ≡ y → xs ≡ ys → x ∷ xs ≡ y ∷ ys
cell x y xs ys e f = cc

low_0 : (n : ℕ) → n % 256 ≡ n % 18446744073709551616 % 256
low_0 n = omega arith

low_1 : (n : ℕ) → n / 256 % 256 ≡ n % 18446744073709551616 / 256 % 256
low_1 n = omega arith

low_2 : (n : ℕ) → n / 65536 % 256 ≡ n % 18446744073709551616 / 65536 % 256
low_2 n = omega arith

low_3 : (n : ℕ) → n / 16777216 % 256 ≡ n % 18446744073709551616 / 16777216 % 256
low_3 n = omega arith

low_4 : (n : ℕ) → n / 4294967296 % 256 ≡ n % 18446744073709551616 / 4294967296 % 256
low_4 n = omega arith

low_5 : (n : ℕ) → n / 1099511627776 % 256 ≡ n % 18446744073709551616 / 1099511627776 % 256
low_5 n = omega arith

low_6 : (n : ℕ) → n / 281474976710656 % 256 ≡ n % 18446744073709551616 / 281474976710656 % 256
low_6 n = omega arith

low_7 : (n : ℕ) → n / 72057594037927936 % 256 ≡ n % 18446744073709551616 / 72057594037927936 % 256
low_7 n = omega arith

high_1 : (n : ℕ) → n / 4722366482869645213696 % 256 ≡ n / 18446744073709551616 / 256 % 256
high_1 n = omega arith

high_2 : (n : ℕ) → n / 1208925819614629174706176 % 256 ≡ n / 18446744073709551616 / 65536 % 256
high_2 n = omega arith

high_3 : (n : ℕ) → n / 309485009821345068724781056 % 256 ≡ n / 18446744073709551616 / 16777216 % 256
high_3 n = omega arith

high_4 : (n : ℕ) → n / 79228162514264337593543950336 % 256 ≡ n / 18446744073709551616 / 4294967296 % 256
high_4 n = omega arith

high_5 : (n : ℕ) → n / 20282409603651670423947251286016 % 256 ≡ n / 18446744073709551616 / 1099511627776 % 256
high_5 n = omega arith

high_6 : (n : ℕ) → n / 5192296858534827628530496329220096 % 256 ≡ n / 18446744073709551616 / 281474976710656 % 256
high_6 n = omega arith

high_7 : (n : ℕ) → n / 1329227995784915872903807060280344576 % 256 ≡ n / 18446744073709551616 / 72057594037927936 % 256
high_7 n = omega arith

halves : (n : ℕ) → to_le_bytes w128 n ≡ to_le_bytes w64 (n % 18446744073709551616) ++ to_le_bytes w64 (n / 18446744073709551616)
halves n = cell _ _ _ _ (low_0 n) (cell _ _ _ _ (low_1 n) (cell _ _ _ _ (low_2 n) (cell _ _ _ _ (low_3 n) (cell _ _ _ _ (low_4 n) (cell _ _ _ _ (low_5 n) (cell _ _ _ _ (low_6 n) (cell _ _ _ _ (low_7 n) (cell _ _ _ _ refl (cell _ _ _ _ (high_1 n) (cell _ _ _ _ (high_2 n) (cell _ _ _ _ (high_3 n) (cell _ _ _ _ (high_4 n) (cell _ _ _ _ (high_5 n) (cell _ _ _ _ (high_6 n) (cell _ _ _ _ (high_7 n) refl)))))))))))))))

joined : (b0 b1 b2 b3 b4 b5 b6 b7 b8 b9 b10 b11 b12 b13 b14 b15 : ℕ) → b0 + b1 * 256 + b2 * 65536 + b3 * 16777216 + b4 * 4294967296 + b5 * 1099511627776 + b6 * 281474976710656 + b7 * 72057594037927936 + b8 * 18446744073709551616 + b9 * 4722366482869645213696 + b10 * 1208925819614629174706176 + b11 * 309485009821345068724781056 + b12 * 79228162514264337593543950336 + b13 * 20282409603651670423947251286016 + b14 * 5192296858534827628530496329220096 + b15 * 1329227995784915872903807060280344576 ≡ (b0 + b1 * 256 + b2 * 65536 + b3 * 16777216 + b4 * 4294967296 + b5 * 1099511627776 + b6 * 281474976710656 + b7 * 72057594037927936) + (b8 + b9 * 256 + b10 * 65536 + b11 * 16777216 + b12 * 4294967296 + b13 * 1099511627776 + b14 * 281474976710656 + b15 * 72057594037927936) * 18446744073709551616
joined b0 b1 b2 b3 b4 b5 b6 b7 b8 b9 b10 b11 b12 b13 b14 b15 = omega arith

from-low : (bytes : List ℕ) → get_or bytes 0 0 + get_or bytes 1 0 * 256 + get_or bytes 2 0 * 65536 + get_or bytes 3 0 * 16777216 + get_or bytes 4 0 * 4294967296 + get_or bytes 5 0 * 1099511627776 + get_or bytes 6 0 * 281474976710656 + get_or bytes 7 0 * 72057594037927936 ≡ from_le_bytes w64 (take 8 bytes)
from-low bytes = rw (get_or-take 8 bytes 0 0 (omega arith), get_or-take 8 bytes 1 0 (omega arith), get_or-take 8 bytes 2 0 (omega arith), get_or-take 8 bytes 3 0 (omega arith), get_or-take 8 bytes 4 0 (omega arith), get_or-take 8 bytes 5 0 (omega arith), get_or-take 8 bytes 6 0 (omega arith), get_or-take 8 bytes 7 0 (omega arith)) refl

from-high : (bytes : List ℕ) → get_or bytes 8 0 + get_or bytes 9 0 * 256 + get_or bytes 10 0 * 65536 + get_or bytes 11 0 * 16777216 + get_or bytes 12 0 * 4294967296 + get_or bytes 13 0 * 1099511627776 + get_or bytes 14 0 * 281474976710656 + get_or bytes 15 0 * 72057594037927936 ≡ from_le_bytes w64 (drop 8 bytes)
from-high bytes = rw (get_or-drop 8 bytes 0 0, get_or-drop 8 bytes 1 0, get_or-drop 8 bytes 2 0, get_or-drop 8 bytes 3 0, get_or-drop 8 bytes 4 0, get_or-drop 8 bytes 5 0, get_or-drop 8 bytes 6 0, get_or-drop 8 bytes 7 0) refl

from-halves : (bytes : List ℕ) → from_le_bytes w128 bytes ≡ from_le_bytes w64 (take 8 bytes) + from_le_bytes w64 (drop 8 bytes) * 18446744073709551616
from-halves bytes =
    joined (get_or bytes 0 0) (get_or bytes 1 0) (get_or bytes 2 0) (get_or bytes 3 0) (get_or bytes 4 0) (get_or bytes 5 0) (get_or bytes 6 0) (get_or bytes 7 0) (get_or bytes 8 0) (get_or bytes 9 0) (get_or bytes 10 0) (get_or bytes 11 0) (get_or bytes 12 0) (get_or bytes 13 0) (get_or bytes 14 0) (get_or bytes 15 0)
    ∙ ap (λ (low : ℕ). low + (get_or bytes 8 0 + get_or bytes 9 0 * 256 + get_or bytes 10 0 * 65536 + get_or bytes 11 0 * 16777216 + get_or bytes 12 0 * 4294967296 + get_or bytes 13 0 * 1099511627776 + get_or bytes 14 0 * 281474976710656 + get_or bytes 15 0 * 72057594037927936) * 18446744073709551616) (from-low bytes)
    ∙ ap (λ (high : ℕ). from_le_bytes w64 (take 8 bytes) + high * 18446744073709551616) (from-high bytes)

below_half : (b0 b1 b2 b3 b4 b5 b6 b7 : ℕ) → b0 < 256 → b1 < 256 → b2 < 256 → b3 < 256 → b4 < 256 → b5 < 256 → b6 < 256 → b7 < 256 → b0 + b1 * 256 + b2 * 65536 + b3 * 16777216 + b4 * 4294967296 + b5 * 1099511627776 + b6 * 281474976710656 + b7 * 72057594037927936 < 18446744073709551616
below_half b0 b1 b2 b3 b4 b5 b6 b7 h0 h1 h2 h3 h4 h5 h6 h7 = omega arith

lower : (low high : ℕ) → low < 18446744073709551616 → (low + high * 18446744073709551616) % 18446744073709551616 ≡ low
lower low high lt = omega arith

upper : (low high : ℕ) → low < 18446744073709551616 → (low + high * 18446744073709551616) / 18446744073709551616 ≡ high
upper low high lt = omega arith

pub le_bytes_16 : (bytes : List ℕ) → length bytes ≡ 16 → IsBytes bytes → to_le_bytes w128 (from_le_bytes w128 bytes) ≡ bytes
le_bytes_16 bytes len is =
    let low = from_le_bytes w64 (take 8 bytes) in
    let high = from_le_bytes w64 (drop 8 bytes) in
    let small : low < 18446744073709551616 = rw (← from-low bytes) (below_half _ _ _ _ _ _ _ _ (is.small 0) (is.small 1) (is.small 2) (is.small 3) (is.small 4) (is.small 5) (is.small 6) (is.small 7)) in
    let front : to_le_bytes w64 low ≡ take 8 bytes = le_bytes_8 (take 8 bytes) low (omega (arith, length-take 8 bytes)) (IsBytes-take 8 bytes is).small refl in
    let back : to_le_bytes w64 high ≡ drop 8 bytes = le_bytes_8 (drop 8 bytes) high (omega (arith, length-drop 8 bytes)) (λ i. rw get_or-drop (is.small (8 + i))) refl in
    ap (to_le_bytes w128) (from-halves bytes)
    ∙ halves (low + high * 18446744073709551616)
    ∙ ap (λ (n : ℕ). to_le_bytes w64 n ++ to_le_bytes w64 ((low + high * 18446744073709551616) / 18446744073709551616)) (lower low high small)
    ∙ ap (λ (n : ℕ). to_le_bytes w64 low ++ to_le_bytes w64 n) (upper low high small)
    ∙ ap (λ (l : List ℕ). l ++ to_le_bytes w64 high) front
    ∙ ap (λ (l : List ℕ). take 8 bytes ++ l) back
    ∙ take-append-drop 8 bytes

whole : (n : ℕ) → n % 18446744073709551616 + n / 18446744073709551616 * 18446744073709551616 ≡ n
whole n = omega arith

fits_half : (n : ℕ) → n < 2 ^ 128 → n / 18446744073709551616 < 2 ^ 64
fits_half n lt = omega arith

pub from_le_bytes-to_le_bytes_16 : (n : ℕ) → n < 2 ^ 128 → from_le_bytes w128 (to_le_bytes w128 n) ≡ n
from_le_bytes-to_le_bytes_16 n lt =
    ap (from_le_bytes w128) (halves n)
    ∙ from-halves (to_le_bytes w64 (n % 18446744073709551616) ++ to_le_bytes w64 (n / 18446744073709551616))
    ∙ ap (λ (m : ℕ). m + from_le_bytes w64 (to_le_bytes w64 (n / 18446744073709551616)) * 18446744073709551616) (from_le_bytes-to_le_bytes_8 (n % 18446744073709551616) (omega arith))
    ∙ ap (λ (m : ℕ). n % 18446744073709551616 + m * 18446744073709551616) (from_le_bytes-to_le_bytes_8 (n / 18446744073709551616) (fits_half n lt))
    ∙ whole n
