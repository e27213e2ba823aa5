-- Numbers, truth, texts and lists: what is read of them is what was spelled, and what was spelled is read.
use Rattle.std.proofs.Common.{◌≡◌, ℕ, zero, suc, ◌-◌, ◌*◌, ◌^◌, ◌<◌, ◌≤◌, Bool, true, false, ◌&&◌, cond, leb, ltb, List, [], ◌∷◌, ◌++◌, length, take, drop, ℤ, pos, negsuc, Some, None, refl, sym, ap, subst, ◌∙◌, append_assoc, arith}
use Rattle.std.specs.Int.{Width, byte_len, cast_signed, cast_unsigned, from_le_bytes, to_le_bytes, w16, w32, w64, w128}
use Rattle.std.specs.List.{flat_map, list_all}
use Rattle.std.specs.Option.{option_and_then, option_map}
use Rattle.std.specs.Prelude.{int_le, int_lt}
use Rattle.std.specs.Str.{is_utf8}
use Rattle.std.proofs.lemmas.Bool.{and_parts, and_from, le-ltb, le-leb, leb-true, lt-ltb, ltb-false, ltb-true}
use Rattle.std.proofs.Math.Facts.{Fits-lt-pow, Fits-of_lt, Fits-of_z, sfits_to_z}
use Rattle.std.proofs.lemmas.Int.{of_z-to_z, to_z-of_z}
use mir.Val.{SFits, hbits}
use Rattle.std.proofs.lemmas.List.{drop_at, length-append, length-take, take-append-drop, take_at}
use Rattle.std.proofs.lemmas.List.Concat.{flat_map-cons}
use Rattle.std.proofs.lemmas.Nat.{from_le_bytes-to_le_bytes_2, from_le_bytes-to_le_bytes_4, from_le_bytes-to_le_bytes_8, le_bytes_2, le_bytes_4, le_bytes_8}
use Rattle.qz_terms.specs.Spelling.{bool_bytes, list_bytes, text_bytes}
use Rattle.qz_record.specs.Fields.{Field, bare, bool_field, built, cut_text, i128_field, i64_field, list_field, many, signed, text_field, u16_field, u32_field, u64_field, u8_field, unsigned}
use Rattle.qz_record.proofs.Codes.{IsBytes, IsBytes-behind, IsBytes-take, IsCode, Took, bare-variant, map_some, one_of-takes, then_some}
use Rattle.qz_record.proofs.Wide.{from_le_bytes-to_le_bytes_16, le_bytes_16}

-- ---- unsigned numbers

-- the bytes of numbers below a limit are all that there are of this length
pub record IsWide (w : Width) (limit : ℕ) : Type 0 where
  pub len : (n : ℕ) → length (to_le_bytes w n) ≡ byte_len w
  pub back : (bytes : List ℕ) → length bytes ≡ byte_len w → IsBytes bytes → to_le_bytes w (from_le_bytes w bytes) ≡ bytes
  pub again : (n : ℕ) → n < limit → from_le_bytes w (to_le_bytes w n) ≡ n
  pub below : (bytes : List ℕ) → IsBytes bytes → from_le_bytes w bytes < limit

wide16 : IsWide w16 (2 ^ 16)
wide16 = record {
  len = λ n. refl;
  back = λ bytes len is. le_bytes_2 bytes _ len is.small refl;
  again = λ n lt. from_le_bytes-to_le_bytes_2 n lt;
  below = λ bytes is. omega (arith, is.small 0, is.small 1);
}

wide32 : IsWide w32 (2 ^ 32)
wide32 = record {
  len = λ n. refl;
  back = λ bytes len is. le_bytes_4 bytes _ len is.small refl;
  again = λ n lt. from_le_bytes-to_le_bytes_4 n lt;
  below = λ bytes is. omega (arith, is.small 0, is.small 1, is.small 2, is.small 3);
}

wide64 : IsWide w64 (2 ^ 64)
wide64 = record {
  len = λ n. refl;
  back = λ bytes len is. le_bytes_8 bytes _ len is.small refl;
  again = λ n lt. from_le_bytes-to_le_bytes_8 n lt;
  below = λ bytes is. omega (arith, is.small 0, is.small 1, is.small 2, is.small 3, is.small 4, is.small 5, is.small 6, is.small 7);
}

wide128 : IsWide w128 (2 ^ 128)
wide128 = record {
  len = λ n. refl;
  back = λ bytes len is. le_bytes_16 bytes len is;
  again = λ n lt. from_le_bytes-to_le_bytes_16 n lt;
  below = λ bytes is. omega (arith, is.small 0, is.small 1, is.small 2, is.small 3, is.small 4, is.small 5, is.small 6, is.small 7, is.small 8, is.small 9, is.small 10, is.small 11, is.small 12, is.small 13, is.small 14, is.small 15);
}

guarded : {A : Type 0} (b : Bool) (x y : A) → cond b None (Some x) ≡ Some y → (b ≡ false) × (x ≡ y)
guarded true x y e = absurd cc
guarded false x y e = (refl, cc)

unsigned-again : (w : Width) (limit : ℕ) → IsWide w limit → (n : ℕ) (rest : List ℕ) → ltb n limit ≡ true → (unsigned w limit).read (to_le_bytes w n ++ rest) ≡ Some (n, rest)
unsigned-again w limit wide n rest fits =
    let long : ltb (length (to_le_bytes w n ++ rest)) (byte_len w) ≡ false = le-ltb _ _ (omega (arith, length-append (to_le_bytes w n) rest, wide.len n)) in
    rw (long, take_at (to_le_bytes w n) rest (byte_len w) (wide.len n), drop_at (to_le_bytes w n) rest (byte_len w) (wide.len n), wide.again n (ltb-true n limit fits)) refl

unsigned-takes : (w : Width) (limit : ℕ) → IsWide w limit → (bytes : List ℕ) (n : ℕ) (rest : List ℕ) → IsBytes bytes → (unsigned w limit).read bytes ≡ Some (n, rest) → Took (unsigned w limit).fits (to_le_bytes w) bytes n rest
unsigned-takes w limit wide bytes n rest is e =
    let g = guarded (ltb (length bytes) (byte_len w)) (from_le_bytes w (take (byte_len w) bytes), drop (byte_len w) bytes) (n, rest) e in
    let long : byte_len w ≤ length bytes = ltb-false _ _ g.0 in
    let front : to_le_bytes w (from_le_bytes w (take (byte_len w) bytes)) ≡ take (byte_len w) bytes = wide.back (take (byte_len w) bytes) (omega (arith, length-take (byte_len w) bytes)) (IsBytes-take (byte_len w) bytes is) in
    let parts : bytes ≡ to_le_bytes w (from_le_bytes w (take (byte_len w) bytes)) ++ drop (byte_len w) bytes = rw front (sym (take-append-drop (byte_len w) bytes)) in
    subst (λ (y : ℕ × List ℕ). Took (unsigned w limit).fits (to_le_bytes w) bytes y.0 y.1) g.1
    (record { fits = lt-ltb _ _ (wide.below (take (byte_len w) bytes) (IsBytes-take (byte_len w) bytes is)); parts = parts })

unsigned-code : (w : Width) (limit : ℕ) → IsWide w limit → IsCode (unsigned w limit) (to_le_bytes w)
unsigned-code w limit wide = record { again = unsigned-again w limit wide; takes = unsigned-takes w limit wide }

pub u16-code : IsCode u16_field (to_le_bytes w16)
unfolding u16_field
u16-code = unsigned-code w16 (2 ^ 16) wide16

pub u32-code : IsCode u32_field (to_le_bytes w32)
unfolding u32_field
u32-code = unsigned-code w32 (2 ^ 32) wide32

pub u64-code : IsCode u64_field (to_le_bytes w64)
unfolding u64_field
u64-code = unsigned-code w64 (2 ^ 64) wide64

u8-takes : (bytes : List ℕ) (n : ℕ) (rest : List ℕ) → IsBytes bytes → u8_field.read bytes ≡ Some (n, rest) → Took u8_field.fits (λ (m : ℕ). m ∷ []) bytes n rest
unfolding u8_field
u8-takes [] n rest is e = absurd cc
u8-takes (b ∷ bytes) n rest is e =
    let same : ◌≡◌ {A = ℕ × List ℕ} (b, bytes) (n, rest) = cc in
    subst (λ (y : ℕ × List ℕ). Took u8_field.fits (λ (m : ℕ). m ∷ []) (b ∷ bytes) y.0 y.1) same (record { fits = lt-ltb _ _ (is.small 0); parts = refl })

pub u8-code : IsCode u8_field (λ (n : ℕ). n ∷ [])
unfolding u8_field
u8-code = record { again = λ n rest fits. refl; takes = u8-takes }

-- ---- signed numbers

-- numbers from - limit to limit - 1, and their halves of the unsigned ones
pub record IsHalf (w : Width) (limit : ℕ) : Type 0 where
  pub bits : (z : ℤ) → (signed w limit).fits z ≡ true → cast_unsigned w z < 2 * limit
  pub back : (z : ℤ) → (signed w limit).fits z ≡ true → cast_signed w (cast_unsigned w z) ≡ z
  pub fits : (n : ℕ) → n < 2 * limit → (signed w limit).fits (cast_signed w n) ≡ true
  pub again : (n : ℕ) → n < 2 * limit → cast_unsigned w (cast_signed w n) ≡ n

signed-again : (w : Width) (limit : ℕ) → IsWide w (2 * limit) → IsHalf w limit → (z : ℤ) (rest : List ℕ) → (signed w limit).fits z ≡ true → (signed w limit).read (to_le_bytes w (cast_unsigned w z) ++ rest) ≡ Some (z, rest)
signed-again w limit wide half z rest fits =
    ap (built (cast_signed w)) (unsigned-again w (2 * limit) wide (cast_unsigned w z) rest (lt-ltb _ _ (half.bits z fits)))
    ∙ ap (λ (x : ℤ). Some (x, rest)) (half.back z fits)

signed-takes : (w : Width) (limit : ℕ) → IsWide w (2 * limit) → IsHalf w limit → (bytes : List ℕ) (z : ℤ) (rest : List ℕ) → IsBytes bytes → (signed w limit).read bytes ≡ Some (z, rest)
    → Took (signed w limit).fits (λ (x : ℤ). to_le_bytes w (cast_unsigned w x)) bytes z rest
signed-takes w limit wide half bytes z rest is e =
    let found = map_some (λ (y : ℕ × List ℕ). (cast_signed w y.0, y.1)) ((unsigned w (2 * limit)).read bytes) (z, rest) e in
    let y = found.0 in
    let p = unsigned-takes w (2 * limit) wide bytes y.0 y.1 is found.1 in
    let small : y.0 < 2 * limit = ltb-true _ _ p.fits in
    subst (λ (x : ℤ × List ℕ). Took (signed w limit).fits (λ (v : ℤ). to_le_bytes w (cast_unsigned w v)) bytes x.0 x.1) found.2
    (record { fits = half.fits y.0 small; parts = p.parts ∙ ap (λ (n : ℕ). to_le_bytes w n ++ y.1) (sym (half.again y.0 small)) })

signed-code : (w : Width) (limit : ℕ) → IsWide w (2 * limit) → IsHalf w limit → IsCode (signed w limit) (λ (z : ℤ). to_le_bytes w (cast_unsigned w z))
signed-code w limit wide half = record { again = signed-again w limit wide half; takes = signed-takes w limit wide half }

-- a number from - (suc top) to top
fits_at : (w : Width) (top : ℕ) → suc top ≡ 2 ^ hbits w → (z : ℤ) → int_le (negsuc top) z && int_lt z (pos (suc top)) ≡ true → SFits w z
fits_at w top e (pos n) fits = record { sfits = subst (λ (k : ℕ). n < k) e (ltb-true n (suc top) (and_parts true (ltb n (suc top)) fits).1) }
fits_at w top e (negsuc n) fits =
    let low : leb n top ≡ true = (and_parts (leb n top) true fits).0 in
    let le : n ≤ top = leb-true n top low in
    record { sfits = subst (λ (k : ℕ). n < k) e (omega arith) }

pub at_fits : (w : Width) (top : ℕ) → suc top ≡ 2 ^ hbits w → (z : ℤ) → SFits w z → int_le (negsuc top) z && int_lt z (pos (suc top)) ≡ true
at_fits w top e (pos n) h = lt-ltb n (suc top) (subst (λ (k : ℕ). n < k) (sym e) h.sfits)
at_fits w top e (negsuc n) h =
    let below : n < suc top = subst (λ (k : ℕ). n < k) (sym e) h.sfits in
    and_from (leb n top) true (le-leb n top (omega arith)) refl

half64 : IsHalf w64 (2 ^ 63)
half64 = record {
  bits = λ z fits. Fits-lt-pow (Fits-of_z {w = w64} {z = z} (fits_at w64 (2 ^ 63 - 1) refl z fits));
  back = λ z fits. to_z-of_z w64 z (fits_at w64 (2 ^ 63 - 1) refl z fits);
  fits = λ n lt. at_fits w64 (2 ^ 63 - 1) refl (cast_signed w64 n) (sfits_to_z {w = w64} {n = n} (Fits-of_lt lt));
  again = λ n lt. of_z-to_z w64 n lt;
}

half128 : IsHalf w128 (2 ^ 127)
half128 = record {
  bits = λ z fits. Fits-lt-pow (Fits-of_z {w = w128} {z = z} (fits_at w128 (2 ^ 127 - 1) refl z fits));
  back = λ z fits. to_z-of_z w128 z (fits_at w128 (2 ^ 127 - 1) refl z fits);
  fits = λ n lt. at_fits w128 (2 ^ 127 - 1) refl (cast_signed w128 n) (sfits_to_z {w = w128} {n = n} (Fits-of_lt lt));
  again = λ n lt. of_z-to_z w128 n lt;
}

pub i64-code : IsCode i64_field (λ (z : ℤ). to_le_bytes w64 (cast_unsigned w64 z))
unfolding i64_field
i64-code = signed-code w64 (2 ^ 63) wide64 half64

pub i128-code : IsCode i128_field (λ (z : ℤ). to_le_bytes w128 (cast_unsigned w128 z))
unfolding i128_field
i128-code = signed-code w128 (2 ^ 127) wide128 half128

-- ---- truth

bool-again : (b : Bool) (rest : List ℕ) → bool_field.fits b ≡ true → bool_field.read (bool_bytes b ++ rest) ≡ Some (b, rest)
unfolding bool_field
bool-again false rest fits = refl
bool-again true rest fits = refl

pub bool-code : IsCode bool_field bool_bytes
unfolding bool_field
bool-code = record {
  again = bool-again;
  takes = one_of-takes (λ (b : Bool). true) bool_bytes (bare false ∷ bare true ∷ [])
      (bare-variant (λ (b : Bool). true) bool_bytes 0 false refl refl, (bare-variant (λ (b : Bool). true) bool_bytes 1 true refl refl, tt));
}

-- ---- texts

cut-again : (t rest : List ℕ) → is_utf8 t ≡ true → cut_text (length t) (t ++ rest) ≡ Some (t, rest)
cut-again t rest utf8 =
    let long : ltb (length (t ++ rest)) (length t) ≡ false = le-ltb _ _ (omega (arith, length-append t rest)) in
    rw (long, take_at t rest (length t) refl, drop_at t rest (length t) refl, utf8) refl

cut_some : {A : Type 0} (short valid : Bool) (x y : A) → cond short None (cond valid (Some x) None) ≡ Some y → (short ≡ false) × (valid ≡ true) × (x ≡ y)
cut_some true valid x y e = absurd cc
cut_some false false x y e = absurd cc
cut_some false true x y e = (refl, refl, cc)

cut-takes : (n : ℕ) (bytes t rest : List ℕ) → cut_text n bytes ≡ Some (t, rest) → (length t ≡ n) × (is_utf8 t ≡ true) × (bytes ≡ t ++ rest)
cut-takes n bytes t rest e =
    let found = cut_some (ltb (length bytes) n) (is_utf8 (take n bytes)) (take n bytes, drop n bytes) (t, rest) e in
    let front : take n bytes ≡ t = ap (λ (p : List ℕ × List ℕ). p.0) found.2 in
    let back : drop n bytes ≡ rest = ap (λ (p : List ℕ × List ℕ). p.1) found.2 in
    let long : n ≤ length bytes = ltb-false _ _ found.0 in
    (omega (arith, ap length front, length-take n bytes), ap is_utf8 (sym front) ∙ found.1, rw (← front, ← back) (sym (take-append-drop n bytes)))

u32_fits : (n : ℕ) → ltb n (2 ^ 32) ≡ true → u32_field.fits n ≡ true
unfolding u32_field
u32_fits n fits = fits

fits_u32 : (n : ℕ) → u32_field.fits n ≡ true → ltb n (2 ^ 32) ≡ true
unfolding u32_field
fits_u32 n fits = fits

text-again : (t rest : List ℕ) → text_field.fits t ≡ true → text_field.read (text_bytes t ++ rest) ≡ Some (t, rest)
unfolding text_field
text-again t rest fits =
    let p = and_parts _ _ fits in
    ap text_field.read (append_assoc (to_le_bytes w32 (length t)) t rest)
    ∙ ap (option_and_then (λ (n : ℕ × List ℕ). cut_text n.0 n.1)) (u32-code.again (length t) (t ++ rest) (u32_fits (length t) p.0))
    ∙ cut-again t rest p.1

text-takes : (bytes t rest : List ℕ) → IsBytes bytes → text_field.read bytes ≡ Some (t, rest) → Took text_field.fits text_bytes bytes t rest
unfolding text_field
text-takes bytes t rest is e =
    let found = then_some (λ (n : ℕ × List ℕ). cut_text n.0 n.1) (u32_field.read bytes) (t, rest) e in
    let n = found.0 in
    let p = u32-code.takes bytes n.0 n.1 is found.1 in
    let q = cut-takes n.0 n.1 t rest found.2 in
    record {
      fits = and_from _ _ (ap (λ (k : ℕ). ltb k (2 ^ 32)) q.0 ∙ fits_u32 n.0 p.fits) q.1;
      parts = p.parts ∙ ap (λ (l : List ℕ). to_le_bytes w32 n.0 ++ l) q.2 ∙ ap (λ (k : ℕ). to_le_bytes w32 k ++ (t ++ rest)) (sym q.0) ∙ sym (append_assoc (to_le_bytes w32 (length t)) t rest);
    }

pub text-code : IsCode text_field text_bytes
text-code = record { again = text-again; takes = text-takes }

-- ---- lists

many-again : {A : Type 0} (f : Field A) (s : A → List ℕ) → IsCode f s → (xs : List A) (rest : List ℕ) → list_all f.fits xs ≡ true → many f (length xs) (flat_map s xs ++ rest) ≡ Some (xs, rest)
unfolding many
many-again f s cf [] rest fits = refl
many-again {A} f s cf (x ∷ xs) rest fits =
    let p = and_parts _ _ fits in
    let regrouped : flat_map s (x ∷ xs) ++ rest ≡ s x ++ (flat_map s xs ++ rest) = ap (λ (l : List ℕ). l ++ rest) (flat_map-cons s x xs) ∙ append_assoc (s x) (flat_map s xs) rest in
    ap (many f (suc (length xs))) regrouped
    ∙ ap (option_and_then (λ (a : A × List ℕ). option_map (λ (b : List A × List ℕ). (a.0 ∷ b.0, b.1)) (many f (length xs) a.1))) (cf.again x (flat_map s xs ++ rest) p.0)
    ∙ ap (option_map (λ (b : List A × List ℕ). (x ∷ b.0, b.1))) (many-again f s cf xs rest p.1)

pub record TookMany {A : Type 0} (f : Field A) (s : A → List ℕ) (n : ℕ) (bytes : List ℕ) (xs : List A) (rest : List ℕ) : Type 0 where
  pub count : length xs ≡ n
  pub fits : list_all f.fits xs ≡ true
  pub parts : bytes ≡ flat_map s xs ++ rest

many-takes : {A : Type 0} (f : Field A) (s : A → List ℕ) → IsCode f s → (n : ℕ) (bytes : List ℕ) (xs : List A) (rest : List ℕ) → IsBytes bytes → many f n bytes ≡ Some (xs, rest) → TookMany f s n bytes xs rest
unfolding many
many-takes {A} f s cf zero bytes xs rest is e =
    let same : ◌≡◌ {A = List A × List ℕ} ([], bytes) (xs, rest) = cc in
    subst (λ (y : List A × List ℕ). TookMany f s 0 bytes y.0 y.1) same (record { count = refl; fits = refl; parts = refl })
many-takes {A} f s cf (suc n) bytes xs rest is e =
    let first = then_some (λ (a : A × List ℕ). option_map (λ (b : List A × List ℕ). (a.0 ∷ b.0, b.1)) (many f n a.1)) (f.read bytes) (xs, rest) e in
    let a = first.0 in
    let second = map_some (λ (b : List A × List ℕ). (a.0 ∷ b.0, b.1)) (many f n a.1) (xs, rest) first.2 in
    let b = second.0 in
    let p = cf.takes bytes a.0 a.1 is first.1 in
    let q = many-takes f s cf n a.1 b.0 b.1 (IsBytes-behind (s a.0) a.1 bytes p.parts is) second.1 in
    let regrouped : flat_map s (a.0 ∷ b.0) ++ b.1 ≡ s a.0 ++ (flat_map s b.0 ++ b.1) = ap (λ (l : List ℕ). l ++ b.1) (flat_map-cons s a.0 b.0) ∙ append_assoc (s a.0) (flat_map s b.0) b.1 in
    subst (λ (y : List A × List ℕ). TookMany f s (suc n) bytes y.0 y.1) second.2
    (record { count = ap suc q.count; fits = and_from _ _ p.fits q.fits; parts = p.parts ∙ ap (λ (l : List ℕ). s a.0 ++ l) q.parts ∙ sym regrouped })

list-again : {A : Type 0} (f : Field A) (s : A → List ℕ) → IsCode f s → (xs : List A) (rest : List ℕ) → (list_field f).fits xs ≡ true → (list_field f).read (list_bytes s xs ++ rest) ≡ Some (xs, rest)
unfolding list_field
list-again {A} f s cf xs rest fits =
    let p = and_parts _ _ fits in
    ap (list_field f).read (append_assoc (to_le_bytes w32 (length xs)) (flat_map s xs) rest)
    ∙ ap (option_and_then (λ (n : ℕ × List ℕ). many f n.0 n.1)) (u32-code.again (length xs) (flat_map s xs ++ rest) (u32_fits (length xs) p.0))
    ∙ many-again f s cf xs rest p.1

list-takes : {A : Type 0} (f : Field A) (s : A → List ℕ) → IsCode f s → (bytes : List ℕ) (xs : List A) (rest : List ℕ) → IsBytes bytes → (list_field f).read bytes ≡ Some (xs, rest) → Took (list_field f).fits (list_bytes s) bytes xs rest
unfolding list_field
list-takes f s cf bytes xs rest is e =
    let found = then_some (λ (n : ℕ × List ℕ). many f n.0 n.1) (u32_field.read bytes) (xs, rest) e in
    let n = found.0 in
    let p = u32-code.takes bytes n.0 n.1 is found.1 in
    let q = many-takes f s cf n.0 n.1 xs rest (IsBytes-behind (to_le_bytes w32 n.0) n.1 bytes p.parts is) found.2 in
    record {
      fits = and_from _ _ (ap (λ (k : ℕ). ltb k (2 ^ 32)) q.count ∙ fits_u32 n.0 p.fits) q.fits;
      parts = p.parts ∙ ap (λ (l : List ℕ). to_le_bytes w32 n.0 ++ l) q.parts ∙ ap (λ (k : ℕ). to_le_bytes w32 k ++ (flat_map s xs ++ rest)) (sym q.count) ∙ sym (append_assoc (to_le_bytes w32 (length xs)) (flat_map s xs) rest);
    }

pub list-code : {A : Type 0} {f : Field A} {s : A → List ℕ} → IsCode f s → IsCode (list_field f) (list_bytes s)
list-code {A} {f} {s} cf = record { again = list-again f s cf; takes = list-takes f s cf }
