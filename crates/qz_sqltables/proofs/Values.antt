-- Values as columns keep them, and tests of them.
use Rattle.std.proofs.Common.{◌≡◌, ℕ, ℤ, pos, Bool, true, false, cond, ◌==◌, refl, ap, ◌∙◌, int_eq, arith}
use Rattle.std.proofs.lemmas.Int.{ints}
use Rattle.std.proofs.lemmas.Bool.Decides.{nat_tests}
use Rattle.sqlite_rules.specs.Cast.{cast}
use Rattle.sqlite_schema.specs.declared.schema.Kind.TheVariants.{Integer}
use Rattle.sqlite_sql.specs.Ops.{binary, is_true, unary}
use Rattle.sqlite_sql.specs.declared.ops.BinaryOp.TheVariants.{Compare}
use Rattle.sqlite_sql.specs.declared.ops.CompareOp.TheVariants.{Eq}
use Rattle.sqlite_sql.specs.declared.ops.UnaryOp.TheVariants.{ToNumeric}
use Rattle.sqlite_typed.proofs.TestLemmas.{at_ints}
use Rattle.sqlite_value.specs.declared.keys.Collation.TheVariants.{Binary}
use Rattle.sqlite_value.specs.declared.value.Value.{Value}
use Rattle.sqlite_value.specs.declared.value.Value.TheVariants.{Null, Int}

either : (b : Bool) (x : Value) → cond b x x ≡ x
either true x = refl
either false x = refl

pub cast_null : cast Integer Null ≡ Null
unfolding unary
cast_null = either _ Null

pub cast_int : (n : ℤ) → cast Integer (Int n) ≡ Int n
unfolding unary
cast_int n = either _ (Int n)

pub same_int : (n : ℤ) → unary ToNumeric (Int n) ≡ Int n
unfolding unary
same_int n = refl

pub same_numbers : (a b : ℕ) → int_eq (pos a) (pos b) ≡ (a == b)
same_numbers a b = grind (arith, ints, nat_tests)

-- what `=` says of a column and of another
pub equals : (a b : ℕ) → is_true (binary (Compare Eq Binary) (Int (pos a)) (Int (pos b))) ≡ (a == b)
equals a b = at_ints false Eq (pos a) (pos b) ∙ same_numbers a b

-- and of a column and a parameter
pub equals_given : (a b : ℕ) → is_true (binary (Compare Eq Binary) (Int (pos a)) (unary ToNumeric (Int (pos b)))) ≡ (a == b)
equals_given a b = ap (λ v. is_true (binary (Compare Eq Binary) (Int (pos a)) v)) (same_int (pos b)) ∙ equals a b
