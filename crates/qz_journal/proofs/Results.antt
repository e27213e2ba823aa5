-- What follows where a call answered `Ok`.
use Rattle.std.proofs.Common.{Result, Ok, Err, OnOk}

pub on_ok_both : {T E : Type 0} (result : Result T E) {P Q R : Type 0} → OnOk result P → OnOk result Q → (P → Q → R) → OnOk result R
on_ok_both (Ok x) p q both = both p q
on_ok_both (Err e) p q both = p
