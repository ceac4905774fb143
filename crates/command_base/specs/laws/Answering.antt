-- What is said of a value or an error, said in other words.
use Rattle.std.proofs.Common.{Result, Ok, Err, IfOk}

-- two things said of a value
pub ok_both : {T E : Type 0} (P Q R : T → Type 0) (r : Result T E) → ((x : T) → P x → Q x → R x) → IfOk r P
    → IfOk r Q → IfOk r R
ok_both P Q R (Ok x) f p q = f x p q
ok_both P Q R (Err e) f p q = tt
