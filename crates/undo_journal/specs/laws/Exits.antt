-- What is said at the exits of a function that answers a result.
use Rattle.std.specs.Prelude.{◌≡◌, Option, Some, Result, Ok, Err, IsErrAnd, IfOk, OnOk, OnErr}
use Rattle.std.specs.Result.{result_err}
use Rattle.std.proofs.Common.{sym, ◌∙◌, ap}

-- of a success, said in other words
pub on_then : {T E : Type 0} (P Q : Type 0) (r : Result T E) → (P → Q) → OnOk r P → OnOk r Q
on_then P Q (Ok v) f h = f h
on_then P Q (Err e) f h = tt

-- a fact that holds whatever is answered holds of a success, and of an error
pub ok_anyway : {T E : Type 0} (P : Type 0) (r : Result T E) → P → OnOk r P
ok_anyway P (Ok v) h = h
ok_anyway P (Err e) h = tt

pub err_anyway : {T E : Type 0} (P : Type 0) (r : Result T E) → P → OnErr r P
err_anyway P (Ok v) h = tt
err_anyway P (Err e) h = h

-- an error is no answer, so nothing is said of one
pub none_ok : {T E : Type 0} (result : Result T E) (e : E) (P : T → Type 0) → IsErrAnd result (λ f. f ≡ e)
    → IfOk result P
none_ok (Ok v) e P is = absurd is
none_ok (Err f) e P is = tt

-- the error that is handed on is the one that was told
pub error_tells : {T E : Type 0} (failed : Option E) (result : Result T E) (e : E) → IsErrAnd result (λ f. f ≡ e)
    → failed ≡ Some e → failed ≡ result_err result
error_tells failed (Ok v) e is told = absurd is
error_tells {T} {E} failed (Err f) e is told = told ∙ ap (λ (x : E). Some x) (sym is)
