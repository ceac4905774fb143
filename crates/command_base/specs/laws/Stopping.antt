-- What stops a command, or a part of it, and is handed on.
use Rattle.std.proofs.Common.{◌≡◌, Result, Ok, Err, OnOk, MatchResult, Option, Some, ℕ, refl, sym, ap, subst}
use Rattle.std.specs.Result.{IsErrAnd}
use Rattle.card_model.specs.declared.status.Sw.{Sw}
use Rattle.undo_journal.specs.declared.error.StoreErr.{StoreErr}
use Rattle.undo_journal.specs.StoreCalls.{Changes, Reads}
use Rattle.undo_journal.specs.Memory.{Memory}
use Rattle.ef_contents.specs.declared.error.BodyErr.{BodyErr}
use Rattle.ef_contents.specs.declared.error.BodyErr.TheVariants as body
use Rattle.ef_contents.specs.Refusals.{Decides, DecidesUnlessFailed, why_failed as body_failure}
use Rattle.ef_contents.specs.Refusals.{WhereRefused as body_refused}
use Rattle.command_base.specs.declared.stop.Stop.{Stop}
use Rattle.command_base.specs.declared.stop.Stop.TheVariants.{Refused, Failed}
use Rattle.command_base.specs.Stops.{failure, failure_of, reply, stop_of_body, FindsOrRefuses, IfRefused}

-- an error that is one is this one
pub err-is : {T E : Type 0} (r : Result T E) (e : E) → IsErrAnd r (λ f. f ≡ e) → r ≡ Err e
err-is (Ok x) e is = absurd is
err-is (Err f) e is = ap Err is

-- and of a success nothing is said
pub none-done : {T E : Type 0} (r : Result T E) (e : E) (P : Type 0) → IsErrAnd r (λ f. f ≡ e) → OnOk r P
none-done (Ok x) e P is = absurd is
none-done (Err f) e P is = tt

-- a store that failed is answered so
pub reply-failed : (r : Result Sw Stop) (e : StoreErr) → IsErrAnd r (λ f. f ≡ Failed e)
    → IsErrAnd (reply r) (λ f. f ≡ e)
reply-failed r e is =
    subst (λ (s : Result Sw Stop). IsErrAnd (reply s) (λ f. f ≡ e)) (sym (err-is r (Failed e) is)) (λ i. e)

-- and of what it was to do nothing is said
pub none-failed : (r : Result Sw Stop) (e : StoreErr) (P : Type 0) → IsErrAnd r (λ f. f ≡ Failed e) → OnOk (reply r) P
none-failed r e P is = none-done (reply r) e P (reply-failed r e is)

-- what is said of a refusal, said in other words
pub refused-weaker : (stop : Stop) (P Q : Sw → Type 0) → ((status : Sw) → P status → Q status) → IfRefused stop P
    → IfRefused stop Q
refused-weaker (Refused status) P Q weaker said = weaker status said
refused-weaker (Failed e) P Q weaker said = tt

-- what a look tells, where what stopped it is handed on
module _ {T : Type 0} (r : Result T Stop) (stop : Stop) (is : IsErrAnd r (λ f. f ≡ stop)) where
  pub finds-stopped : (P : T → Type 0) (Q : Sw → Type 0) → IfRefused stop Q → FindsOrRefuses r P Q
  finds-stopped P Q said = subst (λ (s : Result T Stop). FindsOrRefuses s P Q) (sym (err-is r stop is)) said

  pub reads-stopped : (a b : Memory) → Reads a b (failure_of stop) → Reads a b (failure r)
  reads-stopped a b reads = subst (λ (s : Result T Stop). Reads a b (failure s)) (sym (err-is r stop is)) reads

  pub changes-stopped : (n : ℕ) (a b : Memory) → Changes n a b (failure_of stop) → Changes n a b (failure r)
  changes-stopped n a b changes =
      subst (λ (s : Result T Stop). Changes n a b (failure s)) (sym (err-is r stop is)) changes

-- a command on a body that stops: it is refused where that is due, or the store failed
pub body-failed : (e : BodyErr) → body_failure (Some e) ≡ failure_of (stop_of_body e)
body-failed (body.Refused status) = refl
body-failed (body.Store e) = refl

pub body-reads : (a b : Memory) (e : BodyErr) → Reads a b (body_failure (Some e))
    → Reads a b (failure_of (stop_of_body e))
body-reads a b e reads = subst (λ (told : Option StoreErr). Reads a b told) (body-failed e) reads

pub body-said : (due : Option Sw) (kept : Type 0) (Q : Sw → Type 0) (e : BodyErr) → Decides due (Some e)
    → body_refused (Some e) kept → ((status : Sw) → due ≡ Some status → kept → Q status) → IfRefused (stop_of_body e) Q
body-said due kept Q (body.Refused status) decides stays say = say status decides stays
body-said due kept Q (body.Store e) decides stays say = tt

pub body-decided : (due : Option Sw) (Q : Sw → Type 0) (e : BodyErr) → DecidesUnlessFailed due (Some e)
    → ((status : Sw) → due ≡ Some status → Q status) → IfRefused (stop_of_body e) Q
body-decided due Q (body.Refused status) decides say = say status decides
body-decided due Q (body.Store e) decides say = tt

-- and where it is refused what stayed serves for what is said of an answer
pub body-kept : (r : Result Sw Stop) (e : BodyErr) → IsErrAnd r (λ f. f ≡ stop_of_body e) → (kept P : Type 0)
    → body_refused (Some e) kept → (kept → P) → OnOk (reply r) P
body-kept r e is kept P said serves =
    subst (λ (s : Result Sw Stop). OnOk (reply s) P) (sym (err-is r (stop_of_body e) is)) (by e said)
  where
    by : (e : BodyErr) → body_refused (Some e) kept → OnOk (reply (Err (stop_of_body e))) P
    by (body.Refused status) said = serves said
    by (body.Store e) said = tt

-- a look that is told by an answer without a store
pub finds-by : {T : Type 0} (P : T → Type 0) (Q : Sw → Type 0) (due : Result T Sw) (r : Result T Stop)
    → ((answer : Result T Sw) → due ≡ answer → MatchResult answer P Q)
    → FindsOrRefuses r (λ x. due ≡ Ok x) (λ status. due ≡ Err status) → FindsOrRefuses r P Q
finds-by {T} P Q due (Ok x) say is = say (Ok x) is
finds-by {T} P Q due (Err (Refused status)) say is = say (Err status) is
finds-by {T} P Q due (Err (Failed e)) say is = tt
