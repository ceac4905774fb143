-- What the tests of a number of records tell of refusals.
use Rattle.std.proofs.Common.{sym, ◌∙◌, ap₂, arith, subst}
use Rattle.std.proofs.lemmas.Bool.{le-leb}
use Rattle.std.specs.Prelude.{◌≡◌, ◌≤◌, ◌↔◌, ◌&&◌, ℕ, Bool, true, false, List, length, IsTrue, Option, Some, None}
use Rattle.std.specs.Prelude.{Result, Ok, Err, IsErrAnd, OnOk, option_map}
use Rattle.std.specs.Result.{result_err}
use Rattle.card_model.specs.declared.status.Sw.{Sw}
use Rattle.undo_journal.specs.declared.error.StoreErr.{StoreErr}
use Rattle.undo_journal.specs.laws.Told.{told_is}
use Rattle.ef_contents.specs.declared.error.BodyErr.{BodyErr}
use Rattle.ef_contents.specs.declared.error.BodyErr.TheVariants.{Refused, Store}
use Rattle.card_model.specs.RecordLists.{has_record}
use Rattle.ef_contents.specs.Refusals.{why_failed, Decides, DecidesUnlessFailed, WhereRefused}

-- what a test that gave false tells
pub not_so : (b : Bool) (fact : Type 0) → (IsTrue b ↔ fact) → b ≡ false → fact → ⊥
not_so b fact tells is holds = let yes : b ≡ true = tells.1 holds in let z : true ≡ false = sym yes ∙ is in cc

-- whether there is a record of a number
pub there : (records : List (List ℕ)) (n number : ℕ) → length records ≡ n → 1 ≤ number → number ≤ n
    → has_record records number ≡ true
there records n number many some most =
    let within : number ≤ length records = omega (arith, many, most) in
    ap₂ (λ (a b : Bool). a && b) (le-leb 1 number some) (le-leb number (length records) within)

-- what a call answers that nothing refuses is the store's answer
module _ {T U : Type 0} (r : Result T StoreErr) (s : Result U BodyErr)
    (is : result_err s ≡ option_map Store (result_err r)) where
  pub store_decides : (refusal : Option Sw) → refusal ≡ None → Decides refusal (result_err s)
  store_decides refusal none =
      subst (λ (answer : Option BodyErr). Decides refusal answer) (sym is) (decides (result_err r))
    where
      decides : (told : Option StoreErr) → Decides refusal (option_map Store told)
      decides None = none
      decides (Some e) = none

  pub store_refuses : (fact : Type 0) → WhereRefused (result_err s) fact
  store_refuses fact = subst (λ (answer : Option BodyErr). WhereRefused answer fact) (sym is) (refuses (result_err r))
    where
      refuses : (told : Option StoreErr) → WhereRefused (option_map Store told) fact
      refuses None = tt
      refuses (Some e) = tt

  pub store_told : (P : Option StoreErr → Type 0) → P (result_err r) → P (why_failed (result_err s))
  store_told P holds =
      subst (λ (answer : Option BodyErr). P (why_failed answer)) (sym is) (told (result_err r) holds)
    where
      told : (told : Option StoreErr) → P told → P (why_failed (option_map Store told))
      told None holds = holds
      told (Some e) holds = holds

  pub store_done : (fact : Type 0) → OnOk r fact → OnOk s fact
  store_done = done r s is
    where
      done : (r : Result T StoreErr) (s : Result U BodyErr) → result_err s ≡ option_map Store (result_err r)
          → (fact : Type 0) → OnOk r fact → OnOk s fact
      done (Ok x) (Ok y) is fact holds = holds
      done (Err e) (Ok y) is fact holds = cc
      done r (Err e) is fact holds = tt

-- what the store's success tells, where its answer is a body's
pub store_ok : {T : Type 0} (r : Result T StoreErr) → None ≡ option_map Store (result_err r) → (fact : Type 0)
    → OnOk r fact → fact
store_ok (Ok x) is fact holds = holds
store_ok (Err e) is fact holds = cc

-- what a look refuses, handed on
module _ {T : Type 0} (r : Result T BodyErr) (status : Sw) (is : IsErrAnd r (λ b. b ≡ Refused status)) where
  pub refused_undecided : (refusal : Option Sw) → refusal ≡ Some status → DecidesUnlessFailed refusal (result_err r)
  refused_undecided refusal due =
      subst (λ (answer : Option BodyErr). DecidesUnlessFailed refusal answer) (told_is r (Refused status) is) due
