-- Faults of a script that a function passes on by `?`.
use Rattle.std.specs.Prelude.{◌≡◌, ℕ, List, Option, Result, Ok, Err, IfErr, IsErrAnd, MatchResult}
use Rattle.std.proofs.Common.{◌∙◌, sym, subst}
use Rattle.card_sweeps.specs.declared.stop.SweepStop.{SweepStop}
use Rattle.card_sweeps.specs.declared.stop.SweepStop.TheVariants.{Differs}
use Rattle.card_sweeps.specs.declared.fault.LineError.{LineError}
use Rattle.card_sweeps.specs.declared.fault.LineStop.{LineStop}
use Rattle.card_sweeps.specs.declared.fault.LineStop.TheVariants as stop
use Rattle.card_sweeps.specs.declared.fault.SweepFault.{SweepFault}
use Rattle.card_sweeps.specs.declared.fault.SweepFault.TheVariants.{Memory}
use Rattle.card_sweeps.specs.Asking.{Asked, Refuses}
use Rattle.card_sweeps.specs.SweepEndings.{ReadingStopsBy}

-- too little memory for a line
pub memory_refuses : {T : Type 0} (r : Result T LineStop) (P : T → Type 0)
    (taken : Result Asked LineError)
    → IsErrAnd r (λ it. it ≡ stop.Memory) → MatchResult r P (λ it. Refuses it taken)
memory_refuses (Ok t) P taken is = absurd is
memory_refuses (Err e) P taken is = subst (λ (s : LineStop). Refuses s taken) (sym is) tt

-- too little memory, while the script is read
pub memory-passed : {T : Type 0} (r : Result T SweepFault) (script left : Option (List ℕ))
    → IsErrAnd r (λ fault. fault ≡ Memory) → IfErr r (λ fault. ReadingStopsBy fault script left)
memory-passed (Ok t) script left is = tt
memory-passed (Err e) script left is = subst (λ (f : SweepFault). ReadingStopsBy f script left) (sym is) tt

-- runs that differ, passed on
pub differs-on : {T : Type 0} (r : Result T SweepStop) (why : SweepStop) (Was Is : Type 0) → IsErrAnd r (λ s. s ≡ why)
    → (Was → Is) → (why ≡ Differs → Was) → IfErr r (λ s. s ≡ Differs → Is)
differs-on (Ok t) why Was Is same then was = tt
differs-on (Err e) why Was Is same then was = λ is. then (was (sym same ∙ is))
