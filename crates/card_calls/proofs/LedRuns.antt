-- The first run that an order wrote is the next one of its log that a device lacks.
use Rattle.std.specs.Prelude.{◌≡◌, ◌<◌, ◌≤◌, ◌+◌, ◌-◌, ◌*◌, ◌/◌, ◌%◌, ◌^◌, ◌++◌, ◌∷◌, ℕ, true, List, [], length, drop}
use Rattle.std.specs.Prelude.{Option, None, Some, get_or, is_some}
use Rattle.std.proofs.Common.{◌∙◌, ap, append_assoc, arith, drop-drop, get_or-drop, length-append, length-drop, refl}
use Rattle.std.proofs.Common.{subst, sym}
use Rattle.std.proofs.Math.Seq.{drop-append_seam}
use Rattle.std.proofs.lemmas.List.{append-nil, drop-append-le}
use Rattle.std.proofs.lemmas.Option.{get_or_from_slice_get}
use Rattle.nvm_board.specs.History.{Log, Run, and_runs, logged}
use Rattle.card_calls.specs.Devices.{AllStored, TellsNext, fresh_count, run_of}
use Rattle.card_calls.specs.FirstWrites.{IsAsAnnounced}
use Rattle.card_calls.specs.PaidOrders.{IsLedBy}
use Rattle.card_calls.specs.declared.write_log.NextWrite.{NextWrite}
use Rattle.card_calls.specs.declared.write_log.NextWrite.TheVariants as next

-- a log after some runs: the last of all, and their number, but for what it carried
record IsLogAfter (log : Log) (runs : List Run) (after : Option Log) : Type 0 where
  drops : ℕ
  count : ℕ
  carries : ℕ
  is : after ≡ Some (record { runs = drop drops (log.runs ++ runs); room = log.room; count = count })
  counts : count + 2 ^ 64 * carries ≡ log.count + length runs

log-after : (log : Log) (runs : List Run) → IsLogAfter log runs (and_runs (Some log) runs)
log-after log [] = record {
  drops = 0;
  count = log.count;
  carries = 0;
  is = ap (λ (runs : List Run). Some (record { runs = runs; room = log.room; count = log.count }))
      (sym (append-nil log.runs));
  counts = omega arith;
}
log-after log (run ∷ runs) =
    let rest = log-after (logged log run) runs in
    let one = log.runs ++ run ∷ [] in
    let gone = length one - log.room in
    let within : gone ≤ length one = omega arith in
    let joined : drop gone one ++ runs ≡ drop gone (log.runs ++ run ∷ runs) =
    sym (drop-append-le gone one runs within)
    ∙ ap (λ (all : List Run). drop gone all) (append_assoc log.runs (run ∷ []) runs) in
    let counts : rest.count + 2 ^ 64 * rest.carries ≡ (log.count + 1) % 2 ^ 64 + length runs = rest.counts in
    record {
      drops = gone + rest.drops;
      count = rest.count;
      carries = rest.carries + (log.count + 1) / 2 ^ 64;
      is = rest.is ∙ ap (λ (all : List Run). Some (record { runs = all; room = log.room; count = rest.count }))
          (ap (λ (all : List Run). drop rest.drops all) joined
          ∙ drop-drop rest.drops gone (log.runs ++ run ∷ runs));
      counts = omega (arith, counts);
    }

-- the run behind those of a list
get-seam : (runs : List Run) (run : Run) (rest : List Run) → get_or (runs ++ run ∷ rest) (length runs) run ≡ run
get-seam runs run rest =
    let place : length runs ≡ length runs + 0 = omega arith in
    ap (λ (k : ℕ). get_or (runs ++ run ∷ rest) k run) place
    ∙ sym (get_or-drop (length runs) (runs ++ run ∷ rest) 0 run)
    ∙ ap (λ (all : List Run). get_or all 0 run) (drop-append_seam runs (run ∷ rest))

module _ (log : Log) (stored : ℕ) (all_stored : fresh_count stored log.count ≡ 0) where
  -- the writes that the device lacks are those of the runs
  fresh : (runs : List Run) (after : Option Log) (is : IsLogAfter log runs after) → length runs < 2 ^ 64
      → fresh_count stored is.count ≡ length runs
  fresh runs after is few = let counts = is.counts in omega (arith, all_stored, few, counts)

  led-next : (runs : List Run) (after : Option Log) (is : IsLogAfter log runs after) → length runs < 2 ^ 64
      → (answer : NextWrite) (first : Option Run)
      → TellsNext (Some (record { runs = drop is.drops (log.runs ++ runs); room = log.room; count = is.count })) stored
      answer → IsAsAnnounced first answer → IsLedBy first runs
  led-next [] after is few next.Nothing None tells so = refl
  led-next [] after is few next.Nothing (Some run) tells so = absurd so
  led-next [] after is few (next.Write w) first tells so = absurd (tells.0 (fresh [] after is few))
  led-next [] after is few next.Lost None tells so = absurd so
  led-next [] after is few next.Lost (Some run) tells so = absurd so
  led-next (run ∷ runs) after is few next.Nothing first tells so =
      let none = fresh (run ∷ runs) after is few in absurd (omega (arith, none, tells))
  led-next (run ∷ runs) after is few next.Lost None tells so = absurd so
  led-next (run ∷ runs) after is few next.Lost (Some told) tells so = absurd so
  led-next (run ∷ runs) after is few (next.Write w) None tells so = absurd so
  led-next (run ∷ runs) after is few (next.Write w) (Some told) tells so =
      let all = log.runs ++ run ∷ runs in
      let left = drop is.drops all in
      let lacks = fresh (run ∷ runs) after is few in
      let size : length left ≡ length all - is.drops = length-drop is.drops all in
      let whole : length all ≡ length log.runs + length (run ∷ runs) = length-append log.runs (run ∷ runs) in
      let fits : fresh_count stored is.count ≤ length left = tells.1 in
      let place : is.drops + (length left - fresh_count stored is.count) ≡ length log.runs =
      omega (arith, lacks, size, whole, fits) in
      let at = length left - fresh_count stored is.count in
      ap Some (sym so ∙ sym (get_or_from_slice_get left at (run_of w) run tells.2) ∙ get_or-drop is.drops all at run
      ∙ ap (λ (k : ℕ). get_or all k run) place ∙ get-seam log.runs run runs)

-- an order that begins with the write that was announced
pub led_by : (log now : Option Log) (stored : ℕ) (runs : List Run) (answer : NextWrite) (first : Option Run)
    → is_some log ≡ true → AllStored log stored → now ≡ and_runs log runs → length runs < 2 ^ 64
    → TellsNext now stored answer → IsAsAnnounced first answer → IsLedBy first runs
led_by None now stored runs answer first some all same few tells so = absurd cc
led_by (Some log) now stored runs answer first some all same few tells so =
    let is = log-after log runs in
    led-next log stored all runs (and_runs (Some log) runs) is few answer first
    (subst (λ (l : Option Log). TellsNext l stored answer) (same ∙ is.is) tells) so
