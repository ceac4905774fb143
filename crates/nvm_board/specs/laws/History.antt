-- Laws of the runs that a board wrote, over calls in a row.
use Rattle.std.specs.Prelude.{◌≡◌, ◌<◌, ◌≤◌, ◌+◌, ◌-◌, ◌++◌, ℕ, true, List, [], ◌∷◌, Option, length, slice_index}
use Rattle.std.specs.Prelude.{slice_range}
use Rattle.std.proofs.Common.{refl, sym, ◌∙◌, ap, inl, inr, drop, arith, length-append, length-take, length-drop}
use Rattle.std.proofs.Common.{get_or-take, get_or-drop}
use Rattle.std.proofs.lemmas.Bool.{cases_lt}
use Rattle.std.proofs.lemmas.Grind.{same_number_lists}
use Rattle.nvm_board.specs.Facts.{Facts}
use Rattle.nvm_board.specs.Torn.{Torn}
use Rattle.nvm_board.specs.laws.Torn.{length-Torn, Torn-elsewhere, length-written, written-elsewhere, written-inside}
use Rattle.nvm_board.specs.History.{Log, Run, and_run, and_runs, replayed, run_in, written}
use Rattle.nvm_board.specs.Aims.{WritesRuns, events}

-- two lists of runs in a row
pub replayed-append : (words : List ℕ) (first rest : List Run)
    → replayed words (first ++ rest) ≡ replayed (replayed words first) rest
replayed-append words [] rest = refl
replayed-append words (run ∷ first) rest = replayed-append (written words run.at run.words) first rest

pub and_runs-append : (log : Option Log) (first rest : List Run)
    → and_runs log (first ++ rest) ≡ and_runs (and_runs log first) rest
and_runs-append log [] rest = refl
and_runs-append log (run ∷ first) rest = and_runs-append (and_run log run) first rest

-- a word of a run that a memory has
range-index : (after : List ℕ) (at size k : ℕ) → k < size
    → slice_index (slice_range after at (at + size)) k ≡ slice_index after (at + k)
range-index after at size k lt =
    let below : k < at + size - at = omega arith in
    get_or-take (at + size - at) (drop at after) k 0 below ∙ get_or-drop at after k 0

length-range : (after : List ℕ) (at size : ℕ) → at + size ≤ length after
    → length (slice_range after at (at + size)) ≡ size
length-range after at size fits =
    let behind = length-drop at after in
    let taken = length-take (at + size - at) (drop at after) in
    omega (arith, behind, taken, fits)

-- A write that is torn leaves the same as a whole write of the words that are then there.
pub written-Torn : (m run after : List ℕ) (at : ℕ) → Torn m at run after
    → written m at (run_in after at (length run)).words ≡ after
written-Torn m run after at torn =
    let left = (run_in after at (length run)).words in
    let size = length-Torn m run after at torn in
    let behind = length-drop at after in
    let taken : length left ≡ _ = length-take (at + length run - at) (drop at after) in
    same_number_lists (written m at left) after (length-written m left at ∙ sym size) (λ k lt.
    let within : k < length m = let all = length-written m left at in omega (arith, lt, all) in
    elim (cases_lt k at) [
      | inl before ↦ written-elsewhere m left at k (inl before)
          ∙ sym (Torn-elsewhere m run after at k torn (inl before))
      | inr from ↦ elim (cases_lt k (at + length run)) [
        | inl inside ↦
            let place : at + (k - at) ≡ k = omega arith in
            let fits : at + length left ≤ length m = omega (arith, behind, taken, size, within, from) in
            let below : k - at < length left = omega (arith, behind, taken, size, within, from, inside) in
            let near : k - at < length run = omega (arith, from, inside) in
            ap (λ (j : ℕ). slice_index (written m at left) j) (sym place)
            ∙ written-inside m left at (k - at) fits below ∙ range-index after at (length run) (k - at) near
            ∙ ap (λ (j : ℕ). slice_index after j) place
        | inr past ↦
            let far : at + length left ≤ k = omega (arith, taken, past) in
            written-elsewhere m left at k (inr far) ∙ sym (Torn-elsewhere m run after at k torn (inr past))
      ]
    ])

-- no call at all
unfoldable pub wrote_same : (f : Facts) → WritesRuns f f
wrote_same f = record { runs = []; words = refl; log = refl; counted = omega arith }

-- calls that write nothing
unfoldable pub wrote_none : (old new : Facts) → new.words ≡ old.words → new.log ≡ old.log → events old ≤ events new
    → WritesRuns old new
wrote_none old new words log more = record { runs = []; words = words; log = log; counted = omega (arith, more) }

-- a write that is an event
unfoldable pub wrote_one : (at : ℕ) (run : List ℕ) (old new : Facts) → Torn old.words at run new.words
    → new.log ≡ and_run old.log (run_in new.words at (length run)) → events old < events new → WritesRuns old new
wrote_one at run old new torn log event = record {
  runs = run_in new.words at (length run) ∷ [];
  words = sym (written-Torn old.words run new.words at torn);
  log = log;
  counted = omega (arith, event);
}

-- calls in a row
unfoldable pub wrote_then : (a b c : Facts) → WritesRuns a b → WritesRuns b c → WritesRuns a c
wrote_then a b c first rest = record {
  runs = first.runs ++ rest.runs;
  words = rest.words ∙ ap (λ (m : List ℕ). replayed m rest.runs) first.words
      ∙ sym (replayed-append a.words first.runs rest.runs);
  log = rest.log ∙ ap (λ (l : Option Log). and_runs l rest.runs) first.log
      ∙ sym (and_runs-append a.log first.runs rest.runs);
  counted = let all = length-append first.runs rest.runs in omega (arith, all, first.counted, rest.counted);
}

-- calls, and then power off
unfoldable pub wrote_off : (old new : Facts) → WritesRuns old new → WritesRuns old (record new { dark = true })
wrote_off old new wrote = record {
  runs = wrote.runs;
  words = wrote.words;
  log = wrote.log;
  counted = wrote.counted;
}
