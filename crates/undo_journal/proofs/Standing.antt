-- What a store is that has not failed.
use Rattle.std.specs.Prelude.{Some, None, Result, Ok, Err, OnOk}
use Rattle.std.proofs.Common.{◌≡◌, ◌+◌, ◌%◌, ◌<◌, ◌≤◌, ℕ, false, List, [], length, refl, sym, ◌∙◌, ap, subst, arith}
use Rattle.nvm_board.specs.laws.Sizes.{memory_same}
use Rattle.nvm_board.specs.declared.board.DeviceErr.{DeviceErr}
use Rattle.nvm_board.specs.Facts.{Facts, Answered, AreWords, IsMemory}
use Rattle.undo_journal.specs.declared.batch.TheConstants.{BATCH}
use Rattle.undo_journal.specs.declared.batch.Waiting.{Waiting}
use Rattle.undo_journal.specs.declared.layout.TheConstants.{PAIRS}
use Rattle.undo_journal.specs.Batches.{overlay, AreSets}
use Rattle.undo_journal.specs.laws.Told.{idle_waits}
use Rattle.undo_journal.proofs.Waits.{overlay-fits}
use Rattle.undo_journal.specs.Undo.{gate, undo, data_words, IsDataAddress, IsDataRun, IsSound}
use Rattle.undo_journal.specs.laws.Undo.{sound_shut}
use Rattle.undo_journal.specs.declared.error.StoreErr.TheVariants.{PowerLost}
use Rattle.undo_journal.specs.laws.Words.{undo-fits, data_words-fits}
use Rattle.undo_journal.specs.Memory.{Memory, committed, current, IsHeld, IsOpen, IsIdle, IsReady, IsTrueToBoard}
use Rattle.undo_journal.specs.laws.Memory.{length-committed, length-current}
use Rattle.undo_journal.proofs.Saving.{committed-shut}

-- what the invariant of a store of so many words says of its batch
pub record Fits (size used : ℕ) (waiting : List Waiting) : Type 0 where
  pub whole : used % BATCH ≡ 0
  pub few : length waiting < BATCH
  pub fits : used + length waiting ≤ PAIRS
  pub sets : AreSets size 0 waiting

pub held-fits : (facts : Facts) (used : ℕ) (waiting : List Waiting) → IsHeld facts used waiting
    → Fits (length facts.words) used waiting
held-fits facts used waiting held = record { whole = held.whole; few = held.few; fits = held.fits; sets = held.sets }

-- the same where the words stayed
pub held-kept : (facts : Facts) (words : List ℕ) (used : ℕ) (waiting : List Waiting) → words ≡ facts.words
    → IsHeld facts used waiting → Fits (length words) used waiting
held-kept facts words used waiting kept held =
    subst (λ (l : List ℕ). Fits (length l) used waiting) (sym kept) (held-fits facts used waiting held)

-- the invariant after a batch was written, with no set that waits
pub held-emptied : {T : Type 0} (result : Result T DeviceErr) (old new : Facts) (used : ℕ) (waiting : List Waiting)
    → Answered old new result → IsSound new.words → OnOk result (gate new.words ≡ used) → used % BATCH ≡ 0
    → used ≤ PAIRS → waiting ≡ [] → OnOk result (IsHeld new used waiting)
held-emptied (Ok x) old new used waiting light sound counts whole fits empty = record {
  sound = sound;
  counts = counts;
  lit = (light.ok refl).lit;
  whole = whole;
  few = omega (arith, ap (λ (l : List Waiting). length l) empty);
  fits = omega (arith, fits, ap (λ (l : List Waiting). length l) empty);
  sets = subst (λ (l : List Waiting). AreSets (length new.words) 0 l) (sym empty) tt;
}
held-emptied (Err e) old new used waiting light sound counts whole fits empty = tt

pub idle-fits : (size : ℕ) (m : Memory) → IsIdle m → Fits size m.used m.waiting
idle-fits size m idle = record {
  whole = (let none : m.used ≡ 0 = omega (arith, idle) in ap (λ (u : ℕ). u % BATCH) none);
  few = omega (arith, idle);
  fits = omega (arith, idle);
  sets = subst (λ (l : List Waiting). AreSets size 0 l) (sym (idle_waits m idle)) tt;
}

pub open-from : (m : Memory) → m.failed ≡ None → m.facts.dark ≡ false → IsMemory m.facts.words
    → AreWords m.facts.words → Fits (length m.facts.words) m.used m.waiting → IsOpen m
open-from m works lit size fit batch = record {
  works = works;
  lit = lit;
  committed_size = memory_same m.facts.words (committed m) (length-committed m) size;
  current_size = memory_same m.facts.words (current m) (length-current m) size;
  committed_fit = data_words-fits (undo m.facts.words) (undo-fits m.facts.words fit);
  current_fit = data_words-fits (overlay m.waiting m.facts.words)
      (overlay-fits (length m.facts.words) m.waiting m.facts.words 0 batch.sets fit);
}

pub ready-from : (m : Memory) → m.failed ≡ None → m.facts.dark ≡ false → IsMemory m.facts.words
    → AreWords m.facts.words → gate m.facts.words ≡ 0 → IsIdle m → IsReady m
ready-from m works lit size fit shut idle = record {
  usable = open-from m works lit size fit (idle-fits (length m.facts.words) m idle);
  idle = idle;
  shut = shut;
  same = committed-shut m.facts.words shut
      ∙ ap (λ (l : List Waiting). data_words (overlay l m.facts.words)) (sym (idle_waits m idle));
}

-- nothing in use, and nothing that waits
pub new-idle : (used : ℕ) (waiting : List Waiting) → used ≡ 0 → waiting ≡ [] → used + length waiting ≡ 0
new-idle used waiting none empty = omega (arith, none, ap (λ (l : List Waiting). length l) empty)

pub new-fits : (size used : ℕ) (waiting : List Waiting) → used ≡ 0 → waiting ≡ [] → Fits size used waiting
new-fits size used waiting none empty = record {
  whole = ap (λ (u : ℕ). u % BATCH) none;
  few = omega (arith, ap (λ (l : List Waiting). length l) empty);
  fits = omega (arith, none, ap (λ (l : List Waiting). length l) empty);
  sets = subst (λ (l : List Waiting). AreSets size 0 l) (sym empty) tt;
}

-- an address of a data word, in the words of the board
pub board-place : (m : Memory) (words : List ℕ) (a : ℕ) → words ≡ m.facts.words → IsDataAddress (current m) a
    → IsDataAddress words a
board-place m words a same place = (
  place.0,
  (let lt : a < length words =
      omega (arith, length-current m, ap (λ (l : List ℕ). length l) same, place.1) in lt),
)

-- a store that has not failed, whose gate is 0, with nothing in use
pub true-shut : (m : Memory) → m.failed ≡ None → gate m.facts.words ≡ 0 → IsIdle m → m.facts.dark ≡ false
    → IsTrueToBoard m
true-shut m works shut idle lit = record {
  works = λ _.
      let batch = idle-fits (length m.facts.words) m idle in
      let none : m.used ≡ 0 = omega (arith, idle) in
      record {
        sound = sound_shut m.facts.words shut;
        counts = shut ∙ sym none;
        lit = lit;
        whole = batch.whole;
        few = batch.few;
        fits = batch.fits;
        sets = batch.sets;
      };
  lost = λ lost. let none : m.failed ≡ None = works in let some : m.failed ≡ Some PowerLost = lost in cc;
}

-- a run of data words, in the words of the board
pub board-run : (m : Memory) (words : List ℕ) (a n : ℕ) → words ≡ m.facts.words → IsDataRun (current m) a n
    → IsDataRun words a n
board-run m words a n same run = (
  run.0,
  (let le : a + n ≤ length words =
      omega (arith, length-current m, ap (λ (l : List ℕ). length l) same, run.1) in le),
)
