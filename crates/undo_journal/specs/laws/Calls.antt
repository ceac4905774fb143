-- Laws of calls in a row: reads, and the sets of a transaction.
use Rattle.std.proofs.Common.{◌≡◌, ◌+◌, ◌-◌, ◌≤◌, ◌<◌, ℕ, zero, suc, List, length, IsSome, refl, sym, ap, subst}
use Rattle.std.specs.Prelude.{Option, Some, None}
use Rattle.std.proofs.Common.{◌∙◌, arith}
use Rattle.std.proofs.Math.Logic.{⊎_map}
use Rattle.nvm_board.specs.Facts.{address, Facts}
use Rattle.nvm_board.specs.declared.board.TheConstants.{PAGE_WORDS}
use Rattle.nvm_board.specs.laws.Aims.{aim_same, aims_kept, aims_stay, aims_then}
use Rattle.undo_journal.specs.declared.batch.Waiting.{Waiting}
use Rattle.undo_journal.specs.declared.txn.Txn.{Txn}
use Rattle.undo_journal.specs.Batches.{look_up, batch_writes, touched_pages}
use Rattle.undo_journal.specs.Lent.{memory_of}
use Rattle.undo_journal.specs.Commits.{RisesEarly}
use Rattle.undo_journal.specs.Memory.{Memory, InRuns, EndsAt, ContinuesRun, Reports, run_writes}
use Rattle.undo_journal.specs.Undo.{gate}
use Rattle.undo_journal.specs.declared.error.StoreErr.{StoreErr}
use Rattle.undo_journal.specs.laws.LastWrites.{last_none, last_then}
use Rattle.undo_journal.specs.laws.Memory.{reports_same, reports_then}
use Rattle.undo_journal.specs.Spending.{Advances, KeepsBoard, WritesAtMost}
use Rattle.undo_journal.specs.StoreCalls.{OnlyReads, TxnReads, Sets}

-- a board that is kept costs nothing
pub keeping_spends : (n : ℕ) (a b : Facts) → KeepsBoard a b → WritesAtMost n a b
keeping_spends n a b kept = record {
  writes = omega (arith, kept.writes);
  more = omega (arith, kept.writes);
  cut = aims_kept a b kept.words kept.cut;
  compares = kept.compares;
  matches = kept.matches;
}

-- no call keeps the board
pub boards_same : (f : Facts) → KeepsBoard f f
boards_same f = record { cut = aim_same f; words = refl; writes = refl; compares = refl; matches = refl }

-- a board that is kept, and kept on
pub boards_then : (a b c : Facts) → KeepsBoard a b → KeepsBoard b c → KeepsBoard a c
boards_then a b c first rest = record {
  cut = aims_stay a b c first.cut rest.cut;
  words = rest.words ∙ first.words;
  writes = rest.writes ∙ first.writes;
  compares = rest.compares ∙ first.compares;
  matches = rest.matches ∙ first.matches;
}

-- what is spent after a board was kept, and before it is
pub spends_after : (n : ℕ) (a b c : Facts) → KeepsBoard a b → WritesAtMost n b c → WritesAtMost n a c
spends_after n a b c kept costs = record {
  writes = omega (arith, kept.writes, costs.writes);
  more = omega (arith, kept.writes, costs.more);
  cut = aims_then a b c (aims_kept a b kept.words kept.cut) costs.cut;
  compares = costs.compares ∙ kept.compares;
  matches = costs.matches ∙ kept.matches;
}

-- what was written is counted on
pub advances_by : (n : ℕ) (a b : Facts) → WritesAtMost n a b → Advances a b
advances_by n a b costs = record { more = costs.more; cut = costs.cut }

pub advances_kept : (a b : Facts) → KeepsBoard a b → Advances a b
advances_kept a b kept = record { more = omega (arith, kept.writes); cut = aims_kept a b kept.words kept.cut }

pub advances_then : (a b c : Facts) → Advances a b → Advances b c → Advances a c
advances_then a b c first rest = record {
  more = omega (arith, first.more, rest.more);
  cut = aims_then a b c first.cut rest.cut;
}

-- reads cost nothing
pub reads_spend : (n : ℕ) (a b : Memory) → OnlyReads a b → WritesAtMost n a.facts b.facts
reads_spend n a b reads = keeping_spends n a.facts b.facts reads.board

-- a bound may be higher
pub within_more : (n k : ℕ) (f g : Facts) → n ≤ k → WritesAtMost n f g → WritesAtMost k f g
within_more n k f g fits costs = record {
  writes = omega (arith, fits, costs.writes);
  more = costs.more;
  cut = costs.cut;
  compares = costs.compares;
  matches = costs.matches;
}

-- reads before cost nothing
pub writes_after : (n : ℕ) (a b : Memory) (f : Facts) → OnlyReads a b → WritesAtMost n b.facts f
    → WritesAtMost n a.facts f
writes_after n a b f reads costs = spends_after n a.facts b.facts f reads.board costs

-- no read at all
pub reads_same : (m : Memory) → OnlyReads m m
reads_same m = record {
  board = record { cut = aim_same m.facts; words = refl; writes = refl; compares = refl; matches = refl };
  keeps = record { committed_words = refl; current_words = refl; taken = refl; waiting = refl };
  reports = reports_same m;
}

-- reads in a row
pub reads_then : (a b c : Memory) → OnlyReads a b → OnlyReads b c → OnlyReads a c
reads_then a b c first rest = record {
  board = boards_then a.facts b.facts c.facts first.board rest.board;
  keeps = record {
    committed_words = rest.keeps.committed_words ∙ first.keeps.committed_words;
    current_words = rest.keeps.current_words ∙ first.keeps.current_words;
    taken = rest.keeps.taken ∙ first.keeps.taken;
    waiting = rest.keeps.waiting ∙ first.keeps.waiting;
  };
  reports = reports_then a b c first.reports rest.reports;
}

-- reads in a row in a transaction
pub txn_reads_then : {B : Type 0} (a b c : Txn B) → TxnReads a b → TxnReads b c → TxnReads a c
txn_reads_then a b c first rest = record
    { same_store = rest.same_store ∙ first.same_store; reads = reads_then _ _ _ first.reads rest.reads }

-- runs in a row
pub runs_then : (i k n : ℕ) (a b c : Memory) → i + k ≤ n → InRuns i a b → InRuns k b c → InRuns n a c
runs_then i k n a b c fits first rest = record {
  writes = omega (arith, fits, first.writes, rest.writes);
  more = omega (arith, first.more, rest.more);
  cut = aims_then a.facts b.facts c.facts first.cut rest.cut;
  compares = rest.compares ∙ first.compares;
  matches = rest.matches ∙ first.matches;
}

-- reads make none
pub reads_runs : (n : ℕ) (a b : Memory) → OnlyReads a b → InRuns n a b
reads_runs n a b reads = record {
  writes = omega (
    arith,
    reads.board.writes,
    ap batch_writes reads.keeps.waiting,
    ap (λ (t : ℕ). run_writes t) reads.keeps.taken,
  );
  more = omega (arith, reads.board.writes);
  cut = aims_kept a.facts b.facts reads.board.words reads.board.cut;
  compares = reads.board.compares;
  matches = reads.board.matches;
}

-- fewer runs are at most as many
pub runs_weaker : (i n : ℕ) (a b : Memory) → i ≤ n → InRuns i a b → InRuns n a b
runs_weaker i n a b fits runs = record {
  writes = omega (arith, fits, runs.writes);
  more = runs.more;
  cut = runs.cut;
  compares = runs.compares;
  matches = runs.matches;
}

-- words of one page are one run
pub runs_in_page : (page place at n : ℕ) (a b : Memory) → at ≡ address page place → place + n ≤ PAGE_WORDS
    → InRuns (touched_pages at n) a b → InRuns 1 a b
runs_in_page page place at n a b is fits runs = runs_weaker (touched_pages at n) 1 a b (few n fits) runs
  where
    few : (k : ℕ) → place + k ≤ PAGE_WORDS → touched_pages at k ≤ 1
    few zero fits = omega arith
    few (suc k) fits = omega (arith, is, fits)

-- reads leave the end of a run
pub ends_kept : (a b : Memory) (at : ℕ) → OnlyReads a b → EndsAt a at → EndsAt b at
ends_kept a b at reads ends = ⊎_map
    (λ begun. (
      reads.keeps.waiting ∙ begun.0,
      (let u : 0 < b.used =
          omega (arith, reads.keeps.taken, ap (λ (l : List Waiting). length l) reads.keeps.waiting, begun.1) in u),
    ))
    (λ waits. subst (λ (l : List Waiting). IsSome (look_up at l)) (sym reads.keeps.waiting) waits) ends

pub goes_on_kept : (a b : Memory) (at : ℕ) → OnlyReads a b → ContinuesRun a at → ContinuesRun b at
goes_on_kept a b at reads goes = (goes.0, ends_kept a b (at - 1) reads goes.1)

-- the gate of a transaction, over calls in a row
stops_early : (a b c : Memory) → Reports b c → RisesEarly a b → gate b.facts.words ≡ 0
    → c.facts.writes ≤ b.facts.writes + 2 → (f : Option StoreErr) → b.failed ≡ f
    → c.facts.writes ≤ a.facts.writes + 2
stops_early a b c reports first shut few None is =
    let early = (first shut).2 is in
    omega (arith, early, few)
stops_early a b c reports first shut few (Some e) is =
    let same = ap (λ (f : Facts). f.writes) (reports.stuck e is).1 in
    let early = (first shut).1 in
    omega (arith, same, early)

pub rises_then : (a b c : Memory) → Reports b c → RisesEarly a b → RisesEarly b c → RisesEarly a c
rises_then a b c reports first rest = λ shut.
    let late = rest shut in (
      (first late.0).0,
      stops_early a b c reports first late.0 late.1 b.failed refl,
      λ works.
          let early = (first late.0).2 (reports.works works).0 in
          let few = late.2 works in
          omega (arith, early, few),
    )

-- reads write nothing
pub reads_rise : (a b : Memory) → OnlyReads a b → RisesEarly a b
reads_rise a b reads = λ shut. (
  sym (ap gate reads.board.words) ∙ shut,
  omega (arith, reads.board.writes),
  λ works. omega (arith, reads.board.writes),
)

-- sets in a row
pub sets_then : {B : Type 0} (i k n : ℕ) (a b c : Txn B) → i + k ≤ n → Sets i a b → Sets k b c → Sets n a c
sets_then i k n a b c fits first rest = record {
  same_store = rest.same_store ∙ first.same_store;
  kept = rest.kept ∙ first.kept;
  room = omega (arith, fits, first.room, rest.room);
  taken = omega (arith, fits, first.taken, rest.taken);
  reports = reports_then _ _ _ first.reports rest.reports;
  writes = runs_then i k n (memory_of a) (memory_of b) (memory_of c) fits first.writes rest.writes;
  rises = rises_then (memory_of a) (memory_of b) (memory_of c) rest.reports first.rises rest.rises;
  between = last_then _ _ _ first.between (record { sound = first.reports.sound; words = first.kept }) rest.between;
}

-- reads are no sets
pub reads_sets : {B : Type 0} (n : ℕ) (a b : Txn B) → TxnReads a b → Sets n a b
reads_sets n a b reads = record {
  same_store = reads.same_store;
  kept = reads.reads.keeps.committed_words;
  room = omega (arith, reads.reads.keeps.taken);
  taken = omega (arith, reads.reads.keeps.taken);
  reports = reads.reads.reports;
  writes = reads_runs n (memory_of a) (memory_of b) reads.reads;
  rises = reads_rise (memory_of a) (memory_of b) reads.reads;
  between = last_none _ _ reads.reads.board;
}

-- fewer sets are at most as many
pub sets_weaker : {B : Type 0} (i n : ℕ) (a b : Txn B) → i ≤ n → Sets i a b → Sets n a b
sets_weaker i n a b fits sets = record {
  same_store = sets.same_store;
  kept = sets.kept;
  room = omega (arith, fits, sets.room);
  taken = omega (arith, fits, sets.taken);
  reports = sets.reports;
  writes = runs_weaker i n (memory_of a) (memory_of b) fits sets.writes;
  rises = sets.rises;
  between = sets.between;
}
