-- The device writes of a turn, as its cuts show them.
use Rattle.std.specs.Prelude.{◌≡◌, ◌≢◌, ◌⊎◌, ◌≤◌, ◌<◌, ◌+◌, ℕ, List, length}
use Rattle.nvm_board.specs.Facts.{Facts}
use Rattle.card_sweeps.specs.declared.turn_cuts.MadeWrite.{MadeWrite}
use Rattle.card_sweeps.specs.declared.turn_cuts.TurnRuns.{TurnRuns}
use Rattle.card_sweeps.specs.Masks.{mask_count_of, mask_of, words_tried}
use Rattle.card_sweeps.specs.Sweeps.{CutsTurn, EndsUncut, SparesTurn, SweptTurn}
use Rattle.card_sweeps.specs.WrittenRuns.{IsMasked, WrittenRun}

-- the turn that these runs cut
abbrev pub swept_by : {B : Type 0} (facts : B → Facts) → TurnRuns B → SweptTurn
swept_by facts runs =
    record { board = facts runs.board.now; prepare = runs.prepare.now; turn = runs.turn }

-- a device write that was found, from the memory before it
abbrev pub made_run : {B : Type 0} (facts : B → Facts) → List ℕ → MadeWrite B → WrittenRun
made_run facts before made = record {
  at = made.at;
  words = made.words;
  before = before;
  after = (facts made.after).words;
}

-- The turn makes this device write. Cuts with the first mask and the second leave its boards, with the memories before
-- and after it. The board after the first one reports the number of words. `facts` and `torn` are the facts of such a
-- board, and the number of words of its last torn write.
pub record IsMade {B : Type 0} (facts : B → Facts) (torn : B → ℕ) (swept : SweptTurn) (write : ℕ) (before : List ℕ)
    (made : MadeWrite B) : Type 0 where
  pub none : CutsTurn write 0 swept (facts made.none)
  pub words_are : made.words ≡ words_tried (torn made.none)
  pub none_new : IsMasked (made_run facts before made) 0 (facts made.none).words
  pub all : CutsTurn write (mask_of made.words 1) swept (facts made.after)
  pub all_new : IsMasked (made_run facts before made) 1 (facts made.after).words
  pub inside : made.at + made.words ≤ length before

-- A cut at this device write with mask number i, counted from 0, leaves this board, with exactly the words of that mask
-- new. The first two masks leave the boards that show the write.
pub record LeavesMasked {B : Type 0} (facts : B → Facts) (swept : SweptTurn) (write : ℕ) (before : List ℕ)
    (made : MadeWrite B) (i : ℕ) (left : B) : Type 0 where
  pub none : i ≡ 0 → left ≡ made.none
  pub all : i ≡ 1 → left ≡ made.after
  pub cut : CutsTurn write (mask_of made.words i) swept (facts left)
  pub masked : IsMasked (made_run facts before made) i (facts left).words

-- A cut with mask number i leaves another memory than this device write has to.
pub record MissesMask (swept : SweptTurn) (write : ℕ) (run : WrittenRun) (i : ℕ) : Type 0 where
  pub left : Facts
  pub cut : CutsTurn write (mask_of run.words i) swept left
  pub other : IsMasked run i left.words → ⊥

-- A cut with some mask for its number of words does.
pub record MissesRun (swept : SweptTurn) (write : ℕ) (run : WrittenRun) : Type 0 where
  pub i : ℕ
  pub place : i < mask_count_of run.words
  pub misses : MissesMask swept write run i

-- The same of a write at this address, if one of its number of words lies in the memory there.
abbrev pub MissesRunAt : SweptTurn → ℕ → ℕ → List ℕ → List ℕ → ℕ → Type 0
MissesRunAt swept write words before after at = at + words ≤ length before
    → MissesRun swept write (record { at = at; words = words; before = before; after = after })

-- a cut at this device write doesn't happen with some mask
abbrev pub SparesSome : SweptTurn → ℕ → Type 0
SparesSome swept write = (mask : ℕ) × SparesTurn write mask swept

-- The turn makes fewer writes, and leaves another memory than `before`.
pub record EndsElsewhere (swept : SweptTurn) (write : ℕ) (before : List ℕ) : Type 0 where
  pub memory : List ℕ
  pub uncut : EndsUncut write 0 swept memory
  pub other : memory ≢ before

-- A cut at this device write happens with one mask, and doesn't with another.
pub record ComesAndGoes (swept : SweptTurn) (write : ℕ) : Type 0 where
  pub left : Facts
  pub comes : CutsTurn write 0 swept left
  pub goes : SparesSome swept write

-- Wherever the write begins, some cut of it leaves another memory than it has to.
pub record MissesEachAddress {B : Type 0} (facts : B → Facts) (torn : B → ℕ) (swept : SweptTurn) (write : ℕ)
    (before : List ℕ) : Type 0 where
  pub none : B
  pub first : CutsTurn write 0 swept (facts none)
  pub words : ℕ
  pub words_are : words ≡ words_tried (torn none)
  pub after : Facts
  pub all : CutsTurn write (mask_of words 1) swept after
  pub misses : (at : ℕ) → MissesRunAt swept write words before after.words at

-- Runs of the turn, uncut or cut at this device write, don't leave what a turn does that begins it with the memory
-- `before`.
abbrev pub MissesWrite : {B : Type 0} (facts : B → Facts) (torn : B → ℕ) → SweptTurn → ℕ → List ℕ → Type 0
MissesWrite facts torn swept write before = EndsElsewhere swept write before
    ⊎ (ComesAndGoes swept write ⊎ MissesEachAddress facts torn swept write before)

-- A cut of a device write that was found doesn't happen, or leaves another memory than it has to.
abbrev pub MissesCut : SweptTurn → ℕ → WrittenRun → ℕ → Type 0
MissesCut swept write run i = SparesTurn write (mask_of run.words i) swept ⊎ MissesMask swept write run i

-- the board of a cut with one of the first two masks
abbrev pub IsKnownCut : {B : Type 0} → MadeWrite B → ℕ → B → Type 0
IsKnownCut made i left = ((i ≡ 0) × (left ≡ made.none)) ⊎ ((i ≡ 1) × (left ≡ made.after))
