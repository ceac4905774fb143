-- Runs of the card on a flash.
use Rattle.std.specs.Prelude.{◌≡◌, ◌≤◌, ℕ, true, List}
use Rattle.command_base.specs.Finding.{HasCard}
use Rattle.bench_turns.specs.declared.turn.Turn.{Turn}
use Rattle.bench_turns.specs.declared.turn.Item.{Item}
use Rattle.bench_turns.specs.BenchStates.{BenchState, bench_facts, off}
use Rattle.bench_turns.specs.FaultTurns.{IsTraceWithFaults}
use Rattle.bench_turns.specs.Guessing.{GuessesFew}
use Rattle.bench_turns.specs.Turns.{CountsLosses, IsTrace, Runs, darks}
use Rattle.flash_device.specs.FlashCalls.{FlashState}
use Rattle.flash_board.specs.FlashFacts.{made_of}
use Rattle.flash_moves.specs.Places.{state_of}

-- The bench with the board of a flash, and power off. All counts are 0, and the due cuts are those of the flash.
abbrev pub bench_on : ℕ → ℕ → FlashState → BenchState
bench_on pages slots flash = off (record (made_of (state_of pages slots flash)) { dark = true })

-- The board of a flash has a card state after recovery.
abbrev pub FlashHasCard : ℕ → ℕ → FlashState → Type 0
FlashHasCard pages slots flash = HasCard (state_of pages slots flash).words

-- Turns of the card on a flash, with the result of each.
pub record PlaysOnFlash (pages slots : ℕ) (old : FlashState) (turns : List Turn) (trace : List Item)
    (new : FlashState) : Type 0 where
  -- The bench after the turns. The flash has the words of its board, and the cuts that may still come.
  pub last : BenchState
  pub words : (state_of pages slots new).words ≡ (bench_facts last).words
  pub due : new.due ≡ (bench_facts last).due
  -- Whatever is cut or fails: if the flash had a card state after recovery, it has one at the end.
  pub has_card : FlashHasCard pages slots old → FlashHasCard pages slots new
  -- The board counts one more cut for each Dark in the trace, and at most that many due cuts of the flash are used up.
  pub counts : CountsLosses (darks trace) (bench_facts (bench_on pages slots old)) (bench_facts last)
  -- The guess law, whatever is cut or fails.
  pub guesses : GuessesFew (bench_on pages slots old) last
  -- A fault that the board reports is one of its flash.
  pub faults : (bench_facts last).faults ≤ new.faults
  -- The headline. The flash has a card state after recovery, and the board reports no fault. Then the trace is the tree
  -- machine's, from that card state to the one after.
  pub runs : FlashHasCard pages slots old → (bench_facts last).faults ≡ 0
      → IsTrace (bench_on pages slots old) turns trace last
  -- The same of a flash that fails: a command with a fault that the board reports is answered by 6581, and so is each
  -- one after it until the next power-on. A power-on with such a fault is mute.
  pub faulty : FlashHasCard pages slots old → IsTraceWithFaults (bench_on pages slots old) turns trace last
  -- Each turn of it also keeps to its counts, to the guess law and to the board's log.
  pub costs : FlashHasCard pages slots old → (bench_facts last).faults ≡ 0
      → Runs (bench_on pages slots old) turns trace last
