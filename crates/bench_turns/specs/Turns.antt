-- The effect and the result of each turn at a bench, and of several turns.
use Rattle.std.specs.Prelude.{◌≡◌, ◌⊎◌, ◌≤◌, ◌+◌, ℕ, if◌then◌else◌, List, [], ◌∷◌}
use Rattle.nvm_board.specs.Aims.{FitPages, KeepsAim, TearsLast, WritesRuns}
use Rattle.nvm_board.specs.Facts.{Facts, IsWorn, IsWornOut, RisesAt}
use Rattle.undo_journal.specs.Spending.{KeepsBoard}
use Rattle.undo_journal.specs.declared.layout.TheConstants.{PAIRS}
use Rattle.command_base.specs.declared.spending.TheConstants.{COMMAND_WRITES}
use Rattle.nvm_board.specs.declared.board.TheConstants.{MOST_PAGES}
use Rattle.file_tree.specs.Formats.{is_format_2}
use Rattle.migration.specs.Migrating.{migration_writes}
use Rattle.command_base.specs.Finding.{words_found}
use Rattle.card_start.specs.Starting.{KeepsFoundUnlessOld, power_on_writes}
use Rattle.t1_link.specs.CardTable.{link_step}
use Rattle.bench_turns.specs.declared.turn.Turn.{Turn}
use Rattle.bench_turns.specs.declared.turn.Turn.TheVariants as turn
use Rattle.bench_turns.specs.declared.turn.Item.{Item}
use Rattle.bench_turns.specs.declared.turn.Item.TheVariants.{Atr, Quiet, Mute, Dark, Reply}
use Rattle.bench_turns.specs.BenchStates.{BenchState, off, on, bench_card, bench_facts, IsFresh, IsOff, switched_off}
use Rattle.bench_turns.specs.CardBlocks.{Powered, Replies, IsRun, BlockChangesNothing, BlockCompares, BlockStands}
use Rattle.bench_turns.specs.CardBlocks.{BlockTurns}
use Rattle.bench_turns.specs.CardBlocks.{IsBlockStage}
use Rattle.bench_turns.specs.Guessing.{GuessesFew, PaysAhead}

-- Power-on makes exactly the device writes of the rollback and of the migration to format 2.
abbrev pub WritesAsAsked : Facts → Facts → Type 0
WritesAsAsked old new = new.writes ≡ old.writes + power_on_writes old

-- It makes at most that number if power was lost.
abbrev pub WritesNoMore : Facts → Facts → Type 0
WritesNoMore old new = new.writes ≤ old.writes + power_on_writes old

-- Power-on, cut or not, doesn't change the card state after recovery. The recovered words are unchanged too, unless
-- they are a card of format 1. No secret was compared.
pub record LeavesCard (old new : BenchState) : Type 0 where
  pub card : bench_card new ≡ bench_card old
  pub words : KeepsFoundUnlessOld (bench_facts old).words (bench_facts new).words
  pub compares : (bench_facts new).compares ≡ (bench_facts old).compares
  pub matches : (bench_facts new).matches ≡ (bench_facts old).matches

-- Power-on. Atr: the card works, with a fresh session and a fresh link, after exactly the device writes that the memory
-- asks for. Dark: power was lost, after at most that number. Mute: a counter of the board is at its limit, and nothing
-- was done but power went off.
abbrev pub TurnsOn : BenchState → Item → BenchState → Type 0
TurnsOn old Atr new = IsFresh new × LeavesCard old new × WritesAsAsked (bench_facts old) (bench_facts new)
TurnsOn old Quiet new = ⊥
TurnsOn old Mute new = (new ≡ switched_off old) × IsWornOut (bench_facts new)
TurnsOn old Dark new = IsOff new × LeavesCard old new × WritesNoMore (bench_facts old) (bench_facts new)
TurnsOn old (Reply block) new = ⊥

-- Power off: no result, and no other change.
abbrev pub TurnsOff : BenchState → Item → BenchState → Type 0
TurnsOff old Atr new = ⊥
TurnsOff old Quiet new = new ≡ switched_off old
TurnsOff old Mute new = ⊥
TurnsOff old Dark new = ⊥
TurnsOff old (Reply block) new = ⊥

-- A block with power off: the card gives no answer, and nothing changes.
abbrev pub HearsNothing : BenchState → Item → BenchState → Type 0
HearsNothing old Atr new = ⊥
HearsNothing old Quiet new = ⊥
HearsNothing old Mute new = new ≡ old
HearsNothing old Dark new = ⊥
HearsNothing old (Reply block) new = ⊥

-- the card replies with this block, and stays powered
abbrev pub GoesOnWith : Powered → List ℕ → BenchState → List ℕ → Type 0
GoesOnWith old got (off facts) out = ⊥
GoesOnWith old got (on new) out = Replies old got new out

-- Power was lost while a command ran. The card state after recovery is one of its stages, and the words written so far
-- determine which one; it is the last one once the journal gate has turned. Only a PIN command makes a comparison: it
-- costs a try, or it matches and resets the tries. If the command changes nothing permanent, nothing was written.
pub record TurnIsCut (old : Powered) (got : List ℕ) (new : BenchState) : Type 0 where
  pub power : IsOff new
  pub run : IsRun (link_step old.link got).reaction
  pub stage : IsBlockStage old (link_step old.link got).reaction (bench_card new)
  pub word : BlockStands old (link_step old.link got).reaction (bench_facts new).words
  pub turned : BlockTurns old (link_step old.link got).reaction (bench_facts new)
  pub compares : BlockCompares old (link_step old.link got).reaction (bench_facts new)
  pub idle : BlockChangesNothing old (link_step old.link got).reaction → KeepsBoard old.card.facts (bench_facts new)

-- A block with power on: the card replies, or power is lost.
abbrev pub Hears : Powered → List ℕ → Item → BenchState → Type 0
Hears old got Atr new = ⊥
Hears old got Quiet new = ⊥
Hears old got Mute new = ⊥
Hears old got Dark new = TurnIsCut old got new
Hears old got (Reply block) new = GoesOnWith old got new block

-- the reaction to a block
abbrev pub TakesBlock : BenchState → List ℕ → Item → BenchState → Type 0
TakesBlock (off facts) got item new = HearsNothing (off facts) item new
TakesBlock (on powered) got item new = Hears powered got item new

-- One turn.
abbrev pub OneTurn : BenchState → Turn → Item → BenchState → Type 0
OneTurn old turn.On item new = TurnsOn old item new
OneTurn old turn.Off item new = TurnsOff old item new
OneTurn old (turn.Block got) item new = TakesBlock old got.now item new

-- 1 if power was lost in a turn, else 0
abbrev pub dark_of : Item → ℕ
dark_of Atr = 0
dark_of Quiet = 0
dark_of Mute = 0
dark_of Dark = 1
dark_of (Reply block) = 0

-- the number of power losses
unfoldable pub darks : List Item → ℕ
darks [] = 0
darks (item ∷ items) = dark_of item + darks items

-- The counters of the board after a turn with one power loss (1) or none (0). Each loss is counted, and uses up one of
-- the due cuts, unless a counter is at its limit. The counters of faults and writes never decrease, and a set power cut
-- falls into the write that it was set for. Words change only if a write, a power loss or a fault is counted, by the
-- runs that the board wrote, each within a page. If the cut falls, exactly the words of its mask are new in the last of
-- them, on a board whose cuts leave those.
pub record Spends (lost : ℕ) (old new : Facts) : Type 0 where
  pub cuts : new.cuts ≡ old.cuts + lost
  pub due : (old.due ≡ new.due + lost) ⊎ (IsWorn new × (new.due ≡ old.due))
  pub faults : old.faults ≤ new.faults
  pub more : old.writes ≤ new.writes
  pub cut : KeepsAim old new
  pub still : lost ≡ 0 → new.faults ≡ old.faults → new.writes ≡ old.writes → new.words ≡ old.words
  pub wrote : WritesRuns old new
  pub pages : FitPages wrote.runs
  pub masks : new.masks ≡ old.masks
  pub torn : TearsLast old new wrote.runs

-- The counters of the board after turns with `lost` power losses. The counter of cuts rises by `lost`. No cut became
-- due, and at most `lost` due cuts are used up. The counters of faults and writes never decrease.
pub record CountsLosses (lost : ℕ) (old new : Facts) : Type 0 where
  pub cuts : new.cuts ≡ old.cuts + lost
  pub due : old.due ≤ new.due + lost
  pub undue : new.due ≤ old.due
  pub faults : old.faults ≤ new.faults
  pub more : old.writes ≤ new.writes

-- The most device writes of a turn. Power-on makes one for each pair of the journal, and one for the gate.
-- If the memory isn't of format 2, those of the migration follow, counted for the largest board.
abbrev pub most_renewal : List ℕ → ℕ
most_renewal m = if is_format_2 (words_found m) then 0 else migration_writes MOST_PAGES

abbrev pub turn_writes : BenchState → Turn → ℕ
turn_writes old turn.On = PAIRS + 1 + most_renewal (bench_facts old).words
turn_writes old turn.Off = 0
turn_writes old (turn.Block got) = COMMAND_WRITES

-- The most steps of a counter in a turn: 700, and for power-on of a memory that isn't of format 2 those of the
-- migration in addition.
abbrev pub turn_steps : BenchState → Turn → ℕ
turn_steps old turn.On = COMMAND_WRITES + most_renewal (bench_facts old).words
turn_steps old turn.Off = COMMAND_WRITES
turn_steps old (turn.Block got) = COMMAND_WRITES

-- The other counters of the board after a turn without a fault: at most `most` device writes, and at most one
-- comparison of one secret, which may match.
pub record Wears (most : ℕ) (old new : Facts) : Type 0 where
  pub faults : new.faults ≡ old.faults
  pub writes : new.writes ≤ old.writes + most
  pub secret : ℕ
  pub compares : RisesAt old.compares secret new.compares
  pub matches : RisesAt old.matches secret new.matches

-- One turn without a fault, with its use of the board's counters, the guess law, and that law of its first device
-- write.
pub record GoodTurn (old : BenchState) (turn : Turn) (item : Item) (new : BenchState) : Type 0 where
  pub one : OneTurn old turn item new
  pub counts : Spends (dark_of item) (bench_facts old) (bench_facts new)
  pub wears : Wears (turn_writes old turn) (bench_facts old) (bench_facts new)
  pub guesses : GuessesFew old new
  pub ahead : PaysAhead old new

-- One block without a fault, with its use of the board's counters, the guess law, and that law of its first device
-- write.
pub record GoodBlock (old : BenchState) (got : List ℕ) (item : Item) (new : BenchState) : Type 0 where
  pub one : TakesBlock old got item new
  pub counts : Spends (dark_of item) (bench_facts old) (bench_facts new)
  pub wears : Wears COMMAND_WRITES (bench_facts old) (bench_facts new)
  pub guesses : GuessesFew old new
  pub ahead : PaysAhead old new

-- Several turns in order, with the result of each.
unfoldable pub Runs : BenchState → List Turn → List Item → BenchState → Type 0
Runs old [] [] new = new ≡ old
Runs old [] (item ∷ items) new = ⊥
Runs old (turn ∷ turns) [] new = ⊥
Runs old (turn ∷ turns) (item ∷ items) new =
    (between : BenchState) × GoodTurn old turn item between × Runs between turns items new

-- What the card does in several turns, in order, with the result of each. `Runs` also says what each of them counts.
unfoldable pub IsTrace : BenchState → List Turn → List Item → BenchState → Type 0
IsTrace old [] [] new = new ≡ old
IsTrace old [] (item ∷ items) new = ⊥
IsTrace old (turn ∷ turns) [] new = ⊥
IsTrace old (turn ∷ turns) (item ∷ items) new =
    (between : BenchState) × OneTurn old turn item between × IsTrace between turns items new

-- the most steps of a counter in these turns, each by the memory before it
unfoldable pub run_steps : (old : BenchState) (turns : List Turn) (trace : List Item) (new : BenchState)
    → Runs old turns trace new → ℕ
unfolding Runs
run_steps old [] trace new run = 0
run_steps old (turn ∷ turns) [] new run = 0
run_steps old (turn ∷ turns) (item ∷ items) new run = turn_steps old turn + run_steps run.0 turns items new run.2
