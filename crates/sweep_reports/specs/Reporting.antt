-- The report of a sweep, and its parts.
use Rattle.std.specs.Prelude.{◌≡◌, ◌≢◌, ◌⊎◌, ◌≤◌, ◌+◌, ◌-◌, ◌^◌, ℕ, zero, suc, List, [], ◌∷◌}
use Rattle.std.specs.Prelude.{◌++◌, All, codes, length, Option}
use Rattle.std.specs.Io.KnownBytes.{Appends}
use Rattle.nvm_board.specs.Facts.{Facts}
use Rattle.bench_turns.specs.declared.turn.Turn.{Turn}
use Rattle.bench_turns.specs.declared.turn.Item.{Item}
use Rattle.card_sweeps.specs.declared.tally.Seen.{Seen}
use Rattle.card_sweeps.specs.declared.tally.SweepEnd.{SweepEnd}
use Rattle.card_sweeps.specs.declared.tally.SweepEnd.TheVariants.{Differs}
use Rattle.card_sweeps.specs.declared.turn_cuts.MadeWrite.{MadeWrite}
use Rattle.card_sweeps.specs.Masks.{mask_of, mask_count_of}
use Rattle.card_sweeps.specs.Sweeps.{EndsBehindStarts, IsUnmade, PlaysOn, SweptTurn}
use Rattle.card_sweeps.specs.SweptRuns.{AreAllBehind, AreFirstBehind}
use Rattle.card_sweeps.specs.Tallies.{CountsToEnd, IsTally, findings}
use Rattle.card_sweeps.specs.TurnCuts.{IsMade, LeavesMasked}
use Rattle.sweep_reports.specs.declared.device_writes.DeviceWrite.{DeviceWrite}
use Rattle.card_sweeps.specs.declared.parts.SweepPart.{SweepPart}
use Rattle.card_sweeps.specs.declared.script.SweepScript.{SweepScript}
use Rattle.card_sweeps.specs.declared.steps.Step.TheVariants.{Block}
use Rattle.card_sweeps.specs.Asking.{IsRead, asked_of}
use Rattle.card_sweeps.specs.PartTexts.{IsFirstPart, IsOfPart}
use Rattle.sweep_reports.specs.DeviceWrites.{IsWriteKind, kinds_text}
use Rattle.sweep_reports.specs.Printing.{cut_head, results_text, stage_head, total_text}
use Rattle.card_sweeps.specs.Turning.{AreTurns, IsTurn}

-- What a sweep tries: a command after a preparation, power-ons that are cut, and a probe. It tries one part of the
-- cuts. `facts` and `torn` are the facts of such a board, and the number of words of its last torn write.
pub record Sweeping {B : Type 0} (facts : B → Facts) (torn : B → ℕ) : Type 0 where
  pub swept : SweptTurn
  pub probe : List Turn
  pub looks : List ℕ
  pub depth : ℕ
  pub part : SweepPart

-- The results of all runs after a cut that left this board, each with the number of its runs. At the greatest count
-- they are those of the first runs. No runs differ. Each line begins with the head, and has the answer of each line of
-- the probe, by its number of turns.
pub record AreResults {B : Type 0} (facts : B → Facts) (torn : B → ℕ) (looks head : List ℕ) (depth : ℕ)
    (probe : List Turn) (board : Facts) (text : List ℕ) : Type 0 where
  pub end : SweepEnd
  pub fits : end ≢ Differs
  pub runs : ℕ
  pub seen : List Seen
  pub tally : IsTally runs seen
  pub given : All (EndsBehindStarts depth board probe) (findings seen)
  pub all : CountsToEnd (AreAllBehind facts torn depth probe board)
      (λ e. AreFirstBehind facts torn e depth probe board) end runs seen
  pub text_is : text ≡ results_text looks head seen

-- The results of a cut that left this board, if the cut is of the part.
pub record AreOwnResults {B : Type 0} {facts : B → Facts} {torn : B → ℕ} (sweeping : Sweeping facts torn)
    (write i mask : ℕ) (board : Facts) (text : List ℕ) : Type 0 where
  pub own : IsOfPart sweeping.part write i → AreResults facts torn sweeping.looks (cut_head write i mask)
      sweeping.depth sweeping.probe board text
  pub other : (IsOfPart sweeping.part write i → ⊥) → text ≡ []

-- A cut at this device write, with mask number i, counted from 0. Whatever the part, it leaves the words of that mask
-- new, so each part shows the whole write. The part has the results of its own cuts alone.
pub record IsCutText {B : Type 0} {facts : B → Facts} {torn : B → ℕ} (sweeping : Sweeping facts torn)
    (write : ℕ) (before : List ℕ) (made : MadeWrite B) (i : ℕ) (text : List ℕ) : Type 0 where
  pub left : B
  pub leaves : LeavesMasked facts sweeping.swept write before made i left
  pub results : AreOwnResults sweeping write i (mask_of made.words i) (facts left) text

-- the concatenation of `n` texts, in order
unfoldable pub TextsInTurn : (ℕ → List ℕ → Type 0) → ℕ → List ℕ → Type 0
TextsInTurn IsText zero text = text ≡ []
TextsInTurn IsText (suc n) text =
    (before last : List ℕ) × TextsInTurn IsText n before × IsText n last × (text ≡ before ++ last)

-- The command doesn't make this device write, so no cut at it happens (IsUnmade).
abbrev pub LacksWrite : {B : Type 0} {facts : B → Facts} {torn : B → ℕ} → Sweeping facts torn → ℕ → Type 0
LacksWrite sweeping write = IsUnmade write sweeping.swept

-- A device write between these memories: its kind, and each cut of it, with each mask for its number of words.
pub record IsWrite {B : Type 0} {facts : B → Facts} {torn : B → ℕ} (sweeping : Sweeping facts torn) (write : ℕ)
    (before after : List ℕ) (it : DeviceWrite) (text : List ℕ) : Type 0 where
  pub made : MadeWrite B
  pub made_so : IsMade facts torn sweeping.swept write before made
  pub words_are : it.words ≡ made.words
  pub after_is : after ≡ (facts made.after).words
  pub each : TextsInTurn (IsCutText sweeping write before made) (mask_count_of made.words) text
  pub kind_is : IsWriteKind it.words before after it.kind

-- The first `n` device writes, in order. The first one begins with the memory `first`. Each other one begins with the
-- memory that the one before it left. The last one leaves the memory `now`.
unfoldable pub WritesInTurn : {B : Type 0} {facts : B → Facts} {torn : B → ℕ} → Sweeping facts torn → List ℕ → ℕ
    → List ℕ → List DeviceWrite → List ℕ → Type 0
WritesInTurn sweeping first zero now all text = (now ≡ first) × (all ≡ []) × (text ≡ [])
WritesInTurn sweeping first (suc n) now all text = (between : List ℕ) × (earlier : List DeviceWrite)
    × (it : DeviceWrite) × (before last : List ℕ) × WritesInTurn sweeping first n between earlier before
    × IsWrite sweeping (n + 1) between now it last × (all ≡ earlier ++ it ∷ []) × (text ≡ before ++ last)

-- All device writes of the command, from the memory `first` to the memory `last`: the command makes no other one, or
-- there are 4,294,967,295 of them.
pub record AreWrites {B : Type 0} {facts : B → Facts} {torn : B → ℕ} (sweeping : Sweeping facts torn)
    (first last : List ℕ) (all : List DeviceWrite) (text : List ℕ) : Type 0 where
  pub now : List ℕ
  pub each : WritesInTurn sweeping first (length all) now all text
  pub done : (LacksWrite sweeping (length all + 1) × (now ≡ last)) ⊎ (length all ≡ 2 ^ 32 - 1)

-- Only the first part has the kinds of the device writes.
pub record AreKindsOrNone {B : Type 0} {facts : B → Facts} {torn : B → ℕ} (sweeping : Sweeping facts torn)
    (all : List DeviceWrite) (text : List ℕ) : Type 0 where
  pub first : IsFirstPart sweeping.part → text ≡ kinds_text 1 all
  pub later : (IsFirstPart sweeping.part → ⊥) → text ≡ []

-- The items of these turns, the board that they leave, and the result of a power-on and the probe on it. The sweep sets
-- no cut for them. A cut that was pending on the board may come in them; on the board of the sweep program none is
-- pending (swept_board).
pub record IsFound {B : Type 0} {facts : B → Facts} {torn : B → ℕ} (sweeping : Sweeping facts torn) (stage : List ℕ)
    (turns : List Turn) (left : Facts) (text : List ℕ) : Type 0 where
  pub trace : List Item
  pub played : PlaysOn sweeping.swept.board turns trace left
  pub results : AreResults facts torn sweeping.looks (stage_head stage trace) 0 sweeping.probe left text

-- What is found without the command, what is found after it, the kinds of its writes, each cut of it, and the number of
-- writes. In each part the first write begins with the memory of the prepared board, whose results the part has. The
-- last one leaves the memory that the whole command leaves.
pub record HasSections {B : Type 0} {facts : B → Facts} {torn : B → ℕ} (sweeping : Sweeping facts torn)
    (whole : List Turn) (text : List ℕ) : Type 0 where
  pub prepared : Facts
  pub ended : Facts
  pub all : List DeviceWrite
  pub before : List ℕ
  pub after : List ℕ
  pub kinds : List ℕ
  pub cuts : List ℕ
  pub is_before : IsFound sweeping (codes "before") sweeping.swept.prepare prepared before
  pub is_after : IsFound sweeping (codes "after") whole ended after
  pub are_kinds : AreKindsOrNone sweeping all kinds
  pub are_cuts : AreWrites sweeping prepared.words ended.words all cuts
  pub text_is : text ≡ before ++ after ++ kinds ++ cuts ++ total_text (length all) sweeping.depth

-- the report of a sweep on a board
pub record IsReport {B : Type 0} (facts : B → Facts) (torn : B → ℕ) (board : Facts) (script : SweepScript)
    (part : SweepPart) (text : List ℕ) : Type 0 where
  pub sweeping : Sweeping facts torn
  pub board_is : sweeping.swept.board ≡ board
  pub prepare : AreTurns script.prepare.items sweeping.swept.prepare
  pub command : IsTurn (Block script.command) sweeping.swept.turn
  pub probe : AreTurns script.probe.items sweeping.probe
  pub looks : sweeping.looks ≡ script.looks.items
  pub depth : sweeping.depth ≡ script.depth
  pub part_is : sweeping.part ≡ part
  pub whole : List Turn
  pub is_whole : AreTurns (script.prepare.items ++ Block script.command ∷ []) whole
  pub sections : HasSections sweeping whole text

-- A script was read to its end, and the report of a sweep of it was written.
pub record WritesReport {B : Type 0} (facts : B → Facts) (torn : B → ℕ) (board : Facts)
    (script left : Option (List ℕ)) (part : SweepPart)
    (old new : Option (List ℕ)) : Type 0 where
  pub asked : SweepScript
  pub read : IsRead script left (asked_of asked)
  pub text : List ℕ
  pub is_report : IsReport facts torn board asked part text
  pub written : Appends old new text
