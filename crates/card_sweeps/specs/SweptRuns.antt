-- All runs of a sweep, in order, and the finding of each.
use Rattle.std.specs.Prelude.{◌≡◌, ◌⊎◌, ◌≤◌, ◌<◌, ◌+◌, ◌-◌, ◌^◌, ℕ, zero, suc, List, [], ◌∷◌, ◌++◌}
use Rattle.nvm_board.specs.Facts.{Facts}
use Rattle.bench_turns.specs.declared.turn.Turn.{Turn}
use Rattle.bench_turns.specs.declared.turn.Item.{Item}
use Rattle.card_sweeps.specs.declared.tally.SweepEnd.{SweepEnd}
use Rattle.card_sweeps.specs.declared.tally.SweepEnd.TheVariants.{Full, Differs}
use Rattle.card_sweeps.specs.declared.turn_cuts.MadeWrite.{MadeWrite}
use Rattle.card_sweeps.specs.Masks.{mask_count_of}
use Rattle.card_sweeps.specs.Sweeps.{EndsBefore, EndsIn, PlaysOn, SweptTurn, start_on}
use Rattle.card_sweeps.specs.Tallies.{Finding}
use Rattle.card_sweeps.specs.TurnCuts.{IsMade, LeavesMasked, MissesCut, MissesWrite, made_run}

-- One run: power-on and the probe on this board.
pub record IsOneLook (probe : List Turn) (board : Facts) (all : List Finding) : Type 0 where
  pub given : Finding
  pub end : EndsIn board probe given
  pub one : all ≡ given ∷ []

-- the concatenated findings of `n` parts, in order
unfoldable pub InTurn : (ℕ → List Finding → Type 0) → ℕ → List Finding → Type 0
InTurn Part zero all = all ≡ []
InTurn Part (suc n) all = (before part : List Finding) × InTurn Part n before × Part n part × (all ≡ before ++ part)

-- the first findings of `n` parts, in order: those of whole parts, and the first of the next part
pub record BeginsInTurn (n : ℕ) (Part First : ℕ → List Finding → Type 0) (all : List Finding) : Type 0 where
  pub parts : ℕ
  pub few : parts < n
  pub before : List Finding
  pub last : List Finding
  pub each : InTurn Part parts before
  pub begun : First parts last
  pub all_are : all ≡ before ++ last

-- The runs after a cut at this device write with mask number i. `Behind` are the runs on the board that it leaves.
-- `facts` are those of such a board.
pub record AreOfMask {B : Type 0} (facts : B → Facts) (Behind : Facts → List Finding → Type 0) (swept : SweptTurn)
    (number : ℕ) (before : List ℕ) (made : MadeWrite B) (i : ℕ) (all : List Finding) : Type 0 where
  pub left : B
  pub leaves : LeavesMasked facts swept number before made i left
  pub behind : Behind (facts left) all

-- The first runs after such a cut. `First` are those on the board that it leaves. If runs differ, it may be this cut.
abbrev pub AreFirstOfMask : {B : Type 0} (facts : B → Facts) → SweepEnd → (Facts → List Finding → Type 0) → SweptTurn
    → ℕ → List ℕ → MadeWrite B → ℕ → List Finding → Type 0
AreFirstOfMask facts end First swept number before made i all = AreOfMask facts First swept number before made i all
    ⊎ ((end ≡ Differs) × MissesCut swept number (made_run facts before made) i × (all ≡ []))

-- The turn makes this device write, and is cut at it with each mask for its number of words. `torn` is the number of
-- words of a board's last torn write.
pub record AreOfWrite {B : Type 0} (facts : B → Facts) (torn : B → ℕ) (Behind : Facts → List Finding → Type 0)
    (swept : SweptTurn) (number : ℕ) (before : List ℕ) (made : MadeWrite B) (all : List Finding) : Type 0 where
  pub made_so : IsMade facts torn swept number before made
  pub fit : made.words ≤ 16
  pub each : InTurn (AreOfMask facts Behind swept number before made) (mask_count_of made.words) all

-- The first runs of such a write, with the masks up to one of them.
pub record BeginWrite {B : Type 0} (facts : B → Facts) (torn : B → ℕ) (end : SweepEnd)
    (Behind First : Facts → List Finding → Type 0) (swept : SweptTurn) (number : ℕ) (before : List ℕ)
    (all : List Finding) : Type 0 where
  pub made : MadeWrite B
  pub made_so : IsMade facts torn swept number before made
  pub fit : made.words ≤ 16
  pub begun : BeginsInTurn (mask_count_of made.words) (AreOfMask facts Behind swept number before made)
      (AreFirstOfMask facts end First swept number before made) all

-- The first runs of the next write, which begins with the memory `before`. If runs differ, it may be in this write.
abbrev pub AreFirstOfWrite : {B : Type 0} (facts : B → Facts) (torn : B → ℕ) → SweepEnd
    → (Behind First : Facts → List Finding → Type 0) → SweptTurn → ℕ → List ℕ → List Finding → Type 0
AreFirstOfWrite facts torn end Behind First swept number before all =
    BeginWrite facts torn end Behind First swept number before all
    ⊎ ((end ≡ Differs) × MissesWrite facts torn swept number before × (all ≡ []))

-- The runs of the first `n` device writes, in order. The first write begins with the memory `first`. Each other one
-- begins with the memory that the one before it left. The last one leaves the memory `now`.
unfoldable pub AreOfWrites : {B : Type 0} (facts : B → Facts) (torn : B → ℕ) → (Facts → List Finding → Type 0)
    → SweptTurn → List ℕ → ℕ → List ℕ → List Finding → Type 0
AreOfWrites facts torn Behind swept first zero now all = (now ≡ first) × (all ≡ [])
AreOfWrites {B} facts torn Behind swept first (suc n) now all = (before : List ℕ) × (made : MadeWrite B)
    × (earlier last : List Finding) × AreOfWrites facts torn Behind swept first n before earlier
    × AreOfWrite facts torn Behind swept (n + 1) before made last × (now ≡ (facts made.after).words)
    × (all ≡ earlier ++ last)

-- All runs of a turn with `n` device writes, from the memory `first` on. The last write leaves the memory of the uncut
-- turn. (There are at most 4,294,967,295 of them.)
pub record AreOfTurn {B : Type 0} (facts : B → Facts) (torn : B → ℕ) (Behind : Facts → List Finding → Type 0)
    (swept : SweptTurn) (first : List ℕ) (n : ℕ) (all : List Finding) : Type 0 where
  pub now : List ℕ
  pub each : AreOfWrites facts torn Behind swept first n now all
  pub done : EndsBefore (n + 1) swept now ⊎ (n ≡ 2 ^ 32 - 1)

-- The first runs of a turn, in order: those of some writes, and the first of the next write.
pub record AreFirstOfTurn {B : Type 0} (facts : B → Facts) (torn : B → ℕ) (end : SweepEnd)
    (Behind First : Facts → List Finding → Type 0) (swept : SweptTurn) (first : List ℕ) (all : List Finding) : Type 0
  where
    pub writes : ℕ
    pub now : List ℕ
    pub before : List Finding
    pub last : List Finding
    pub each : AreOfWrites facts torn Behind swept first writes now before
    pub begun : AreFirstOfWrite facts torn end Behind First swept (writes + 1) now last
    pub all_are : all ≡ before ++ last

-- All runs after a cut: power-ons are cut until the depth is reached, or one makes no write.
unfoldable pub AreAllBehind : {B : Type 0} (facts : B → Facts) (torn : B → ℕ) → ℕ → List Turn → Facts → List Finding
    → Type 0
AreAllBehind facts torn zero probe board all = IsOneLook probe board all
AreAllBehind facts torn (suc depth) probe board all =
    (EndsBefore 1 (start_on board) board.words × IsOneLook probe board all)
    ⊎ ((n : ℕ) × (1 ≤ n)
    × AreOfTurn facts torn (AreAllBehind facts torn depth probe) (start_on board) board.words n all)

-- The first runs after a cut, in order, up to this end. (There may be none, if no run can be counted.)
unfoldable pub AreFirstBehind : {B : Type 0} (facts : B → Facts) (torn : B → ℕ) → SweepEnd → ℕ → List Turn → Facts
    → List Finding → Type 0
AreFirstBehind facts torn end zero probe board all = (end ≡ Full) × (all ≡ [])
AreFirstBehind facts torn end (suc depth) probe board all = ((end ≡ Full) × (all ≡ []))
    ⊎ AreFirstOfTurn facts torn end (AreAllBehind facts torn depth probe) (AreFirstBehind facts torn end depth probe)
    (start_on board) board.words all

-- Runs that begin with the memory that the preparation leaves.
pub record ArePrepared (AreFrom : List ℕ → List Finding → Type 0) (swept : SweptTurn) (all : List Finding) : Type 0
  where
    pub trace : List Item
    pub prepared : Facts
    pub played : PlaysOn swept.board swept.prepare trace prepared
    pub are : AreFrom prepared.words all

-- all runs of a turn, whatever the number of its writes
pub record AreRunsFrom {B : Type 0} (facts : B → Facts) (torn : B → ℕ) (depth : ℕ) (probe : List Turn)
    (swept : SweptTurn) (first : List ℕ) (all : List Finding) : Type 0 where
  pub writes : ℕ
  pub are : AreOfTurn facts torn (AreAllBehind facts torn depth probe) swept first writes all

-- all runs of a sweep, in order
abbrev pub AreAllRuns : {B : Type 0} (facts : B → Facts) (torn : B → ℕ) → ℕ → List Turn → SweptTurn → List Finding
    → Type 0
AreAllRuns facts torn depth probe swept all = ArePrepared (AreRunsFrom facts torn depth probe swept) swept all

-- the first runs of a sweep, in order, up to this end
abbrev pub AreFirstRuns : {B : Type 0} (facts : B → Facts) (torn : B → ℕ) → ℕ → List Turn → SweptTurn → SweepEnd
    → List Finding → Type 0
AreFirstRuns facts torn depth probe swept end all = ArePrepared (AreFirstOfTurn facts torn end
    (AreAllBehind facts torn depth probe) (AreFirstBehind facts torn end depth probe) swept) swept all
