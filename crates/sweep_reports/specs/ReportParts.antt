-- What the parts of the program append to the report. No public clause names these.
use Rattle.std.specs.Prelude.{◌≡◌, ℕ, List, ◌++◌, length}
use Rattle.nvm_board.specs.Facts.{Facts}
use Rattle.card_sweeps.specs.TurnCuts.{swept_by}
use Rattle.sweep_reports.specs.declared.plan.ReportPlan.{ReportPlan}
use Rattle.sweep_reports.specs.Reporting.{AreKindsOrNone, Sweeping}
use Rattle.sweep_reports.specs.Printing.{total_text}
use Rattle.sweep_reports.specs.declared.device_writes.DeviceWrite.{DeviceWrite}

-- the sweep of a plan
abbrev pub sweeping_of : {B : Type 0} (facts : B → Facts) (torn : B → ℕ) → ReportPlan B → Sweeping facts torn
sweeping_of facts torn plan = record {
  swept = swept_by facts plan.runs;
  probe = plan.probe.now;
  looks = plan.looks.now;
  depth = plan.depth;
  part = plan.part;
}

-- Text was appended, for which this holds.
pub record AddsText (Is : List ℕ → Type 0) (old new : List ℕ) : Type 0 where
  pub more : List ℕ
  pub holds : Is more
  pub all : new ≡ old ++ more

-- the end of the report: the kinds of the device writes, the text of the cuts, and the number of writes
pub record AreRest {B : Type 0} {facts : B → Facts} {torn : B → ℕ} (sweeping : Sweeping facts torn)
    (all : List DeviceWrite) (cuts : List ℕ) (text : List ℕ) : Type 0 where
  pub kinds : List ℕ
  pub are_kinds : AreKindsOrNone sweeping all kinds
  pub text_is : text ≡ kinds ++ cuts ++ total_text (length all) sweeping.depth
