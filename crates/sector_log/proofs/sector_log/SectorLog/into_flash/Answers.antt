use Rattle.std.proofs.Common.{ℕ, List, arith}
use Rattle.flash_moves.specs.declared.place.PageMap.{PageMap}
use Rattle.sector_moves.specs.SectorPlaces.{IsSectorLog}
use Rattle.sector_moves.specs.SectorSpares.{HasRoomForSteps}
use Rattle.sector_moves.specs.laws.Keeping.{in_step_from}
use Rattle.sector_log.specs.laws.Trying.{by_bool}
use Rattle.sector_log.proofs.sector_log.SectorLog.into_flash.Goals as goal

-- a log has a free slot for each step that is left, whether it knows its pages or not
in_step : {T : Type 0} (entries : T → List ℕ) (pages slots sectors : ℕ) (start : ℕ → ℕ) (m : List ℕ) (p : PageMap T)
    → IsSectorLog entries pages slots sectors start m p → HasRoomForSteps pages slots sectors start m 0
in_step entries pages slots sectors start m p log = by_bool p.ready
    (λ ready.
    let at = log.known ready in
    in_step_from pages slots sectors start m 0 p.turn p.erased p.copied p.older p.next at.place.turn at.place.spare
    at.place.free at.room (omega arith))
    (λ unready.
    let is = log.found unready in record {
      erased = is.erased;
      copied = is.copied;
      older = is.older;
      next = is.next;
      spare = is.spare;
      free = is.free;
      room = is.room;
      passed = omega arith;
    })

pub returns-clause-in_step : goal.returns-clause-in_step
returns-clause-in_step g c =
    in_step g.F.Table.PageTable.entries g.F.Flash.PAGES g.F.Flash.SLOTS g.F.Flash.SECTORS g.F.Flash.sector_start
    (g.F.Flash.state c.self.inside.flash).words c.self.inside.place c.self.invariant
