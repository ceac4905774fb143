use Rattle.std.proofs.Common.{◌+◌, arith}
use Rattle.flash_log.specs.laws.Ending.{log_stands_more}
use Rattle.flash_moves.specs.laws.Losing.{free_in_pace}
use Rattle.flash_moves.specs.Paces.{lost_since}
use Rattle.flash_board.proofs.flash_board.FlashBoard.renew.Goals as goal

pub returns-then-self-clause-lost : goal.returns-then-self-clause-lost
returns-then-self-clause-lost g c = λ roomy has.
    let fit = g.met.F.Flash.sectors_fit in (
      has,
      free_in_pace g.F.Flash.PAGES g.F.Flash.SLOTS g.F.Flash.SECTORS g.F.Flash.sector_start
          g.met.F.Flash.sectors_rise fit.0 fit.1 fit.2 fit.4 g.met.F.Flash.pages_fit.0 c.args.self.now.log.raw has,
    )

pub returns-then-self-clause-stands : goal.returns-then-self-clause-stands
returns-then-self-clause-stands g c = λ extra roomy stands.
    let log = c.args.self.now.log in
    log_stands_more g.F.Flash.PAGES g.F.Flash.SLOTS g.F.Flash.SECTORS g.F.Flash.sector_start extra
    (extra + lost_since log.flash log.flash) log (omega arith) stands
