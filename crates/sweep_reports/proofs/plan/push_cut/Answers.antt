use Rattle.std.proofs.Common.{◌∙◌, sym, true≢false}
use Rattle.sweep_reports.specs.ReportParts.{sweeping_of}
use Rattle.sweep_reports.proofs.Put.{on-ok}
use Rattle.sweep_reports.proofs.Reported.{none-put, own-put}
use Rattle.sweep_reports.proofs.plan.push_cut.Goals as goal

pub returns : goal.returns
returns g c = on-ok c.push_behind.result _ _
    (λ behind card. own-put (sweeping_of g.P.Board.Board.facts g.P.Board.Sweepable.torn c.args.plan.now) c.args.write
    c.args.i c.args.mask _ _ _ _ (c.deref.ensures ∙ c.in_ok-head.ensures) (c.has.ensures.0 c.if-not-has.false)
    (behind card))
    c.push_behind.ensures

pub returns-then-not-has : goal.returns-then-not-has
returns-then-not-has g c = λ card. none-put (sweeping_of g.P.Board.Board.facts g.P.Board.Sweepable.torn c.args.plan.now)
    c.args.write c.args.i c.args.mask _ _ (λ is. true≢false (sym (c.has.ensures.1 is) ∙ c.if-not-has.true))
