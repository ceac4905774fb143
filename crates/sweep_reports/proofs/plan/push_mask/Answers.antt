use Rattle.card_sweeps.proofs.CompleteSweeps.{mask-is}
use Rattle.card_sweeps.proofs.KnownCuts.{known-leaves, other-leaves}
use Rattle.sweep_reports.specs.ReportParts.{sweeping_of}
use Rattle.sweep_reports.proofs.Put.{on-ok}
use Rattle.sweep_reports.proofs.Reported.{cut-put}
use Rattle.sweep_reports.proofs.plan.push_mask.Goals as goal

pub returns : goal.returns
returns g c = on-ok c.push_cut-2.result _ _
    (λ results card.
    let left = c.in_ok-left.ensures in
    let told = c.mask_at-mask.ensures in
    let leaves = other-leaves g.P.Board.Board.facts _ c.args.write _ c.args.made.now c.args.i c.in_ok-left.left
    c.in_default.ensures.other (left.cut card) left.masked in
    cut-put (sweeping_of g.P.Board.Board.facts g.P.Board.Sweepable.torn c.args.plan.now) c.args.write
    c.args.before.now c.args.made.now c.args.i _ c.in_ok-left.left _ _
    (mask-is c.args.made.now.words c.args.i _ told.none told.all told.single)
    leaves (results leaves.cut.has_card))
    c.push_cut-2.ensures

pub returns-in-Some : goal.returns-in-Some
returns-in-Some g c = on-ok c.push_cut.result _ _
    (λ results card.
    let told = c.mask_at-mask.ensures in
    let leaves = known-leaves g.P.Board.Board.facts g.P.Board.Sweepable.torn _ c.args.write _ c.args.made.now c.args.i
    c.in-Some.left.now (c.requires.made card) c.in-Some.ensures.known in
    cut-put (sweeping_of g.P.Board.Board.facts g.P.Board.Sweepable.torn c.args.plan.now) c.args.write
    c.args.before.now c.args.made.now c.args.i _ c.in-Some.left.now _ _
    (mask-is c.args.made.now.words c.args.i _ told.none told.all told.single)
    leaves (results leaves.cut.has_card))
    c.push_cut.ensures
