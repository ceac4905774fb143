use Rattle.std.proofs.Common.{◌≡◌, ◌<◌, ◌+◌, inl, ◌∙◌, arith}
use Rattle.flash_device.specs.FlashBlocks.{steps_of}
use Rattle.sector_moves.specs.laws.Keeping.{LeavesSector, sector_stays}
use Rattle.sector_moves.proofs.steps.fill_next.Given.{Over}
use Rattle.sector_moves.proofs.steps.fill_next.Goals.{After-fill_sector}
use Rattle.sector_moves.proofs.steps.fill_next.Goals as goal

leaves : (g : Over) (c : After-fill_sector g)
    → LeavesSector g.F.Table.PageTable.entries g.F.Flash.PAGES g.F.Flash.SLOTS g.F.Flash.SECTORS
    g.F.Flash.sector_start (g.F.Flash.state c.args.flash.now).words c.args.place.now c.args.place.now.copied
    (g.F.Flash.state c.fill_sector.new.flash).words
leaves g c =
    let fit = g.met.F.Flash.sectors_fit in
    let place = c.args.place.now in
    sector_stays g.F.Flash.PAGES g.F.Flash.SLOTS g.F.Flash.SECTORS g.F.Flash.sector_start g.met.F.Flash.sectors_rise
    fit.0 fit.1 fit.2 g.F.Table.PageTable.entries g.met.F.SectorFlash.sectors_left
    (g.F.Flash.state c.args.flash.now).words (g.F.Flash.state c.fill_sector.new.flash).words place place.copied
    c.requires.log c.requires.ready c.requires.moves.0
    (inl (omega arith, (c.requires.log.known c.requires.ready).place.spare.most)) c.fill_sector.ensures.elsewhere

pub returns-in_err-taken-clause-words : goal.returns-in_err-taken-clause-words
returns-in_err-taken-clause-words g c =
    (leaves g (goal.at.returns-in_err-taken-clause-words g c).After-fill_sector).stays.words

pub returns-in_err-taken-clause-log : goal.returns-in_err-taken-clause-log
returns-in_err-taken-clause-log g c =
    (leaves g (goal.at.returns-in_err-taken-clause-log g c).After-fill_sector).failed

pub end_move-requires-clause-log : goal.end_move-requires-clause-log
end_move-requires-clause-log g c = (leaves g (goal.at.end_move-requires-clause-log g c).After-fill_sector).failed

pub end_move-requires-clause-pages : goal.end_move-requires-clause-pages
end_move-requires-clause-pages g c =
    let last : c.args.place.now.copied + 1 ≡ steps_of g.F.Flash.PAGES =
    c.if-place-copy_steps.true ∙ c.copy_steps.ensures in
    (leaves g (goal.at.end_move-requires-clause-pages g c).After-fill_sector).moved c.requires.moves.1 last
    (c.in_ok-taken.ensures.copies (c.requires.log.known c.requires.ready).place.spare.copies)

pub returns-then-place-copy_steps-clause-words : goal.returns-then-place-copy_steps-clause-words
returns-then-place-copy_steps-clause-words g c =
    let kept = (leaves g (goal.at.returns-then-place-copy_steps-clause-words g c).After-fill_sector).stays in
    c.end_move.ensures.words ∙ kept.words

pub returns-clause-words : goal.returns-clause-words
returns-clause-words g c = (leaves g (goal.at.returns-clause-words g c).After-fill_sector).stays.words

pub returns-clause-log : goal.returns-clause-log
returns-clause-log g c =
    let known = (c.requires.log.known c.requires.ready).place in
    let most = known.spare.most in
    let more = c.if-place-copy_steps.false in
    let steps = c.copy_steps.ensures in
    let fewer : c.args.place.now.copied + 1 < steps_of g.F.Flash.PAGES = omega (arith, more, steps, most) in
    (leaves g (goal.at.returns-clause-log g c).After-fill_sector).copied c.requires.moves.1 fewer c.requires.due
    (c.in_ok-taken.ensures.copies known.spare.copies)
