use Rattle.std.proofs.Common.{ℕ, List, slice_index, ◌∙◌, ap}
use Rattle.flash_area.specs.laws.Progressing.{used_here}
use Rattle.flash_area.proofs.move_progress.first_used.Goals as goal

pub returns-then-branch-clause-first : goal.returns-then-branch-clause-first
returns-then-branch-clause-first g c =
    let was = c.loop-at.invariant in
    used_here (g.F.Flash.state c.args.flash.now).words c.args.from c.args.end c.loop-at.at was.least c.loop-at-test.true
    was.blank
    (λ e. c.if-branch.true
    (c.in_ok-read.ensures.word ∙ ap (λ (l : List ℕ). slice_index l c.loop-at.at) was.words ∙ e))
