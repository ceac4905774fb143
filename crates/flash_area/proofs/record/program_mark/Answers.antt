use Rattle.std.proofs.Common.{◌≡◌, ◌+◌, ℕ, slice_index, ap, ◌∙◌, arith}
use Rattle.flash_device.specs.laws.Marks.{mark_words}
use Rattle.flash_area.proofs.record.program_mark.Goals as goal

pub returns-clause-done : goal.returns-clause-done
returns-clause-done g c =
    let m = (g.F.Flash.state c.program.new.self).words in
    let at = c.args.at in
    let here : at ≡ at + 0 = omega arith in
    mark_words m at (ap (λ (k : ℕ). slice_index m k) here ∙ c.in_ok-program.ensures.done.each 0 (omega arith))
    (c.in_ok-program.ensures.done.each 1 (omega arith))
