use Rattle.std.proofs.Common.{◌≡◌, ◌+◌, ℕ, slice_index, sym, ap, subst, ◌∙◌, arith}
use Rattle.flash_device.specs.FlashCalls.{AreFilled}
use Rattle.flash_device.specs.FlashLogs.{is_closed as has_closed, is_marked as has_mark}
use Rattle.flash_device.specs.declared.flash.TheConstants.{BLANK}
use Rattle.flash_device.specs.laws.Marks.{closed_words, mark_words, open_blank}
use Rattle.flash_area.proofs.record.close.Goals as goal

pub returns-clause-done : goal.returns-clause-done
returns-clause-done g c =
    let m = (g.F.Flash.state c.program.new.self).words in
    let at = c.close_at.result in
    let here : at ≡ at + 0 = omega arith in
    ap (λ (k : ℕ). has_closed m k) (sym c.close_at.ensures.is)
    ∙ closed_words m at (ap (λ (k : ℕ). slice_index m k) here ∙ c.in_ok-program.ensures.done.each 0 (omega arith))

pub returns-clause-mark : goal.returns-clause-mark
returns-clause-mark g c =
    let m = (g.F.Flash.state c.program.new.self).words in
    let at = c.close_at.result in
    let here : at ≡ at + 0 = omega arith in
    ap (λ (k : ℕ). has_mark m k) (sym c.close_at.ensures.is)
    ∙ mark_words m at (ap (λ (k : ℕ). slice_index m k) here ∙ c.in_ok-program.ensures.done.each 0 (omega arith))
    (c.in_ok-program.ensures.done.each 1 (omega arith))

pub program-requires-clause-blank : goal.program-requires-clause-blank
program-requires-clause-blank g c =
    let m = (g.F.Flash.state c.args.flash.now).words in
    subst (λ (k : ℕ). AreFilled m k 2 BLANK) (sym c.close_at.ensures.is) (open_blank m _ c.requires.opened)
