use Rattle.std.proofs.Common.{◌≢◌, ◌+◌, ℕ, List, slice_index, sym, ap, ◌∙◌, arith}
use Rattle.flash_device.specs.declared.flash.TheConstants.{BLANK}
use Rattle.program_units.specs.laws.BlankRuns.{blank_fails, filled_blank}
use Rattle.program_units.proofs.unit_calls.has_blank.Goals as goal

pub returns-then-branch-clause-blank : goal.returns-then-branch-clause-blank
returns-then-branch-clause-blank g c =
    let m = (g.D.UnitDevice.state c.args.device.now).flash.words in
    let at = c.args.at in
    let k = c.loop-k.k in
    let other : slice_index m (at + k) ≢ BLANK = λ e.
    c.if-branch.true (c.in_ok-read.ensures.word
    ∙ ap (λ (l : List ℕ). slice_index l (at + k)) c.loop-k.invariant.words ∙ e) in
    sym (blank_fails m at c.args.size k c.loop-k-test.true other)

pub returns-clause-blank : goal.returns-clause-blank
returns-clause-blank g c =
    let m = (g.D.UnitDevice.state c.args.device.now).flash.words in
    sym (filled_blank m c.args.at c.args.size (record {
      each = λ j lt. c.loop-k.invariant.blank j (omega (arith, lt, c.loop-k-test.false));
    }))
