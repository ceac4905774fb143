use Rattle.std.proofs.Common.{◌≡◌, ◌+◌, ◌-◌, ◌*◌, ℕ, List, slice_index, sym, ap, subst, ◌∙◌, arith}
use Rattle.flash_device.specs.declared.flash.TheConstants.{BLANK}
use Rattle.flash_device.specs.laws.Rising.{rises_to}
use Rattle.sector_moves.proofs.progress.is_blank_sector.Goals as goal

pub read-requires-clause-within : goal.read-requires-clause-within
read-requires-clause-within g c =
    let sectors = g.F.Flash.SECTORS in
    let fit = g.met.F.Flash.sectors_fit in
    let number = c.requires.sector in
    let up = rises_to g.F.Flash.sector_start g.met.F.Flash.sectors_rise (c.args.sector + 1) (2 * sectors + 1)
    (omega (arith, number)) in
    let last = fit.3 in
    let end = c.sector_at-at-end.ensures in
    let lt = c.loop-at-test.true in
    omega (arith, up, last, end, lt)

pub returns-then-branch-clause-used : goal.returns-then-branch-clause-used
returns-then-branch-clause-used g c = λ e all.
    let m = (g.F.Flash.state c.args.flash.now).words in
    let from = g.F.Flash.sector_start c.args.sector in
    let least = c.loop-at.invariant.least in
    let end = c.sector_at-at-end.ensures in
    let lt = c.loop-at-test.true in
    let place : from + (c.loop-at.at - from) ≡ c.loop-at.at = omega (arith, least) in
    let read : c.in_ok-read.field-0 ≡ slice_index m c.loop-at.at =
    subst (λ (l : List ℕ). c.in_ok-read.field-0 ≡ slice_index l c.loop-at.at) c.loop-at.invariant.words
    c.in_ok-read.ensures.word in
    let blank : slice_index m c.loop-at.at ≡ BLANK =
    ap (λ (k : ℕ). slice_index m k) (sym place) ∙ all.each (c.loop-at.at - from) (omega (arith, least, end, lt)) in
    let is : c.in_ok-read.field-0 ≡ BLANK = read ∙ blank in
    c.if-branch.true is
