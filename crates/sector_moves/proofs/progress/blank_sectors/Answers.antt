use Rattle.std.proofs.Common.{◌≡◌, ◌+◌, ◌-◌, ◌∙◌, ℕ, List, refl, true, subst, arith}
use Rattle.flash_device.specs.FlashBlocks.{steps_of}
use Rattle.flash_device.specs.FlashCalls.{AreFilled}
use Rattle.flash_device.specs.declared.flash.TheConstants.{BLANK}
use Rattle.flash_area.specs.Spares.{spare_sector}
use Rattle.sector_moves.specs.laws.Tracing.{last_more, last_most}
use Rattle.sector_moves.proofs.progress.blank_sectors.Goals as goal

pub returns-then-not-branch-clause-all : goal.returns-then-not-branch-clause-all
returns-then-not-branch-clause-all g c = λ e within all.
    let pages = g.F.Flash.PAGES in
    let sectors = g.F.Flash.SECTORS in
    let start = g.F.Flash.sector_start in
    let m = (g.F.Flash.state c.args.flash.now).words in
    let s = c.first_sector_of_spare.result + c.copy_steps.result + c.loop-n.n in
    let first = c.first_sector_of_spare.ensures.is in
    let steps = c.copy_steps.ensures in
    let is : s ≡ spare_sector sectors c.args.turn + (steps_of pages + c.loop-n.n) = omega (arith, first, steps) in
    let used : ¬ AreFilled m (start s) (start (s + 1) - start s) BLANK =
    subst (λ (l : List ℕ). ¬ AreFilled l (start s) (start (s + 1) - start s) BLANK) c.loop-n.invariant.words
    (c.in_ok-is_blank_sector.ensures.used c.if-not-branch.true) in
    last_most start g.met.F.Flash.sectors_rise m pages sectors c.args.turn c.loop-n.n s e is used all

pub loop-n-preserved : goal.loop-n-preserved
loop-n-preserved g c =
    let pages = g.F.Flash.PAGES in
    let sectors = g.F.Flash.SECTORS in
    let start = g.F.Flash.sector_start in
    let m = (g.F.Flash.state c.args.flash.now).words in
    let was = c.loop-n.invariant in
    let looked = c.is_blank_sector.ensures in
    let lit = c.in_ok-is_blank_sector.ensures.light.ok (refl {a = true}) in
    let s = c.first_sector_of_spare.result + c.copy_steps.result + c.loop-n.n in
    let first = c.first_sector_of_spare.ensures.is in
    let steps = c.copy_steps.ensures in
    let is : s ≡ spare_sector sectors c.args.turn + (steps_of pages + c.loop-n.n) = omega (arith, first, steps) in
    let here : AreFilled m (start s) (start (s + 1) - start s) BLANK =
    subst (λ (l : List ℕ). AreFilled l (start s) (start (s + 1) - start s) BLANK) was.words
    (c.in_ok-is_blank_sector.ensures.blank c.if-not-branch.false) in
    record {
      words = looked.words ∙ was.words;
      work = looked.work ∙ was.work;
      erases = looked.erases ∙ was.erases;
      lit = lit.lit;
      steady = record { lit = lit.lit; due = lit.due ∙ was.steady.due; faults = lit.faults ∙ was.steady.faults };
      blank = last_more start g.met.F.Flash.sectors_rise m pages sectors c.args.turn c.loop-n.n s is was.blank here;
    }
