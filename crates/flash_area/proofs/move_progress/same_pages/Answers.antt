use Rattle.std.proofs.Common.{◌≡◌, ◌<◌, ◌≤◌, ℕ, List, refl, sym, subst, ◌∙◌, ⊎_elim, arith}
use Rattle.std.proofs.lemmas.Bool.{cases_lt}
use Rattle.flash_device.specs.FlashLogs.{base_in}
use Rattle.flash_area.specs.ProgressParts.{ReadsSame}
use Rattle.flash_area.specs.Spares.{spare_in}
use Rattle.flash_area.proofs.move_progress.same_pages.Goals as goal

pub loop-page-preserved : goal.loop-page-preserved
loop-page-preserved g c =
    let slots = g.F.Flash.SLOTS in
    let m = (g.F.Flash.state c.args.flash.now).words in
    let from = base_in slots c.args.turn in
    let to = spare_in slots c.args.turn in
    let was = c.loop-page.invariant in
    let looked = c.is_same_page.ensures in
    let lit = c.in_ok-is_same_page.ensures.light.ok refl in
    let here : ReadsSame slots m from to c.loop-page.page =
    subst (λ (l : List ℕ). ReadsSame slots l from to c.loop-page.page) was.words
    (c.in_ok-is_same_page.ensures.same c.if-not-branch.false) in
    record {
      words = looked.words ∙ was.words;
      work = looked.work ∙ was.work;
      erases = looked.erases ∙ was.erases;
      lit = lit.lit;
      steady = record { lit = lit.lit; due = lit.due ∙ was.steady.due; faults = lit.faults ∙ was.steady.faults };
      least = omega (arith, was.least);
      same = λ p late lt. ⊎_elim
          (λ (before : p < c.loop-page.page). was.same p late before)
          (λ (ge : c.loop-page.page ≤ p). let e : p ≡ c.loop-page.page = omega (arith, lt, ge) in
          subst (λ (q : ℕ). ReadsSame slots m from to q) (sym e) here)
          (cases_lt p c.loop-page.page);
    }
