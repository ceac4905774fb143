use Rattle.std.proofs.Common.{◌<◌, ◌+◌, ℕ, List, subst, arith, ◌∙◌}
use Rattle.flash_device.specs.FlashLogs.{base_in}
use Rattle.flash_area.specs.ProgressParts.{IsSameCount}
use Rattle.flash_area.specs.Spares.{spare_in}
use Rattle.flash_area.specs.laws.Progressing.{all_counted, one_counted}
use Rattle.flash_area.proofs.move_progress.count_copies.Goals as goal

pub returns-then-first-PAGES-clause-count : goal.returns-then-first-PAGES-clause-count
returns-then-first-PAGES-clause-count g c =
    let steps = c.steps_of_pages-copied.ensures in
    all_counted g.F.Flash.PAGES g.F.Flash.SLOTS (g.F.Flash.state c.args.flash.now).words
    (base_in g.F.Flash.SLOTS c.args.turn) (spare_in g.F.Flash.SLOTS c.args.turn) c.in_ok-first.first
    c.steps_of_pages-copied.result g.met.F.Flash.pages_fit.2 c.in_ok-first.ensures.count
    (c.if-first-PAGES.true ∙ c.PAGES.ensures) steps.most
    steps.within steps.all

pub returns-clause-count : goal.returns-clause-count
returns-clause-count g c =
    let steps = c.steps_of_pages-copied-2.ensures in
    let m = (g.F.Flash.state c.args.flash.now).words in
    let from = base_in g.F.Flash.SLOTS c.args.turn in
    let to = spare_in g.F.Flash.SLOTS c.args.turn in
    let within = c.in_ok-first.ensures.count.within in
    let last = c.PAGES.ensures in
    let below : c.in_ok-first.first < g.F.Flash.PAGES = omega (arith, within, c.if-first-PAGES.false, last) in
    one_counted g.F.Flash.PAGES g.F.Flash.SLOTS m from to c.in_ok-first.first c.in_ok-next.next
    c.steps_of_pages-copied-2.result c.older_page-older.result g.met.F.Flash.pages_fit.2 c.in_ok-first.ensures.count
    (subst (λ (l : List ℕ). IsSameCount g.F.Flash.PAGES g.F.Flash.SLOTS l from to (c.in_ok-first.first + 1)
    c.in_ok-next.next) c.same_pages.ensures.words c.in_ok-next.ensures.count)
    below steps.most steps.within steps.all c.older_page-older.ensures.one
    c.older_page-older.ensures.none
