use Rattle.std.proofs.Common.{◌≡◌, ◌<◌, ◌≤◌, ℕ, List, false, refl, sym, ap, subst, inr, true≢false}
use Rattle.std.proofs.lemmas.Result.{on_ok_weaker}
use Rattle.flash_moves.specs.declared.place.PageMap.{PageMap}
use Rattle.flash_moves.specs.Paces.{IsInPaceFrom, KeepsPace, WillKeepPace, extra_of}
use Rattle.flash_log.specs.KeptParts.{WillPace}
use Rattle.flash_log.specs.SlotsInTurn.{IsNextSlot}
use Rattle.flash_log.specs.laws.Keeping.{kept_in_pace}
use Rattle.flash_log.specs.laws.Retrying.{on_err}
use Rattle.flash_log.proofs.kept.find_again.Given.{Over}
use Rattle.flash_log.proofs.kept.find_again.Goals.{After-find_pages-2}
use Rattle.flash_log.proofs.kept.find_again.Goals as goal

pub returns-then-not-kept-clause-next : goal.returns-then-not-kept-clause-next
returns-then-not-kept-clause-next g c =
    on_ok_weaker c.find_pages.result (λ (next : c.args.place.now.ready ≡ false → (n : ℕ) → n < g.F.Flash.SLOTS
    → IsNextSlot g.F.Flash.SLOTS (g.F.Flash.state c.args.flash.now).words c.args.place.now.tried n
    → c.find_pages.new.place.next ≡ n).
    next c.requires.unready) c.find_pages.ensures.next

-- the slots that were tried are the same behind the table
read_tried : (g : Over) (c : After-find_pages-2 g) → c.read_table.new.place.tried ≡ c.args.place.now.tried
read_tried g c = ap (λ (p : PageMap g.row.F-Table.Denot). p.tried) c.in_ok-read_table.ensures.is

pub returns-clause-next : goal.returns-clause-next
returns-clause-next g c =
    let slots = g.F.Flash.SLOTS in
    let m = (g.F.Flash.state c.args.flash.now).words in
    let mid = (g.F.Flash.state c.read_table.new.flash).words in
    let t = c.args.place.now.tried in
    let last = c.find_pages-2.new.place.next in
    on_ok_weaker c.find_pages-2.result (λ (next : false ≡ false → (n : ℕ) → n < slots
    → IsNextSlot slots mid c.read_table.new.place.tried n → last ≡ n).
    λ n below is. next refl n below
    (subst (λ (l : List ℕ). IsNextSlot slots l c.read_table.new.place.tried n) (sym c.read_table.ensures.words)
    (subst (λ (k : ℕ). IsNextSlot slots m k n) (sym (read_tried g (goal.at.returns-clause-next g c).After-find_pages-2))
    is))) c.find_pages-2.ensures.next

-- By what was known the log will be in pace once it has looked for the rest.
read_stands : (g : Over) (c : After-find_pages-2 g) (extra : ℕ)
    → WillPace c.args.kept.now g.F.Flash.PAGES g.F.Flash.SLOTS g.F.Flash.SECTORS g.F.Flash.sector_start
    (g.F.Flash.state c.args.flash.now).words extra c.args.place.now
    → IsInPaceFrom g.F.Flash.PAGES g.F.Flash.SLOTS g.F.Flash.SECTORS g.F.Flash.sector_start
    (g.F.Flash.state c.read_table.new.flash).words extra c.read_table.new.place.tried
read_stands g c = λ extra will.
    let slots = g.F.Flash.SLOTS in
    let pages = g.F.Flash.PAGES in
    let sectors = g.F.Flash.SECTORS in
    let start = g.F.Flash.sector_start in
    let m = (g.F.Flash.state c.args.flash.now).words in
    let p = c.args.place.now in
    subst (λ (l : List ℕ). IsInPaceFrom pages slots sectors start l extra c.read_table.new.place.tried)
    (sym c.read_table.ensures.words)
    (subst (λ (k : ℕ). IsInPaceFrom pages slots sectors start m extra k) (sym (read_tried g c))
    (kept_in_pace pages slots sectors start m c.args.page p extra (c.requires.keeps c.if-not-kept.false)
    (will.known c.if-not-kept.false)))

pub returns-clause-in_pace : goal.returns-clause-in_pace
returns-clause-in_pace g c =
    let slots = g.F.Flash.SLOTS in
    let pages = g.F.Flash.PAGES in
    let sectors = g.F.Flash.SECTORS in
    let start = g.F.Flash.sector_start in
    let mid = (g.F.Flash.state c.read_table.new.flash).words in
    let run = (goal.at.returns-clause-in_pace g c).After-find_pages-2 in
    on_ok_weaker c.find_pages-2.result (λ (in_pace : (extra : ℕ) → extra ≤ extra_of pages slots sectors
    → WillKeepPace pages slots sectors start mid extra (record c.read_table.new.place { ready = false })
    → KeepsPace pages slots sectors extra c.find_pages-2.new.place).
    λ extra fits will. in_pace extra fits (inr (refl, read_stands g run extra will))) c.find_pages-2.ensures.in_pace

pub returns-clause-stands : goal.returns-clause-stands
returns-clause-stands g c = on_err c.find_pages-2.result (λ extra fits will. record {
  known = λ e. absurd (true≢false (sym e));
  looks = λ e. c.find_pages-2.ensures.stands extra fits
      (inr (refl, read_stands g (goal.at.returns-clause-stands g c).After-find_pages-2 extra will));
})
