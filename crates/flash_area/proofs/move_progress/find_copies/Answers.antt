use Rattle.std.proofs.Common.{◌≡◌, ◌⊎◌, ◌<◌, ◌+◌, ◌*◌, ℕ, true, List, sym, ap, ap₂, subst, ◌∙◌, inl, inr, ⊎_elim}
use Rattle.flash_device.specs.FlashLogs.{base_in, close_of, is_closed}
use Rattle.flash_device.specs.PageTables.{AreFree, IsFirstFreeSlot, IsPageTable}
use Rattle.flash_area.specs.ProgressParts.{IsCopyCount}
use Rattle.flash_area.specs.Spares.{copies_most, spare_in}
use Rattle.flash_area.specs.laws.Erased.{is_area}
use Rattle.flash_area.specs.laws.Progressing.{found_best, found_none}
use Rattle.flash_area.proofs.move_progress.find_copies.Goals as goal

pub returns-then-is_in_pace-clause-found : goal.returns-then-is_in_pace-clause-found
returns-then-is_in_pace-clause-found g c =
    let pages = g.F.Flash.PAGES in
    let slots = g.F.Flash.SLOTS in
    let m = (g.F.Flash.state c.args.flash.now).words in
    let turn = c.args.turn in
    let to = spare_in slots turn in
    let table = g.F.Table.PageTable.entries c.args.table.now in
    let other = g.F.Table.PageTable.entries c.scan.new.table in
    let behind = c.in_ok-behind.behind in
    let copies = c.in_ok-copies.copies in
    let is = c.spare.ensures.is slots in
    let count : IsCopyCount pages slots m (base_in slots turn) to copies.copied copies.older =
    subst (λ (l : List ℕ). IsCopyCount pages slots l (base_in slots turn) to copies.copied copies.older)
    c.scan.ensures.words c.in_ok-copies.ensures.count in
    let index : IsPageTable pages m to slots other =
    subst (λ (b : ℕ). IsPageTable pages m b slots other) is c.in_ok-behind.ensures.index in
    let first : IsFirstFreeSlot m to behind slots =
    subst (λ (b : ℕ). IsFirstFreeSlot m b behind slots) is c.in_ok-behind.ensures.first in
    let free : AreFree m to behind slots =
    subst (λ (b : ℕ). AreFree m b behind slots) is c.in_ok-behind.ensures.free in
    let place : close_of slots c.spare-2.result ≡ to + 20 * slots =
    (is_area pages slots c.spare-2.result c.spare-2.ensures.most).close
    ∙ ap (λ (b : ℕ). b + 20 * slots) (c.spare-2.ensures.is slots) in
    let closed : c.in_ok-closed.closed ≡ is_closed m (to + 20 * slots) =
    c.in_ok-closed.ensures.closed
    ∙ ap₂ (λ (l : List ℕ) (k : ℕ). is_closed l k) (c.count_copies.ensures.words ∙ c.scan.ensures.words) place in
    let whole = g.met.F.Flash.pages_fit.2 in
    let sectors = g.F.Flash.SECTORS in
    let start = g.F.Flash.sector_start in
    let yes = c.is_in_pace.ensures.yes c.if-is_in_pace.true in (
      c.SECTORS.ensures,
      found_best pages slots sectors start m turn c.requires.turn.2 whole copies.copied copies.older
          c.pages_end-end.result
          behind table other count c.requires.index index c.pages_end-end.ensures first c.args.extra c.requires.turn.1
          (sym closed ∙ yes.0) yes.1 free yes.2,
    )

pub returns-clause-none : goal.returns-clause-none
returns-clause-none g c =
    let pages = g.F.Flash.PAGES in
    let slots = g.F.Flash.SLOTS in
    let m = (g.F.Flash.state c.args.flash.now).words in
    let turn = c.args.turn in
    let to = spare_in slots turn in
    let table = g.F.Table.PageTable.entries c.args.table.now in
    let other = g.F.Table.PageTable.entries c.scan.new.table in
    let behind = c.in_ok-behind.behind in
    let copies = c.in_ok-copies.copies in
    let is = c.spare.ensures.is slots in
    let count : IsCopyCount pages slots m (base_in slots turn) to copies.copied copies.older =
    subst (λ (l : List ℕ). IsCopyCount pages slots l (base_in slots turn) to copies.copied copies.older)
    c.scan.ensures.words c.in_ok-copies.ensures.count in
    let index : IsPageTable pages m to slots other =
    subst (λ (b : ℕ). IsPageTable pages m b slots other) is c.in_ok-behind.ensures.index in
    let first : IsFirstFreeSlot m to behind slots =
    subst (λ (b : ℕ). IsFirstFreeSlot m b behind slots) is c.in_ok-behind.ensures.first in
    let place : close_of slots c.spare-2.result ≡ to + 20 * slots =
    (is_area pages slots c.spare-2.result c.spare-2.ensures.most).close
    ∙ ap (λ (b : ℕ). b + 20 * slots) (c.spare-2.ensures.is slots) in
    let closed : c.in_ok-closed.closed ≡ is_closed m (to + 20 * slots) =
    c.in_ok-closed.ensures.closed
    ∙ ap₂ (λ (l : List ℕ) (k : ℕ). is_closed l k) (c.count_copies.ensures.words ∙ c.scan.ensures.words) place in
    let whole = g.met.F.Flash.pages_fit.2 in
    let sectors = g.F.Flash.SECTORS in
    let start = g.F.Flash.sector_start in
    let no = c.is_in_pace.ensures.no c.if-is_in_pace.false in
    found_none pages slots sectors start m turn c.requires.turn.2 whole copies.copied copies.older
    c.pages_end-end.result
    behind table other count c.requires.index index c.pages_end-end.ensures first c.args.extra
    (⊎_elim
    (λ (shut : c.in_ok-closed.closed ≡ true). inl (sym closed ∙ shut))
    (λ (more : (16 * copies.copied < c.pages_end-end.result) ⊎ (copies_most copies.copied c.args.extra < behind)).
    inr more)
    no)
