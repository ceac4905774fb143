use Rattle.std.proofs.Common.{◌≡◌, ◌≢◌, ◌<◌, ◌≤◌, ◌+◌, ◌-◌, ◌*◌, ℕ, List, sym, subst, arith}
use Rattle.flash_device.specs.PageTables.{IsPageTable}
use Rattle.flash_device.specs.FlashLogs.{base_in}
use Rattle.flash_area.specs.Spares.{spare_in}
use Rattle.sector_moves.specs.SectorSpares.{HasOlderCopy, HasStepCopies, ReadsAsCopy, spare_slots}
use Rattle.sector_moves.specs.laws.Tracing.{copies_are, copies_read, none_with, some_with}
use Rattle.sector_moves.proofs.progress.copies_of.Goals as goal

pub returns-clause-copies : goal.returns-clause-copies
returns-clause-copies g c =
    let pages = g.F.Flash.PAGES in
    let slots = g.F.Flash.SLOTS in
    let sectors = g.F.Flash.SECTORS in
    let start = g.F.Flash.sector_start in
    let m = (g.F.Flash.state c.args.flash.now).words in
    let mid = (g.F.Flash.state c.scan_slots.new.flash).words in
    let turn = c.args.turn in
    let steps = c.args.steps in
    let from = base_in slots turn in
    let to = spare_in slots turn in
    let below = c.spare_slots-below.result in
    let is : below ≡ spare_slots slots sectors start turn steps = c.spare_slots-below.ensures.is in
    let other = g.F.Table.PageTable.entries c.scan_slots.new.table in
    let whole = g.met.F.Flash.pages_fit.2 in
    let less = c.requires.steps in
    let most : 16 * steps ≤ pages = omega (arith, whole, less) in
    let index : IsPageTable pages m to (spare_slots slots sectors start turn steps) other =
    subst (λ (n : ℕ). IsPageTable pages m to n other) is
    (subst (λ (b : ℕ). IsPageTable pages m b below other) (c.spare.ensures.is slots) c.in_ok-scan_slots.ensures.index)
    in
    some_with c.in_ok-older.older
    (λ older. (p : ℕ) → p < 16 * steps → p + 1 ≢ older → ReadsAsCopy slots mid from to below p)
    (λ older. HasStepCopies pages slots sectors start m turn steps older)
    (λ older reads. copies_are pages slots sectors start m turn c.requires.turn.1 steps most older
    (g.F.Table.PageTable.entries c.args.table.now) other c.requires.home index
    (c.lacks_none.ensures.yes c.if-not-lacks_none.false)
    (λ p lt but. subst (λ (n : ℕ). ReadsAsCopy slots m from to n p) is
    (subst (λ (l : List ℕ). ReadsAsCopy slots l from to below p) c.scan_slots.ensures.words (reads p lt but))))
    c.in_ok-older.ensures.one

pub returns-clause-older : goal.returns-clause-older
returns-clause-older g c =
    let slots = g.F.Flash.SLOTS in
    let m = (g.F.Flash.state c.args.flash.now).words in
    let mid = (g.F.Flash.state c.scan_slots.new.flash).words in
    let turn = c.args.turn in
    let from = base_in slots turn in
    let to = spare_in slots turn in
    let below = c.spare_slots-below.result in
    some_with c.in_ok-older.older
    (λ older. older ≢ 0 → ¬ ReadsAsCopy slots mid from to below (older - 1))
    (λ older. HasOlderCopy slots g.F.Flash.SECTORS g.F.Flash.sector_start m turn c.args.steps older)
    (λ older differs some reads. differs some
    (subst (λ (l : List ℕ). ReadsAsCopy slots l from to below (older - 1)) (sym c.scan_slots.ensures.words)
    (subst (λ (n : ℕ). ReadsAsCopy slots m from to n (older - 1)) (sym c.spare_slots-below.ensures.is) reads)))
    c.in_ok-older.ensures.differs

pub returns-clause-none : goal.returns-clause-none
returns-clause-none g c =
    let pages = g.F.Flash.PAGES in
    let slots = g.F.Flash.SLOTS in
    let sectors = g.F.Flash.SECTORS in
    let start = g.F.Flash.sector_start in
    let m = (g.F.Flash.state c.args.flash.now).words in
    let mid = (g.F.Flash.state c.scan_slots.new.flash).words in
    let turn = c.args.turn in
    let steps = c.args.steps in
    let from = base_in slots turn in
    let to = spare_in slots turn in
    let below = c.spare_slots-below.result in
    let is : below ≡ spare_slots slots sectors start turn steps = c.spare_slots-below.ensures.is in
    let whole = g.met.F.Flash.pages_fit.2 in
    let less = c.requires.steps in
    let most : 16 * steps ≤ pages = omega (arith, whole, less) in
    let words : mid ≡ m = c.scan_slots.ensures.words in
    none_with c.in_ok-older.older
    ((older : ℕ) → ¬ ((p : ℕ) → p < 16 * steps → p + 1 ≢ older → ReadsAsCopy slots mid from to below p))
    ((older : ℕ) → ¬ HasStepCopies pages slots sectors start m turn steps older)
    (λ no older has. no older (λ p lt but.
    subst (λ (l : List ℕ). ReadsAsCopy slots l from to below p) (sym words)
    (subst (λ (n : ℕ). ReadsAsCopy slots m from to n p) (sym is)
    (copies_read pages slots sectors start m turn c.requires.turn.1 steps most older has p lt but))))
    c.in_ok-older.ensures.more
