use Rattle.std.proofs.Common.{◌≡◌, ◌≤◌, ◌<◌, ◌+◌, ℕ, true, false, List, slice_index, sym, ap}
use Rattle.std.proofs.Common.{subst, ◌∙◌, arith, true≢false}
use Rattle.flash_device.specs.declared.flash.TheConstants.{BLANK}
use Rattle.flash_device.specs.FlashCalls.{AreFilled}
use Rattle.flash_device.specs.PageTables.{IsPageTable}
use Rattle.flash_device.specs.FlashLogs.{base_in, slot_of, is_marked}
use Rattle.flash_device.specs.laws.Indexing.{index_past, index_beyond, index_put, first_more, first_past, free_more}
use Rattle.flash_device.specs.laws.Marks.{blank_slot}
use Rattle.flash_area.proofs.scanning.scan_slot.Goals as goal
use Rattle.flash_area.proofs.scanning.scan_slot.Goals.{then-number-from, else-number-from}

pub returns-then-branch-clause-index : goal.returns-then-branch-clause-index
returns-then-branch-clause-index g c =
    let slots = g.F.Flash.SLOTS in
    let pages = g.F.Flash.PAGES in
    let m = (g.F.Flash.state c.args.flash.now).words in
    let base = base_in slots c.args.area in
    let at = c.slot_at-at.ensures.is in
    let marked : is_marked m (slot_of base c.args.slot + 18) ≡ true =
    ap (λ (k : ℕ). is_marked m (k + 18)) (sym at) ∙ sym c.in_ok-is_marked.ensures.marked ∙ c.if-branch.true in
    let number : c.in_ok-number.number ≡ slice_index m (slot_of base c.args.slot + 16) =
    c.in_ok-number.ensures.word ∙ ap (λ (l : List ℕ). slice_index l (c.slot_at-at.result + 16))
    c.is_marked.ensures.words
    ∙ ap (λ (k : ℕ). slice_index m (k + 16)) at in
    let count = c.from.ensures in
    let entries = g.F.Table.PageTable.entries in
    elim c.if-number-from.branch [
      | then-number-from w ↦
          let small : c.in_ok-number.number < pages = omega (arith, w.if-number-from.true, count) in
          let all = g.met.F.Flash.table_fits c.args.table.now in
          subst (λ (t : List ℕ). IsPageTable pages m base (c.args.slot + 1) t) (λ i. entries ((sym w.table-is) i))
          (subst (λ (t : List ℕ). IsPageTable pages m base (c.args.slot + 1) t) (sym w.set_entry.ensures)
          (index_put pages m (entries c.args.table.now) base c.args.slot c.in_ok-number.number c.requires.index
          (omega (arith, small, all))
          marked
          (sym number)))
      | else-number-from w ↦
          let far : pages ≤ slice_index m (slot_of base c.args.slot + 16) =
          omega (arith, w.if-number-from.false, count, number) in
          subst (λ (t : List ℕ). IsPageTable pages m base (c.args.slot + 1) t) (λ i. entries ((sym w.table-is) i))
          (index_beyond pages m (entries c.args.table.now) base c.args.slot c.requires.index far)
    ]

pub returns-then-branch-2-clause-index : goal.returns-then-branch-2-clause-index
returns-then-branch-2-clause-index g c =
    let slots = g.F.Flash.SLOTS in
    let pages = g.F.Flash.PAGES in
    let m = (g.F.Flash.state c.args.flash.now).words in
    let base = base_in slots c.args.area in
    let at = c.slot_at-at.ensures.is in
    let free : is_marked m (slot_of base c.args.slot + 18) ≡ false =
    ap (λ (k : ℕ). is_marked m (k + 18)) (sym at) ∙ sym c.in_ok-is_marked.ensures.marked ∙ c.if-branch.false in
    index_past pages m (g.F.Table.PageTable.entries c.args.table.now) base c.args.slot c.requires.index free

pub returns-clause-index : goal.returns-clause-index
returns-clause-index g c =
    let slots = g.F.Flash.SLOTS in
    let pages = g.F.Flash.PAGES in
    let m = (g.F.Flash.state c.args.flash.now).words in
    let base = base_in slots c.args.area in
    let at = c.slot_at-at.ensures.is in
    let free : is_marked m (slot_of base c.args.slot + 18) ≡ false =
    ap (λ (k : ℕ). is_marked m (k + 18)) (sym at) ∙ sym c.in_ok-is_marked.ensures.marked ∙ c.if-branch.false in
    index_past pages m (g.F.Table.PageTable.entries c.args.table.now) base c.args.slot c.requires.index free

pub returns-then-branch-2-clause-free : goal.returns-then-branch-2-clause-free
returns-then-branch-2-clause-free g c =
    let slots = g.F.Flash.SLOTS in
    let m = (g.F.Flash.state c.args.flash.now).words in
    let mid = (g.F.Flash.state c.is_marked.new.flash).words in
    let base = base_in slots c.args.area in
    let blank : AreFilled mid c.slot_at-at.result 20 BLANK = c.in_ok-is_blank.ensures.blank c.if-branch-2.true in
    free_more m base c.args.next c.args.slot c.requires.free
    (subst (λ (k : ℕ). AreFilled m k 20 BLANK) c.slot_at-at.ensures.is
    (subst (λ (l : List ℕ). AreFilled l c.slot_at-at.result 20 BLANK) c.is_marked.ensures.words blank))

pub returns-then-branch-clause-first : goal.returns-then-branch-clause-first
returns-then-branch-clause-first g c =
    let m = (g.F.Flash.state c.args.flash.now).words in
    let base = base_in g.F.Flash.SLOTS c.args.area in
    let at = c.slot_at-at.ensures.is in
    let marked : is_marked m (slot_of base c.args.slot + 18) ≡ true =
    ap (λ (k : ℕ). is_marked m (k + 18)) (sym at) ∙ sym c.in_ok-is_marked.ensures.marked ∙ c.if-branch.true in
    first_past m base c.args.slot
    (λ blank. true≢false (sym marked ∙ blank_slot m (slot_of base c.args.slot) blank))

pub returns-then-branch-2-clause-first : goal.returns-then-branch-2-clause-first
returns-then-branch-2-clause-first g c =
    first_more (g.F.Flash.state c.args.flash.now).words (base_in g.F.Flash.SLOTS c.args.area) c.args.next c.args.slot
    c.requires.first c.requires.free.within

pub returns-clause-first : goal.returns-clause-first
returns-clause-first g c =
    let m = (g.F.Flash.state c.args.flash.now).words in
    let mid = (g.F.Flash.state c.is_marked.new.flash).words in
    let base = base_in g.F.Flash.SLOTS c.args.area in
    let full : ¬ AreFilled mid c.slot_at-at.result 20 BLANK = c.in_ok-is_blank.ensures.full c.if-branch-2.false in
    first_past m base c.args.slot
    (subst (λ (k : ℕ). ¬ AreFilled m k 20 BLANK) c.slot_at-at.ensures.is
    (subst (λ (l : List ℕ). ¬ AreFilled l c.slot_at-at.result 20 BLANK) c.is_marked.ensures.words full))
