use Rattle.std.proofs.Common.{◌≡◌, ◌≢◌, ◌≤◌, ◌<◌, ◌+◌, ◌*◌, ℕ, true, false, List, slice_index, sym, ap}
use Rattle.std.proofs.Common.{subst, ◌∙◌, arith}
use Rattle.flash_device.specs.declared.flash.TheConstants.{BLANK}
use Rattle.flash_device.specs.FlashCalls.{AreFilled}
use Rattle.flash_device.specs.PageTables.{IsPageTable}
use Rattle.flash_device.specs.FlashLogs.{slot_of, is_marked}
use Rattle.flash_device.specs.laws.Indexing.{index_past, index_beyond, index_put, free_more}
use Rattle.spare_sectors.specs.laws.SpareTurns.{marked_begun, used_begun}
use Rattle.spare_sectors.proofs.spare_map.scan_entry.Goals as goal
use Rattle.spare_sectors.proofs.spare_map.scan_entry.Goals.{then-number-from, else-number-from}

pub returns-then-branch-clause-index : goal.returns-then-branch-clause-index
returns-then-branch-clause-index g c =
    let pages = 2 * g.D.MapDevice.SECTORS + 1 in
    let m = (g.D.MapDevice.state c.args.device.now).map in
    let entry = c.args.entry in
    let marked : is_marked m (slot_of 0 entry + 18) ≡ true =
    ap (λ (k : ℕ). is_marked m (k + 18)) (sym c.entry_at-at.ensures.is) ∙ sym c.in_ok-is_marked.ensures.marked
    ∙ c.if-branch.true in
    let number : c.in_ok-number.number ≡ slice_index m (slot_of 0 entry + 16) =
    c.in_ok-number.ensures.word ∙ ap (λ (l : List ℕ). slice_index l (c.entry_at-at.result + 16))
    c.is_marked.ensures.map
    ∙ ap (λ (k : ℕ). slice_index m (k + 16)) c.entry_at-at.ensures.is in
    let count = c.from.ensures in
    let entries = g.D.Map.PageTable.entries in
    elim c.if-number-from.branch [
      | then-number-from w ↦
          let small : c.in_ok-number.number < pages = omega (arith, w.if-number-from.true, count) in
          let all = g.met.D.MapDevice.map_fits c.args.table.now in
          subst (λ (t : List ℕ). IsPageTable pages m 0 (entry + 1) t) (λ i. entries ((sym w.table-is) i))
          (subst (λ (t : List ℕ). IsPageTable pages m 0 (entry + 1) t) (sym w.set_entry.ensures)
          (index_put pages m (entries c.args.table.now) 0 entry c.in_ok-number.number c.requires.index
          (omega (arith, small, all))
          marked
          (sym number)))
      | else-number-from w ↦
          let far : pages ≤ slice_index m (slot_of 0 entry + 16) =
          omega (arith, w.if-number-from.false, count, number) in
          subst (λ (t : List ℕ). IsPageTable pages m 0 (entry + 1) t) (λ i. entries ((sym w.table-is) i))
          (index_beyond pages m (entries c.args.table.now) 0 entry c.requires.index far)
    ]

pub returns-then-branch-2-clause-index : goal.returns-then-branch-2-clause-index
returns-then-branch-2-clause-index g c =
    let m = (g.D.MapDevice.state c.args.device.now).map in
    let free : is_marked m (slot_of 0 c.args.entry + 18) ≡ false =
    ap (λ (k : ℕ). is_marked m (k + 18)) (sym c.entry_at-at.ensures.is) ∙ sym c.in_ok-is_marked.ensures.marked
    ∙ c.if-branch.false in
    index_past (2 * g.D.MapDevice.SECTORS + 1) m (g.D.Map.PageTable.entries c.args.table.now) 0 c.args.entry
    c.requires.index free

pub returns-clause-index : goal.returns-clause-index
returns-clause-index g c =
    let m = (g.D.MapDevice.state c.args.device.now).map in
    let free : is_marked m (slot_of 0 c.args.entry + 18) ≡ false =
    ap (λ (k : ℕ). is_marked m (k + 18)) (sym c.entry_at-at.ensures.is) ∙ sym c.in_ok-is_marked.ensures.marked
    ∙ c.if-branch.false in
    index_past (2 * g.D.MapDevice.SECTORS + 1) m (g.D.Map.PageTable.entries c.args.table.now) 0 c.args.entry
    c.requires.index free

pub returns-then-branch-2-clause-free : goal.returns-then-branch-2-clause-free
returns-then-branch-2-clause-free g c =
    let m = (g.D.MapDevice.state c.args.device.now).map in
    let mid = (g.D.MapDevice.state c.is_marked.new.device).map in
    let blank : AreFilled mid c.entry_at-at.result 20 BLANK = c.in_ok-is_blank.ensures.blank c.if-branch-2.true in
    free_more m 0 c.args.next c.args.entry c.requires.free
    (subst (λ (k : ℕ). AreFilled m k 20 BLANK) c.entry_at-at.ensures.is
    (subst (λ (l : List ℕ). AreFilled l c.entry_at-at.result 20 BLANK) c.is_marked.ensures.map blank))

pub returns-then-branch-clause-most : goal.returns-then-branch-clause-most
returns-then-branch-clause-most g c =
    let old = g.D.MapDevice.state c.args.device.now in
    let marked : is_marked old.map (slot_of 0 c.args.entry + 18) ≡ true =
    ap (λ (k : ℕ). is_marked old.map (k + 18)) (sym c.entry_at-at.ensures.is) ∙ sym c.in_ok-is_marked.ensures.marked
    ∙ c.if-branch.true in
    marked_begun g.D.MapDevice.SPARES old.begun c.args.entry old.map
    (g.met.D.MapDevice.unbegun c.args.device.now) c.requires.below marked

pub returns-clause-most : goal.returns-clause-most
returns-clause-most g c =
    let old = g.D.MapDevice.state c.args.device.now in
    let mid = g.D.MapDevice.state c.is_marked.new.device in
    let used = c.in_ok-is_blank.ensures.used c.if-branch-2.false in
    let other : slice_index old.map (slot_of 0 c.args.entry + used.0) ≢ BLANK =
    λ is. used.1.1 (ap (λ (l : List ℕ). slice_index l (c.entry_at-at.result + used.0)) c.is_marked.ensures.map
    ∙ ap (λ (k : ℕ). slice_index old.map (k + used.0)) c.entry_at-at.ensures.is ∙ is) in
    used_begun g.D.MapDevice.SPARES old.begun c.args.entry used.0 old.map
    (g.met.D.MapDevice.unbegun c.args.device.now) c.requires.below used.1.0 other
