use Rattle.std.proofs.Common.{◌≡◌, ◌≢◌, ◌⊎◌, ◌<◌, ◌≤◌, ◌-◌, ℕ, slice_index}
use Rattle.flash_area.proofs.move_progress.pages_end.Given as goal

abbrev pub invariant-loop-page : goal.invariant-loop-page
invariant-loop-page g l =
    let entries = g.F.Table.PageTable.entries l.table in
    let others = g.F.Table.PageTable.entries l.other in record {
      most : l.end ≤ l.page;
      none : (p : ℕ) → l.end ≤ p → p < l.page → slice_index entries p ≡ 0 → slice_index others p ≡ 0;
      last : (l.end ≡ 0) ⊎ ((slice_index entries (l.end - 1) ≡ 0) × (slice_index others (l.end - 1) ≢ 0));
    }
