use Rattle.std.proofs.Common.{◌≡◌, ◌<◌, ◌≤◌, ℕ, slice_index}
use Rattle.sector_moves.proofs.progress.lacks_none.Given as goal

abbrev pub invariant-loop-page : goal.invariant-loop-page
invariant-loop-page g l =
    let entries = g.F.Table.PageTable.entries l.table in
    let others = g.F.Table.PageTable.entries l.other in record {
      least : l.first ≤ l.page;
      none : (p : ℕ) → l.first ≤ p → p < l.page → slice_index entries p ≡ 0 → slice_index others p ≡ 0;
    }
