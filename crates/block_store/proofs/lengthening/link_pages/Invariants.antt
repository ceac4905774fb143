use Rattle.std.specs.Prelude.{◌≡◌, ◌==◌, ◌<◌, ◌≤◌, ◌+◌, ◌-◌, ℕ, if◌then◌else◌, None}
use Rattle.undo_journal.specs.Memory.{committed}
use Rattle.undo_journal.specs.StoreCalls.{Changes}
use Rattle.block_chain.specs.ChainChanges.{LinksAlone}
use Rattle.block_chain.specs.BlockWords.{link}
use Rattle.block_store.proofs.lengthening.link_pages.Given as goal

abbrev pub invariant-loop-page : goal.invariant-loop-page
invariant-loop-page g l = let m = committed l.fn.store in record {
  from : l.first ≤ l.page;
  within : l.page ≤ l.end;
  only : LinksAlone l.first l.end m (committed l.store);
  linked : (q : ℕ) → l.first ≤ q → q < l.page → link (committed l.store) q ≡ (if q + 1 == l.end then l.rest else q + 1);
  behind : (q : ℕ) → l.page ≤ q → q < l.end → link (committed l.store) q ≡ link m q;
  changes : Changes (l.page - l.first) l.fn.store l.store None;
  counted : l.store.facts.writes ≡ l.fn.store.facts.writes + (l.page - l.first);
}

abbrev pub decreases-loop-page : goal.decreases-loop-page
decreases-loop-page g l = l.end - l.page
