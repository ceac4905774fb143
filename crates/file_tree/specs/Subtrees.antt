-- Steps from files to their parents, in changes of the index and in deletions. The only public clause that uses these
-- definitions is that of `is_within`, which only `file_changes` calls.
use Rattle.std.specs.Prelude.{◌≡◌, ◌==◌, ◌<◌, ◌||◌, ℕ, zero, suc, Bool, List}
use Rattle.file_tree.specs.declared.entry.Entry.{Entry}
use Rattle.file_tree.specs.Table.{entry_in}

-- True if entry `e` is `top`, or at most n steps to parents lead there.
unfoldable pub leads : (ℕ → ℕ) → ℕ → ℕ → ℕ → Bool
leads parent zero top e = e == top
leads parent (suc n) top e = (e == top) || leads parent n top (parent e)

-- The same, with the parents that the entries name.
abbrev pub leads_up : List Entry → ℕ → ℕ → ℕ → Bool
leads_up t n top f = leads (λ e. (entry_in t e).parent) n top f

-- All results of a call are the parent.
abbrev pub TellsParents : (ℕ → ℕ → Type 0) → (ℕ → ℕ) → Type 0
TellsParents answers parent = (e told : ℕ) → e < 256 → answers e told → told ≡ parent e
