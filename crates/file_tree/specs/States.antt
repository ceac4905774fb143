-- Changes of life cycle states in a memory (ISO/IEC 7816-9; ISO/IEC 7816-4, 7.4.10).
use Rattle.std.specs.Prelude.{◌≡◌, ◌≢◌, ℕ, List, slice_set, ◌==◌, ◌||◌, zero, suc, Bool, false, if◌then◌else◌}
use Rattle.std.specs.FinMap.{insert}
use Rattle.card_model.specs.LifeCycle.{life_cycle_byte}
use Rattle.card_model.specs.declared.life_cycle.LifeCycle.{LifeCycle}
use Rattle.nvm_board.specs.Facts.{address}
use Rattle.block_chain.specs.declared.layout.TheConstants.{HEADER_PAGE}
use Rattle.block_chain.specs.Chains.{free_chain}
use Rattle.file_tree.specs.declared.layout.TheConstants.{STATE_WORD, CARD_TERMINATED}
use Rattle.card_model.specs.FileTrees.{file_at}
use Rattle.file_tree.specs.TreeChanges.{KeepsRest}
use Rattle.file_tree.specs.Table.{table, entry_in, path_of}
use Rattle.file_tree.specs.Trees.{tree_of, TreeStands}
use Rattle.card_model.specs.FileLives.{with_life, bars}
use Rattle.file_tree.specs.declared.entry.Entry.{Entry}
use Rattle.file_tree.specs.Entries.{life_told}

-- The words after TERMINATE CARD USAGE.
abbrev pub with_card_terminated : List ℕ → List ℕ
with_card_terminated m = slice_set m (address HEADER_PAGE STATE_WORD) CARD_TERMINATED

-- The file of an entry is in a state. Nothing else of it or of another file changes.
pub record ChangesLife (m : List ℕ) (e : ℕ) (state : LifeCycle) (after : List ℕ) : Type 0 where
  pub tree : tree_of after
      ≡ insert (tree_of m) (path_of (table m) e) (with_life (file_at (tree_of m) (path_of (table m) e)) state)
  pub stands : TreeStands after
  pub free : free_chain after ≡ free_chain m
  pub rest : KeepsRest m after
  pub entry : entry_in (table after) e ≡ record (entry_in (table m) e) { life = life_cycle_byte state }
  pub others : (f : ℕ) → f ≢ e → entry_in (table after) f ≡ entry_in (table m) f
  pub paths : (f : ℕ) → path_of (table after) f ≡ path_of (table m) f

-- True if at most n steps to parents meet a file that bars.
unfoldable pub barred_up : List Entry → ℕ → ℕ → Bool
barred_up t zero e = false
barred_up t (suc n) e =
    if e == 0 then false
    else (bars (life_told (entry_in t (entry_in t e).parent)) || barred_up t n (entry_in t e).parent)
