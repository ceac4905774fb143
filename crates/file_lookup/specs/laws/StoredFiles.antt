-- Laws of stored files.
use Rattle.std.specs.Prelude.{ℕ, List}
use Rattle.std.proofs.Common.{sym, subst}
use Rattle.undo_journal.specs.Memory.{Memory, IsReady}
use Rattle.undo_journal.specs.StoreCalls.{OnlyReads}
use Rattle.file_tree.specs.Table.{table, IsUsed}
use Rattle.file_tree.specs.Trees.{TreeStands}
use Rattle.file_lookup.specs.StoredFiles.{HasFile}

-- where only reads were made, and none failed, a file is there still
pub file_still : (a b : Memory) (e : ℕ) → OnlyReads a b → IsReady b → HasFile a e → HasFile b e
file_still a b e reads ready file = record {
  ready = ready;
  tree = subst (λ (l : List ℕ). TreeStands l) (sym reads.keeps.committed_words) file.tree;
  used = subst (λ (l : List ℕ). IsUsed (table l) e) (sym reads.keeps.committed_words) file.used;
}
