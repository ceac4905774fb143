-- What reads in a row leave of a card: what was known of its words is known after them.
use Rattle.std.proofs.Common.{◌≡◌, ℕ, List, sym, subst, arith}
use Rattle.undo_journal.specs.StoreCalls.{OnlyReads}
use Rattle.undo_journal.specs.Memory.{Memory, committed, IsReady}
use Rattle.file_tree.specs.declared.entry.Entry.{Entry}
use Rattle.file_tree.specs.Table.{table, entry_in, IsUsed}
use Rattle.file_lookup.specs.StoredFiles.{HasFile}
use Rattle.file_tree.specs.Indexes.{IsIndex}
use Rattle.file_tree.specs.declared.index.Index.{Index}
use Rattle.command_base.specs.declared.current.Current.{Current}
use Rattle.command_base.specs.Standing.{IsCard}
use Rattle.command_base.specs.Working.{IsCurrent, IsKept}

-- they are still the words of a card
pub card_still : (a b : Memory) → OnlyReads a b → IsCard (committed a) → IsCard (committed b)
card_still a b reads words = subst IsCard (sym reads.keeps.committed_words) words

-- an entry that is used is still used, and current files are still current
pub used_still : (a b : Memory) (e : ℕ) → OnlyReads a b → IsUsed (table (committed a)) e
    → IsUsed (table (committed b)) e
used_still a b e reads used = subst (λ (l : List ℕ). IsUsed (table l) e) (sym reads.keeps.committed_words) used

pub current_still : (a b : Memory) (x : Current) → OnlyReads a b → IsCurrent (table (committed a)) x
    → IsCurrent (table (committed b)) x
current_still a b x reads current =
    subst (λ (l : List ℕ). IsCurrent (table l) x) (sym reads.keeps.committed_words) current

-- what was read of an entry is still what stands there
pub entry_still : (a b : Memory) (e : ℕ) (x : Entry) → OnlyReads a b → x ≡ entry_in (table (committed a)) e
    → x ≡ entry_in (table (committed b)) e
entry_still a b e x reads is =
    subst (λ (l : List ℕ). x ≡ entry_in (table l) e) (sym reads.keeps.committed_words) is

-- and so what is kept stays so
pub kept_still : (a b : Memory) (x : Current) → OnlyReads a b → IsReady b → IsKept a x → IsKept b x
kept_still a b x reads ready kept = record {
  ready = ready;
  card = card_still a b reads kept.card;
  current = current_still a b x reads kept.current;
}

-- the entry of the current dedicated file is used
pub df_used : (t : List Entry) (x : Current) → IsCurrent t x → IsUsed t x.df
df_used t x current = λ (unused : (entry_in t x.df).kind ≡ 0). let z : ⊥ = omega (arith, unused, current.df) in z

-- What is kept are files: that of each used entry, and so the current dedicated file.
pub file_kept : (m : Memory) (x : Current) (e : ℕ) → IsKept m x → IsUsed (table (committed m)) e → HasFile m e
file_kept m x e kept used = record { ready = kept.ready; tree = kept.card.tree; used = used }

pub df_kept : (m : Memory) (x : Current) → IsKept m x → HasFile m x.df
df_kept m x kept = file_kept m x x.df kept (df_used (table (committed m)) x kept.current)

-- an index is still that of the files
pub index_still : (a b : Memory) (index : Index) → OnlyReads a b → IsIndex (table (committed a)) index
    → IsIndex (table (committed b)) index
index_still a b index reads is = subst (λ (l : List ℕ). IsIndex (table l) index) (sym reads.keeps.committed_words) is
