-- A creation writes one entry that was free, and no other entry is other.
use Rattle.std.specs.Prelude.{◌≡◌, ◌≢◌, ◌<◌, ◌≤◌, ◌+◌, ℕ, List, take}
use Rattle.std.proofs.Common.{refl, sym, ◌∙◌, ap, arith, inl, inr, ⊎_elim}
use Rattle.std.proofs.lemmas.Bool.{cases_lt}
use Rattle.nvm_board.specs.Facts.{IsMemory}
use Rattle.nvm_board.specs.laws.Sizes.{least_words, memory_same}
use Rattle.block_chain.specs.declared.chain.Chain.{Chain}
use Rattle.block_chain.specs.Chains.{free_chain}
use Rattle.block_chain.specs.ChainChanges.{Takes}
use Rattle.block_chain.specs.laws.Footprints.{page_words_same, not_among}
use Rattle.block_chain.specs.laws.Bytes.{leads_blocks}
use Rattle.file_tree.specs.declared.entry.Entry.{Entry}
use Rattle.file_tree.specs.Entries.{entry_of}
use Rattle.file_tree.specs.Table.{table, entry_in}
use Rattle.file_tree.specs.Trees.{TreeStands}
use Rattle.file_tree.specs.TreeChanges.{SameTree}
use Rattle.file_changes.specs.CreationParts.{WritesEntry, TakesAndWrites, FillsAndAdds, with_chain}
use Rattle.file_tree.specs.Indexes.{AddsEntry}
use Rattle.file_tree.specs.laws.Tables.{length-table, entry_in-table, entry_past, table-same}
use Rattle.file_tree.specs.laws.Rewriting.{filled}

-- blocks that are taken are no entries
taken_table : (m after : List ℕ) (n : ℕ) (chain : Chain) → IsMemory m → Takes m n chain after → table after ≡ table m
taken_table m after n chain sized takes = table-same m after (λ page from below.
    let blocks = leads_blocks after _ 0 (take n (free_chain m)) takes.taken.leads in
    let apart = not_among after page (λ block. let low = block.0 in let z : ⊥ = omega (arith, low, below) in z)
    (take n (free_chain m)) blocks in
    page_words_same m after page (omega (arith, least_words m sized, below)) takes.only.size (λ place small.
    takes.only.others page place small (inr apart) (inl (λ is. let z : ⊥ = omega (arith, is, from) in z))))

-- An entry is written, and it is the one that is other.
module _ (m after : List ℕ) (e : ℕ) (x : Entry) (few : e < 64) (sized : IsMemory m)
    (writes : WritesEntry m e x after) where
  written : entry_in (table after) e ≡ x
  written = entry_in-table after e few ∙ writes.entry

  unwritten : (f : ℕ) → f ≢ e → entry_in (table after) f ≡ entry_in (table m) f
  unwritten f differs = ⊎_elim
      (λ (lt : f < 64).
      entry_in-table after f lt
      ∙ ap entry_of (page_words_same m after (1 + f) (omega (arith, least_words m sized, lt)) writes.size
      (λ place small. writes.others (1 + f) place small (λ is. differs (let z : f ≡ e = omega (arith, is) in z))))
      ∙ sym (entry_in-table m f lt))
      (λ (past : 64 ≤ f).
      let a = length-table after in
      let b = length-table m in
      entry_past (table after) f (omega (arith, a, past)) ∙ sym (entry_past (table m) f (omega (arith, b, past))))
      (cases_lt f 64)

-- an entry that no file has is not the master file's
pub free_below : (m : List ℕ) (e : ℕ) → TreeStands m → (entry_in (table m) e).kind ≡ 0 → 0 < e
free_below m e stands free =
    let master = stands.entries.master.kind in
    ⊎_elim (λ (lt : 0 < e). lt) (λ (none : e ≤ 0). absurd (
    let zero_is : e ≡ 0 = omega (arith, none) in
    let used = ap (λ (k : ℕ). (entry_in (table m) k).kind) zero_is in
    omega (arith, master, free, used))) (cases_lt 0 e)

module _ (m after : List ℕ) (e n : ℕ) (x : Entry) (sized : IsMemory m) (stands : TreeStands m) (few : e < 64)
    (free : (entry_in (table m) e).kind ≡ 0) (some : x.kind ≢ 0) where
  adds : (mid : List ℕ) (y : Entry) → IsMemory mid → table mid ≡ table m → y.kind ≡ x.kind → y.parent ≡ x.parent
      → y.identifier ≡ x.identifier → WritesEntry mid e y after
      → AddsEntry (table m) x.parent x.identifier e (table after)
  adds mid y size same kind parent identifier writes =
      let here = written mid after e y few size writes in
      record {
        below = free_below m e stands free;
        free = free;
        used = λ none. some (sym kind ∙ sym (ap (λ (z : Entry). z.kind) here) ∙ none);
        parent_is = ap (λ (z : Entry). z.parent) here ∙ parent;
        identifier_is = ap (λ (z : Entry). z.identifier) here ∙ identifier;
        others = λ f differs. unwritten mid after e y few size writes f differs
            ∙ ap (λ (t : List Entry). entry_in t f) same;
      }

  -- What a creation writes is an entry more.
  pub created_adds : FillsAndAdds m e x n after → AddsEntry (table m) x.parent x.identifier e (table after)
  created_adds made =
      let mid = made.between in
      let kept : SameTree m mid = filled m mid n sized stands made.only in
      let size : IsMemory mid = memory_same m mid kept.rest.size sized in
      ⊎_elim
      (λ (alone : (n ≡ 0) × WritesEntry mid e x after). adds mid x size kept.table refl refl refl alone.1)
      (λ (over : TakesAndWrites mid e x n after).
      let taken = over.between in
      adds taken (with_chain x over.chain) (memory_same mid taken over.takes.only.size size)
      (taken_table mid taken n over.chain size over.takes ∙ kept.table) refl refl refl over.writes)
      made.adds
