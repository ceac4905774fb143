-- The second word of a used entry.
use Rattle.std.specs.Prelude.{◌≡◌, ◌↔◌, ◌+◌, ◌*◌, ◌/◌, ◌%◌, ◌^◌, ◌<◌, ℕ, List, min, length, slice_index}
use Rattle.std.proofs.Common.{◌∙◌, ap, arith, inl, inr, refl, sym}
use Rattle.std.proofs.lemmas.Bool.Decides.{eqb_tells}
use Rattle.block_chain.specs.BlockWords.{word, page_words}
use Rattle.block_chain.specs.laws.Words.{index-page_words}
use Rattle.file_tree.specs.declared.entry.Entry.{Entry}
use Rattle.file_tree.specs.Entries.{byte_of, entry_of, entry_told, head_of}
use Rattle.file_tree.specs.Naming.{BearsNameAt}
use Rattle.file_tree.specs.Table.{table, entry_in, IsUsed}
use Rattle.file_tree.specs.TreeParts.{IsShortChild}
use Rattle.file_tree.specs.laws.Refusing.{head_as_long}
use Rattle.file_tree.specs.laws.Tables.{entry_of-free, entry_of-used, entry_in-table}

-- the words of a used entry encode it
module _ (m : List ℕ) (e : ℕ) (small : e < 64) (used : IsUsed (table m) e) where
  pub entry_encoded : entry_in (table m) e ≡ entry_told (page_words m (1 + e))
  entry_encoded = let words = page_words m (1 + e) in
      let is : entry_in (table m) e ≡ entry_of words = entry_in-table m e small in
      elim (eqb_tells (slice_index words 0) 0) [
        | inl same ↦ absurd (used (ap (λ (x : Entry). x.kind) (is ∙ entry_of-free words same.1)))
        | inr other ↦ is ∙ entry_of-used words other.1
      ]

  second_there : slice_index (page_words m (1 + e)) 1 ≡ word m (1 + e) 1
  second_there = index-page_words m (1 + e) 1 (omega arith)

  second-parent : (entry_in (table m) e).parent ≡ byte_of (word m (1 + e) 1) 0
  second-parent = ap (λ (x : Entry). x.parent) entry_encoded ∙ ap (λ (w : ℕ). byte_of w 0) second_there

  second-short : (entry_in (table m) e).short ≡ byte_of (word m (1 + e) 1) 1
  second-short = ap (λ (x : Entry). x.short) entry_encoded ∙ ap (λ (w : ℕ). byte_of w 1) second_there

  second-name_length : (entry_in (table m) e).name_length ≡ byte_of (word m (1 + e) 1) 2
  second-name_length = ap (λ (x : Entry). x.name_length) entry_encoded ∙ ap (λ (w : ℕ). byte_of w 2) second_there

-- a DF's child with a short identifier has both in its second word
pub second_of_child : (m : List ℕ) (e df n second : ℕ) → e < 64 → second ≡ word m (1 + e) 1
    → IsShortChild (entry_in (table m) e) df n → (byte_of second 0 ≡ df) × (byte_of second 1 ≡ n)
second_of_child m e df n second small is child = (
  ap (λ (w : ℕ). byte_of w 0) is ∙ sym (second-parent m e small child.used) ∙ child.parent,
  ap (λ (w : ℕ). byte_of w 1) is ∙ sym (second-short m e small child.used) ∙ child.short,
)

-- the second word of a DF's entry tells how long its name is
pub second_as_long : (m : List ℕ) (e second : ℕ) → e < 64 → (name : List ℕ) → second ≡ word m (1 + e) 1
    → BearsNameAt (table m) name e → min (byte_of second 2) 16 ≡ length name
second_as_long m e second small name is bears =
    let used : IsUsed (table m) e = λ none. let z : ⊥ = omega (arith, none, bears.kind) in z in
    ap (λ (w : ℕ). min (byte_of w 2) 16) is
    ∙ ap (λ (n : ℕ). min n 16) (sym (second-name_length m e small used))
    ∙ head_as_long m e small name (head_of (entry_in (table m) e)) refl bears

-- the first two bytes of a word, as one number
pub first_two_bytes : (w df n wanted : ℕ) → w < 2 ^ 32 → df < 256 → n < 256 → wanted ≡ 0x100 * df + n
    → (w / 0x10000 ≡ wanted) ↔ ((byte_of w 0 ≡ df) × (byte_of w 1 ≡ n))
first_two_bytes w df n wanted word parent short is = (
  λ both. (
    let z : w / 0x1000000 % 0x100 ≡ df = omega (arith, word, parent, short, is, both) in z,
    let z : w / 0x10000 % 0x100 ≡ n = omega (arith, word, parent, short, is, both) in z,
  ),
  λ each. let first : w / 0x1000000 % 0x100 ≡ df = each.0 in
      let second : w / 0x10000 % 0x100 ≡ n = each.1 in
      omega (arith, word, parent, short, is, first, second),
)
