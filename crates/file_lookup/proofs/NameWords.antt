-- The words of an entry that have the name of a DF.
use Rattle.std.specs.Prelude.{◌≡◌, ◌+◌, ◌-◌, ◌/◌, ◌%◌, ◌<◌, ℕ, List, [], ◌∷◌, length, slice_index}
use Rattle.std.proofs.Common.{◌∙◌, ap, arith, get_or-take, refl, sym, suc, zero}
use Rattle.block_chain.specs.BlockWords.{word, page_words}
use Rattle.block_chain.specs.laws.Words.{index-bytes, index-page_words}
use Rattle.file_tree.specs.declared.entry.Entry.{Entry}
use Rattle.file_tree.specs.Entries.{byte_of, head_of}
use Rattle.file_tree.specs.Naming.{BearsNameAt}
use Rattle.file_tree.specs.Table.{table, entry_in, IsUsed}
use Rattle.file_tree.specs.laws.Refusing.{head_as_long}
use Rattle.file_lookup.proofs.SecondWords.{entry_encoded}

-- the words of an entry's name
abbrev name_words : List ℕ → ℕ → List ℕ
name_words m e = let at = slice_index (page_words m (1 + e)) in at 4 ∷ at 5 ∷ at 6 ∷ at 7 ∷ []

name_word : (m : List ℕ) (e k : ℕ) → k < 4 → slice_index (name_words m e) k ≡ word m (1 + e) (4 + k)
name_word m e zero lt = index-page_words m (1 + e) 4 (omega arith)
name_word m e (suc zero) lt = index-page_words m (1 + e) 5 (omega arith)
name_word m e (suc (suc zero)) lt = index-page_words m (1 + e) 6 (omega arith)
name_word m e (suc (suc (suc zero))) lt = index-page_words m (1 + e) 7 (omega arith)
name_word m e (suc (suc (suc (suc k)))) lt = absurd (omega arith)

-- a word of a DF's entry has the last byte of its name
pub last_of_name : (m : List ℕ) (e w : ℕ) → e < 64 → (name : List ℕ) → 0 < length name
    → w ≡ word m (1 + e) (4 + (length name - 1) / 4) → BearsNameAt (table m) name e
    → byte_of w ((length name - 1) % 4) ≡ slice_index name (length name - 1)
last_of_name m e w small name some is bears =
    let x = entry_in (table m) e in
    let at = length name - 1 in
    let used : IsUsed (table m) e = λ none. let z : ⊥ = omega (arith, none, bears.kind) in z in
    let long = head_as_long m e small name (head_of x) refl bears in
    let within : at < x.name_length = omega (arith, long, some) in
    let room : at < 16 = omega (arith, long, some) in
    let place : at / 4 < 4 = omega (arith, room) in
    ap (λ (v : ℕ). byte_of v (at % 4)) (is ∙ sym (name_word m e (at / 4) place))
    ∙ sym (index-bytes (name_words m e) at room)
    ∙ ap (λ (y : Entry). slice_index y.name at) (sym (entry_encoded m e small used))
    ∙ sym (get_or-take x.name_length x.name at 0 within)
    ∙ ap (λ (l : List ℕ). slice_index l at) bears.name
