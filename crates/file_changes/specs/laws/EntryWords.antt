-- The words of an entry, as they are written, and what an entry page tells then.
use Rattle.std.specs.Prelude.{◌≡◌, ◌≢◌, ◌⊎◌, ◌<◌, ◌≤◌, ◌+◌, ℕ, zero, suc, List, [], ◌∷◌, ◌++◌, length, take}
use Rattle.std.specs.Prelude.{drop, slice_index}
use Rattle.std.proofs.Common.{refl, sym, ◌∙◌, ap, ap₂, append_assoc, arith, inl, inr, ⊎_elim}
use Rattle.std.proofs.Math.Seq.{take-add, take-length}
use Rattle.std.proofs.lemmas.List.{take-append-drop, length-drop, append-nil}
use Rattle.std.proofs.lemmas.Bool.{cases_lt}
use Rattle.nvm_board.specs.Facts.{address, IsMemory}
use Rattle.nvm_board.specs.History.{written}
use Rattle.nvm_board.specs.laws.Torn.{written-inside, written-elsewhere, length-written}
use Rattle.block_chain.specs.BlockWords.{page_words}
use Rattle.block_chain.specs.laws.Words.{index-page_words}
use Rattle.file_tree.specs.declared.layout.TheConstants.{FIRST_ENTRY_PAGE}
use Rattle.file_tree.specs.declared.entry.Entry.{Entry}
use Rattle.file_tree.specs.Entries.{byte_of, entry_told}
use Rattle.file_changes.specs.CreationParts.{WritesEntry}
use Rattle.file_tree.specs.laws.Tables.{entry_of-same, entry_of-used}

-- four bytes of a list
pub four_of : (bytes : List ℕ) (at : ℕ) → at + 4 ≤ length bytes
    → take 4 (drop at bytes)
    ≡ slice_index bytes at ∷ slice_index bytes (at + 1) ∷ slice_index bytes (at + 2) ∷ slice_index bytes (at + 3) ∷ []
four_of [] at fits = absurd (omega (arith, fits))
four_of (a ∷ []) zero fits = absurd (omega (arith, fits))
four_of (a ∷ b ∷ []) zero fits = absurd (omega (arith, fits))
four_of (a ∷ b ∷ d ∷ []) zero fits = absurd (omega (arith, fits))
four_of (a ∷ b ∷ d ∷ e ∷ bytes) zero fits = refl
four_of (a ∷ bytes) (suc at) fits =
    let first : suc at + 1 ≡ suc (at + 1) = omega arith in
    let second : suc at + 2 ≡ suc (at + 2) = omega arith in
    let third : suc at + 3 ≡ suc (at + 3) = omega arith in
    let back = λ (i j k : ℕ). slice_index bytes at ∷ slice_index (a ∷ bytes) i ∷ slice_index (a ∷ bytes) j
    ∷ slice_index (a ∷ bytes) k ∷ [] in
    four_of bytes at (omega (arith, fits)) ∙ sym (λ i. back (first i) (second i) (third i))

drop-nil : (n : ℕ) → drop {A = ℕ} n [] ≡ []
drop-nil zero = refl
drop-nil (suc n) = refl

-- eight and sixteen bytes, word by word
pub eight_of : (bytes : List ℕ) → length bytes ≡ 8 → take 4 (drop 0 bytes) ++ (take 4 (drop 4 bytes) ++ []) ≡ bytes
eight_of bytes long =
    let rest : take 4 (drop 4 bytes) ++ [] ≡ drop 4 bytes = (
    let l = length-drop 4 bytes in
    append-nil (take 4 (drop 4 bytes)) ∙ take-all (drop 4 bytes) 4 (omega (arith, l, long))) in
    ap (λ (xs : List ℕ). take 4 (drop 0 bytes) ++ xs) rest ∙ take-append-drop 4 bytes
  where
    take-all : (xs : List ℕ) (n : ℕ) → length xs ≡ n → take n xs ≡ xs
    take-all xs n is = ap (λ (k : ℕ). take k xs) (sym is) ∙ take-length xs

pub sixteen_of : (bytes : List ℕ) → length bytes ≡ 16
    → take 4 (drop 0 bytes) ++ (take 4 (drop 4 bytes) ++ (take 4 (drop 8 bytes) ++ (take 4 (drop 12 bytes) ++ [])))
    ≡ bytes
sixteen_of bytes long =
    let one : take 4 (drop 0 bytes) ++ take 4 (drop 4 bytes) ≡ take 8 bytes = sym (take-add 4 4 bytes) in
    let two : take 4 (drop 8 bytes) ++ (take 4 (drop 12 bytes) ++ []) ≡ drop 8 bytes =
    (let l = length-drop 8 bytes in
    let again : drop 12 bytes ≡ drop 4 (drop 8 bytes) = sym (later 8 4 bytes) in
    ap (λ (xs : List ℕ). take 4 (drop 8 bytes) ++ (take 4 xs ++ [])) again
    ∙ eight_of (drop 8 bytes) (omega (arith, l, long))) in
    sym (append_assoc (take 4 (drop 0 bytes)) (take 4 (drop 4 bytes))
    (take 4 (drop 8 bytes) ++ (take 4 (drop 12 bytes) ++ [])))
    ∙ ap₂ (λ (xs ys : List ℕ). xs ++ ys) one two ∙ take-append-drop 8 bytes
  where
    later : (a b : ℕ) (xs : List ℕ) → drop b (drop a xs) ≡ drop (a + b) xs
    later zero b xs = let z : b ≡ zero + b = omega arith in ap (λ (k : ℕ). drop k xs) z
    later (suc a) b [] = drop-nil b
        ∙ sym (let z : suc a + b ≡ suc (a + b) = omega arith in ap (λ (k : ℕ). drop {A = ℕ} k []) z)
    later (suc a) b (x ∷ xs) = later a b xs
        ∙ sym (let z : suc a + b ≡ suc (a + b) = omega arith in ap (λ (k : ℕ). drop k (x ∷ xs)) z)

pub written_entry : (m ws : List ℕ) (e : ℕ) (x : Entry) → IsMemory m → e < 64 → length ws ≡ 11 → entry_told ws ≡ x
    → x.kind ≢ 0 → WritesEntry m e x (written m (address (FIRST_ENTRY_PAGE + e) 0) ws)
written_entry m ws e x sized few long told some =
    let page : ℕ = FIRST_ENTRY_PAGE + e in
    let at : ℕ = address page 0 in
    let after = written m at ws in
    let fits : at + length ws ≤ length m = omega (arith, sized, few, long) in
    let words : (k : ℕ) → k < 11 → slice_index (page_words after page) k ≡ slice_index ws k = λ k lt.
    let place : address page k ≡ at + k = omega arith in
    let among : k < length ws = omega (arith, lt, long) in
    index-page_words after page k (omega (arith, lt)) ∙ ap (slice_index after) place
    ∙ written-inside m ws at k fits among in
    let used : slice_index ws 0 ≢ 0 =
    λ none. some (sym (ap (λ (y : Entry). y.kind) told) ∙ ap (λ (w : ℕ). byte_of w 0) none) in
    record {
      size = length-written m ws at;
      entry = entry_of-same ws (page_words after page) words ∙ entry_of-used ws used ∙ told;
      others = λ other place small differs.
          let elsewhere : (address other place < at) ⊎ (at + length ws ≤ address other place) = ⊎_elim
          (λ (below : other < page). inl (let z : address other place < at = omega (arith, below, small) in z))
          (λ (from : page ≤ other). inr (let z : at + length ws ≤ address other place =
          omega (arith, from, differs, long) in z)) (cases_lt other page) in
          written-elsewhere m ws at (address other place) elsewhere;
    }
