-- The words of an image, four bytes each.
use Rattle.std.proofs.Common.{◌≡◌, ◌≤◌, ◌<◌, ◌+◌, ◌*◌, ◌++◌, ℕ, List, [], ◌∷◌, length, take, drop}
use Rattle.std.specs.Prelude.{get_or, slice_index}
use Rattle.std.proofs.Common.{ap, ap₂, sym, arith, ◌∙◌, get_or-take, get_or-drop, length-take, length-drop}
use Rattle.std.specs.Int.{w32, to_be_bytes}
use Rattle.std.proofs.lemmas.Grind.{same_number_lists}
use Rattle.std.proofs.lemmas.List.{flat_map_more, take_more}
use Rattle.std.proofs.Math.Seq.{take-add}
use Rattle.card_boards.specs.Images.{image_bytes}

-- the four bytes of a word
pub bytes_of_word : (bytes : List ℕ) (at w : ℕ) → at + 4 ≤ length bytes
    → ((place : ℕ) → place < 4 → slice_index (to_be_bytes w32 w) place ≡ slice_index bytes (at + place))
    → to_be_bytes w32 w ≡ take 4 (drop at bytes)
bytes_of_word bytes at w room same =
    let t = length-take 4 (drop at bytes) in
    let d = length-drop at bytes in
    let size : length (to_be_bytes w32 w) ≡ length (take 4 (drop at bytes)) = omega (arith, t, d, room) in
    same_number_lists _ _ size (λ k lt. same k lt
    ∙ sym (get_or-take 4 (drop at bytes) k 0 lt ∙ get_or-drop at bytes k 0))

-- the words of four bytes more
pub image_more : (bytes words : List ℕ) (i w : ℕ) → 4 * i + 4 ≤ length bytes → image_bytes words ≡ take (4 * i) bytes
    → ((place : ℕ) → place < 4 → slice_index (to_be_bytes w32 w) place ≡ slice_index bytes (4 * i + place))
    → image_bytes (words ++ w ∷ []) ≡ take (4 * (i + 1)) bytes
image_more bytes words i w room before same =
    let size : 4 * i + 4 ≡ 4 * (i + 1) = omega arith in
    sym (flat_map_more (to_be_bytes w32) [] words w)
    ∙ ap₂ (λ (front four : List ℕ). front ++ four) before (bytes_of_word bytes (4 * i) w room same)
    ∙ sym (take-add (4 * i) 4 bytes) ∙ ap (λ (n : ℕ). take n bytes) size

-- the bytes of one word more
pub bytes_more : (words : List ℕ) (i : ℕ) → i < length words
    → image_bytes (take i words) ++ to_be_bytes w32 (get_or words i 0) ≡ image_bytes (take (i + 1) words)
bytes_more words i within = flat_map_more (to_be_bytes w32) [] (take i words) (get_or words i 0)
    ∙ ap image_bytes (sym (take_more words i 0 within))
