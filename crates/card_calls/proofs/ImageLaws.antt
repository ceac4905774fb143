-- The bytes of words in an image.
use Rattle.std.specs.Prelude.{◌≡◌, ◌<◌, ◌+◌, ◌++◌, ℕ, List, [], length, take, get_or}
use Rattle.std.specs.Int.{w32, to_be_bytes}
use Rattle.std.proofs.Common.{◌∙◌, ap, sym}
use Rattle.std.proofs.lemmas.List.{flat_map_more, take_more}
use Rattle.card_boards.specs.Images.{image_bytes}

-- the bytes of one word more
pub image_more : (words : List ℕ) (i : ℕ) → i < length words
    → image_bytes (take i words) ++ to_be_bytes w32 (get_or words i 0) ≡ image_bytes (take (i + 1) words)
image_more words i within = flat_map_more (to_be_bytes w32) [] (take i words) (get_or words i 0)
    ∙ ap image_bytes (sym (take_more words i 0 within))
