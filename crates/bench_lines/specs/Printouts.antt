-- The output of a script line.
use Rattle.std.specs.Prelude.{ℕ, List, [], ◌∷◌, ◌++◌, codes}
use Rattle.std.specs.Fmt.{decimal}
use Rattle.hex.specs.Hex.{encode_upper}
use Rattle.card_model.specs.declared.space.FreeSpace.{FreeSpace}

-- nothing; the answer to reset; no answer (`mute`); power loss (`dark`); link loss (`lost`);
-- bytes of the card; or the free space
pub data Print : Type 0 where
  prints_nothing : Print
  prints_atr : Print
  prints_mute : Print
  prints_dark : Print
  prints_lost : Print
  prints_bytes : List ℕ → Print
  prints_free : FreeSpace → Print

-- a text and its line feed
abbrev pub ended_line : List ℕ → List ℕ
ended_line text = text ++ 10 ∷ []

-- The text of an output. Bytes are in uppercase hexadecimal digits, numbers in decimal digits, and a space (32)
-- separates blocks from entries.
abbrev pub text_of : Print → List ℕ
text_of prints_nothing = []
text_of prints_atr = ended_line (codes "atr 3B808131FE458B")
text_of prints_mute = ended_line (codes "mute")
text_of prints_dark = ended_line (codes "dark")
text_of prints_lost = ended_line (codes "lost")
text_of (prints_bytes bytes) = ended_line (codes "< " ++ encode_upper bytes)
text_of (prints_free free) = ended_line (codes "free " ++ decimal free.blocks ++ 32 ∷ decimal free.entries)
