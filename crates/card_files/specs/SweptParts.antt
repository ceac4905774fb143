-- Why the bytes of a file give no board to sweep.
use Rattle.std.specs.Prelude.{◌≡◌, ℕ, List, Option, IfSome, length}
use Rattle.nvm_board.specs.Facts.{AreWords}
use Rattle.command_base.specs.Finding.{HasCard}
use Rattle.card_boards.specs.Images.{image_bytes}
use Rattle.card_files.specs.ImageParts.{IsImageSize}
use Rattle.card_files.specs.declared.swept_file.BoardFault.{BoardFault}
use Rattle.card_files.specs.declared.swept_file.BoardFault.TheVariants as board

-- Why a reader gives no board. No memory has as many bytes, or they hold no card. It failed, or there was too little
-- memory.
abbrev pub IsSweptFault : Option (List ℕ) → BoardFault → Type 0
IsSweptFault known board.Size = IfSome known (λ bytes. ¬ IsImageSize (length bytes))
IsSweptFault known board.NoCard = IfSome known (λ bytes. (words : List ℕ) × AreWords words
    × (image_bytes words ≡ bytes) × ¬ HasCard words)
IsSweptFault known (board.Read error) = Unit {0}
IsSweptFault known board.Memory = Unit {0}
IsSweptFault known (board.Open error) = ⊥
IsSweptFault known board.NotAFile = ⊥
IsSweptFault known board.InUse = ⊥
IsSweptFault known (board.Lock error) = ⊥
