-- The spelling of each order as a line.
use Rattle.std.specs.Prelude.{◌<◌, ◌/◌, ◌%◌, ◌≡◌, ℕ, List, [], ◌∷◌, ◌++◌, codes, Some}
use Rattle.std.specs.Fmt.{decimal}
use Rattle.card_model.specs.Requests.{AreBytes}
use Rattle.hex.specs.Hex.{encode_with}
use Rattle.bench_lines.specs.Orders.{Order}
use Rattle.bench_lines.specs.Orders.{Nothing, On, Off, Free, Apdu, Block, Cut, Lose, Garble}
use Rattle.bench_lines.specs.Orders.{IsOrderSized, order_of}

-- The line of an order, with these sixteen digits. Two digits spell a byte, and four the 16 bits of a mask. Numbers are
-- decimal, and a space (32) separates a number from the mask.
abbrev pub spelling : List ℕ → Order → List ℕ
spelling digits Nothing = []
spelling digits On = codes "on"
spelling digits Off = codes "off"
spelling digits Free = codes "free"
spelling digits (Apdu command) = codes "apdu " ++ encode_with digits command
spelling digits (Block block) = codes "block " ++ encode_with digits block
spelling digits (Cut number mask) = codes "cut " ++ decimal number ++ 32
    ∷ encode_with digits (mask / 256 ∷ mask % 256 ∷ [])
spelling digits (Lose number) = codes "lose " ++ decimal number
spelling digits (Garble number) = codes "garble " ++ decimal number

-- its bytes are 0 to 255, and its mask has 16 bits
abbrev pub IsOrderOfBytes : Order → Type 0
IsOrderOfBytes Nothing = Unit {0}
IsOrderOfBytes On = Unit {0}
IsOrderOfBytes Off = Unit {0}
IsOrderOfBytes Free = Unit {0}
IsOrderOfBytes (Apdu command) = AreBytes command
IsOrderOfBytes (Block block) = AreBytes block
IsOrderOfBytes (Cut number mask) = mask < 65536
IsOrderOfBytes (Lose number) = Unit {0}
IsOrderOfBytes (Garble number) = Unit {0}

-- The spelling of each order in its range parses as that order.
abbrev pub SpellingLaw : List ℕ → Type 0
SpellingLaw digits = (order : Order) → IsOrderSized order → IsOrderOfBytes order
    → order_of (spelling digits order) ≡ Some order
