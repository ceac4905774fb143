-- The order of a parsed line, with its bytes.
use Rattle.std.specs.Prelude.{ℕ, Bool, true, false, List, Option, Some, None}
use Rattle.bench_lines.specs.declared.order.Order as told
use Rattle.bench_lines.specs.declared.order.Order.TheVariants as kind
use Rattle.bench_lines.specs.Orders.{Order, Nothing, On, Off, Free, Apdu, Block, Cut, Lose, Garble}

abbrev pub order_with : told.Order → List ℕ → Order
order_with kind.Nothing given = Nothing
order_with kind.On given = On
order_with kind.Off given = Off
order_with kind.Free given = Free
order_with kind.Apdu given = Apdu given
order_with kind.Block given = Block given
order_with (kind.Cut number mask) given = Cut number mask
order_with (kind.Lose number) given = Lose number
order_with (kind.Garble number) given = Garble number

-- the order, if the line has one
abbrev pub asked_with : Option told.Order → List ℕ → Option Order
asked_with None given = None
asked_with (Some order) given = Some (order_with order given)

-- the bytes, if `given` is true
abbrev pub given_if : Bool → List ℕ → Option (List ℕ)
given_if true given = Some given
given_if false given = None
