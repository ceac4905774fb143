use Rattle.std.proofs.Common.{◌≡◌, ◌/◌, ◌%◌, ◌∷◌, [], arith}
use Rattle.file_changes.proofs.writing.four_bytes.Goals as goal

pub returns : goal.returns
returns c =
    let w = c.from_be_bytes.result in
    let a : w / 0x1000000 % 0x100 ≡ c.args.first = omega (arith, c.from_be_bytes.ensures) in
    let b : w / 0x10000 % 0x100 ≡ c.args.second = omega (arith, c.from_be_bytes.ensures) in
    let d : w / 0x100 % 0x100 ≡ c.args.third = omega (arith, c.from_be_bytes.ensures) in
    let e : w % 0x100 ≡ c.args.fourth = omega (arith, c.from_be_bytes.ensures) in
    λ i. a i ∷ b i ∷ d i ∷ e i ∷ []
