use Rattle.std.specs.Prelude.{◌≡◌, ◌<◌, ◌+◌, ◌*◌, ◌/◌, ◌%◌, [], ◌∷◌, ◌++◌, ℕ}
use Rattle.std.specs.Int.{w64, to_be_bytes}
use Rattle.std.proofs.Common.{rules, ◌∙◌, ap₂, List, arith}
use Rattle.block_chain.specs.BlockWords.{word_bytes}
use Rattle.file_tree.proofs.entry.two_words.Goals as goal

-- the bytes of a word above another one
both : (a b : ℕ) → b < 0x100000000 → to_be_bytes w64 (a * 0x100000000 + b) ≡ word_bytes a ++ word_bytes b
both a b small =
    let n = a * 0x100000000 + b in
    let a3 : n / 0x100000000000000 ≡ a / 0x1000000 = omega (arith, small) in
    let a2 : n / 0x1000000000000 ≡ a / 0x10000 = omega (arith, small) in
    let a1 : n / 0x10000000000 ≡ a / 0x100 = omega (arith, small) in
    let a0 : n / 0x100000000 ≡ a = omega (arith, small) in
    let q3 : n / 0x1000000 ≡ a * 0x100 + b / 0x1000000 = omega arith in
    let q2 : n / 0x10000 ≡ a * 0x10000 + b / 0x10000 = omega arith in
    let q1 : n / 0x100 ≡ a * 0x1000000 + b / 0x100 = omega arith in
    let b3 : n / 0x1000000 % 0x100 ≡ b / 0x1000000 % 0x100 = omega (arith, q3) in
    let b2 : n / 0x10000 % 0x100 ≡ b / 0x10000 % 0x100 = omega (arith, q2) in
    let b1 : n / 0x100 % 0x100 ≡ b / 0x100 % 0x100 = omega (arith, q1) in
    let b0 : n % 0x100 ≡ b % 0x100 = omega arith in
    λ i. a3 i % 0x100 ∷ a2 i % 0x100 ∷ a1 i % 0x100 ∷ a0 i % 0x100 ∷ b3 i ∷ b2 i ∷ b1 i ∷ b0 i ∷ []

pub returns : goal.returns
returns c =
    let a = c.args.first in
    let b = c.args.second in
    let whole : ℕ → ℕ → List ℕ = λ x y. to_be_bytes w64 (x * 0x100000000 + y) in
    c.to_be_bytes.ensures ∙ ap₂ whole c.from.ensures c.from-2.ensures ∙ both a b (search rules)
