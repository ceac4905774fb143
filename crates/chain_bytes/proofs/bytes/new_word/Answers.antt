use Rattle.std.proofs.Common.{◌≡◌, ◌+◌, ◌-◌, ◌<◌, ◌≤◌, length, slice_index, sym, ◌∙◌, ap, arith}
use Rattle.block_chain.specs.laws.Overwriting.{byte_over-inside}
use Rattle.chain_bytes.proofs.bytes.new_word.Goals as goal

pub returns-then-covers_word-clause-word : goal.returns-then-covers_word-clause-word
returns-then-covers_word-clause-word g c = λ place lt.
    let offset = c.args.offset in
    let first = c.args.first in
    let bytes = c.args.bytes.now in
    let covers = c.covers_word.ensures.0 c.if-covers_word.true in
    let low : offset ≤ first = covers.0 in
    let high : first + 4 ≤ offset + length bytes = covers.1 in
    let from : c.from.result + place ≡ first + place - offset = omega (arith, c.from.ensures, low) in
    let begun : offset ≤ first + place = omega (arith, low) in
    let inside : first + place < offset + length bytes = omega (arith, high, lt) in
    c.word_at.ensures place lt ∙ ap (slice_index bytes) from
    ∙ sym (byte_over-inside offset (first + place) _ bytes begun inside)
