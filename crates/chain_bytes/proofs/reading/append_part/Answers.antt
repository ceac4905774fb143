use Rattle.std.proofs.Common.{◌≡◌, ◌<◌, ◌≤◌, ◌++◌, ◌∷◌, [], ℕ, List, length, take, drop, slice_index, sym, ◌∙◌}
use Rattle.std.proofs.Common.{ap, ap₂, refl, arith, append_assoc, get_or-drop}
use Rattle.std.proofs.lemmas.List.{take_more, length-drop, length-append, length-take-le}
use Rattle.block_chain.specs.BlockWords.{word_bytes}
use Rattle.chain_bytes.proofs.reading.append_part.Goals as goal

pub push-requires : goal.push-requires
push-requires g c =
    let bytes = word_bytes c.args.word in
    let four : length bytes ≡ 4 = refl in
    let rest = length-drop c.args.from bytes in
    let within : c.loop-i.i ≤ length (drop c.args.from bytes) =
    omega (arith, four, rest, c.loop-i-test.true, c.requires.within) in
    let a = ap (λ (xs : List ℕ). length xs) c.loop-i.invariant.so_far in
    let b = length-append c.args.out.now.items (take c.loop-i.i (drop c.args.from bytes)) in
    let d = length-take-le c.loop-i.i (drop c.args.from bytes) within in
    omega (arith, a, b, d, c.loop-i-test.true, c.requires.room)

pub loop-i-preserved : goal.loop-i-preserved
loop-i-preserved g c =
    let bytes = word_bytes c.args.word in
    let four : length bytes ≡ 4 = refl in
    let rest = length-drop c.args.from bytes in
    let within : c.loop-i.i < length (drop c.args.from bytes) =
    omega (arith, four, rest, c.loop-i-test.true, c.requires.within) in
    let byte : c.byte_of.result ≡ slice_index (drop c.args.from bytes) c.loop-i.i =
    c.byte_of.ensures ∙ sym (get_or-drop c.args.from bytes c.loop-i.i 0) in
    record {
      so_far = c.push.ensures.items
          ∙ ap₂ (λ (front : List ℕ) (b : ℕ). front ++ b ∷ []) c.loop-i.invariant.so_far byte
          ∙ append_assoc c.args.out.now.items (take c.loop-i.i (drop c.args.from bytes)) _
          ∙ sym (ap (λ (back : List ℕ). c.args.out.now.items ++ back)
          (take_more (drop c.args.from bytes) c.loop-i.i 0 within));
    }
