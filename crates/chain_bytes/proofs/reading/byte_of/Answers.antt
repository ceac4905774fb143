use Rattle.std.proofs.Common.{List, ℕ, ◌∙◌, ap, slice_index}
use Rattle.block_chain.specs.BlockWords.{word_bytes}
use Rattle.chain_bytes.proofs.reading.byte_of.Goals as goal

pub returns : goal.returns
returns c =
    ap (λ (bytes : List ℕ). slice_index bytes c.from.result) c.to_be_bytes.ensures
    ∙ ap (slice_index (word_bytes c.args.word)) c.from.ensures
