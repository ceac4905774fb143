use Rattle.std.proofs.Common.{rules, ◌≡◌, slice_index, slice_index_or, sym, ◌∙◌}
use Rattle.block_chain.specs.BlockWords.{word_bytes}
use Rattle.file_tree.specs.laws.Tables.{entry_of-free, entry_of-used}
use Rattle.file_tree.proofs.entry.Entry.from_words.Goals as goal

pub returns-then-words-eq0 : goal.returns-then-words-eq0
returns-then-words-eq0 c = c.free.ensures ∙ sym (entry_of-free c.args.words.now c.if-words-eq0.true)

pub returns : goal.returns
returns c =
    let words = c.args.words.now in
    let first : c.to_be_bytes.result ≡ word_bytes (slice_index words 0) = search rules in
    let second : c.to_be_bytes-2.result ≡ word_bytes (slice_index words 1) = search rules in
    (λ i. record {
      kind = slice_index_or (first i) 0 0;
      life = slice_index_or (first i) 1 0;
      identifier = c.low.ensures i;
      parent = slice_index_or (second i) 0 0;
      short = slice_index_or (second i) 1 0;
      name_length = slice_index_or (second i) 2 0;
      rule_length = slice_index_or (second i) 3 0;
      rule = c.two_words.ensures i;
      name = c.four_words.ensures i;
      size = c.high.ensures i;
      record_length = c.low-2.ensures i;
      first = c.high-2.ensures i;
      last = c.low-3.ensures i;
      records = c.high-3.ensures i;
      start = c.low-4.ensures i;
    }) ∙ sym (entry_of-used words c.if-words-eq0.false)
