use Rattle.std.proofs.Common.{rules, ◌≡◌, ◌++◌, ◌∷◌, [], ◌+◌, ◌<◌, ◌≤◌, ℕ, List, length, slice_index, take, drop, sym}
use Rattle.std.proofs.Common.{◌∙◌, ap, arith, lit<}
use Rattle.block_chain.specs.BlockWords.{word_bytes}
use Rattle.file_tree.specs.Entries.{high, low, byte_of}
use Rattle.file_changes.specs.laws.EntryWords.{eight_of, four_of, sixteen_of}
use Rattle.file_changes.proofs.writing.words_of_entry.Goals as goal

-- the bytes of a word that is read from a list
taken : (bytes : List ℕ) (from word : ℕ) → from + 4 ≤ length bytes
    → ((place : ℕ) → place < 4 → slice_index (word_bytes word) place ≡ slice_index bytes (from + place))
    → word_bytes word ≡ take 4 (drop from bytes)
taken bytes from word fits each =
    let here : from + 0 ≡ from = omega arith in
    let first = each 0 (lit< tt) ∙ ap (slice_index bytes) here in
    (λ i. first i ∷ each 1 (lit< tt) i ∷ each 2 (lit< tt) i ∷ each 3 (lit< tt) i ∷ [])
    ∙ sym (four_of bytes from fits)

pub returns : goal.returns
returns c =
    let entry = c.args.entry in
    let long : length entry.rule ≡ 8 = search rules in
    let long_name : length entry.name ≡ 16 = search rules in
    let w0 = c.bytes_and_half.result in
    let kind : byte_of w0 0 ≡ entry.kind = omega (arith, c.bytes_and_half.ensures) in
    let life : byte_of w0 1 ≡ entry.life = omega (arith, c.bytes_and_half.ensures) in
    let identifier : low w0 ≡ entry.identifier = omega (arith, c.bytes_and_half.ensures) in
    let w1 = c.four_bytes.ensures in
    let r0 = taken entry.rule 0 c.word_at.result (omega (arith, long)) c.word_at.ensures in
    let r4 = taken entry.rule 4 c.word_at-2.result (omega (arith, long)) c.word_at-2.ensures in
    let rule = (λ i. r0 i ++ (r4 i ++ [])) ∙ eight_of entry.rule long in
    let n0 = taken entry.name 0 c.word_at-3.result (omega (arith, long_name)) c.word_at-3.ensures in
    let n4 = taken entry.name 4 c.word_at-4.result (omega (arith, long_name)) c.word_at-4.ensures in
    let n8 = taken entry.name 8 c.word_at-5.result (omega (arith, long_name)) c.word_at-5.ensures in
    let n12 = taken entry.name 12 c.word_at-6.result (omega (arith, long_name)) c.word_at-6.ensures in
    let name = (λ i. n0 i ++ (n4 i ++ (n8 i ++ (n12 i ++ [])))) ∙ sixteen_of entry.name long_name in
    let size : high c.halves.result ≡ entry.size = omega (arith, c.halves.ensures) in
    let record_length : low c.halves.result ≡ entry.record_length = omega (arith, c.halves.ensures) in
    let first : high c.halves-2.result ≡ entry.first = omega (arith, c.halves-2.ensures) in
    let last : low c.halves-2.result ≡ entry.last = omega (arith, c.halves-2.ensures) in
    let records : high c.halves-3.result ≡ entry.records = omega (arith, c.halves-3.ensures) in
    let start : low c.halves-3.result ≡ entry.start = omega (arith, c.halves-3.ensures) in
    λ i. record {
      kind = kind i;
      life = life i;
      identifier = identifier i;
      parent = slice_index (w1 i) 0;
      short = slice_index (w1 i) 1;
      name_length = slice_index (w1 i) 2;
      rule_length = slice_index (w1 i) 3;
      rule = rule i;
      name = name i;
      size = size i;
      record_length = record_length i;
      first = first i;
      last = last i;
      records = records i;
      start = start i;
    }
