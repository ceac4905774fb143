use Rattle.std.proofs.Common.{map, take}
use Rattle.std.specs.String.{string_bytes}
use Rattle.std.specs.Vec.Iter.{into_iter_items, into_iter_len}
use Rattle.card_files.specs.CommandLines.{options_read}
use Rattle.card_files.proofs.Words.{takes_all, takes_first, takes_none}
use Rattle.card_files.proofs.options.parse_bench_options.Goals as goal

pub loop-word-init : goal.loop-word-init
loop-word-init c = λ last told. told

pub loop-word-preserved : goal.loop-word-preserved
loop-word-preserved c = λ last told.
    let before = c.loop-word.word-iterator in
    let behind = c.next.new.self in
    let steps = c.in-Some.ensures.steps in
    c.loop-word.invariant last
    (takes_first string_bytes (options_read c.loop-word.reading) (options_read c.take.new.self) last
    (into_iter_items before) (into_iter_items behind) (into_iter_len before) (into_iter_len behind) c.in-Some.word
    steps.0 steps.1 c.take.ensures told)

pub returns : goal.returns
returns c =
    let read = options_read c.loop-word.reading in
    let left = c.loop-word.word-iterator in
    let none = c.in-None.ensures.steps in (
      read,
      takes_all (λ words. map string_bytes (take (into_iter_len words) (into_iter_items words))) _ read _ _
          c.new-reading.ensures c.into_iter-word-iterator.ensures.into_iter_gives
          (c.loop-word.invariant read
          (takes_none string_bytes read (into_iter_items left) (into_iter_len left) none.0)),
      c.asked.ensures,
    )
