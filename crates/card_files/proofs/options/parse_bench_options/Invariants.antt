use Rattle.std.proofs.Common.{map, take}
use Rattle.std.specs.String.{string_bytes}
use Rattle.std.specs.Vec.Iter.{into_iter_items, into_iter_len}
use Rattle.card_files.specs.CommandLines.{options_read, GivenOptions, TakesWords}
use Rattle.card_files.proofs.options.parse_bench_options.Given as goal

abbrev pub invariant-loop-word : goal.invariant-loop-word
invariant-loop-word l = (last : GivenOptions)
    → TakesWords (options_read l.reading)
    (map string_bytes (take (into_iter_len l.word-iterator) (into_iter_items l.word-iterator))) last
    → TakesWords (options_read l.initial.reading)
    (map string_bytes (take (into_iter_len l.initial.word-iterator) (into_iter_items l.initial.word-iterator))) last
