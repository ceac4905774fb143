use Rattle.std.proofs.Common.{map, take, Option}
use Rattle.std.specs.String.{string_bytes}
use Rattle.std.specs.Vec.Iter.{into_iter_items, into_iter_len}
use Rattle.card_sweeps.specs.SweepOptions.{sweep_given, AsksForSweep}
use Rattle.card_sweeps.specs.declared.options.Options.{Options}
use Rattle.card_sweeps.proofs.options.parse_sweep_options.Given as goal

abbrev pub invariant-loop-word : goal.invariant-loop-word
invariant-loop-word l = (asked : Option Options)
    → AsksForSweep (sweep_given l.reading)
    (map string_bytes (take (into_iter_len l.word-iterator) (into_iter_items l.word-iterator))) asked
    → AsksForSweep (sweep_given l.initial.reading)
    (map string_bytes (take (into_iter_len l.initial.word-iterator) (into_iter_items l.initial.word-iterator))) asked
