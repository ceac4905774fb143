use Rattle.std.proofs.Common.{None, Option, map, take, subst, sym}
use Rattle.std.specs.String.{string_bytes}
use Rattle.std.specs.Vec.Iter.{into_iter_items, into_iter_len}
use Rattle.card_sweeps.specs.SweepOptions.{sweep_given, AsksForSweep}
use Rattle.card_sweeps.specs.declared.options.Options.{Options}
use Rattle.card_sweeps.proofs.SweepWords.{asks-all, asks-next, asks-none, asks-unknown}
use Rattle.card_sweeps.proofs.options.parse_sweep_options.Goals as goal

pub loop-word-init : goal.loop-word-init
loop-word-init c = λ asked told. told

pub loop-word-preserved : goal.loop-word-preserved
loop-word-preserved c = λ asked told.
    let before = c.loop-word.word-iterator in
    let behind = c.next.new.self in
    let steps = c.in-Some.ensures.steps in
    c.loop-word.invariant asked
    (asks-next string_bytes (sweep_given c.loop-word.reading) (sweep_given c.take.new.self) asked
    (into_iter_items before) (into_iter_items behind) (into_iter_len before) (into_iter_len behind) c.in-Some.word
    steps.0 steps.1 c.in_ok-take.ensures.taken told)

pub returns-in_err-take : goal.returns-in_err-take
returns-in_err-take c =
    let first = sweep_given c.new-reading.result in
    let before = c.loop-word.word-iterator in
    let behind = c.next.new.self in
    let steps = c.in-Some.ensures.steps in (
      first,
      c.new-reading.ensures,
      subst (λ (asked : Option Options). AsksForSweep first
          (map string_bytes (take (into_iter_len c.args.words) (into_iter_items c.args.words))) asked)
          (sym c.from_residual.ensures)
          (asks-all (λ words. map string_bytes (take (into_iter_len words) (into_iter_items words))) first None _ _
          c.into_iter-word-iterator.ensures.into_iter_gives
          (c.loop-word.invariant None
          (asks-unknown string_bytes (sweep_given c.loop-word.reading) (into_iter_items before)
          (into_iter_items behind) (into_iter_len before) (into_iter_len behind) c.in-Some.word steps.0 steps.1
          c.in_err-take.ensures.unknown))),
    )

pub returns : goal.returns
returns c =
    let first = sweep_given c.new-reading.result in
    let left = c.loop-word.word-iterator in
    let none = c.in-None.ensures.steps in (
      first,
      c.new-reading.ensures,
      asks-all (λ words. map string_bytes (take (into_iter_len words) (into_iter_items words))) first _ _ _
          c.into_iter-word-iterator.ensures.into_iter_gives
          (c.loop-word.invariant _
          (asks-none string_bytes (sweep_given c.loop-word.reading) _ (into_iter_items left) (into_iter_len left) none.0
          c.asked.ensures)),
    )
