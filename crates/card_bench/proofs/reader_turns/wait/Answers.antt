use Rattle.std.proofs.Common.{ap, subst, sym, ◌∙◌, ◌≢◌, ◌≡◌, OnOk, IfErr}
use Rattle.core.specs.declared.ops.ControlFlow.{ControlFlow}
use Rattle.t1_link.specs.declared.reader_end.Phase.TheVariants.{Busy}
use Rattle.card_bench.specs.declared.reader_turns.Ending.{Ending}
use Rattle.card_bench.specs.declared.reader_turns.Toward.{Toward}
use Rattle.card_bench.specs.ExchangeValues.{follows_of}
use Rattle.card_bench.proofs.ReaderSays.{busy-so, follows-so, idle-so, kept-times_out}
use Rattle.card_bench.proofs.reader_turns.wait.Goals as goal

pub returns-clause-turns : goal.returns-clause-turns
returns-clause-turns c =
    let reader = c.timed_out.new.self in
    let blocks = record c.args.blocks.now { toward_card = c.timed_out.new.out } in
    record {
      reader_is = c.timed_out.ensures.state;
      follows_so = ap (λ (f : ControlFlow Ending Toward). follows_of f blocks reader.answer) c.saying.ensures
          ∙ follows-so _ c.timed_out.result blocks c.args.blocks.now.toward_card reader c.timed_out.ensures.next
          c.timed_out.ensures.out (kept-times_out c.args.reader.now c.timed_out.new.self);
    }

pub returns-clause-busy : goal.returns-clause-busy
returns-clause-busy c =
    let reader = c.timed_out.new.self in
    let blocks = record c.args.blocks.now { toward_card = c.timed_out.new.out } in
    subst (λ (f : ControlFlow Ending Toward). OnOk (follows_of f blocks reader.answer) (reader.phase ≡ Busy))
    (sym c.saying.ensures) (busy-so c.timed_out.result blocks reader.answer reader.phase c.timed_out.ensures.busy)

pub returns-clause-idle : goal.returns-clause-idle
returns-clause-idle c =
    let reader = c.timed_out.new.self in
    let blocks = record c.args.blocks.now { toward_card = c.timed_out.new.out } in
    subst (λ (f : ControlFlow Ending Toward). IfErr (follows_of f blocks reader.answer) (λ ended. reader.phase ≢ Busy))
    (sym c.saying.ensures) (idle-so c.timed_out.result blocks reader.answer reader.phase c.timed_out.ensures.busy)
