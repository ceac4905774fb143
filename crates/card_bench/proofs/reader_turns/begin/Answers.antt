use Rattle.std.proofs.Common.{ap, subst, sym, ◌∙◌, ◌≢◌, ◌≡◌, OnOk, IfErr}
use Rattle.core.specs.declared.ops.ControlFlow.{ControlFlow}
use Rattle.t1_link.specs.declared.reader_end.Phase.TheVariants.{Busy}
use Rattle.card_bench.specs.declared.reader_turns.Ending.{Ending}
use Rattle.card_bench.specs.declared.reader_turns.Toward.{Toward}
use Rattle.card_bench.specs.ExchangeValues.{follows_of}
use Rattle.card_bench.proofs.ReaderSays.{busy-so, follows-so, idle-so, kept-sends}
use Rattle.card_bench.proofs.reader_turns.begin.Goals as goal

pub returns-clause-turns : goal.returns-clause-turns
returns-clause-turns c =
    let reader = c.send.new.self in
    let blocks = record c.args.blocks.now { toward_card = c.send.new.out } in
    record {
      reader_is = c.send.ensures.state;
      follows_so = ap (λ (f : ControlFlow Ending Toward). follows_of f blocks reader.answer) c.saying.ensures
          ∙ follows-so _ c.send.result blocks c.args.blocks.now.toward_card reader c.send.ensures.next
          c.send.ensures.out (kept-sends c.args.reader.now c.send.new.self c.args.command.now);
    }

pub returns-clause-busy : goal.returns-clause-busy
returns-clause-busy c =
    let reader = c.send.new.self in
    let blocks = record c.args.blocks.now { toward_card = c.send.new.out } in
    subst (λ (f : ControlFlow Ending Toward). OnOk (follows_of f blocks reader.answer) (reader.phase ≡ Busy))
    (sym c.saying.ensures) (busy-so c.send.result blocks reader.answer reader.phase c.send.ensures.busy)

pub returns-clause-idle : goal.returns-clause-idle
returns-clause-idle c =
    let reader = c.send.new.self in
    let blocks = record c.args.blocks.now { toward_card = c.send.new.out } in
    subst (λ (f : ControlFlow Ending Toward). IfErr (follows_of f blocks reader.answer) (λ ended. reader.phase ≢ Busy))
    (sym c.saying.ensures) (idle-so c.send.result blocks reader.answer reader.phase c.send.ensures.busy)
