use Rattle.std.proofs.Common.{ap, subst, sym, ◌∙◌, ◌≢◌, ◌≡◌, OnOk, IfErr, ℕ, List}
use Rattle.core.specs.declared.ops.ControlFlow.{ControlFlow}
use Rattle.t1_link.specs.declared.reader_end.Phase.TheVariants.{Busy}
use Rattle.card_bench.specs.declared.reader_turns.Ending.{Ending}
use Rattle.card_bench.specs.declared.reader_turns.Toward.{Toward}
use Rattle.t1_link.specs.ReaderTable.{reader_step}
use Rattle.card_bench.specs.Exchanges.{ReaderTurns}
use Rattle.card_bench.specs.ExchangeValues.{follows_of}
use Rattle.card_bench.proofs.ReaderSays.{busy-so, follows-so, idle-so}
use Rattle.card_bench.proofs.reader_turns.hear.Goals as goal

pub returns-clause-turns : goal.returns-clause-turns
returns-clause-turns c =
    let reader = c.got.new.self in
    let blocks = record c.args.blocks.now { toward_card = c.got.new.out } in
    let follows = follows_of c.saying.result blocks reader.answer in
    subst (λ (l : List ℕ). ReaderTurns (reader_step c.args.reader.now l) reader follows) c.deref.ensures.0 (record {
      reader_is = c.got.ensures.state;
      follows_so = ap (λ (f : ControlFlow Ending Toward). follows_of f blocks reader.answer) c.saying.ensures
          ∙ follows-so _ c.got.result blocks c.args.blocks.now.toward_card reader c.got.ensures.next
          c.got.ensures.out c.got.ensures.answer;
    })

pub returns-clause-busy : goal.returns-clause-busy
returns-clause-busy c =
    let reader = c.got.new.self in
    let blocks = record c.args.blocks.now { toward_card = c.got.new.out } in
    subst (λ (f : ControlFlow Ending Toward). OnOk (follows_of f blocks reader.answer) (reader.phase ≡ Busy))
    (sym c.saying.ensures) (busy-so c.got.result blocks reader.answer reader.phase c.got.ensures.busy)

pub returns-clause-idle : goal.returns-clause-idle
returns-clause-idle c =
    let reader = c.got.new.self in
    let blocks = record c.args.blocks.now { toward_card = c.got.new.out } in
    subst (λ (f : ControlFlow Ending Toward). IfErr (follows_of f blocks reader.answer) (λ ended. reader.phase ≢ Busy))
    (sym c.saying.ensures) (idle-so c.got.result blocks reader.answer reader.phase c.got.ensures.busy)
