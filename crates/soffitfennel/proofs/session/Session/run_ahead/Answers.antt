use Rattle.std.proofs.Common.{◌≡◌, ◌∙◌, ap, subst, sym}
use Rattle.std.specs.Prelude.{option_map}
use Rattle.bench_lines.specs.OrderViews.{order_with}
use Rattle.bench_lines.specs.Orders.{Cut}
use Rattle.bench_turns.specs.BenchStates.{with_facts}
use Rattle.bench_turns.specs.Plays.{IsGood}
use Rattle.card_bench.specs.Charges.{twin_desk}
use Rattle.card_bench.specs.DeskStates.{printed_at}
use Rattle.card_bench.specs.Exchanges.{Desk}
use Rattle.card_bench.specs.Performing.{Performs}
use Rattle.card_bench.specs.declared.charge.TheConstants.{ALL_WORDS}
use Rattle.card_bench.proofs.ChargeLaws.{good_with}
use Rattle.nvm_board.specs.Facts.{Facts}
use Rattle.card_calls.specs.FirstWrites.{RunsAhead, announcement}
use Rattle.card_calls.specs.Devices.{logs_none}
use Rattle.card_calls.specs.SessionStates.{SessionState}
use Rattle.card_calls.specs.declared.device.TheConstants.{TWIN_WRITES}
use Rattle.card_calls.proofs.FirstWriteLaws.{tells_first}
use Rattle.card_calls.proofs.TwinLaws.{twin_left}
use Rattle.soffitfennel.proofs.session.Session.run_ahead.Goals as goal

pub perform-requires-clause-good : goal.perform-requires-clause-good
perform-requires-clause-good c =
    let inside = c.self.inside in
    let second : c.twin-second.result.desk ≡ twin_desk inside.desk.desk (logs_none TWIN_WRITES) =
    c.twin-second.ensures
    ∙ ap (λ (f : Facts). record inside.desk.desk { bench = with_facts inside.desk.desk.bench f })
    (c.renewed-board.ensures ∙ ap (λ (f : Facts). record f { log = logs_none TWIN_WRITES }) c.board.ensures) in
    subst (λ (d : Desk). IsGood d.bench) (sym second)
    (good_with inside.desk.desk.bench (logs_none TWIN_WRITES) c.self.invariant.0)

pub invariant_of-self : goal.invariant_of-self
invariant_of-self c =
    let order = order_with c.args.order c.args.given.now in
    let inside = c.self.inside in
    let armed = c.perform.new.self in
    let left = c.perform-2.new.self in
    let quiet = printed_at c.perform.result armed in
    let prints = printed_at c.perform-2.result left in
    let second : c.twin-second.result.desk ≡ twin_desk inside.desk.desk (logs_none TWIN_WRITES) =
    c.twin-second.ensures
    ∙ ap (λ (f : Facts). record inside.desk.desk { bench = with_facts inside.desk.desk.bench f })
    (c.renewed-board.ensures ∙ ap (λ (f : Facts). record f { log = logs_none TWIN_WRITES }) c.board.ensures) in
    let cut = subst (λ (d : Desk). Performs (Cut 1 ALL_WORDS) d armed.desk quiet) second c.perform.ensures.performs in (
      c.self.invariant.0,
      c.self.invariant.1,
      c.self.invariant.2,
      twin_left order inside.desk.desk armed.desk left.desk quiet prints c.into_board.result cut
          c.perform-2.ensures.performs c.into_board.ensures,
    )

pub returns-clause-first : goal.returns-clause-first
returns-clause-first c =
    let order = order_with c.args.order c.args.given.now in
    let inside = c.self.inside in
    let armed = c.perform.new.self in
    let left = c.perform-2.new.self in
    let quiet = printed_at c.perform.result armed in
    let prints = printed_at c.perform-2.result left in
    let second : c.twin-second.result.desk ≡ twin_desk inside.desk.desk (logs_none TWIN_WRITES) =
    c.twin-second.ensures
    ∙ ap (λ (f : Facts). record inside.desk.desk { bench = with_facts inside.desk.desk.bench f })
    (c.renewed-board.ensures ∙ ap (λ (f : Facts). record f { log = logs_none TWIN_WRITES }) c.board.ensures) in
    let cut = subst (λ (d : Desk). Performs (Cut 1 ALL_WORDS) d armed.desk quiet) second c.perform.ensures.performs in
    let was : SessionState = record {
      desk = inside.desk.desk;
      behind = inside.behind;
      stored = inside.stored;
      announced = option_map announcement inside.announced;
      device = inside.device;
    } in
    subst (λ (s : SessionState). RunsAhead order s c.first_write-first.result) c.self.view_is
    (tells_first order was armed.desk left.desk quiet prints cut c.perform-2.ensures.performs c.perform-2.ensures.good
    c.requires.compares c.perform.ensures.good (sym (ap (λ (f : Facts). f.masks) c.board.ensures)) _
    c.board-2.ensures c.first_write-first.result c.first_write-first.ensures.none c.first_write-first.ensures.one)
