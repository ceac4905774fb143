use Rattle.std.proofs.Common.{◌≡◌, ◌∙◌, None, Option, ap, refl, sym, true}
use Rattle.std.specs.Prelude.{length}
use Rattle.nvm_board.specs.Facts.{Facts}
use Rattle.nvm_board.specs.History.{Log}
use Rattle.bench_lines.specs.OrderViews.{order_with}
use Rattle.bench_lines.specs.Orders.{Cut}
use Rattle.bench_turns.specs.BenchStates.{bench_facts}
use Rattle.card_bench.specs.Charges.{twin_desk}
use Rattle.card_bench.specs.declared.charge.TheConstants.{ALL_WORDS}
use Rattle.card_bench.specs.DeskStates.{DeskState, printed_at}
use Rattle.card_bench.specs.Exchanges.{Desk}
use Rattle.card_bench.proofs.ChargeLaws.{as_many_words, second_twin, takes_charge, twin_facts, twin_is}
use Rattle.card_bench.proofs.desk.Desk.take_charge.Goals as goal

pub copy_from-requires-2 : goal.copy_from-requires-2
copy_from-requires-2 g c =
    let was = c.args.self.now.desk in
    let armed = c.perform_apart.new.self in
    let ran = c.perform_apart-2.new.self in
    let facts = g.P.Board.Board.facts in
    let copied : facts c.copy_from.new.self ≡ record (bench_facts was.bench) { log = None } =
    c.copy_from.ensures.facts c.requires.second.0
    ∙ ap (λ (f : Facts). record f { log = (facts c.args.second).log }) c.board.ensures
    ∙ ap (λ (l : Option Log). record (bench_facts was.bench) { log = l }) c.requires.second.2 in
    let before : c.replace.new.dest.desk ≡ twin_desk was None =
    ap (λ (d : DeskState). d.desk) c.replace.ensures.after
    ∙ twin_is was _ _ None copied c.twin-before.ensures in record {
      pages = ap (λ (f : Facts). length f.words) c.into_board-board.ensures
          ∙ ap (λ (d : DeskState). length (bench_facts d.desk.bench).words) c.replace.ensures.value
          ∙ as_many_words (order_with c.args.order c.args.given.now) armed.desk ran.desk
          (printed_at c.perform_apart-2.result ran) c.perform_apart-2.ensures.performs
          ∙ as_many_words (Cut 1 ALL_WORDS) was armed.desk (printed_at c.perform_apart.result armed)
          c.perform_apart.ensures.performs
          ∙ sym (ap (λ (f : Facts). length f.words) c.board-2.ensures
          ∙ ap (λ (d : Desk). length (bench_facts d.bench).words) before
          ∙ ap (λ (f : Facts). length f.words) (twin_facts was None));
    }

pub returns-clause-charged : goal.returns-clause-charged
returns-clause-charged g c =
    let was = c.args.self.now.desk in
    let armed = c.perform_apart.new.self in
    let ran = c.perform_apart-2.new.self in
    let log = (bench_facts ran.desk.bench).log in
    let facts = g.P.Board.Board.facts in
    let copied : facts c.copy_from.new.self ≡ record (bench_facts was.bench) { log = None } =
    c.copy_from.ensures.facts c.requires.second.0
    ∙ ap (λ (f : Facts). record f { log = (facts c.args.second).log }) c.board.ensures
    ∙ ap (λ (l : Option Log). record (bench_facts was.bench) { log = l }) c.requires.second.2 in
    let before : c.replace.new.dest.desk ≡ twin_desk was None =
    ap (λ (d : DeskState). d.desk) c.replace.ensures.after ∙ twin_is was _ _ None copied c.twin-before.ensures in
    let left : (facts c.into_board-board.result).log ≡ log =
    ap (λ (f : Facts). f.log) c.into_board-board.ensures
    ∙ ap (λ (d : DeskState). (bench_facts d.desk.bench).log) c.replace.ensures.value in
    let board : facts c.copy_from-2.new.self ≡ record (bench_facts was.bench) { log = log } =
    c.copy_from-2.ensures.facts c.requires.second.0
    ∙ ap (λ (f : Facts). record f { log = (facts c.into_board-board.result).log }) (c.board-2.ensures
    ∙ ap (λ (d : Desk). bench_facts d.bench) before ∙ twin_facts was None)
    ∙ ap (λ (l : Option Log). record (bench_facts was.bench) { log = l }) left in
    takes_charge (order_with c.args.order c.args.given.now) was armed.desk ran.desk
    (printed_at c.perform_apart.result armed) (printed_at c.perform_apart-2.result ran)
    c.perform_apart.ensures.performs c.perform_apart-2.ensures.performs c.perform_apart-2.ensures.good
    _ log refl (ap (λ (d : DeskState). d.desk) c.replace-2.ensures.after
    ∙ second_twin was c.replace.new.dest.desk _ _ log before board c.twin-charged.ensures)

pub returns-clause-second : goal.returns-clause-second
returns-clause-second g c =
    let was = c.args.self.now.desk in
    let facts = g.P.Board.Board.facts in
    let copied : facts c.copy_from.new.self ≡ record (bench_facts was.bench) { log = None } =
    c.copy_from.ensures.facts c.requires.second.0
    ∙ ap (λ (f : Facts). record f { log = (facts c.args.second).log }) c.board.ensures
    ∙ ap (λ (l : Option Log). record (bench_facts was.bench) { log = l }) c.requires.second.2 in
    let before : c.replace.new.dest.desk ≡ twin_desk was None =
    ap (λ (d : DeskState). d.desk) c.replace.ensures.after ∙ twin_is was _ _ None copied c.twin-before.ensures in
    let second : facts c.into_board.result ≡ record (bench_facts was.bench) { dark = true; log = None } =
    c.into_board.ensures
    ∙ ap (λ (d : DeskState). record (bench_facts d.desk.bench) { dark = true }) c.replace-2.ensures.value
    ∙ ap (λ (d : Desk). record (bench_facts d.bench) { dark = true }) before
    ∙ ap (λ (f : Facts). record f { dark = true }) (twin_facts was None) in
    let charged = returns-clause-charged g c in (
      c.requires.second.0,
      ap (λ (f : Facts). length f.words) second
          ∙ sym (ap (λ (d : Desk). length (bench_facts d.bench).words) charged.same
          ∙ ap (λ (f : Facts). length f.words) (twin_facts was _)),
      ap (λ (f : Facts). f.log) second,
    )
