use Rattle.std.proofs.Common.{◌≡◌, ◌+◌, ◌-◌, ℕ, List, Option, Some, None, IfErr, IfSome, Result, Ok, Err}
use Rattle.std.proofs.Common.{inl, inr, refl, subst, sym, ◌∙◌, ap, arith}
use Rattle.std.specs.Prelude.{IsErrAnd}
use Rattle.bench_lines.specs.declared.reading.LineFault.TheVariants.{Read, TooLong, TooMuch}
use Rattle.bench_lines.specs.declared.fault.RunFault.{RunFault}
use Rattle.card_bench.specs.ScriptEndings.{IsRunToLine, IsRunUnkept, RunStopsBy, StopsUnkept}
use Rattle.bench_lines.specs.OrderViews.{order_with}
use Rattle.bench_lines.specs.Orders.{order_of}
use Rattle.bench_lines.specs.Scripts.{TakesLine, WhereKnown}
use Rattle.card_bench.proofs.ScriptLines.{begins_run, goes_on, is_done, is_bad, is_too_long, is_unread}
use Rattle.card_bench.proofs.ScriptLines.{is_unanswered, is_unanswered_by, is_unwritten}
use Rattle.card_bench.proofs.ScriptLines.{speaks, held_stops, is_held, unkept_stops, HasRun}
use Rattle.card_bench.proofs.ChargeLaws.{good_charged, second_stays}
use Rattle.card_bench.specs.Charges.{AnyFacts, RunsLine}
use Rattle.card_bench.specs.Prints.{LacksNoWrite}
use Rattle.nvm_board.specs.Facts.{Facts}
use Rattle.bench_lines.specs.declared.fault.RunFault.TheVariants.{Unkept, Write}
use Rattle.bench_lines.specs.laws.SizedOrders.{order_of-in_range}
use Rattle.card_bench.specs.DeskStates.{printed_at}
use Rattle.card_bench.proofs.script.run_lines.Goals as goal

pub returns-in-Err-TooLong-clause-stopped : goal.returns-in-Err-TooLong-clause-stopped
returns-in-Err-TooLong-clause-stopped g c =
    let K : Facts → Type 0 = LacksNoWrite _ g.P.Board.Board.facts g.P.Board.Followed.has_kept in
    let script = g.R.Read.remaining c.args.reader.now in
    let number : (c.loop-number.number - 1) + 1 ≡ c.loop-number.number = omega arith in
    let held = g.W.Write.contents c.args.writer.now in
    let holds = g.W.Write.contents c.loop-number.writer in
    subst (λ (n : ℕ). IfSome script (λ bytes. IsRunToLine K c.args.desk.now.desk n bytes held holds)) number
    (is_too_long _ _ script _ _ (c.loop-number.number - 1) _ _ _ held holds
    c.loop-number.invariant.so_far (c.in-Err-TooLong.ensures.too_long (ap Err c.in-Err-TooLong.field-0-is))
    c.read_line.ensures.taken)

-- a fault in a line is not one of the line
read-apart : Read ≡ TooLong → ⊥
read-apart e = cc

much-apart : TooMuch ≡ TooLong → ⊥
much-apart e = cc

pub returns-in-Err-Read-clause-stopped : goal.returns-in-Err-Read-clause-stopped
returns-in-Err-Read-clause-stopped g c =
    is_unread _ _ _ _ _ _ _ _ _ _ _ c.loop-number.invariant.so_far
    (c.in-Err-Read.ensures.stopped (λ e. read-apart (sym c.in-Err-Read.field-0-is ∙ e))) c.read_line.ensures.taken

pub returns-in-Err-TooMuch-clause-stopped : goal.returns-in-Err-TooMuch-clause-stopped
returns-in-Err-TooMuch-clause-stopped g c =
    is_unread _ _ _ _ _ _ _ _ _ _ _ c.loop-number.invariant.so_far
    (c.in-Err-TooMuch.ensures.stopped (λ e. much-apart (sym c.in-Err-TooMuch.field-0-is ∙ e)))
    c.read_line.ensures.taken

-- a script has no more lines than bytes
pub returns-clause-stopped : goal.returns-clause-stopped
returns-clause-stopped g c =
    let turns = c.loop-number.invariant.turns in
    let taken = c.loop-number.invariant.taken in
    absurd (omega (arith, turns, taken, c.loop-number-test.false))

pub returns-in_default-clause-stopped : goal.returns-in_default-clause-stopped
returns-in_default-clause-stopped g c =
    let K : Facts → Type 0 = LacksNoWrite _ g.P.Board.Board.facts g.P.Board.Followed.has_kept in
    let script = g.R.Read.remaining c.args.reader.now in
    let number : (c.loop-number.number - 1) + 1 ≡ c.loop-number.number = omega arith in
    let bad : order_of c.read_line.new.line ≡ None = ap order_of (sym c.as_slice.ensures)
    ∙ sym c.in_default.ensures in
    let held = g.W.Write.contents c.args.writer.now in
    let holds = g.W.Write.contents c.loop-number.writer in
    subst (λ (n : ℕ). IfSome script (λ bytes. IsRunToLine K c.args.desk.now.desk n bytes held holds)) number
    (is_bad _ _ script _ _ (c.loop-number.number - 1) _ _ c.read_line.new.line c.in-Ok.end _ held holds
    c.loop-number.invariant.so_far c.in-Ok.ensures.line c.in-Ok.ensures.counted c.read_line.ensures.taken bad)

-- what holds of a fault holds of the result that it became
passed_on : {T E : Type 0} (r : Result T E) (e : E) (P : E → Type 0) → IsErrAnd r (λ f. f ≡ e) → P e → IfErr r P
passed_on (Ok v) e P is holds = absurd is
passed_on (Err f) e P is holds = subst P (sym is) holds

-- a writer that fails, and an answer, are no follower that fails
write-apart : {T : Type 0} (f : RunFault) (r : Result T RunFault) → f ≡ Write → r ≡ Err f → r ≡ Err Unkept → ⊥
write-apart f r is err unkept = cc

ok-apart : {T : Type 0} (v : T) (r : Result T RunFault) → r ≡ Ok v → r ≡ Err Unkept → ⊥
ok-apart v r ok unkept = cc

pub returns-in_err-answer-clause-stopped : goal.returns-in_err-answer-clause-stopped
returns-in_err-answer-clause-stopped g c =
    let K : Facts → Type 0 = LacksNoWrite _ g.P.Board.Board.facts g.P.Board.Followed.has_kept in
    let order = order_with c.in-Some.order c.as_slice-bytes.result.now in
    let good : order_of c.read_line.new.line ≡ Some order =
    ap order_of (sym c.as_slice.ensures) ∙ sym c.in-Some.ensures
    ∙ ap (λ (l : List ℕ). Some (order_with c.in-Some.order l)) (sym c.as_slice-bytes.ensures) in
    let first = c.args.desk.now.desk in
    let script = g.R.Read.remaining c.args.reader.now in
    let left = g.R.Read.remaining c.read_line.new.reader in
    let held = g.W.Write.contents c.args.writer.now in
    let before = g.W.Write.contents c.loop-number.writer in
    let after = g.W.Write.contents c.answer.new.writer in
    let loud = speaks (printed_at c.perform-line_result.result c.perform-line_result.new.self)
    c.in_err-answer.ensures.speaks in
    let stops : RunStopsBy K first c.in_err-answer.field-0.0 script left held after =
    elim c.in_err-answer.ensures.fault [
      | inl write ↦
          let ran : RunsLine K K order c.loop-number.desk.desk c.perform-line_result.new.self.desk
          (printed_at c.perform-line_result.result c.perform-line_result.new.self) =
          record {
            charged = c.charge.new.self.desk;
            charge = c.in_ok-charge.ensures.charged;
            stored = c.in_ok-charge.ensures.kept;
            performs = c.perform-line_result.ensures.performs;
            kept = c.in_err-answer.ensures.kept (write-apart _ _ write refl);
          } in
          subst (λ (f : RunFault). RunStopsBy K first f script left held after) (sym write)
          (is_unwritten _ _ _ _ _ _ _ _ _ _ c.in-Ok.end _ _ _ _ _ _ _ c.loop-number.invariant.so_far
          c.in-Ok.ensures.line
          c.in-Ok.ensures.counted c.read_line.ensures.taken good ran
          c.perform-line_result.ensures.good
          loud (c.in_err-answer.ensures.unwritten (ap Err write)))
      | inr unkept ↦
          let ran : RunsLine K AnyFacts order c.loop-number.desk.desk c.perform-line_result.new.self.desk
          (printed_at c.perform-line_result.result c.perform-line_result.new.self) =
          record {
            charged = c.charge.new.self.desk;
            charge = c.in_ok-charge.ensures.charged;
            stored = c.in_ok-charge.ensures.kept;
            performs = c.perform-line_result.ensures.performs;
            kept = λ loud. tt;
          } in
          subst (λ (f : RunFault). RunStopsBy K first f script left held after) (sym unkept)
          (unkept_stops K first script left held after
          (subst (λ (w : Option (List ℕ)). WhereKnown script left (λ bytes rest. IsRunUnkept K first bytes rest held
          w))
          (sym (c.in_err-answer.ensures.unkept (ap Err unkept)))
          (is_unanswered _ _ _ _ _ _ _ _ _ c.in-Ok.end _ _ _ _ _ _ c.loop-number.invariant.so_far c.in-Ok.ensures.line
          c.in-Ok.ensures.counted c.read_line.ensures.taken good ran
          c.perform-line_result.ensures.good
          loud)))
    ] in
    passed_on _ c.in_err-answer.field-0.0 (λ (f : RunFault). RunStopsBy K first f script left held after)
    c.from_residual-in_err-answer.ensures.1 stops

-- a fault that is returned is the one that is passed on
told_on : {T E : Type 0} (r : Result T E) (e why : E) → IsErrAnd r (λ f. f ≡ e) → r ≡ Err why → e ≡ why
told_on (Ok v) e why is told = absurd is
told_on (Err f) e why is told = cc

pub returns-in_err-answer-clause-behind : goal.returns-in_err-answer-clause-behind
returns-in_err-answer-clause-behind g c = λ returned.
    let K : Facts → Type 0 = LacksNoWrite _ g.P.Board.Board.facts g.P.Board.Followed.has_kept in
    let unkept = ap Err (told_on _ _ _ c.from_residual-in_err-answer.ensures.1 returned) in
    let order = order_with c.in-Some.order c.as_slice-bytes.result.now in
    let good : order_of c.read_line.new.line ≡ Some order =
    ap order_of (sym c.as_slice.ensures) ∙ sym c.in-Some.ensures
    ∙ ap (λ (l : List ℕ). Some (order_with c.in-Some.order l)) (sym c.as_slice-bytes.ensures) in
    let script = g.R.Read.remaining c.args.reader.now in
    let left = g.R.Read.remaining c.read_line.new.reader in
    let held = g.W.Write.contents c.args.writer.now in
    let behind = c.in_err-answer.ensures.behind unkept in
    let loud = speaks (printed_at c.perform-line_result.result c.perform-line_result.new.self)
    c.in_err-answer.ensures.speaks in
    let ran : RunsLine K AnyFacts order c.loop-number.desk.desk c.perform-line_result.new.self.desk
    (printed_at c.perform-line_result.result c.perform-line_result.new.self) =
    record {
      charged = c.charge.new.self.desk;
      charge = c.in_ok-charge.ensures.charged;
      stored = c.in_ok-charge.ensures.kept;
      performs = c.perform-line_result.ensures.performs;
      kept = λ loud. tt;
    } in (
      behind.0,
      behind.2,
      inl (subst (λ (w : Option (List ℕ)). StopsUnkept K c.args.desk.now.desk (g.P.Board.Board.facts behind.0) script
          left held w) (sym (c.in_err-answer.ensures.unkept unkept))
          (is_unanswered_by _ _ _ _ _ _ _ _ _ _ c.in-Ok.end _ _ _ _ _ _ behind.1 c.loop-number.invariant.so_far
          c.in-Ok.ensures.line c.in-Ok.ensures.counted c.read_line.ensures.taken good ran
          c.perform-line_result.ensures.good loud)),
    )

-- the charge is not stored
pub returns-in_err-charge-clause-stopped : goal.returns-in_err-charge-clause-stopped
returns-in_err-charge-clause-stopped g c =
    let K : Facts → Type 0 = LacksNoWrite _ g.P.Board.Board.facts g.P.Board.Followed.has_kept in
    let order = order_with c.in-Some.order c.as_slice-bytes.result.now in
    let good : order_of c.read_line.new.line ≡ Some order =
    ap order_of (sym c.as_slice.ensures) ∙ sym c.in-Some.ensures
    ∙ ap (λ (l : List ℕ). Some (order_with c.in-Some.order l)) (sym c.as_slice-bytes.ensures) in
    let first = c.args.desk.now.desk in
    let script = g.R.Read.remaining c.args.reader.now in
    let left = g.R.Read.remaining c.read_line.new.reader in
    let held = g.W.Write.contents c.args.writer.now in
    let before = g.W.Write.contents c.loop-number.writer in
    let lacks = c.in_err-charge.ensures.lacks in
    let stops = held_stops (g.P.Board.Board.facts lacks.0) K first script left held before
    (is_held _ _ _ _ _ _ _ _ _ _ c.in-Ok.end _ _ _ _ lacks.2 c.loop-number.invariant.so_far c.in-Ok.ensures.line
    c.in-Ok.ensures.counted c.read_line.ensures.taken good c.in_err-charge.ensures.fault.1) in
    passed_on _ c.in_err-charge.field-0.0 (λ (f : RunFault). RunStopsBy K first f script left held before)
    c.from_residual.ensures.1
    (subst (λ (f : RunFault). RunStopsBy K first f script left held before) (sym c.in_err-charge.ensures.fault.0) stops)

pub returns-in_err-charge-clause-behind : goal.returns-in_err-charge-clause-behind
returns-in_err-charge-clause-behind g c = λ returned.
    let order = order_with c.in-Some.order c.as_slice-bytes.result.now in
    let good : order_of c.read_line.new.line ≡ Some order =
    ap order_of (sym c.as_slice.ensures) ∙ sym c.in-Some.ensures
    ∙ ap (λ (l : List ℕ). Some (order_with c.in-Some.order l)) (sym c.as_slice-bytes.ensures) in
    let lacks = c.in_err-charge.ensures.lacks in (
      lacks.0,
      lacks.1,
      inr (is_held _ _ _ _ _ _ _ _ _ _ c.in-Ok.end _ _ _ _ lacks.2 c.loop-number.invariant.so_far
          c.in-Ok.ensures.line c.in-Ok.ensures.counted c.read_line.ensures.taken good
          c.in_err-charge.ensures.fault.1),
    )

pub charge-requires-clause-sized : goal.charge-requires-clause-sized
charge-requires-clause-sized g c =
    let order = order_with c.in-Some.order c.as_slice-bytes.result.now in
    let good : order_of c.read_line.new.line ≡ Some order =
    ap order_of (sym c.as_slice.ensures) ∙ sym c.in-Some.ensures
    ∙ ap (λ (l : List ℕ). Some (order_with c.in-Some.order l)) (sym c.as_slice-bytes.ensures) in
    (order_of-in_range _ _ good).0

pub perform-line_result-requires-clause-good : goal.perform-line_result-requires-clause-good
perform-line_result-requires-clause-good g c =
    good_charged _ _ _ c.in_ok-charge.ensures.charged c.loop-number.invariant.good

pub perform-line_result-requires-clause-sized : goal.perform-line_result-requires-clause-sized
perform-line_result-requires-clause-sized g c =
    let order = order_with c.in-Some.order c.as_slice-bytes.result.now in
    let good : order_of c.read_line.new.line ≡ Some order =
    ap order_of (sym c.as_slice.ensures) ∙ sym c.in-Some.ensures
    ∙ ap (λ (l : List ℕ). Some (order_with c.in-Some.order l)) (sym c.as_slice-bytes.ensures) in
    (order_of-in_range _ _ good).0

pub returns-in-EndOfScript-clause-done : goal.returns-in-EndOfScript-clause-done
returns-in-EndOfScript-clause-done g c =
    let K : Facts → Type 0 = LacksNoWrite _ g.P.Board.Board.facts g.P.Board.Followed.has_kept in
    let order = order_with c.in-Some.order c.as_slice-bytes.result.now in
    let good : order_of c.read_line.new.line ≡ Some order =
    ap order_of (sym c.as_slice.ensures) ∙ sym c.in-Some.ensures
    ∙ ap (λ (l : List ℕ). Some (order_with c.in-Some.order l)) (sym c.as_slice-bytes.ensures) in
    let old = g.R.Read.remaining c.loop-number.reader in
    let new = g.R.Read.remaining c.read_line.new.reader in
    let ran : RunsLine K K order c.loop-number.desk.desk c.perform-line_result.new.self.desk
    (printed_at c.perform-line_result.result c.perform-line_result.new.self) =
    record {
      charged = c.charge.new.self.desk;
      charge = c.in_ok-charge.ensures.charged;
      stored = c.in_ok-charge.ensures.kept;
      performs = c.perform-line_result.ensures.performs;
      kept = c.in_ok-answer.ensures.kept (ok-apart _ _ refl);
    } in
    is_done _ _ _ old new _ _ _ _ _ _ _ _ _ _ _ c.loop-number.invariant.so_far
    (subst (TakesLine old new c.read_line.new.line) c.in-EndOfScript.is c.in-Ok.ensures.line)
    c.in-Ok.ensures.counted c.read_line.ensures.taken good ran
    c.perform-line_result.ensures.good
    c.in_ok-answer.ensures.wrote

pub loop-number-init : goal.loop-number-init
loop-number-init g c =
    record {
      taken = omega arith;
      turns = omega arith;
      good = c.requires.good;
      second = c.requires.second;
      so_far = begins_run _ _ _ _;
    }

pub loop-number-preserved : goal.loop-number-preserved
loop-number-preserved g c =
    let K : Facts → Type 0 = LacksNoWrite _ g.P.Board.Board.facts g.P.Board.Followed.has_kept in
    let order = order_with c.in-Some.order c.as_slice-bytes.result.now in
    let good : order_of c.read_line.new.line ≡ Some order =
    ap order_of (sym c.as_slice.ensures) ∙ sym c.in-Some.ensures
    ∙ ap (λ (l : List ℕ). Some (order_with c.in-Some.order l)) (sym c.as_slice-bytes.ensures) in
    let first = g.R.Read.remaining c.args.reader.now in
    let old = g.R.Read.remaining c.loop-number.reader in
    let new = g.R.Read.remaining c.read_line.new.reader in
    let number : (c.loop-number.number - 1) + 1 ≡ c.loop-number.number + 1 - 1 = omega arith in
    let after = g.W.Write.contents c.answer.new.writer in
    let held = g.W.Write.contents c.args.writer.now in
    let desk = c.perform-line_result.new.self.desk in
    let ran : RunsLine K K order c.loop-number.desk.desk c.perform-line_result.new.self.desk
    (printed_at c.perform-line_result.result c.perform-line_result.new.self) =
    record {
      charged = c.charge.new.self.desk;
      charge = c.in_ok-charge.ensures.charged;
      stored = c.in_ok-charge.ensures.kept;
      performs = c.perform-line_result.ensures.performs;
      kept = c.in_ok-answer.ensures.kept (ok-apart _ _ refl);
    } in
    record {
      taken = c.read_line.ensures.taken;
      turns =
          let fed = c.in-Ok.ensures.fed c.in-LineFeed.is in
          let turns = c.loop-number.invariant.turns in
          omega (arith, fed, turns);
      good = c.perform-line_result.ensures.good;
      second = second_stays g.P.Board.Board.facts g.P.Board.Followed.can_copy c.charge.new.second _ _ _ _
          c.perform-line_result.ensures.performs c.in_ok-charge.ensures.second;
      so_far = subst (λ (n : ℕ). HasRun K c.args.desk.now.desk first new n c.read_line.new.taken
          desk held after) number
          (goes_on _ _ first old new _ _ _ _ _ _ _ _ _ _ _ c.loop-number.invariant.so_far
          (subst (TakesLine old new c.read_line.new.line) c.in-LineFeed.is c.in-Ok.ensures.line)
          c.in-Ok.ensures.counted good ran c.perform-line_result.ensures.good
          c.in_ok-answer.ensures.wrote);
    }
