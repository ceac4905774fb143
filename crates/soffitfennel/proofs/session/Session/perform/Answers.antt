use Rattle.std.specs.Prelude.{◌≤◌, ℕ, List, None, Option, Some, length, option_map, true}
use Rattle.std.proofs.Common.{ap, arith, inr, refl, subst, sym}
use Rattle.nvm_board.specs.Facts.{Facts}
use Rattle.bench_lines.specs.OrderViews.{order_with}
use Rattle.card_bench.specs.DeskStates.{printed_at}
use Rattle.card_calls.specs.Devices.{device_facts}
use Rattle.card_calls.specs.FirstWrites.{EndsCharge, IsTold, announcement, charge_of}
use Rattle.card_calls.specs.SessionStates.{SessionState}
use Rattle.card_calls.specs.Telling.{CopiesOut, Diverges, HasRun, IsTaken, IsWithheld, MayRun}
use Rattle.card_calls.specs.declared.announced.Announced.{Announced}
use Rattle.card_calls.proofs.CopyLaws.{copies_at}
use Rattle.card_calls.proofs.InStepLaws.{in_step}
use Rattle.card_calls.proofs.OrderLaws.{diverges, has_run}
use Rattle.card_calls.proofs.TwinLaws.{twin_stays}
use Rattle.soffitfennel.proofs.session.Session.perform.Goals as goal

pub invariant_of-self : goal.invariant_of-self
invariant_of-self c =
    let new = c.perform-came.new.self in (
      c.perform-came.ensures.good,
      in_step (order_with c.args.order c.args.given.now) c.self.inside.desk.desk new.desk
          (printed_at c.perform-came.result new) c.self.invariant.1 c.requires c.is_of_bytes.ensures
          c.perform-came.ensures.good.has_card c.perform-came.ensures.performs,
      subst (λ (a : Option Announced). IsTold (option_map announcement a) new.desk) (sym c.forget.ensures) tt,
      twin_stays c.self.inside.second (order_with c.args.order c.args.given.now) c.self.inside.desk.desk new.desk
          (printed_at c.perform-came.result new) c.perform-came.ensures.performs c.self.invariant.3,
    )

pub returns-in_default : goal.returns-in_default
returns-in_default c =
    let order = order_with c.args.order c.args.given.now in
    let inside = c.self.inside in
    let new = c.perform-came.new.self in
    let was : SessionState = record {
      desk = inside.desk.desk;
      behind = inside.behind;
      stored = inside.stored;
      announced = option_map announcement inside.announced;
      device = inside.device;
    } in
    let now : SessionState = record was {
      desk = new.desk;
      behind = true;
      announced = option_map announcement c.forget.new.announced;
    } in
    let taken = charge_of c.in_ok-is_charged.is_charged was.announced in
    let begun = subst (λ (s : SessionState). MayRun order s
    × IsTaken order s (charge_of c.in_ok-is_charged.is_charged s.announced)) (sym c.self.view_is)
    c.in_ok-is_charged.ensures in
    let after = subst (λ (r : Option ℕ). EndsCharge (device_facts c.board-board.result.now).log inside.stored taken r)
    c.in_default.is c.stored_after-after.ensures in
    let ends = subst (λ (f : Facts). EndsCharge f.log inside.stored taken None) c.board-board.ensures after in
    let other = diverges order was now (printed_at c.perform-came.result new) c.perform-came.ensures.performs
    c.perform-came.ensures.good c.self.invariant.1 c.requires c.is_of_bytes.ensures begun.0 c.self.invariant.2 taken
    begun.1 ends refl refl (ap (λ (a : Option Announced). option_map announcement a) c.forget.ensures) refl in (
      (
        refl,
        subst (λ (s : SessionState). IsWithheld order s c.fall_behind.new.self) c.self.view_is
            (inr (subst (λ (n : SessionState). Diverges order was n) (sym c.fall_behind.ensures) other)),
      ),
      refl,
    )

pub invariant_of-self-2 : goal.invariant_of-self-2
invariant_of-self-2 c =
    let new = c.perform-came.new.self in (
      c.perform-came.ensures.good,
      in_step (order_with c.args.order c.args.given.now) c.self.inside.desk.desk new.desk
          (printed_at c.perform-came.result new) c.self.invariant.1 c.requires c.is_of_bytes.ensures
          c.perform-came.ensures.good.has_card c.perform-came.ensures.performs,
      subst (λ (a : Option Announced). IsTold (option_map announcement a) new.desk) (sym c.forget.ensures) tt,
      twin_stays c.self.inside.second (order_with c.args.order c.args.given.now) c.self.inside.desk.desk new.desk
          (printed_at c.perform-came.result new) c.perform-came.ensures.performs c.self.invariant.3,
    )

pub returns : goal.returns
returns c =
    let order = order_with c.args.order c.args.given.now in
    let inside = c.self.inside in
    let new = c.perform-came.new.self in
    let was : SessionState = record {
      desk = inside.desk.desk;
      behind = inside.behind;
      stored = inside.stored;
      announced = option_map announcement inside.announced;
      device = inside.device;
    } in
    let now : SessionState = record was {
      desk = new.desk;
      stored = c.in-Some.stored;
      announced = option_map announcement c.forget.new.announced;
    } in
    let taken = charge_of c.in_ok-is_charged.is_charged was.announced in
    let begun = subst (λ (s : SessionState). MayRun order s
    × IsTaken order s (charge_of c.in_ok-is_charged.is_charged s.announced)) (sym c.self.view_is)
    c.in_ok-is_charged.ensures in
    let after = subst (λ (r : Option ℕ). EndsCharge (device_facts c.board-board.result.now).log inside.stored taken r)
    c.in-Some.is c.stored_after-after.ensures in
    let ends = subst (λ (f : Facts). EndsCharge f.log inside.stored taken (Some c.in-Some.stored)) c.board-board.ensures
    after in
    let ran = has_run order was now (printed_at c.perform-came.result new) c.perform-came.ensures.performs
    c.perform-came.ensures.good c.self.invariant.1 c.requires c.is_of_bytes.ensures begun.0 c.self.invariant.2 taken
    c.in-Some.stored begun.1 ends refl begun.0.was_up
    (ap (λ (a : Option Announced). option_map announcement a) c.forget.ensures) refl in record {
      answer = new.answer;
      block = new.block;
      ran = subst (λ (s : SessionState). HasRun order s now (printed_at c.perform-came.result new))
          c.self.view_is ran;
      copied = λ room.
          let fits : length c.bytes.result.now ≤ length c.args.out.now = omega (arith, room, c.bytes.ensures.fits) in
          copies_at c.perform-came.result new c.args.out.now c.copy_if_fits-size.new.out
          c.copy_if_fits-size.result
          (subst (λ (l : List ℕ). CopiesOut l c.args.out.now c.copy_if_fits-size.new.out c.copy_if_fits-size.result)
          c.bytes.ensures.bytes (c.copy_if_fits-size.ensures.fits fits));
    }
