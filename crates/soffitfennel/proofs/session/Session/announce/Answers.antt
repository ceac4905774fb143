use Rattle.std.proofs.Common.{◌≡◌, ◌∙◌, ap, sym, subst}
use Rattle.std.specs.Prelude.{option_map}
use Rattle.bench_lines.specs.OrderViews.{order_with}
use Rattle.card_bench.specs.Exchanges.{Desk}
use Rattle.card_calls.specs.Devices.{run_of}
use Rattle.card_calls.specs.FirstWrites.{IsFirstOf}
use Rattle.card_calls.specs.SessionStates.{Announcement, SessionState}
use Rattle.soffitfennel.proofs.session.Session.announce.Goals as goal

pub invariant_of-self : goal.invariant_of-self
invariant_of-self c =
    let order = order_with c.args.order c.args.given.now in
    let first = option_map run_of c.run_ahead-first.result in
    let desk = c.self.inside.desk.desk in
    let was = c.self.invariant in
    let here : c.args.self.now.desk ≡ desk =
    sym (ap (λ (s : SessionState). s.desk) (c.self.view_is ∙ c.run_ahead-first.ensures.same)) in
    let told : IsFirstOf first order desk =
    subst (λ (d : Desk). IsFirstOf first order d) here c.run_ahead-first.ensures.first in (
      was.0,
      was.1,
      subst (λ (a : Announcement). IsFirstOf a.first a.order desk) (sym c.new.ensures) told,
      was.3,
    )
