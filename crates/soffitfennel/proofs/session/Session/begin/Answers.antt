use Rattle.std.specs.Prelude.{◌≡◌, true}
use Rattle.std.proofs.Common.{◌∙◌, false, inr, refl, subst, sym}
use Rattle.std.proofs.lemmas.Bool.{false≢true}
use Rattle.nvm_board.specs.Facts.{Facts}
use Rattle.bench_lines.specs.OrderViews.{order_with}
use Rattle.card_calls.specs.Devices.{AllStored, device_facts}
use Rattle.card_calls.specs.SessionStates.{SessionState, session_facts}
use Rattle.card_calls.specs.Telling.{IsAnnounced}
use Rattle.card_calls.proofs.OrderLaws.{begins_order}
use Rattle.soffitfennel.proofs.session.Session.begin.Goals as goal
use Rattle.soffitfennel.proofs.session.Session.begin.Goals.{else-is_charged-via-then-is_charged+else-not-is_announced}
use Rattle.soffitfennel.proofs.session.Session.begin.Goals.{else-is_charged-via-else-is_charged}

pub returns-then-not-is_announced : goal.returns-then-not-is_announced
returns-then-not-is_announced c = (
  refl,
  inr (inr (record {
    charge = c.has_charge-is_charged.ensures.charge c.if-is_charged.true;
    unannounced = λ told. false≢true (sym c.if-not-is_announced.true ∙ c.is_announced.ensures.1 told);
  })),
)

pub returns : goal.returns
returns c =
    let order = order_with c.args.order c.args.given.now in
    let up = subst (λ (s : SessionState). s.behind ≡ false) c.self.view_is c.if-self.false in
    let all : AllStored (device_facts c.board.result.now).log c.self.inside.stored =
    c.is_stored.ensures.0 c.if-not-is_stored.false in
    let stored = subst (λ (s : SessionState). AllStored (session_facts s).log s.stored) c.self.view_is
    (subst (λ (f : Facts). AllStored f.log c.self.inside.stored) c.board.ensures all) in
    let told : c.has_charge-is_charged.result ≡ true → IsAnnounced order c.args.self.now =
    elim c.else-is_charged.branch [
      | else-is_charged-via-then-is_charged+else-not-is_announced w ↦ λ is.
          w.is_announced.ensures.0 w.if-not-is_announced.false
      | else-is_charged-via-else-is_charged w ↦ λ is. absurd (false≢true (sym w.if-is_charged.false ∙ is))
    ] in
    begins_order order c.args.self.now c.has_charge-is_charged.result up stored c.has_charge-is_charged.ensures.charge
    c.has_charge-is_charged.ensures.none told
