use Rattle.std.proofs.Common.{arith, inl}
use Rattle.pin_store.specs.RenewalParts.{renewing_writes, renewed_pin}
use Rattle.pin_store.specs.Trials.{pin_in}
use Rattle.pin_store.proofs.Settled.{pages_stay, compares_between, compares_more, compares_then, match_told}
use Rattle.pin_store.proofs.Settled.{matched_sets}
use Rattle.pin_store.proofs.Settled.{matched_sets_or_not, end_told, match_counts, wrong_counts, wrong_ends}
use Rattle.undo_journal.specs.laws.Transactions.{by_gate_after}
use Rattle.undo_journal.specs.laws.Exits.{none_ok}
use Rattle.undo_journal.specs.laws.Told.{leaves_on, leaves_handed, changes_leave}
use Rattle.pin_store.proofs.settling.renew.Goals as goal

pub returns-in_err-outcome : goal.returns-in_err-outcome
returns-in_err-outcome g c = record {
  any_exit = inl c.compare.ensures.kept;
  done = none_ok _ _ _ c.from_residual.ensures.1;
  by_gate = (
    inl c.compare.ensures.kept,
    λ shut more. absurd (omega (arith, c.compare.ensures.writes, more)),
  );
  pages = pages_stay _ _ c.compare.ensures.kept c.requires.pins.pages;
  store = leaves_handed _ _ _ _ c.from_residual.ensures.1 c.in_err-outcome.ensures.store;
  spends = compares_more (renewing_writes c.args.renewal) _ _ _ _ c.compare.ensures.spends;
  counted = none_ok _ _ _ c.from_residual.ensures.1;
  between = c.compare.ensures.between;
}

pub returns-in_err-put_renewed : goal.returns-in_err-put_renewed
returns-in_err-put_renewed g c = record {
  any_exit = matched_sets_or_not (renewing_writes c.args.renewal) c.args.charged c.charged.inside.secret
      c.args.shown.now
      (renewed_pin c.args.renewal) _ _ _
      c.charged.view_is (match_told c.args.charged c.args.shown.now c.args.store.now c.compare.new.store
      c.in_ok-outcome.outcome c.in-Matched.is c.in_ok-outcome.ensures.done) c.compare.ensures.kept
      c.put_renewed.ensures.store.writes
      c.put_renewed.ensures.any_exit;
  done = none_ok _ _ _ c.from_residual-in_err-put_renewed.ensures.1;
  by_gate = (
    by_gate_after c.args.store.now c.compare.new.store c.put_renewed.new.store c.compare.ensures.kept
        c.put_renewed.ensures.by_gate.0,
    λ shut more. matched_sets (renewing_writes c.args.renewal) c.args.charged c.charged.inside.secret c.args.shown.now
        (renewed_pin c.args.renewal) _ _ _
        c.charged.view_is (match_told c.args.charged c.args.shown.now c.args.store.now c.compare.new.store
        c.in_ok-outcome.outcome c.in-Matched.is c.in_ok-outcome.ensures.done) c.compare.ensures.kept
        c.put_renewed.ensures.store.writes
        (c.put_renewed.ensures.by_gate.1 shut (omega (arith, c.compare.ensures.writes, more))),
  );
  pages = c.put_renewed.ensures.pages (pages_stay _ _ c.compare.ensures.kept c.requires.pins.pages);
  store = leaves_handed _ _ _ _ c.from_residual-in_err-put_renewed.ensures.1
      (leaves_on _ _ _ _ c.compare.ensures.store.reports (changes_leave _ _ _ _ c.in_err-put_renewed.ensures.store));
  spends = compares_then (renewing_writes c.args.renewal) _ _ _ _ _ c.compare.ensures.spends
      c.put_renewed.ensures.store.writes;
  counted = none_ok _ _ _ c.from_residual-in_err-put_renewed.ensures.1;
  between = compares_between _ _ _ _ c.compare.ensures.store c.compare.ensures.kept c.compare.ensures.between
      c.put_renewed.ensures.between;
}

pub returns-in_ok-put_renewed : goal.returns-in_ok-put_renewed
returns-in_ok-put_renewed g c = record {
  any_exit = matched_sets_or_not (renewing_writes c.args.renewal) c.args.charged c.charged.inside.secret
      c.args.shown.now
      (renewed_pin c.args.renewal) _ _ _
      c.charged.view_is (match_told c.args.charged c.args.shown.now c.args.store.now c.compare.new.store
      c.in_ok-outcome.outcome c.in-Matched.is c.in_ok-outcome.ensures.done) c.compare.ensures.kept
      c.put_renewed.ensures.store.writes
      c.put_renewed.ensures.any_exit;
  done = end_told c.args.charged c.args.shown.now
      (renewed_pin c.args.renewal (pin_in c.args.store.now c.args.charged))
      c.args.store.now c.put_renewed.new.store c.in_ok-outcome.outcome c.in-Matched.is
      (matched_sets (renewing_writes c.args.renewal) c.args.charged c.charged.inside.secret c.args.shown.now
      (renewed_pin c.args.renewal) _ _ _
      c.charged.view_is (match_told c.args.charged c.args.shown.now c.args.store.now c.compare.new.store
      c.in_ok-outcome.outcome c.in-Matched.is c.in_ok-outcome.ensures.done) c.compare.ensures.kept
      c.put_renewed.ensures.store.writes
      c.in_ok-put_renewed.ensures.done);
  by_gate = (
    by_gate_after c.args.store.now c.compare.new.store c.put_renewed.new.store c.compare.ensures.kept
        c.put_renewed.ensures.by_gate.0,
    λ shut more. matched_sets (renewing_writes c.args.renewal) c.args.charged c.charged.inside.secret c.args.shown.now
        (renewed_pin c.args.renewal) _ _ _
        c.charged.view_is (match_told c.args.charged c.args.shown.now c.args.store.now c.compare.new.store
        c.in_ok-outcome.outcome c.in-Matched.is c.in_ok-outcome.ensures.done) c.compare.ensures.kept
        c.put_renewed.ensures.store.writes
        (c.put_renewed.ensures.by_gate.1 shut (omega (arith, c.compare.ensures.writes, more))),
  );
  pages = c.put_renewed.ensures.pages (pages_stay _ _ c.compare.ensures.kept c.requires.pins.pages);
  store = leaves_on _ _ _ _ c.compare.ensures.store.reports (changes_leave _ _ _ _ c.in_ok-put_renewed.ensures.store);
  spends = compares_then (renewing_writes c.args.renewal) _ _ _ _ _ c.compare.ensures.spends
      c.put_renewed.ensures.store.writes;
  counted = match_counts (renewing_writes c.args.renewal) c.in_ok-outcome.outcome _ _ _ c.in-Matched.is
      c.compare.ensures.writes c.in_ok-put_renewed.ensures.counted;
  between = compares_between _ _ _ _ c.compare.ensures.store c.compare.ensures.kept c.compare.ensures.between
      c.put_renewed.ensures.between;
}

pub returns-in_default : goal.returns-in_default
returns-in_default g c = record {
  any_exit = inl c.compare.ensures.kept;
  done = wrong_ends c.args.charged c.args.shown.now _ c.args.store.now c.compare.new.store c.in_ok-outcome.outcome
      c.in_default.not-Matched c.in_ok-outcome.ensures.done;
  by_gate = (
    inl c.compare.ensures.kept,
    λ shut more. absurd (omega (arith, c.compare.ensures.writes, more)),
  );
  pages = pages_stay _ _ c.compare.ensures.kept c.requires.pins.pages;
  store = c.in_ok-outcome.ensures.store;
  spends = compares_more (renewing_writes c.args.renewal) _ _ _ _ c.compare.ensures.spends;
  counted =
      wrong_counts (renewing_writes c.args.renewal) c.in_ok-outcome.outcome _ _ c.in_default.not-Matched
      c.compare.ensures.writes;
  between = c.compare.ensures.between;
}
