use Rattle.std.proofs.Common.{◌<◌, sym, ◌∙◌, inl, refl, arith}
use Rattle.pin_store.proofs.Settled.{pages_stay, charge_handed, charges, charges_or_not, gate_kept}
use Rattle.undo_journal.specs.laws.Exits.{none_ok}
use Rattle.undo_journal.specs.laws.Told.{reads_change, changes_after}
use Rattle.pin_store.proofs.charging.charge.Goals as goal

pub returns-in_err-left-clause-takes : goal.returns-in_err-left-clause-takes
returns-in_err-left-clause-takes g c = record {
  any_exit = inl c.tries.ensures.store.only.keeps.committed_words;
  kept = λ _. c.tries.ensures.store.only;
  pages = pages_stay _ _ c.tries.ensures.store.only.keeps.committed_words c.requires.pins.pages;
  shut = λ shut. gate_kept _ _ c.tries.ensures.store.only shut;
  store = charge_handed 1 _ _ _ _ c.from_residual.ensures.1
      (reads_change 1 _ _ _ c.requires.pins.ready.idle c.in_err-left.ensures.store);
  counted = none_ok _ _ _ c.from_residual.ensures.1;
}

pub returns-then-left-eq0-clause-takes : goal.returns-then-left-eq0-clause-takes
returns-then-left-eq0-clause-takes g c = record {
  any_exit = inl c.tries.ensures.store.only.keeps.committed_words;
  kept = λ _. c.tries.ensures.store.only;
  pages = pages_stay _ _ c.tries.ensures.store.only.keeps.committed_words c.requires.pins.pages;
  shut = λ shut. gate_kept _ _ c.tries.ensures.store.only shut;
  store = reads_change 1 _ _ _ c.requires.pins.ready.idle c.in_ok-left.ensures.store;
  counted = tt;
}

pub returns-then-left-eq0-clause-blocked : goal.returns-then-left-eq0-clause-blocked
returns-then-left-eq0-clause-blocked g c =
    λ _. (sym c.in_ok-left.ensures.left ∙ c.if-left-eq0.true, c.in_ok-left.ensures.store.ready)

pub returns-in_err-put_left-clause-takes : goal.returns-in_err-put_left-clause-takes
returns-in_err-put_left-clause-takes g c = record {
  any_exit = let some : 0 < c.in_ok-left.left = omega (arith, c.if-left-eq0.false) in
      charges_or_not c.args.secret c.in_ok-left.left _ _ _ c.tries.ensures.store.only c.in_ok-left.ensures.left some
      c.put_left.ensures.any_exit;
  kept = λ none. absurd (c.if-left-eq0.false (c.in_ok-left.ensures.left ∙ none));
  pages = c.put_left.ensures.pages (pages_stay _ _ c.tries.ensures.store.only.keeps.committed_words
      c.requires.pins.pages);
  shut = λ shut. c.put_left.ensures.by_gate (gate_kept _ _ c.tries.ensures.store.only shut);
  store = charge_handed 1 _ _ _ _ c.from_residual-in_err-put_left.ensures.1
      (changes_after 1 _ _ _ _ c.tries.ensures.store.only c.in_err-put_left.ensures.store);
  counted = none_ok _ _ _ c.from_residual-in_err-put_left.ensures.1;
}

pub returns-clause-takes : goal.returns-clause-takes
returns-clause-takes g c = record {
  any_exit = let some : 0 < c.in_ok-left.left = omega (arith, c.if-left-eq0.false) in
      charges_or_not c.args.secret c.in_ok-left.left _ _ _ c.tries.ensures.store.only c.in_ok-left.ensures.left some
      c.put_left.ensures.any_exit;
  kept = λ none. absurd (c.if-left-eq0.false (c.in_ok-left.ensures.left ∙ none));
  pages = c.put_left.ensures.pages (pages_stay _ _ c.tries.ensures.store.only.keeps.committed_words
      c.requires.pins.pages);
  shut = λ shut. c.put_left.ensures.by_gate (gate_kept _ _ c.tries.ensures.store.only shut);
  store = changes_after 1 _ _ _ _ c.tries.ensures.store.only c.in_ok-put_left.ensures.store;
  counted = let read = c.tries.ensures.store.only.board.writes in
      let made = c.in_ok-put_left.ensures.counted in omega (arith, read, made);
}

pub returns-clause-done : goal.returns-clause-done
returns-clause-done g c =
    let some : 0 < c.in_ok-left.left = omega (arith, c.if-left-eq0.false) in (
      refl,
      charges c.args.secret c.in_ok-left.left _ _ _ c.tries.ensures.store.only c.in_ok-left.ensures.left some
          c.in_ok-put_left.ensures.done,
    )

pub returns-then-left-eq0-clause-done : goal.returns-then-left-eq0-clause-done
returns-then-left-eq0-clause-done g c = tt
