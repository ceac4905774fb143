use Rattle.std.specs.Prelude.{if◌then◌else◌}
use Rattle.std.proofs.Common.{◌≡◌, ◌<◌, ℕ, List, [], ◌∷◌, slice_set, sym, ◌∙◌, subst, arith, lit<, rules}
use Rattle.nvm_board.specs.Facts.{address}
use Rattle.nvm_board.specs.History.{written}
use Rattle.undo_journal.specs.Lent.{memory_of}
use Rattle.undo_journal.specs.Memory.{current}
use Rattle.card_model.specs.declared.pins.TheConstants.{PINS}
use Rattle.pin_store.specs.declared.layout.TheConstants.{PIN_MARK_WORD}
use Rattle.card_model.specs.declared.limits.TheConstants.{TRIES}
use Rattle.card_model.specs.Secrets.{owner, marked_pin}
use Rattle.pin_store.specs.Pages.{pin_page, pin_at, SetsPin}
use Rattle.pin_store.specs.laws.PinPages.{sets_mark}
use Rattle.undo_journal.specs.laws.Calls.{runs_in_page, runs_then, runs_weaker}
use Rattle.undo_journal.specs.laws.Exits.{on_then}
use Rattle.undo_journal.specs.laws.Told.{sets_in_on}
use Rattle.pin_store.proofs.Counting.{mark_counts}
use Rattle.pin_store.proofs.putting.set_mark.Goals as goal

pub returns : goal.returns
returns g c = record {
  done = let m = current (memory_of c.args.txn.now) in
      let pin = owner c.args.secret in
      let enabled = c.args.enabled in
      let small : pin < PINS = omega arith in
      let between : current (memory_of c.set_run.new.self) ≡ slice_set m (address (pin_page pin) 0) TRIES =
      c.in_ok-set_run.ensures.done ∙ (λ i. slice_set m (c.address_of.ensures i) (c.from.ensures i)) in
      let words : written (current (memory_of c.set_run.new.self)) c.address_of-2.result (c.mark_of.result ∷ [])
      ≡ written (slice_set m (address (pin_page pin) 0) TRIES) (address (pin_page pin) PIN_MARK_WORD)
      ((if enabled then 1 else 0) ∷ []) =
      λ i. written (between i) (c.address_of-2.ensures i) (c.mark_of.ensures i ∷ []) in
      let family : List ℕ → Type 0 = λ after. SetsPin m pin (marked_pin enabled (pin_at m pin)) after in
      on_then _ _ c.set_run-2.result
      (λ done. subst family (sym (done ∙ words)) (sets_mark m enabled pin c.requires.ready.current_size small))
      c.set_run-2.ensures.done;
  store = sets_in_on 1 1 2 _ _ _ _ (lit< tt) c.set_run.ensures.store.sets c.set_run-2.ensures.store;
  counted = on_then _ _ c.set_run-2.result
      (λ waits idle. mark_counts (pin_page (owner c.args.secret)) c.from.result
      c.mark_of.result 0 _ _ _ c.address_of.result c.address_of-2.result idle c.address_of.ensures
      c.address_of-2.ensures
      c.in_ok-set_run.ensures.waits waits) c.set_run-2.ensures.waits;
  runs = let page = pin_page (owner c.args.secret) in
      runs_then 1 1 2 _ _ _ (lit< tt)
      (runs_in_page page 0 c.address_of.result 1 _ _ c.address_of.ensures (omega arith) c.set_run.ensures.runs)
      (runs_in_page page PIN_MARK_WORD c.address_of-2.result 1 _ _ c.address_of-2.ensures (omega arith)
      c.set_run-2.ensures.runs);
}

pub returns-in_err-set_run : goal.returns-in_err-set_run
returns-in_err-set_run g c = record {
  done = search rules;
  store = search rules;
  counted = search rules;
  runs = runs_weaker 1 2 _ _ (lit< tt)
      (runs_in_page (pin_page (owner c.args.secret)) 0 c.address_of.result 1 _ _ c.address_of.ensures (omega arith)
      c.in_err-set_run.ensures.runs);
}
