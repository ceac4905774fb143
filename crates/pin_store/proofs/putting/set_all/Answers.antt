use Rattle.std.proofs.Common.{◌≡◌, ◌<◌, ℕ, List, [], ◌∷◌, slice_index, sym, ◌∙◌, subst, arith, rules}
use Rattle.nvm_board.specs.Facts.{address}
use Rattle.nvm_board.specs.History.{written}
use Rattle.undo_journal.specs.Lent.{memory_of}
use Rattle.undo_journal.specs.Memory.{current}
use Rattle.card_model.specs.declared.pins.TheConstants.{PINS}
use Rattle.card_model.specs.declared.limits.TheConstants.{TRIES, UNBLOCKING_TRIES}
use Rattle.card_model.specs.Secrets.{owner, reset_pin}
use Rattle.pin_store.specs.Pages.{pin_page, pin_at, SetsPin}
use Rattle.pin_store.specs.laws.PinPages.{sets_all}
use Rattle.undo_journal.specs.laws.Calls.{runs_in_page}
use Rattle.undo_journal.specs.laws.Exits.{on_then}
use Rattle.pin_store.proofs.Counting.{all_counts}
use Rattle.pin_store.proofs.putting.set_all.Goals as goal

pub returns : goal.returns
returns g c = record {
  done = let m = current (memory_of c.args.txn.now) in
      let pin = owner c.args.secret in
      let new = c.args.new.now in
      let first = slice_index c.words_of.result 0 in
      let second = slice_index c.words_of.result 1 in
      let small : pin < PINS = omega arith in
      let words : written m c.address_of.result (c.from.result ∷ c.from-2.result ∷ first ∷ second ∷ [])
      ≡ written m (address (pin_page pin) 0) (TRIES ∷ UNBLOCKING_TRIES ∷ first ∷ second ∷ []) =
      λ i. written m (c.address_of.ensures i) (c.from.ensures i ∷ c.from-2.ensures i ∷ first ∷ second ∷ []) in
      let family : List ℕ → Type 0 = λ after. SetsPin m pin (reset_pin new (pin_at m pin)) after in
      on_then _ _ c.set_run.result
      (λ done. subst family (sym (done ∙ words))
      (sets_all m new pin first second c.requires.ready.current_size small c.words_of.ensures))
      c.set_run.ensures.done;
  store = search rules;
  counted = on_then _ _ c.set_run.result
      (λ waits idle. all_counts (pin_page (owner c.args.secret)) c.from.result c.from-2.result
      (slice_index c.words_of.result 0) _ _ (memory_of c.set_run.new.self) c.address_of.result 0 idle
      c.address_of.ensures
      (slice_index c.words_of.result 1) waits)
      c.set_run.ensures.waits;
  runs = runs_in_page (pin_page (owner c.args.secret)) 0 c.address_of.result 4 _ _ c.address_of.ensures (omega arith)
      c.set_run.ensures.runs;
}
