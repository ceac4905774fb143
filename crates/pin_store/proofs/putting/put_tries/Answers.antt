use Rattle.std.proofs.Common.{◌≡◌, ◌<◌, ℕ, List, slice_set, sym, ◌∙◌, subst, arith, ⊎_elim, rules}
use Rattle.std.proofs.Math.Logic.{⊎_map}
use Rattle.nvm_board.specs.Facts.{address}
use Rattle.undo_journal.specs.Memory.{committed}
use Rattle.card_model.specs.declared.pins.TheConstants.{PINS}
use Rattle.card_model.specs.declared.limits.TheConstants.{TRIES}
use Rattle.card_model.specs.Secrets.{owner, verified_pin}
use Rattle.pin_store.specs.Pages.{pin_page, pin_at, SetsPin}
use Rattle.pin_store.specs.laws.AllPins.{verified_pages}
use Rattle.pin_store.specs.laws.PinPages.{sets_verified}
use Rattle.undo_journal.specs.laws.Exits.{on_then}
use Rattle.pin_store.proofs.Settled.{pages_stay}
use Rattle.pin_store.proofs.putting.put_tries.Given.{Over}
use Rattle.pin_store.proofs.putting.put_tries.Goals as goal

set : (g : Over) (c : goal.After-put_alone g) (after : List ℕ)
    → after ≡ slice_set (committed c.args.store.now) c.address_of.result c.from.result
    → SetsPin (committed c.args.store.now) (owner c.args.secret)
    (verified_pin (pin_at (committed c.args.store.now) (owner c.args.secret))) after
set g c after done =
    let m = committed c.args.store.now in
    let pin = owner c.args.secret in
    let small : pin < PINS = omega arith in
    let word : slice_set m c.address_of.result c.from.result ≡ slice_set m (address (pin_page pin) 0) TRIES =
    λ i. slice_set m (c.address_of.ensures i) (c.from.ensures i) in
    let family : List ℕ → Type 0 = λ l. SetsPin m pin (verified_pin (pin_at m pin)) l in
    subst family (sym (done ∙ word)) (sets_verified m pin c.requires.ready.usable.committed_size small)

pub returns : goal.returns
returns g c = record {
  any_exit = ⊎_map (λ same. same) (λ done. set g c _ done) c.put_alone.ensures.any_exit;
  done = on_then _ _ c.put_alone.result (λ done. set g c _ done) c.put_alone.ensures.done;
  by_gate = search rules;
  pages = λ pages. ⊎_elim (λ same. pages_stay _ _ same pages)
      (λ done. verified_pages _ _ c.args.secret pages (set g c _ done)) c.put_alone.ensures.any_exit;
  store = search rules;
  counted = search rules;
  between = c.put_alone.ensures.between;
}
