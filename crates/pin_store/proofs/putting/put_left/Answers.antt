use Rattle.std.specs.Prelude.{if◌then◌else◌}
use Rattle.std.proofs.Common.{◌≡◌, ℕ, List, slice_set, sym, ◌∙◌, ap, subst, ⊎_elim, rules}
use Rattle.std.proofs.Math.Logic.{⊎_map}
use Rattle.nvm_board.specs.Facts.{address}
use Rattle.undo_journal.specs.Memory.{committed}
use Rattle.card_model.specs.Secrets.{is_unblocking, owner, with_tries}
use Rattle.pin_store.specs.Pages.{pin_page, pin_at, SetsPin}
use Rattle.pin_store.specs.laws.AllPins.{left_pages}
use Rattle.pin_store.specs.laws.PinPages.{sets_tries}
use Rattle.undo_journal.specs.laws.Exits.{on_then}
use Rattle.pin_store.proofs.Settled.{pages_stay}
use Rattle.pin_store.proofs.putting.put_left.Given.{Over}
use Rattle.pin_store.proofs.putting.put_left.Goals as goal

set : (g : Over) (c : goal.After-put_alone g) (after : List ℕ)
    → after ≡ slice_set (committed c.args.store.now) c.address_of.result c.from.result
    → SetsPin (committed c.args.store.now) (owner c.args.secret)
    (with_tries c.args.secret c.args.left (pin_at (committed c.args.store.now) (owner c.args.secret))) after
set g c after done =
    let m = committed c.args.store.now in
    let secret = c.args.secret in
    let place : ℕ = if is_unblocking secret then 1 else 0 in
    let at : c.address_of.result ≡ address (pin_page (owner secret)) place =
    c.address_of.ensures ∙ ap (λ (k : ℕ). address (pin_page (owner secret)) k) c.tries_place.ensures in
    let word : slice_set m c.address_of.result c.from.result
    ≡ slice_set m (address (pin_page (owner secret)) place) c.args.left =
    λ i. slice_set m (at i) (c.from.ensures i) in
    let family : List ℕ → Type 0 = λ l. SetsPin m (owner secret)
    (with_tries secret c.args.left (pin_at m (owner secret))) l in
    subst family (sym (done ∙ word)) (sets_tries m secret c.args.left c.requires.ready.usable.committed_size)

pub returns : goal.returns
returns g c = record {
  any_exit = ⊎_map (λ same. same) (λ done. set g c _ done) c.put_alone.ensures.any_exit;
  done = on_then _ _ c.put_alone.result (λ done. set g c _ done) c.put_alone.ensures.done;
  by_gate = search rules;
  pages = λ pages. ⊎_elim (λ same. pages_stay _ _ same pages)
      (λ done. left_pages _ _ c.args.secret c.args.left c.requires.fewer pages (set g c _ done))
      c.put_alone.ensures.any_exit;
  store = search;
  counted = search rules;
  between = c.put_alone.ensures.between;
}
