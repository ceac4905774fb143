use Rattle.std.proofs.Common.{ℕ, List, slice_index, sym, ◌∙◌, ap}
use Rattle.std.specs.Prelude.{if◌then◌else◌}
use Rattle.nvm_board.specs.Facts.{address}
use Rattle.undo_journal.specs.Memory.{committed, current}
use Rattle.card_model.specs.Secrets.{owner, is_unblocking}
use Rattle.pin_store.specs.Pages.{pin_page, pin_word}
use Rattle.pin_store.specs.laws.PinPages.{tries_at}
use Rattle.pin_store.proofs.charging.tries.Goals as goal

pub returns-clause-left : goal.returns-clause-left
returns-clause-left g c =
    let m = current c.args.store.now in
    let secret = c.args.secret in
    c.in_ok-word.ensures.word ∙ ap (slice_index m) c.address_of.ensures
    ∙ ap (λ (place : ℕ). slice_index m (address (pin_page (owner secret)) place)) c.tries_place.ensures
    ∙ ap (λ (l : List ℕ). pin_word l (owner secret) (if is_unblocking secret then 1 else 0)) (sym
    c.requires.pins.ready.same)
    ∙ tries_at (committed c.args.store.now) secret
