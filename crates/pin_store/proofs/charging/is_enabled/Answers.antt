use Rattle.std.specs.Prelude.{◌==◌}
use Rattle.std.proofs.Common.{ℕ, List, slice_index, sym, ◌∙◌, ap}
use Rattle.undo_journal.specs.Memory.{committed, current}
use Rattle.pin_store.specs.declared.layout.TheConstants.{PIN_MARK_WORD}
use Rattle.card_model.specs.Secrets.{owner}
use Rattle.pin_store.specs.Pages.{pin_word}
use Rattle.pin_store.specs.laws.PinPages.{enabled_at}
use Rattle.pin_store.proofs.charging.is_enabled.Goals as goal

pub returns-clause-enabled : goal.returns-clause-enabled
returns-clause-enabled g c =
    let pin = owner c.args.secret in
    ap (λ (w : ℕ). w == 1) (c.in_ok-mark.ensures.word
    ∙ ap (slice_index (current c.args.store.now)) c.address_of.ensures
    ∙ ap (λ (l : List ℕ). pin_word l pin PIN_MARK_WORD) (sym c.requires.ready.same))
    ∙ enabled_at (committed c.args.store.now) pin
