use Rattle.std.specs.Prelude.{if◌then◌else◌}
use Rattle.std.proofs.Common.{◌≡◌, ◌+◌, ℕ, slice_index, sym, ◌∙◌, ap}
use Rattle.undo_journal.specs.Memory.{committed, current}
use Rattle.card_model.specs.Secrets.{owner, is_unblocking}
use Rattle.pin_store.specs.Pages.{pin_word, bytes_of_words}
use Rattle.pin_store.specs.laws.PinPages.{kept_at}
use Rattle.undo_journal.specs.laws.Told.{reads_handed, reads_on}
use Rattle.pin_store.proofs.settling.kept.Goals as goal

pub returns-clause-kept : goal.returns-clause-kept
returns-clause-kept g c =
    let m = committed c.args.store.now in
    let pin = owner c.args.secret in
    let place : ℕ = if is_unblocking c.args.secret then 4 else 2 in
    let placed = c.kept_place-place.ensures in
    let same : current c.args.store.now ≡ m = sym c.requires.ready.same in
    let first : c.in_ok-first.first ≡ pin_word m pin place =
    c.in_ok-first.ensures.word ∙ (λ i. slice_index (same i) (c.address_of.ensures i))
    ∙ ap (λ (k : ℕ). pin_word m pin k) placed in
    let second : c.in_ok-second.second ≡ pin_word m pin (place + 1) =
    c.in_ok-second.ensures.word
    ∙ (λ i. slice_index ((c.read.ensures.reads.keeps.current_words ∙ same) i) (c.address_of-2.ensures i))
    ∙ ap (λ (k : ℕ). pin_word m pin (k + 1)) placed in
    c.bytes_of.ensures ∙ (λ i. bytes_of_words (first i) (second i)) ∙ kept_at m c.args.secret

pub returns-in_err-first-clause-store : goal.returns-in_err-first-clause-store
returns-in_err-first-clause-store g c =
    reads_handed _ _ _ _ c.from_residual.ensures.1 (c.in_err-first.ensures.store c.requires.ready.idle)

pub returns-in_err-second-clause-store : goal.returns-in_err-second-clause-store
returns-in_err-second-clause-store g c =
    reads_handed _ _ _ _ c.from_residual-in_err-second.ensures.1
    (reads_on _ _ _ _ c.read.ensures.reads
    (c.in_err-second.ensures.store (c.read.ensures.reads.keeps.taken ∙ c.requires.ready.idle)))

pub returns-clause-store : goal.returns-clause-store
returns-clause-store g c =
    reads_on _ _ _ _ c.read.ensures.reads
    (c.in_ok-second.ensures.store (c.read.ensures.reads.keeps.taken ∙ c.requires.ready.idle))
