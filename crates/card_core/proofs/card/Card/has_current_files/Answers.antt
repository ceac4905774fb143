use Rattle.std.proofs.Common.{◌≡◌, sym, subst}
use Rattle.undo_journal.specs.Memory.{committed}
use Rattle.card_start.specs.declared.state.CardState.{CardState}
use Rattle.card_start.specs.declared.state.CardState.TheVariants.{Working}
use Rattle.card_start.specs.Running.{card_found, Running}
use Rattle.card_core.specs.ShownSessions.{session_while}
use Rattle.card_model.specs.WellFormed.{HasCurrentFiles}
use Rattle.command_base.specs.Standing.{card_of}
use Rattle.command_base.specs.Working.{table_in}
use Rattle.card_core.proofs.FoundFiles.{current-files}
use Rattle.card_core.proofs.card.Card.has_current_files.Goals as goal

pub returns : goal.returns
returns g c =
    subst (λ (r : Running). r.state ≡ Working → HasCurrentFiles (card_found r).tree r.session) c.self.view_is
    (λ works.
    let parts = c.self.inside.parts in
    let kept = (c.self.invariant.1 works).kept in
    let m = committed parts.store in
    subst (λ (s : CardState). HasCurrentFiles (card_of m).tree (session_while s (table_in parts.store) parts.current))
    (sym works) (current-files m parts.current kept.card kept.current))
