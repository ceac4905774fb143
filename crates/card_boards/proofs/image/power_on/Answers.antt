use Rattle.std.proofs.Common.{sym, subst}
use Rattle.nvm_board.specs.Facts.{Facts}
use Rattle.undo_journal.specs.Spending.{WritesAtMost}
use Rattle.simulated_boards.specs.Cut.{cut_facts}
use Rattle.card_start.specs.Running.{StartStopsBy}
use Rattle.card_start.specs.Starting.{power_on_writes}
use Rattle.card_start.proofs.Migrated.{spends-on}
use Rattle.card_start.proofs.Powers.{stops-found}
use Rattle.card_boards.proofs.image.power_on.Goals as goal

pub returns-in-Err-survey_of-clause-stopped : goal.returns-in-Err-survey_of-clause-stopped
returns-in-Err-survey_of-clause-stopped c =
    let first = cut_facts c.args.board in
    subst (λ (now : Facts). StartStopsBy c.in-Err-survey_of.fault first now) (sym c.into_board.ensures)
    (stops-found first c.in-Ok.store c.survey_card.new.store c.in-Ok.ensures.light c.in-Ok.ensures.sound
    c.in-Ok.ensures.found c.in-Ok.ensures.ready.usable.works c.survey_card.ensures.store.reports
    c.survey_card.new.index c.survey_card.result c.survey_of.result c.in-Err-survey_of.fault c.survey_of.ensures
    c.in-Err-survey_of.is c.survey_card.ensures.card c.survey_card.ensures.store.tells)

pub returns-in-Err-survey_of-clause-writes_err : goal.returns-in-Err-survey_of-clause-writes_err
returns-in-Err-survey_of-clause-writes_err c =
    let first = cut_facts c.args.board in
    subst (λ (now : Facts). WritesAtMost (power_on_writes first) first now) (sym c.into_board.ensures)
    (spends-on first c.in-Ok.store c.survey_card.new.store c.in-Ok.ensures.found c.in-Ok.ensures.writes
    c.survey_card.ensures.store.writes)
