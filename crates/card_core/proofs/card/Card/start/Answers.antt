use Rattle.std.proofs.Common.{◌≡◌, ℕ, List, Option, Result, IfOk, inl, refl, sym, subst, ◌∙◌, ap, arith}
use Rattle.std.specs.Result.{result_err}
use Rattle.command_base.specs.laws.Verified.{marked-none}
use Rattle.card_model.specs.Sessions.{fresh_session}
use Rattle.undo_journal.specs.declared.error.StoreErr.{StoreErr}
use Rattle.undo_journal.specs.Memory.{committed}
use Rattle.undo_journal.specs.Spending.{KeepsBoard, WritesAtMost}
use Rattle.undo_journal.specs.Undo.{data_words}
use Rattle.command_base.specs.Finding.{FindsAgain}
use Rattle.card_model.specs.declared.space.FreeSpace.{FreeSpace}
use Rattle.command_base.specs.Standing.{IsAnyCard}
use Rattle.card_start.specs.declared.state.CardState.TheVariants.{Working, Dark}
use Rattle.command_base.specs.declared.current.Current.{Current}
use Rattle.command_base.specs.Working.{IsKept, session_of, table_in}
use Rattle.card_start.specs.CardSurveys.{TellsSurvey}
use Rattle.command_base.specs.laws.Entries.{master-path}
use Rattle.std.specs.Prelude.{◌+◌, if◌then◌else◌, IsSome}
use Rattle.nvm_board.specs.Facts.{pages_of}
use Rattle.file_tree.specs.Formats.{is_format_2}
use Rattle.migration.specs.Migrating.{migration_writes}
use Rattle.nvm_board.specs.Facts.{Facts}
use Rattle.card_start.specs.Running.{StartStopsBy}
use Rattle.undo_journal.specs.laws.Calls.{boards_then, within_more}
use Rattle.block_chain.specs.BlockWords.{word}
use Rattle.block_chain.specs.declared.layout.TheConstants.{HEADER_PAGE}
use Rattle.file_tree.specs.declared.layout.TheConstants.{MARK_WORD}
use Rattle.command_base.specs.Standing.{IsOldCard}
use Rattle.card_start.specs.Starting.{KeepsFormat, KeepsFoundUnlessOld, RenamesLast, RollsBackUnlessOld}
use Rattle.card_start.specs.Starting.{power_on_writes}
use Rattle.command_base.specs.laws.CardLaws.{card_format}
use Rattle.card_start.proofs.Migrated.{found-again, found-format, found-pages, found-still, renames-last}
use Rattle.card_start.proofs.Migrated.{spends-all, spends-on}
use Rattle.card_start.proofs.Powers.{found-there, starts-kept, stops-found, stops-opening}
use Rattle.card_core.proofs.card.Card.start.Goals as goal

pub returns-in-Err-survey_of-clause-stopped : goal.returns-in-Err-survey_of-clause-stopped
returns-in-Err-survey_of-clause-stopped g c =
    let first = g.B.Board.facts c.args.board in
    subst (λ (now : Facts). StartStopsBy c.in-Err-survey_of.fault first now) (sym c.into_board.ensures)
    (stops-found first c.in-Ok.store c.survey_card.new.store c.in-Ok.ensures.light c.in-Ok.ensures.sound
    c.in-Ok.ensures.found c.in-Ok.ensures.ready.usable.works c.survey_card.ensures.store.reports
    c.survey_card.new.index c.survey_card.result c.survey_of.result c.in-Err-survey_of.fault c.survey_of.ensures
    c.in-Err-survey_of.is c.survey_card.ensures.card c.survey_card.ensures.store.tells)

pub returns-in-Ok-survey_of-clause-started : goal.returns-in-Ok-survey_of-clause-started
returns-in-Ok-survey_of-clause-started g c =
    let there = found-there c.survey_card.result c.survey_of.result c.in-Ok-survey_of.free c.survey_of.ensures
    c.in-Ok-survey_of.is in
    let works = c.survey_card.ensures.store.tells
    ∙ ap (λ (r : Result (Option FreeSpace) StoreErr). result_err r) there in
    let same = (c.survey_card.ensures.store.reports.works works).1 in
    let steady = c.in-Ok.ensures.light in
    let told = subst (λ (r : Result (Option FreeSpace) StoreErr). IfOk r (TellsSurvey (committed c.in-Ok.store)
    (committed c.survey_card.new.store) c.survey_card.new.index)) there c.survey_card.ensures.card in
    let path = master-path (committed c.survey_card.new.store) in
    record {
      has_card = record { journal = c.in-Ok.ensures.sound; words = subst IsAnyCard c.in-Ok.ensures.found told.0 };
      power = record {
        was_lit = steady.was_lit;
        lit = same.dark ∙ steady.lit;
        faults = same.faults ∙ steady.faults;
        cuts = same.cuts ∙ steady.cuts;
        due = same.due ∙ steady.due;
      };
      session = ap (session_of (table_in c.survey_card.new.store)) c.fresh.ensures
          ∙ (λ i. record fresh_session { current_df = path i; verified = marked-none i });
      state = refl;
    }

pub invariant_of-result : goal.invariant_of-result
invariant_of-result g c =
    let there = found-there c.survey_card.result c.survey_of.result c.in-Ok-survey_of.free c.survey_of.ensures
    c.in-Ok-survey_of.is in
    let kept = starts-kept c.in-Ok.store c.survey_card.new.store _ c.survey_card.new.index c.in-Ok-survey_of.free
    c.survey_card.result there
    c.in-Ok.ensures.defined c.survey_card.ensures.card c.survey_card.ensures.store in (
      kept.0,
      λ works. record {
        kept = subst (λ (x : Current). IsKept c.survey_card.new.store x) (sym c.fresh.ensures) kept.1;
        space = kept.2;
        index = kept.3;
      },
      λ dark. let never : Working ≡ Dark = dark in cc,
    )

pub returns-in-Ok-survey_of-clause-has_card : goal.returns-in-Ok-survey_of-clause-has_card
returns-in-Ok-survey_of-clause-has_card g c = (invariant_of-result g c).0

pub returns-in-Ok-survey_of-clause-found : goal.returns-in-Ok-survey_of-clause-found
returns-in-Ok-survey_of-clause-found g c =
    found-again (g.B.Board.facts c.args.board).words c.in-Ok.store c.survey_card.new.store
    c.in-Ok.ensures.ready.usable.committed_size c.in-Ok.ensures.found c.survey_card.ensures.any_exit
    c.in-Ok.ensures.sound (c.survey_card.ensures.store.reports.sound c.in-Ok.ensures.defined)

pub returns-in-Ok-survey_of-clause-format : goal.returns-in-Ok-survey_of-clause-format
returns-in-Ok-survey_of-clause-format g c =
    let kept = invariant_of-result g c in
    card_format (committed c.survey_card.new.store) (kept.1 refl).kept.card

pub returns-in-Ok-survey_of-clause-all_pages : goal.returns-in-Ok-survey_of-clause-all_pages
returns-in-Ok-survey_of-clause-all_pages g c =
    let kept = invariant_of-result g c in
    found-pages (g.B.Board.facts c.args.board).words c.in-Ok.store c.survey_card.new.store
    c.in-Ok.ensures.ready.usable.committed_size c.in-Ok.ensures.found
    c.survey_card.ensures.any_exit (kept.1 refl).kept.card

pub returns-in-Ok-survey_of-clause-kept : goal.returns-in-Ok-survey_of-clause-kept
returns-in-Ok-survey_of-clause-kept g c =
    λ new. (c.survey_card.ensures.idle (subst (λ (l : List ℕ). ¬ IsOldCard l) (sym c.in-Ok.ensures.found)
    new)).keeps.committed_words ∙ c.in-Ok.ensures.found

pub returns-in-Err-survey_of-clause-kept_err : goal.returns-in-Err-survey_of-clause-kept_err
returns-in-Err-survey_of-clause-kept_err g c =
    subst (λ (now : Facts). KeepsFoundUnlessOld (g.B.Board.facts c.args.board).words now.words)
    (sym c.into_board.ensures)
    (λ new. (c.survey_card.ensures.idle (subst (λ (l : List ℕ). ¬ IsOldCard l) (sym c.in-Ok.ensures.found)
    new)).keeps.committed_words ∙ c.in-Ok.ensures.found)

pub returns-in-Err-clause-kept_err : goal.returns-in-Err-clause-kept_err
returns-in-Err-clause-kept_err g c = λ new. ap data_words c.in-Err.ensures.kept_err

pub returns-in-Err-survey_of-clause-rolls_back_err : goal.returns-in-Err-survey_of-clause-rolls_back_err
returns-in-Err-survey_of-clause-rolls_back_err g c =
    let first = g.B.Board.facts c.args.board in
    subst (λ (now : Facts). RollsBackUnlessOld first now) (sym c.into_board.ensures)
    (λ new.
    let read = (c.survey_card.ensures.idle (subst (λ (l : List ℕ). ¬ IsOldCard l) (sym c.in-Ok.ensures.found)
    new)).board.writes in
    let opened = c.in-Ok.ensures.writes.writes in
    omega (arith, read, opened))

pub returns-in-Err-clause-rolls_back_err : goal.returns-in-Err-clause-rolls_back_err
returns-in-Err-clause-rolls_back_err g c = λ new. c.in-Err.ensures.writes_err.writes

pub returns-in-Ok-survey_of-clause-shut : goal.returns-in-Ok-survey_of-clause-shut
returns-in-Ok-survey_of-clause-shut g c =
    λ shut new. boards_then _ _ _ (c.in-Ok.ensures.shut shut)
    (c.survey_card.ensures.idle (subst (λ (l : List ℕ). ¬ IsOldCard l) (sym c.in-Ok.ensures.found) new)).board

pub returns-in-Err-survey_of-clause-last : goal.returns-in-Err-survey_of-clause-last
returns-in-Err-survey_of-clause-last g c =
    let first = g.B.Board.facts c.args.board in
    subst (λ (now : Facts). RenamesLast first now) (sym c.into_board.ensures)
    (renames-last first c.in-Ok.store c.survey_card.new.store c.in-Ok.ensures.found c.in-Ok.ensures.counted
    c.survey_card.ensures.last)

pub returns-in-Err-clause-last : goal.returns-in-Err-clause-last
returns-in-Err-clause-last g c =
    inl (ap (λ (l : List ℕ). word l HEADER_PAGE MARK_WORD) (ap data_words c.in-Err.ensures.kept_err))

pub returns-in-Ok-survey_of-clause-counted : goal.returns-in-Ok-survey_of-clause-counted
returns-in-Ok-survey_of-clause-counted g c =
    let there = found-there c.survey_card.result c.survey_of.result c.in-Ok-survey_of.free c.survey_of.ensures
    c.in-Ok-survey_of.is in
    spends-all (g.B.Board.facts c.args.board) c.in-Ok.store c.survey_card.new.store c.in-Ok.ensures.found
    c.in-Ok.ensures.counted
    (subst (λ (r : Result (Option FreeSpace) StoreErr). IfOk r (λ found. IsSome found
    → c.survey_card.new.store.facts.writes ≡ c.in-Ok.store.facts.writes
    + (if is_format_2 (committed c.in-Ok.store) then 0 else migration_writes (pages_of (committed c.in-Ok.store)))))
    there c.survey_card.ensures.counted refl)

pub returns-in-Ok-survey_of-clause-writes : goal.returns-in-Ok-survey_of-clause-writes
returns-in-Ok-survey_of-clause-writes g c =
    spends-on _ c.in-Ok.store c.survey_card.new.store c.in-Ok.ensures.found c.in-Ok.ensures.writes
    c.survey_card.ensures.store.writes

pub returns-in-Err-survey_of-clause-found_err : goal.returns-in-Err-survey_of-clause-found_err
returns-in-Err-survey_of-clause-found_err g c =
    subst (λ (now : Facts). FindsAgain (g.B.Board.facts c.args.board).words now.words) (sym c.into_board.ensures)
    (found-again (g.B.Board.facts c.args.board).words c.in-Ok.store c.survey_card.new.store
    c.in-Ok.ensures.ready.usable.committed_size c.in-Ok.ensures.found c.survey_card.ensures.any_exit
    c.in-Ok.ensures.sound (c.survey_card.ensures.store.reports.sound c.in-Ok.ensures.defined))

pub returns-in-Err-survey_of-clause-format_err : goal.returns-in-Err-survey_of-clause-format_err
returns-in-Err-survey_of-clause-format_err g c =
    subst (λ (now : Facts). KeepsFormat (g.B.Board.facts c.args.board).words now.words) (sym c.into_board.ensures)
    (found-format (g.B.Board.facts c.args.board).words c.in-Ok.store c.survey_card.new.store
    c.in-Ok.ensures.ready.usable.committed_size c.in-Ok.ensures.found c.survey_card.ensures.any_exit)

pub returns-in-Err-survey_of-clause-shut_err : goal.returns-in-Err-survey_of-clause-shut_err
returns-in-Err-survey_of-clause-shut_err g c =
    λ shut new. subst (λ (now : Facts). KeepsBoard (g.B.Board.facts c.args.board) now) (sym c.into_board.ensures)
    (boards_then _ _ _ (c.in-Ok.ensures.shut shut)
    (c.survey_card.ensures.idle (subst (λ (l : List ℕ). ¬ IsOldCard l) (sym c.in-Ok.ensures.found) new)).board)

pub returns-in-Err-survey_of-clause-writes_err : goal.returns-in-Err-survey_of-clause-writes_err
returns-in-Err-survey_of-clause-writes_err g c =
    let first = g.B.Board.facts c.args.board in
    subst (λ (now : Facts). WritesAtMost (power_on_writes first) first now) (sym c.into_board.ensures)
    (spends-on first c.in-Ok.store c.survey_card.new.store c.in-Ok.ensures.found c.in-Ok.ensures.writes
    c.survey_card.ensures.store.writes)

pub returns-in-Err-clause-stopped : goal.returns-in-Err-clause-stopped
returns-in-Err-clause-stopped g c = stops-opening _ _ _ _ c.from.ensures c.in-Err.ensures.not_opened

pub returns-in-Err-clause-found_err : goal.returns-in-Err-clause-found_err
returns-in-Err-clause-found_err g c =
    found-still _ _ (ap data_words c.in-Err.ensures.kept_err) c.in-Err.ensures.sound_err

pub returns-in-Err-clause-format_err : goal.returns-in-Err-clause-format_err
returns-in-Err-clause-format_err g c =
    inl (ap (λ (l : List ℕ). word l HEADER_PAGE MARK_WORD) (ap data_words c.in-Err.ensures.kept_err))

pub returns-in-Err-clause-shut_err : goal.returns-in-Err-clause-shut_err
returns-in-Err-clause-shut_err g c = λ shut new. c.in-Err.ensures.shut_err shut

pub returns-in-Err-clause-writes_err : goal.returns-in-Err-clause-writes_err
returns-in-Err-clause-writes_err g c = within_more _ _ _ _ (omega arith) c.in-Err.ensures.writes_err
