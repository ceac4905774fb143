-- The board of a start that stops is passed on.
use Rattle.std.proofs.Common.{◌≡◌, subst, sym}
use Rattle.std.specs.Prelude.{◌+◌, Result, Ok, Err, IfErr, IsErrAnd}
use Rattle.undo_journal.specs.Spending.{WritesAtMost}
use Rattle.undo_journal.specs.laws.Exits.{none_ok}
use Rattle.command_base.specs.Finding.{FindsAgain}
use Rattle.card_start.specs.Running.{Running, Starts, StartStopsBy}
use Rattle.card_start.specs.Starting.{IsNewFound, KeepsFormat, KeepsFoundUnlessOld, KeepsUnlessOld, RenamesLast}
use Rattle.card_start.specs.Starting.{RollsBackUnlessOld, TakesAllPages, power_on_writes}
use Rattle.card_turns.proofs.powered.Powered.start.Goals as goal

-- what holds of an error holds of the result that passes it on
handed : {T E : Type 0} (r : Result T E) (e : E) (P : E → Type 0) → IsErrAnd r (λ f. f ≡ e) → P e → IfErr r P
handed (Ok x) e P is holds = tt
handed (Err f) e P is holds = subst P (sym is) holds

pub returns-in_err-card-clause-shut_err : goal.returns-in_err-card-clause-shut_err
returns-in_err-card-clause-shut_err g c =
    handed _ _ (λ e. KeepsUnlessOld (g.B.Board.facts c.args.board) (g.B.Board.facts e.0)) c.from_residual.ensures.1
    c.in_err-card.ensures.shut_err

pub returns-in_err-card-clause-started : goal.returns-in_err-card-clause-started
returns-in_err-card-clause-started g c = none_ok _ _ _ c.from_residual.ensures.1

pub returns-in_err-card-clause-found : goal.returns-in_err-card-clause-found
returns-in_err-card-clause-found g c = none_ok _ _ _ c.from_residual.ensures.1

pub returns-in_err-card-clause-format : goal.returns-in_err-card-clause-format
returns-in_err-card-clause-format g c = none_ok _ _ _ c.from_residual.ensures.1

pub returns-in_err-card-clause-all_pages : goal.returns-in_err-card-clause-all_pages
returns-in_err-card-clause-all_pages g c = none_ok _ _ _ c.from_residual.ensures.1

pub returns-in_err-card-clause-kept : goal.returns-in_err-card-clause-kept
returns-in_err-card-clause-kept g c = none_ok _ _ _ c.from_residual.ensures.1

pub returns-in_err-card-clause-shut : goal.returns-in_err-card-clause-shut
returns-in_err-card-clause-shut g c = none_ok _ _ _ c.from_residual.ensures.1

pub returns-in_err-card-clause-counted : goal.returns-in_err-card-clause-counted
returns-in_err-card-clause-counted g c = none_ok _ _ _ c.from_residual.ensures.1

pub returns-in_err-card-clause-writes : goal.returns-in_err-card-clause-writes
returns-in_err-card-clause-writes g c = none_ok _ _ _ c.from_residual.ensures.1

pub returns-in_err-card-clause-stopped : goal.returns-in_err-card-clause-stopped
returns-in_err-card-clause-stopped g c =
    handed _ _ (λ e. StartStopsBy e.1 (g.B.Board.facts c.args.board) (g.B.Board.facts e.0)) c.from_residual.ensures.1
    c.in_err-card.ensures.stopped

pub returns-in_err-card-clause-found_err : goal.returns-in_err-card-clause-found_err
returns-in_err-card-clause-found_err g c =
    let old = g.B.Board.facts c.args.board in
    handed _ _ (λ e. FindsAgain old.words (g.B.Board.facts e.0).words) c.from_residual.ensures.1
    c.in_err-card.ensures.found_err

pub returns-in_err-card-clause-format_err : goal.returns-in_err-card-clause-format_err
returns-in_err-card-clause-format_err g c =
    let old = g.B.Board.facts c.args.board in
    handed _ _ (λ e. KeepsFormat old.words (g.B.Board.facts e.0).words) c.from_residual.ensures.1
    c.in_err-card.ensures.format_err

pub returns-in_err-card-clause-kept_err : goal.returns-in_err-card-clause-kept_err
returns-in_err-card-clause-kept_err g c =
    let old = g.B.Board.facts c.args.board in
    handed _ _ (λ e. KeepsFoundUnlessOld old.words (g.B.Board.facts e.0).words) c.from_residual.ensures.1
    c.in_err-card.ensures.kept_err

pub returns-in_err-card-clause-last : goal.returns-in_err-card-clause-last
returns-in_err-card-clause-last g c =
    handed _ _ (λ e. RenamesLast (g.B.Board.facts c.args.board) (g.B.Board.facts e.0)) c.from_residual.ensures.1
    c.in_err-card.ensures.last

pub returns-in_err-card-clause-rolls_back_err : goal.returns-in_err-card-clause-rolls_back_err
returns-in_err-card-clause-rolls_back_err g c =
    handed _ _ (λ e. RollsBackUnlessOld (g.B.Board.facts c.args.board) (g.B.Board.facts e.0)) c.from_residual.ensures.1
    c.in_err-card.ensures.rolls_back_err

pub returns-in_err-card-clause-writes_err : goal.returns-in_err-card-clause-writes_err
returns-in_err-card-clause-writes_err g c =
    let old = g.B.Board.facts c.args.board in
    handed _ _ (λ e. WritesAtMost (power_on_writes old) old (g.B.Board.facts e.0)) c.from_residual.ensures.1
    c.in_err-card.ensures.writes_err

pub returns-clause-stopped : goal.returns-clause-stopped
returns-clause-stopped g c = tt

pub returns-clause-found_err : goal.returns-clause-found_err
returns-clause-found_err g c = tt

pub returns-clause-format_err : goal.returns-clause-format_err
returns-clause-format_err g c = tt

pub returns-clause-kept_err : goal.returns-clause-kept_err
returns-clause-kept_err g c = tt

pub returns-clause-last : goal.returns-clause-last
returns-clause-last g c = tt

pub returns-clause-rolls_back_err : goal.returns-clause-rolls_back_err
returns-clause-rolls_back_err g c = tt

pub returns-clause-writes_err : goal.returns-clause-writes_err
returns-clause-writes_err g c = tt

pub returns-clause-shut_err : goal.returns-clause-shut_err
returns-clause-shut_err g c = tt

-- what holds of the card holds of it behind its link
behind : (P : Running → Type 0) (card held : Running) → held ≡ card → P card → P held
behind P card held is holds = subst P (sym is) holds

pub returns-clause-found : goal.returns-clause-found
returns-clause-found g c =
    behind (λ card. FindsAgain (g.B.Board.facts c.args.board).words card.facts.words) _ _ c.of.ensures.card
    c.in_ok-card.ensures.found

pub returns-clause-format : goal.returns-clause-format
returns-clause-format g c =
    behind (λ card. IsNewFound card.facts.words) _ _ c.of.ensures.card c.in_ok-card.ensures.format

pub returns-clause-all_pages : goal.returns-clause-all_pages
returns-clause-all_pages g c =
    behind (λ card. TakesAllPages (g.B.Board.facts c.args.board).words card.facts.words) _ _ c.of.ensures.card
    c.in_ok-card.ensures.all_pages

pub returns-clause-kept : goal.returns-clause-kept
returns-clause-kept g c =
    behind (λ card. KeepsFoundUnlessOld (g.B.Board.facts c.args.board).words card.facts.words) _ _ c.of.ensures.card
    c.in_ok-card.ensures.kept

pub returns-clause-shut : goal.returns-clause-shut
returns-clause-shut g c =
    behind (λ card. KeepsUnlessOld (g.B.Board.facts c.args.board) card.facts) _ _ c.of.ensures.card
    c.in_ok-card.ensures.shut

pub returns-clause-counted : goal.returns-clause-counted
returns-clause-counted g c =
    let first = g.B.Board.facts c.args.board in
    behind (λ card. card.facts.writes ≡ first.writes + power_on_writes first) _ _ c.of.ensures.card
    c.in_ok-card.ensures.counted

pub returns-clause-writes : goal.returns-clause-writes
returns-clause-writes g c =
    let first = g.B.Board.facts c.args.board in
    behind (λ card. WritesAtMost (power_on_writes first) first card.facts) _ _ c.of.ensures.card
    c.in_ok-card.ensures.writes

pub returns-clause-started : goal.returns-clause-started
returns-clause-started g c = (
  behind (λ card. Starts (g.B.Board.facts c.args.board) card) _ _ c.of.ensures.card c.in_ok-card.ensures.started,
  c.of.ensures.link,
)
