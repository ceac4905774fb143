use Rattle.std.proofs.Common.{Bool, true, false, ◌==◌, ◌≡◌, ◌<◌, ◌+◌, List, [], length, refl, sym, ◌∙◌, ap, subst}
use Rattle.std.proofs.Common.{arith}
use Rattle.std.specs.Prelude.{OnOk}
use Rattle.undo_journal.specs.declared.batch.Waiting.{Waiting}
use Rattle.undo_journal.specs.Batches.{batch_writes, overlay, AreSets}
use Rattle.undo_journal.specs.Spending.{WritesAtMost}
use Rattle.undo_journal.specs.Undo.{data_words}
use Rattle.std.proofs.lemmas.List.{nil_from_length}
use Rattle.std.proofs.lemmas.Result.{on_ok_weaker}
use Rattle.undo_journal.proofs.Costing.{is-none, is-some}
use Rattle.undo_journal.specs.laws.LastWrites.{last_same}
use Rattle.undo_journal.specs.laws.Transactions.{stays_spends}
use Rattle.undo_journal.proofs.Telling.{steady_same}
use Rattle.nvm_board.specs.laws.SteadyCalls.{answered_ok}
use Rattle.undo_journal.proofs.batch.flush.Goals as goal

pub returns-then-is_empty-clause-kept : goal.returns-then-is_empty-clause-kept
returns-then-is_empty-clause-kept g c = refl

pub returns-then-is_empty-clause-sound : goal.returns-then-is_empty-clause-sound
returns-then-is_empty-clause-sound g c = c.requires.sound

pub returns-then-is_empty-clause-counts : goal.returns-then-is_empty-clause-counts
returns-then-is_empty-clause-counts g c = c.requires.counts

pub returns-then-is_empty-clause-turned : goal.returns-then-is_empty-clause-turned
returns-then-is_empty-clause-turned g c = λ shut. (sym c.requires.counts ∙ shut, omega arith)

pub save_and_write-answer-requires-clause-lit : goal.save_and_write-answer-requires-clause-lit
save_and_write-answer-requires-clause-lit g c = c.requires.lit

pub save_and_write-answer-requires-clause-sound : goal.save_and_write-answer-requires-clause-sound
save_and_write-answer-requires-clause-sound g c = c.requires.sound

pub save_and_write-answer-requires-clause-whole : goal.save_and_write-answer-requires-clause-whole
save_and_write-answer-requires-clause-whole g c = c.requires.whole

pub save_and_write-answer-requires-clause-sets : goal.save_and_write-answer-requires-clause-sets
save_and_write-answer-requires-clause-sets g c =
    let size = length (g.B.Board.facts c.args.board.now).words in
    subst (λ (l : List Waiting). AreSets size 0 l) (sym c.deref.ensures.0) c.requires.sets

pub returns-clause-kept : goal.returns-clause-kept
returns-clause-kept g c = c.save_and_write-answer.ensures.kept

pub returns-clause-sound : goal.returns-clause-sound
returns-clause-sound g c = c.save_and_write-answer.ensures.sound

pub returns-clause-light : goal.returns-clause-light
returns-clause-light g c = c.save_and_write-answer.ensures.light

pub returns-clause-turned : goal.returns-clause-turned
returns-clause-turned g c = c.save_and_write-answer.ensures.turned

pub returns-clause-done : goal.returns-clause-done
returns-clause-done g c =
    let old = g.B.Board.facts c.args.board.now in
    let new = g.B.Board.facts c.save_and_write-answer.new.board in
    let is : List Waiting → Type 0 = λ l. data_words new.words ≡ data_words (overlay l old.words) in
    subst (λ (l : List Waiting). OnOk c.save_and_write-answer.result (is l)) c.deref.ensures.0
    c.save_and_write-answer.ensures.done

pub returns-clause-counted : goal.returns-clause-counted
returns-clause-counted g c =
    let old = g.B.Board.facts c.args.board.now in
    let new = g.B.Board.facts c.save_and_write-answer.new.board in
    let is : List Waiting → Type 0 = λ l. new.writes ≡ old.writes + batch_writes l in
    subst (λ (l : List Waiting). OnOk c.save_and_write-answer.result (is l)) c.deref.ensures.0
    c.save_and_write-answer.ensures.counted

pub returns-clause-writes : goal.returns-clause-writes
returns-clause-writes g c =
    let old = g.B.Board.facts c.args.board.now in
    let new = g.B.Board.facts c.save_and_write-answer.new.board in
    subst (λ (l : List Waiting). WritesAtMost (batch_writes l) old new) c.deref.ensures.0
    c.save_and_write-answer.ensures.writes

-- what the test of the waiting sets says
none-waits : (sets : List Waiting) (b : Bool) → b ≡ (length sets == 0) → b ≡ true → sets ≡ []
none-waits sets b is test = nil_from_length sets (is-none (length sets) (sym is ∙ test))

some-wait : (sets : List Waiting) (b : Bool) → b ≡ (length sets == 0) → b ≡ false → 0 < length sets
some-wait sets b is test = is-some (length sets) (sym is ∙ test)

pub returns-then-is_empty-clause-done : goal.returns-then-is_empty-clause-done
returns-then-is_empty-clause-done g c =
    let words = (g.B.Board.facts c.args.board.now).words in
    let none = none-waits _ _ c.is_empty.ensures c.if-is_empty.true in
    ap (λ (l : List Waiting). data_words (overlay l words)) (sym none)

pub returns-then-is_empty-clause-light : goal.returns-then-is_empty-clause-light
returns-then-is_empty-clause-light g c = answered_ok _ _ _ (steady_same _ c.requires.lit)

pub returns-then-is_empty-clause-counted : goal.returns-then-is_empty-clause-counted
returns-then-is_empty-clause-counted g c =
    let none = none-waits _ _ c.is_empty.ensures c.if-is_empty.true in
    omega (arith, ap batch_writes none)

pub returns-then-is_empty-clause-writes : goal.returns-then-is_empty-clause-writes
returns-then-is_empty-clause-writes g c =
    let facts = g.B.Board.facts c.args.board.now in
    let none = none-waits _ _ c.is_empty.ensures c.if-is_empty.true in
    subst (λ (l : List Waiting). WritesAtMost (batch_writes l) facts facts) (sym none) (stays_spends facts facts refl)

pub returns-then-is_empty-clause-used : goal.returns-then-is_empty-clause-used
returns-then-is_empty-clause-used g c =
    let none = none-waits _ _ c.is_empty.ensures c.if-is_empty.true in
    omega (arith, ap (λ (l : List Waiting). length l) none)

pub returns-then-is_empty-clause-empty : goal.returns-then-is_empty-clause-empty
returns-then-is_empty-clause-empty g c = none-waits _ _ c.is_empty.ensures c.if-is_empty.true

pub save_and_write-answer-requires-clause-counts : goal.save_and_write-answer-requires-clause-counts
save_and_write-answer-requires-clause-counts g c = c.requires.counts

pub save_and_write-answer-requires-clause-some : goal.save_and_write-answer-requires-clause-some
save_and_write-answer-requires-clause-some g c =
    subst (λ (l : List Waiting). 0 < length l) (sym c.deref.ensures.0)
    (some-wait _ _ c.is_empty.ensures c.if-is_empty.false)

pub save_and_write-answer-requires-clause-few : goal.save_and_write-answer-requires-clause-few
save_and_write-answer-requires-clause-few g c = c.deref.ensures.1

pub save_and_write-answer-requires-clause-room : goal.save_and_write-answer-requires-clause-room
save_and_write-answer-requires-clause-room g c =
    omega (arith, ap (λ (l : List Waiting). length l) c.deref.ensures.0, c.requires.room)

pub returns-clause-counts : goal.returns-clause-counts
returns-clause-counts g c =
    let size = ap (λ (l : List Waiting). length l) c.deref.ensures.0 in
    on_ok_weaker c.save_and_write-answer.result (λ counts. omega (arith, counts, size))
    c.save_and_write-answer.ensures.counts

pub returns-clause-used : goal.returns-clause-used
returns-clause-used g c = omega arith

pub returns-clause-empty : goal.returns-clause-empty
returns-clause-empty g c = c.clear.ensures

pub returns-then-is_empty-clause-between : goal.returns-then-is_empty-clause-between
returns-then-is_empty-clause-between g c = last_same _

pub returns-clause-between : goal.returns-clause-between
returns-clause-between g c = c.save_and_write-answer.ensures.between
