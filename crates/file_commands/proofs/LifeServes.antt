-- What a call that changes a life cycle leaves, where nothing refuses it:
-- first it only reads, and then it writes, or not.
use Rattle.std.proofs.Common.{refl, ◌≡◌, ◌⊎◌, ℕ, List, [], Some, Result, Ok, sym, ◌∙◌, ap, subst, arith, inl}
use Rattle.std.proofs.Common.{inr, ⊎_elim}
use Rattle.std.proofs.lemmas.Bool.{cases_eq}
use Rattle.std.specs.Result.{IsErrAnd}
use Rattle.nvm_board.specs.Facts.{IsMemory}
use Rattle.card_model.specs.LifeCycle.{life_cycle_byte}
use Rattle.card_model.specs.declared.status.Sw.{Sw}
use Rattle.card_model.specs.declared.status.TheConstants.Sw.{DONE}
use Rattle.undo_journal.specs.declared.error.StoreErr.{StoreErr}
use Rattle.undo_journal.specs.StoreCalls.{OnlyReads}
use Rattle.undo_journal.specs.laws.Calls.{reads_then}
use Rattle.undo_journal.specs.laws.Memory.{reports_then}
use Rattle.undo_journal.specs.Commits.{CommitsByGate, TurnsTo}
use Rattle.undo_journal.specs.Memory.{Memory, committed, IsReady, Reports}
use Rattle.undo_journal.specs.Spending.{WritesAtMost}
use Rattle.card_model.specs.declared.requests.Subject.{Subject}
use Rattle.card_model.specs.declared.requests.LifeCycleChange.{LifeCycleChange}
use Rattle.card_model.specs.Requests.{Request, change_life_cycle}
use Rattle.card_model.specs.FileLives.{life_at}
use Rattle.file_tree.specs.States.{ChangesLife}
use Rattle.file_tree.specs.Table.{table, path_of}
use Rattle.file_tree.specs.Trees.{tree_of}
use Rattle.file_tree.specs.laws.Indexed.{life_places}
use Rattle.command_base.specs.declared.current.Current.{Current}
use Rattle.file_commands.specs.declared.life_cycles.Changed.{Changed}
use Rattle.card_model.specs.Cards.{Card}
use Rattle.file_commands.specs.LifeParts.{IsChanged}
use Rattle.command_base.specs.Comparing.{comparisons, ComparesNothing}
use Rattle.card_model.specs.Steps.{IsDoing, refusals_of, served}
use Rattle.command_base.specs.Served.{Executes}
use Rattle.card_model.specs.LifeCycleCommands.{change_refusals}
use Rattle.card_model.specs.Behaviours.{refused, refused_by}
use Rattle.card_model.specs.Sessions.{Session}
use Rattle.command_base.specs.Standing.{card_of, IsCard}
use Rattle.command_base.specs.Working.{card_in, session_in, space_in, table_in, IsCurrent}
use Rattle.command_base.specs.CurrentFiles.{current_at}
use Rattle.card_model.specs.laws.Guarding.{served-refused}
use Rattle.file_commands.proofs.LifeSteps.{card-is, changed-current, changed-space, changed-stands, changed-step, doing}
use Rattle.file_commands.proofs.LifeSteps.{last-changed, same-state}
use Rattle.command_base.specs.CommitWords.{TurnsServed}
use Rattle.command_base.specs.laws.Executes.{compared-none, reads-compared, torn, written}
use Rattle.command_base.specs.laws.Stopping.{err-is}
use Rattle.command_base.specs.laws.Words.{Went, went-after}

-- a change that is refused
pub change-refused : (c : Card) (s : Session) (change : LifeCycleChange) (subject : Subject) (status : Sw)
    → refused_by (change_refusals c s change subject) ≡ Some status
    → served c s (change_life_cycle change subject) ≡ refused c s status
unfolding refusals_of
change-refused c s change subject status is = served-refused c s (change_life_cycle change subject) status is

module _ (old mid new : Memory) (ready : IsReady old) (words : IsCard (committed old)) (x : Current)
    (current : IsCurrent (table_in old) x) (change : LifeCycleChange) (subject : Subject) (changed : Changed)
    (found : IsChanged (committed old) x change subject changed) (reads : OnlyReads old mid)
    (any_exit : (committed new ≡ committed mid)
    ⊎ ChangesLife (committed mid) changed.number changed.life (committed new))
    (by_gate : CommitsByGate mid new) (turned : TurnsTo (ChangesLife (committed mid) changed.number changed.life) mid
    new)
    (stays : life_at (tree_of (committed mid)) (path_of (table_in mid) changed.number)
    ≡ changed.life → OnlyReads mid new)
    (reports : Reports mid new) (spends : WritesAtMost 4 mid.facts new.facts) where
  abbrev m : List ℕ
  m = committed old

  abbrev after : List ℕ
  after = committed new

  abbrev e : ℕ
  e = changed.number

  abbrev request : Request
  request = change_life_cycle change subject

  sized : IsMemory m
  sized = ready.usable.committed_size

  same : committed mid ≡ m
  same = reads.keeps.committed_words

  abbrev Changes : List ℕ → Type 0
  Changes l = ChangesLife l e changed.life after

  changes-it : Changes (committed mid) → Changes m
  changes-it = subst Changes same

  -- the card before it, or after it
  stands : IsCard after
  stands = ⊎_elim (λ (kept : after ≡ committed mid). subst IsCard (sym (kept ∙ same)) words)
      (λ (changes : Changes (committed mid)).
      changed-stands m sized words x current change subject changed found after (changes-it changes))
      any_exit

  is-doing : (changed.life ≡ life_at (tree_of m) (path_of (table m) e) → ⊥)
      → IsDoing (card_in old) (session_in old x) request (card_in new)
  is-doing other = doing m sized words x current change subject changed found other (card_of after) (⊎_elim
      (λ (kept : after ≡ committed mid). inl (ap card_of (kept ∙ same)))
      (λ (changes : Changes (committed mid)).
      inr (card-is m sized words x current change subject changed found after (changes-it changes)))
      any_exit)

  -- where the state stays, nothing was written
  staying : changed.life ≡ life_at (tree_of m) (path_of (table m) e) → OnlyReads old new
  staying kept = reads_then old mid new reads (stays
      (ap (λ (l : List ℕ). life_at (tree_of l) (path_of (table l) e)) same ∙ sym kept))

  -- where the state stays, only reads were made
  stage : OnlyReads old new ⊎ IsDoing (card_in old) (session_in old x) request (card_in new)
  stage =
      let there = life_at (tree_of m) (path_of (table m) e) in
      ⊎_elim
      (λ (is : life_cycle_byte changed.life ≡ life_cycle_byte there). inl (staying (same-state changed.life there is)))
      (λ differs. inr (is-doing (λ is. differs (ap life_cycle_byte is))))
      (cases_eq (life_cycle_byte changed.life) (life_cycle_byte there))

  turns : TurnsServed (card_in old) (session_in old x) request old.facts new.facts
  turns = λ shut more.
      let there = life_at (tree_of m) (path_of (table m) e) in
      ⊎_elim
      (λ (kept : life_cycle_byte changed.life ≡ life_cycle_byte there).
      absurd (omega (arith, more, (staying (same-state changed.life there kept)).board.writes)))
      (λ differs. last-changed m sized words x current change subject changed found after
      (changes-it (turned shut (omega (arith, reads.board.writes, more))))
      (λ same_life. differs (ap life_cycle_byte same_life)))
      (cases_eq (life_cycle_byte changed.life) (life_cycle_byte there))

  went : Went request old x new
  went = went-after request old x new 4 mid words refl stage reads spends by_gate turns

  compares : ComparesNothing (comparisons old.facts) (comparisons new.facts)
  compares = compared-none 4 mid.facts new.facts spends ∙ reads-compared old mid reads

  all-reports : Reports old new
  all-reports = reports_then old mid new reads.reports reports

  -- a change that stopped, before or after its commit
  pub change-torn : (result : Result Sw StoreErr) (error : StoreErr) → IsErrAnd result (λ f. f ≡ error)
      → new.failed ≡ Some error → Executes request old x new x [] result
  change-torn result error is failed =
      subst (λ (r : Result Sw StoreErr). Executes request old x new x [] r) (sym (err-is result error is))
      (torn request old x new x [] error stage stands all-reports failed (omega arith)
      (omega (arith, spends.writes, reads.board.writes)) went compares)

  -- a change that was made
  pub change-made : ChangesLife (committed mid) e changed.life after → IsReady new
      → Executes request old x new (current_at x e changed.entry) [] (Ok DONE)
  change-made changes ready_now = written request old x new (λ _. tt) (current_at x e changed.entry) [] DONE stage
      stands all-reports ready_now
      (changed-current m sized words x current change subject changed found after (changes-it changes))
      (λ _. life_places m after e changed.life (changes-it changes)) (omega arith)
      (omega (arith, spends.writes, reads.board.writes)) went compares
      (changed-step m sized words x current change subject changed found after (changes-it changes))

  pub change-space : ChangesLife (committed mid) e changed.life after → space_in new ≡ space_in old
  change-space changes =
      changed-space m sized words x current change subject changed found after (changes-it changes)
