-- What DELETE FILE leaves, where nothing refuses it: first it only reads, then it deletes the file.
use Rattle.std.proofs.Common.{◌≡◌, ◌⊎◌, ℕ, [], Result, Ok, None, Some, refl, sym, ◌∙◌, ap, subst, arith, inr}
use Rattle.std.proofs.Common.{true≢false}
use Rattle.std.specs.Result.{IsErrAnd}
use Rattle.nvm_board.specs.Facts.{IsMemory}
use Rattle.card_model.specs.declared.status.Sw.{Sw}
use Rattle.card_model.specs.declared.status.TheConstants.Sw.{DONE}
use Rattle.card_model.specs.declared.requests.Subject.{Subject}
use Rattle.card_model.specs.declared.space.FreeSpace.{FreeSpace}
use Rattle.card_model.specs.Spaces.{free_space}
use Rattle.card_model.specs.Requests.{Request, delete_file}
use Rattle.card_model.specs.Steps.{IsDoing}
use Rattle.undo_journal.specs.declared.error.StoreErr.{StoreErr}
use Rattle.undo_journal.specs.StoreCalls.{OnlyReads}
use Rattle.undo_journal.specs.Commits.{CommitsByGate, TurnsTo}
use Rattle.undo_journal.specs.Memory.{Memory, committed, IsReady, Reports}
use Rattle.undo_journal.specs.Spending.{WritesAtMost}
use Rattle.undo_journal.specs.laws.Memory.{reports_then}
use Rattle.file_tree.specs.declared.entry.Entry.{Entry}
use Rattle.file_tree.specs.TreeChanges.{Deletes, with_freed}
use Rattle.file_tree.specs.Formats.{block_count}
use Rattle.file_tree.specs.Trees.{tree_of}
use Rattle.file_tree.specs.declared.layout.TheConstants.{DELETE_WRITES}
use Rattle.command_base.specs.declared.current.Current.{Current}
use Rattle.file_commands.specs.FileParts.{IsDeletable}
use Rattle.command_base.specs.Comparing.{comparisons, ComparesNothing}
use Rattle.command_base.specs.Served.{Executes}
use Rattle.command_base.specs.Standing.{IsCard}
use Rattle.command_base.specs.Working.{card_in, session_in, table_in, IsCurrent, space_in}
use Rattle.command_base.specs.laws.Executes.{compared-none, reads-compared, torn, written}
use Rattle.command_base.specs.laws.Stopping.{err-is}
use Rattle.command_base.specs.laws.Words.{Went, went-after}
use Rattle.file_commands.proofs.Deletions.{any-deleting, any-stands, deleted-last, deleted-space, done-current}
use Rattle.file_commands.proofs.Deletions.{done-step}

module _ (old mid new : Memory) (ready : IsReady old) (words : IsCard (committed old)) (x : Current)
    (subject : Subject) (e : ℕ) (entry : Entry) (found : IsDeletable (committed old) x subject e entry)
    (reads : OnlyReads old mid)
    (any_exit : (committed new ≡ committed mid) ⊎ Deletes (committed mid) e (committed new)) where
  abbrev request : Request
  request = delete_file subject

  sized : IsMemory (committed old)
  sized = ready.usable.committed_size

  same : committed mid ≡ committed old
  same = reads.keeps.committed_words

  pub deleted-card : IsCard (committed new)
  deleted-card = any-stands (committed old) sized words x subject e found.below found.used found.place (committed mid)
      (committed new) same any_exit

  -- what is free then
  pub deleted-free : (free freed : FreeSpace) → free ≡ space_in old
      → free_space (block_count (committed new)) (tree_of (committed new))
      ≡ with_freed (free_space (block_count (committed mid)) (tree_of (committed mid))) freed
      → with_freed free freed ≡ space_in new
  deleted-free free freed is space =
      deleted-space (committed old) (committed mid) (committed new) free freed is same space words deleted-card

  module _ (current : IsCurrent (table_in old) x) (by_gate : CommitsByGate mid new)
      (turned : TurnsTo (Deletes (committed mid) e) mid new) (reports : Reports mid new)
      (spends : WritesAtMost DELETE_WRITES mid.facts new.facts) where
    doing : IsDoing (card_in old) (session_in old x) request (card_in new)
    doing = any-deleting (committed old) sized words x subject e found.below found.used found.place (committed mid)
        (committed new) same found.unrefused any_exit

    went : Went request old x new
    went = went-after request old x new DELETE_WRITES mid words refl (inr doing) reads spends by_gate
        (λ shut more. deleted-last (committed old) sized words x subject e found.below found.used found.place
        (committed mid) (committed new) same found.unrefused (turned shut (omega (arith, reads.board.writes, more))))

    compares : ComparesNothing (comparisons old.facts) (comparisons new.facts)
    compares = compared-none DELETE_WRITES mid.facts new.facts spends ∙ reads-compared old mid reads

    all-reports : Reports old new
    all-reports = reports_then old mid new reads.reports reports

    -- it stopped, before or after its commit
    pub deletion-torn : (result : Result Sw StoreErr) (error : StoreErr) → IsErrAnd result (λ f. f ≡ error)
        → new.failed ≡ Some error → Executes request old x new x [] result
    deletion-torn result error is failed =
        subst (λ (r : Result Sw StoreErr). Executes request old x new x [] r) (sym (err-is result error is))
        (torn request old x new x [] error (inr doing) deleted-card all-reports failed (omega arith)
        (omega (arith, spends.writes, reads.board.writes)) went compares)

    -- it was made
    pub deletion-made : Deletes (committed mid) e (committed new) → IsReady new → (df : ℕ) → df ≡ entry.parent
        → Executes request old x new (record x { df = df; ef = None; pointer = None }) [] (Ok DONE)
    deletion-made done ready_now df is =
        let step = done-step (committed old) sized words x subject e found.below found.used found.place (committed mid)
        (committed new) same found.unrefused done in
        let at = done-current (committed old) sized words x subject e found.below found.used found.place (committed mid)
        (committed new) same current.marks done in
        subst (λ (k : ℕ). Executes request old x new (record x { df = k; ef = None; pointer = None }) [] (Ok DONE))
        (sym (is ∙ ap (λ (y : Entry). y.parent) found.entry_is))
        (written request old x new (λ _. tt) _ [] DONE (inr doing) deleted-card all-reports ready_now at
        (λ never. absurd (true≢false never)) (omega arith) (omega (arith, spends.writes, reads.board.writes)) went
        compares step)
