-- What CREATE FILE leaves, where nothing refuses the template:
-- first it only reads, then it creates the file.
use Rattle.std.proofs.Common.{◌≡◌, ◌⊎◌, ◌≤◌, ◌-◌, ℕ, List, [], Some, None, Result, Ok, refl, sym, ◌∙◌}
use Rattle.std.proofs.Common.{Option, ◌+◌, ap, subst, arith, inr, true≢false}
use Rattle.std.specs.Result.{IsErrAnd}
use Rattle.nvm_board.specs.Facts.{IsMemory}
use Rattle.card_model.specs.declared.status.Sw.{Sw}
use Rattle.card_model.specs.declared.status.TheConstants.Sw.{DONE}
use Rattle.card_model.specs.declared.fcp.Fcp.{Fcp}
use Rattle.card_model.specs.declared.fault.FcpFault.{FcpFault}
use Rattle.card_model.specs.FileCommands.{told_by}
use Rattle.card_model.specs.FileControl.{size_of_kind}
use Rattle.card_model.specs.Spaces.{blocks_for}
use Rattle.command_base.specs.CommitWords.{TurnsServed}
use Rattle.undo_journal.specs.declared.error.StoreErr.{StoreErr}
use Rattle.undo_journal.specs.StoreCalls.{Changes, OnlyReads}
use Rattle.undo_journal.specs.Commits.{TurnsAfter}
use Rattle.undo_journal.specs.Spending.{Advances}
use Rattle.undo_journal.specs.laws.Calls.{advances_by}
use Rattle.file_changes.specs.Adding.{AddsByGate}
use Rattle.undo_journal.specs.Memory.{Memory, committed, IsReady}
use Rattle.undo_journal.specs.laws.Calls.{reads_then}
use Rattle.undo_journal.specs.laws.Told.{changes_after}
use Rattle.card_model.specs.Requests.{Request, create_file}
use Rattle.file_changes.specs.declared.creating.Creation.{Creation}
use Rattle.file_changes.specs.declared.creating.Creation.TheVariants.{Created, Refused}
use Rattle.card_model.specs.declared.space.FreeSpace.{FreeSpace}
use Rattle.file_tree.specs.TreeChanges.{SameTree}
use Rattle.file_changes.specs.Creations.{kind_number, CreatesNew, IsCreated, TellsCreation}
use Rattle.file_changes.specs.CreationRefusals.{creation_refusal}
use Rattle.file_tree.specs.Formats.{block_count}
use Rattle.file_tree.specs.Table.{table, entry_in, path_of, IsUsed}
use Rattle.file_tree.specs.Trees.{tree_of}
use Rattle.command_base.specs.declared.current.Current.{Current}
use Rattle.file_commands.specs.FileParts.{IsNewFile}
use Rattle.card_model.specs.Steps.{IsDoing}
use Rattle.command_base.specs.Served.{Executes}
use Rattle.command_base.specs.CommandWrites.{creation_writes}
use Rattle.command_base.specs.Standing.{IsCard}
use Rattle.command_base.specs.Working.{card_in, session_in, space_in, table_in, IsCurrent}
use Rattle.command_base.specs.CurrentFiles.{current_at, current_by}
use Rattle.file_commands.proofs.Creations.{any-creating, any-stage, any-stands, created-current, created-is-card}
use Rattle.file_commands.proofs.Creations.{created-last, created-space, filled-card, filled-stands}
use Rattle.file_commands.proofs.Creations.{created-step, refused-step, taken-blocks, taken-entries}
use Rattle.command_base.specs.laws.Executes.{compared-none, declined, torn, written}
use Rattle.command_base.specs.laws.Stopping.{err-is}
use Rattle.command_base.specs.laws.Words.{Went, went-gated}

module _ (old mid made : Memory) (ready : IsReady old) (words : IsCard (committed old)) (x : Current)
    (current : IsCurrent (table_in old) x) (template : List ℕ) (fcp : Fcp)
    (found : IsNewFile (committed old) x template fcp) (reads : OnlyReads old mid) where
  abbrev m : List ℕ
  m = committed old

  abbrev after : List ℕ
  after = committed made

  abbrev request : Request
  request = create_file template

  sized : IsMemory m
  sized = ready.usable.committed_size

  same : committed mid ≡ m
  same = reads.keeps.committed_words

  -- a creation that is refused changed nothing
  pub creation-refused : (status : Sw) → TellsCreation (committed mid) x.df fcp (Refused status) after
      → ((refusal : Sw) → creation_refusal (block_count (committed mid)) (tree_of (committed mid))
      (path_of (table_in mid) x.df) fcp ≡ Some refusal
      → OnlyReads mid made) → IsReady made → Executes request old x made x [] (Ok status)
  creation-refused status tells idle ready_now =
      let is : creation_refusal (block_count m) (tree_of m) (path_of (table m) x.df) fcp ≡ Some status =
      subst (λ (l : List ℕ). creation_refusal (block_count l) (tree_of l) (path_of (table l) x.df) fcp
      ≡ Some status) same tells.0 in
      declined request old x made (λ _. tt) words status (reads_then old mid made reads (idle status tells.0))
      ready_now current
      (refused-step m sized words x template fcp found.told found.unbarred found.permitted status is)

  -- which card stands by the word: the blocks that are filled before leave the tree
  went-adding : AddsByGate mid made
      → OnlyReads old made ⊎ IsDoing (card_in old) (session_in old x) request (card_in made)
      → Advances old.facts made.facts → TurnsServed (card_in old) (session_in old x) request old.facts made.facts
      → Went request old x made
  went-adding adds stage advances turns =
      let tree = subst (λ (l : List ℕ). SameTree l adds.filled) same adds.tree in
      went-gated request old x made refl stage adds.filled (filled-stands m sized words x template fcp found.told
      found.unbarred found.permitted adds.filled tree) (filled-card m sized words x template fcp found.told
      found.unbarred found.permitted adds.filled tree) adds.gate advances turns

  -- once the gate has turned, the file is there
  turns-adding : creation_refusal (block_count m) (tree_of m) (path_of (table m) x.df) fcp ≡ None
      → TurnsAfter (blocks_for (size_of_kind fcp.kind)) (CreatesNew (committed mid) x.df fcp) mid made
      → TurnsServed (card_in old) (session_in old x) request old.facts made.facts
  turns-adding none turned = λ shut more.
      let early = ap (λ (r : Result Fcp FcpFault). blocks_for (size_of_kind (told_by r).kind)) found.told in
      created-last m sized words x template fcp found.told found.unbarred found.permitted none after
      (subst (λ (l : List ℕ). CreatesNew l x.df fcp after) same
      (turned shut (omega (arith, early, reads.board.writes, more))))

  -- where it is refused, nothing was written
  turns-or-refused : (refusal : Option Sw)
      → creation_refusal (block_count m) (tree_of m) (path_of (table m) x.df) fcp ≡ refusal
      → ((status : Sw) → refusal ≡ Some status → OnlyReads old made)
      → TurnsAfter (blocks_for (size_of_kind fcp.kind)) (CreatesNew (committed mid) x.df fcp) mid made
      → TurnsServed (card_in old) (session_in old x) request old.facts made.facts
  turns-or-refused None told idle turned = turns-adding told turned
  turns-or-refused (Some status) told idle turned =
      λ shut more. absurd (omega (arith, (idle status refl).board.writes, more))

  -- one that stopped, before or after its commit
  pub creation-torn : (r : Result Sw StoreErr) (e : StoreErr) → IsErrAnd r (λ f. f ≡ e)
      → SameTree (committed mid) after ⊎ CreatesNew (committed mid) x.df fcp after
      → ((refusal : Sw) → creation_refusal (block_count (committed mid)) (tree_of (committed mid))
      (path_of (table_in mid) x.df) fcp ≡ Some refusal
      → OnlyReads mid made) → AddsByGate mid made
      → TurnsAfter (blocks_for (size_of_kind fcp.kind)) (CreatesNew (committed mid) x.df fcp) mid made
      → (n : ℕ) → Changes n mid made (Some e) → n ≤ creation_writes → Executes request old x made x [] r
  creation-torn r e is any_exit idle adds turned n changes few =
      let exit = subst (λ (l : List ℕ). SameTree l after ⊎ CreatesNew l x.df fcp after) same any_exit in
      let all = changes_after n old mid made (Some e) reads changes in
      let idle_here = subst (λ (l : List ℕ). (status : Sw)
      → creation_refusal (block_count l) (tree_of l) (path_of (table l) x.df) fcp ≡ Some status
      → OnlyReads mid made) same idle in
      let stage = any-stage m sized words x template fcp found.told found.unbarred found.permitted
      (creation_refusal (block_count m) (tree_of m) (path_of (table m) x.df) fcp) refl
      (λ status refuses. reads_then old mid made reads (idle_here status refuses)) after exit in
      subst (λ (s : Result Sw StoreErr). Executes request old x made x [] s) (sym (err-is r e is))
      (torn request old x made x [] e stage
      (any-stands m sized words x template fcp found.told found.unbarred found.permitted after exit)
      all.reports all.tells (omega arith) (omega (arith, few, all.writes.writes))
      (went-adding adds stage (advances_by n old.facts made.facts all.writes)
      (turns-or-refused (creation_refusal (block_count m) (tree_of m) (path_of (table m) x.df) fcp) refl
      (λ status refuses. reads_then old mid made reads (idle_here status refuses)) turned))
      (compared-none n old.facts made.facts all.writes))

  -- one that was made
  module _ (e blocks : ℕ) (creation : Creation) (tells : TellsCreation (committed mid) x.df fcp creation after)
      (is : creation ≡ Created e blocks) where
    created : IsCreated m x.df fcp e blocks after
    created = subst (λ (l : List ℕ). IsCreated l x.df fcp e blocks after) same
        (subst (λ (c : Creation). TellsCreation (committed mid) x.df fcp c after) is tells)

    created-stands : IsCard after
    created-stands = created-is-card m sized words x template fcp found.told found.unbarred
        found.permitted e blocks after created

    pub creation-used : IsUsed (table after) e
    creation-used = created.used

    pub creation-taken : (free : FreeSpace) → free ≡ space_in old → blocks ≤ free.blocks
    creation-taken free counted =
        taken-blocks m m after free (record { blocks = blocks; entries = 1 }) counted refl created.space
        words created-stands

    pub creation-taken-one : (free : FreeSpace) → free ≡ space_in old → 1 ≤ free.entries
    creation-taken-one free counted =
        taken-entries m m after free (record { blocks = blocks; entries = 1 }) counted refl created.space
        words created-stands

    module _ (adds : AddsByGate mid made)
        (turned : TurnsAfter (blocks_for (size_of_kind fcp.kind)) (CreatesNew (committed mid) x.df fcp) mid made)
        (n : ℕ) (changes : Changes n mid made None) (few : n ≤ creation_writes) where
      all : Changes n old made None
      all = changes_after n old mid made None reads changes

      made-it : IsDoing (card_in old) (session_in old x) request (card_in made)
      made-it = any-creating m sized words x template fcp found.told found.unbarred found.permitted created.none after
          (inr created.creates)

      went : Went request old x made
      went = went-adding adds (inr made-it) (advances_by n old.facts made.facts all.writes)
          (turns-adding created.none turned)

      pub created-done : IsReady made → (y : Current) → y ≡ current_by x e (kind_number fcp.kind) x.df
          → Executes request old x made y [] (Ok DONE)
      created-done ready_now y y_is =
          let z = current_at x e (entry_in (table after) e) in
          let there = created in
          let same : z ≡ y = (λ i. current_by x e (there.kind i) (there.parent i)) ∙ sym y_is in
          let at_file = created-current m sized words x template fcp found.told found.unbarred found.permitted e blocks
          after created current.marks in
          let done = created-step m sized words x template fcp found.told found.unbarred found.permitted e blocks after
          created in
          subst (λ (y : Current). Executes request old x made y [] (Ok DONE)) same
          (written request old x made (λ _. tt) z [] DONE (inr made-it) created-stands all.reports ready_now at_file
          (λ never. absurd (true≢false never)) (omega arith)
          (omega (arith, few, all.writes.writes)) went (compared-none n old.facts made.facts all.writes) done)

      pub created-counts : (free : FreeSpace) → free ≡ space_in old
          → record { blocks = free.blocks - blocks; entries = free.entries - 1 } ≡ space_in made
      created-counts free counted =
          created-space m m after free (record { blocks = blocks; entries = 1 }) counted refl created.space
          words created-stands
