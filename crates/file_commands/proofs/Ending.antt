-- The end of the use of a card: what it does to the memory, and what a call that ends it leaves.
use Rattle.std.proofs.Common.{◌≡◌, ◌≢◌, ◌⊎◌, ◌==◌, ℕ, Bool, true, false, not, List, [], Some, None, refl}
use Rattle.std.proofs.Common.{Result, Ok, if◌then◌else◌, sym, ◌∙◌, ap, subst, arith, inl, inr, ⊎_elim}
use Rattle.std.proofs.lemmas.List.{get_or-set_other, get_or-set_same, length-set}
use Rattle.std.specs.Result.{IsErrAnd}
use Rattle.nvm_board.specs.Facts.{address}
use Rattle.nvm_board.specs.Facts.{IsMemory}
use Rattle.nvm_board.specs.laws.Sizes.{least_words}
use Rattle.card_model.specs.declared.access_mode.AccessBit.TheVariants.{Terminate}
use Rattle.card_model.specs.declared.status.Sw.{Sw}
use Rattle.card_model.specs.declared.status.TheConstants.Sw.{ACCESS_DENIED, DONE}
use Rattle.undo_journal.specs.declared.error.StoreErr.{StoreErr}
use Rattle.undo_journal.specs.StoreCalls.{OnlyReads}
use Rattle.undo_journal.specs.laws.Memory.{reports_then}
use Rattle.undo_journal.specs.Commits.{CommitsByGate, TurnsTo}
use Rattle.undo_journal.specs.Memory.{Memory, committed, IsReady, Reports}
use Rattle.undo_journal.specs.Spending.{WritesAtMost}
use Rattle.block_chain.specs.declared.layout.TheConstants.{FREE_HEAD_WORD}
use Rattle.block_chain.specs.Chains.{free_chain}
use Rattle.block_chain.specs.BlockWords.{word}
use Rattle.card_model.specs.Requests.{terminate_card_usage}
use Rattle.file_tree.specs.States.{with_card_terminated}
use Rattle.file_tree.specs.Table.{table, path_of}
use Rattle.file_tree.specs.Trees.{tree_of, TreeStands}
use Rattle.file_tree.specs.TreeChanges.{KeepsTree}
use Rattle.file_tree.specs.Formats.{SameFormat}
use Rattle.file_tree.specs.laws.Footprints.{tree_kept}
use Rattle.file_tree.specs.declared.entry.Entry.{Entry}
use Rattle.pin_store.specs.Pages.{pin_page, KeepsPins}
use Rattle.pin_store.specs.laws.AllPins.{marks_kept, pages_kept}
use Rattle.file_tree.specs.laws.Indexed.{places_same}
use Rattle.command_base.specs.declared.current.Current.{Current}
use Rattle.block_chain.specs.declared.layout.TheConstants.{HEADER_PAGE}
use Rattle.file_tree.specs.declared.layout.TheConstants.{MARK_WORD, PAGES_WORD, STATE_WORD}
use Rattle.command_base.specs.laws.CardLaws.{blocks_same, pins_same}
use Rattle.card_model.specs.Cards.{Card}
use Rattle.command_base.specs.Comparing.{comparisons, ComparesNothing}
use Rattle.card_model.specs.Guards.{allowed}
use Rattle.card_model.specs.LifeCycleCommands.{card_terminated, terminate_card_refusals, terminated_card}
use Rattle.card_model.specs.Behaviours.{refused, refused_by, outcome}
use Rattle.card_model.specs.Steps.{IsDoing, commits, commits_served, effect, last_of, refusals_of, served}
use Rattle.command_base.specs.Served.{Executes}
use Rattle.card_model.specs.Sessions.{Session}
use Rattle.command_base.specs.Standing.{card_of, IsCard}
use Rattle.command_base.specs.Working.{card_in, session_in, session_of, table_in, IsCurrent}
use Rattle.card_model.specs.laws.Doing.{doing-one}
use Rattle.command_base.specs.laws.Entries.{master-path}
use Rattle.card_model.specs.laws.Guarding.{served-done, served-refused}
use Rattle.command_base.specs.laws.Executes.{compared-none, reads-compared, torn, written}
use Rattle.command_base.specs.laws.Stopping.{err-is}
use Rattle.command_base.specs.laws.Words.{Went, is-last, went-after}

module _ (m : List ℕ) (sized : IsMemory m) (words : IsCard m) where
  abbrev ended : List ℕ
  ended = with_card_terminated m

  elsewhere : (page place : ℕ) → address page place ≢ 2 → word ended page place ≡ word m page place
  elsewhere page place differs = get_or-set_other m 2 (address page place) 1 0 differs

  state-is : word ended HEADER_PAGE STATE_WORD ≡ 1
  state-is = let many = least_words m sized in get_or-set_same m 2 1 0 (omega (arith, many))

  format : SameFormat m ended
  format = record {
    mark = elsewhere HEADER_PAGE MARK_WORD (λ is. let z : ⊥ = omega (arith, is) in z);
    pages = elsewhere HEADER_PAGE PAGES_WORD (λ is. let z : ⊥ = omega (arith, is) in z);
  }

  keeps : KeepsTree m ended
  keeps = record {
    entries = λ page place from below small.
        elsewhere page place (λ is. let z : ⊥ = omega (arith, is, from) in z);
    blocks = record {
      size = length-set m 2 1;
      words = λ page place block small.
          elsewhere page place (λ is. let first = block.0 in let z : ⊥ = omega (arith, is, first) in z);
      head = elsewhere HEADER_PAGE FREE_HEAD_WORD (λ is. let z : ⊥ = omega (arith, is) in z);
    };
    format = format;
  }

  pins : KeepsPins m ended
  pins = record {
    words = λ pin place lt few. elsewhere (pin_page pin) place (λ is. let z : ⊥ = omega (arith, is) in z);
  }

  kept : TreeStands ended × (table ended ≡ table m) × (tree_of ended ≡ tree_of m) × (free_chain ended ≡ free_chain m)
  kept = tree_kept m ended sized keeps words.tree

  pub ended-stands : IsCard ended
  ended-stands = record {
    header = record {
      mark = format.mark ∙ words.header.mark;
      end = let was = words.header.end in let is = format.pages in omega (arith, is, was);
      state = let state = state-is in omega (arith, state);
    };
    tree = kept.0;
    pins = pages_kept m ended pins words.pins;
    marks = marks_kept m ended pins words.marks;
  }

  pub ended-card : card_of ended ≡ terminated_card (card_of m)
  unfolding card_of
  ended-card =
      let state = state-is in
      let tree = kept.2 in
      let blocks = blocks_same m ended (length-set m 2 1) format in
      let same = pins_same m ended format pins in
      λ i. record { tree = tree i; pins = same i; in_use = state i == 0; blocks = blocks i }

  pub ended-table : table ended ≡ table m
  ended-table = kept.1

-- what the rule of the master file says, by what the call found that read the card
pub master-allows : (m now : List ℕ) → now ≡ m → (x : Current) (e : ℕ) → e ≡ 0 → (permitted : Bool)
    → permitted ≡ allowed (card_of now) (session_of (table now) x) (path_of (table now) e) Terminate
    → permitted ≡ allowed (card_of m) (session_of (table m) x) (path_of (table m) 0) Terminate
master-allows m now same x e is permitted told =
    told ∙ (λ i. allowed (card_of (same i)) (session_of (table (same i)) x) (path_of (table (same i)) (is i)) Terminate)

-- what the rule of the master file says, as the code asks it
module _ (m : List ℕ) (x : Current) (permitted : Bool)
    (is : permitted ≡ allowed (card_of m) (session_of (table m) x) (path_of (table m) 0) Terminate) where
  abbrev c : Card
  c = card_of m

  abbrev s : Session
  s = session_of (table m) x

  allowed-is : allowed c s [] Terminate ≡ permitted
  allowed-is = (λ i. allowed c s (sym (master-path m) i) Terminate) ∙ sym is

  refusal-is : refused_by (terminate_card_refusals c s) ≡ (if not permitted then Some ACCESS_DENIED else None)
  refusal-is = ap (λ (b : Bool). if not b then Some ACCESS_DENIED else None) allowed-is

  pub end-refused : permitted ≡ false → served c s terminate_card_usage ≡ refused c s ACCESS_DENIED
  unfolding refusals_of
  end-refused denied = served-refused c s terminate_card_usage ACCESS_DENIED
      (refusal-is ∙ ap (λ (b : Bool). if not b then Some ACCESS_DENIED else None) denied)

  unrefused : permitted ≡ true → refused_by (refusals_of c s terminate_card_usage) ≡ None
  unfolding refusals_of
  unrefused granted = refusal-is ∙ ap (λ (b : Bool). if not b then Some ACCESS_DENIED else None) granted

  pub end-done : permitted ≡ true → served c s terminate_card_usage ≡ card_terminated c s
  unfolding effect
  end-done granted = served-done c s terminate_card_usage (unrefused granted)

  pub end-doing : permitted ≡ true → (d : Card) → (d ≡ c) ⊎ (d ≡ terminated_card c) → IsDoing c s terminate_card_usage d
  unfolding commits
  end-doing granted d left = doing-one c s terminate_card_usage (terminated_card c) d (unrefused granted) refl left

  -- the card whose use has ended is the last one
  pub end-last : permitted ≡ true → (d : Card) → d ≡ terminated_card c
      → d ≡ last_of c (commits_served c s terminate_card_usage)
  unfolding commits
  end-last granted d done = is-last c s terminate_card_usage (terminated_card c) d (unrefused granted) refl done

-- A call that ends the use, where the rule allows it: first it only reads, and then it writes.
module _ (old mid new : Memory) (ready : IsReady old) (words : IsCard (committed old)) (x : Current)
    (current : IsCurrent (table_in old) x)
    (is : true ≡ allowed (card_in old) (session_in old x) (path_of (table_in old) 0) Terminate)
    (reads : OnlyReads old mid)
    (any_exit : (committed new ≡ committed mid) ⊎ (committed new ≡ with_card_terminated (committed mid)))
    (by_gate : CommitsByGate mid new)
    (turned : TurnsTo (λ after. after ≡ with_card_terminated (committed mid)) mid new)
    (reports : Reports mid new) (spends : WritesAtMost 4 mid.facts new.facts) where
  abbrev at_end : List ℕ
  at_end = with_card_terminated (committed old)

  size : IsMemory (committed old)
  size = ready.usable.committed_size

  same : committed mid ≡ committed old
  same = reads.keeps.committed_words

  end-is : committed new ≡ with_card_terminated (committed mid) → committed new ≡ at_end
  end-is done = done ∙ ap with_card_terminated same

  stands : IsCard (committed new)
  stands = ⊎_elim (λ stays. subst IsCard (sym (stays ∙ same)) words)
      (λ done. subst IsCard (sym (end-is done)) (ended-stands (committed old) size words)) any_exit

  doing : IsDoing (card_in old) (session_in old x) terminate_card_usage (card_in new)
  doing = end-doing (committed old) x true is refl (card_in new) (⊎_elim
      (λ (stays : committed new ≡ committed mid). inl (ap card_of (stays ∙ same)))
      (λ (done : committed new ≡ with_card_terminated (committed mid)).
      inr (ap card_of (end-is done) ∙ ended-card (committed old) size words))
      any_exit)

  went : Went terminate_card_usage old x new
  went = went-after terminate_card_usage old x new 4 mid words refl (inr doing) reads spends by_gate
      (λ shut more. end-last (committed old) x true is refl (card_in new)
      (ap card_of (end-is (turned shut (omega (arith, reads.board.writes, more))))
      ∙ ended-card (committed old) size words))

  compares : ComparesNothing (comparisons old.facts) (comparisons new.facts)
  compares = compared-none 4 mid.facts new.facts spends ∙ reads-compared old mid reads

  all-reports : Reports old new
  all-reports = reports_then old mid new reads.reports reports

  -- it stopped, before or after its commit
  pub end-torn : (result : Result Sw StoreErr) (error : StoreErr) → IsErrAnd result (λ f. f ≡ error)
      → new.failed ≡ Some error → Executes terminate_card_usage old x new x [] result
  end-torn result error is failed =
      subst (λ (r : Result Sw StoreErr). Executes terminate_card_usage old x new x [] r) (sym (err-is result error is))
      (torn terminate_card_usage old x new x [] error (inr doing) stands all-reports failed
      (omega arith) (omega (arith, spends.writes, reads.board.writes)) went compares)

  -- it was made
  module _ (done : committed new ≡ with_card_terminated (committed mid)) where
    table-is : table_in new ≡ table_in old
    table-is = ap table (end-is done) ∙ ended-table (committed old) size words

    card-is : card_in new ≡ terminated_card (card_in old)
    card-is = ap card_of (end-is done) ∙ ended-card (committed old) size words

    pub end-made : IsReady new → Executes terminate_card_usage old x new x [] (Ok DONE)
    end-made ready_now = written terminate_card_usage old x new (λ _. tt) x [] DONE (inr doing) stands all-reports
        ready_now
        (subst (λ (t : List Entry). IsCurrent t x) (sym table-is) current) (λ _. places_same _ _ table-is) (omega arith)
        (omega (arith, spends.writes, reads.board.writes)) went compares
        (end-done (committed old) x true is refl
        ∙ (λ i. outcome (sym card-is i) (session_of (sym table-is i) x) [] DONE))
