use Rattle.undo_journal.specs.laws.Exits.{none_ok, on_then}
use Rattle.std.specs.Prelude.{OnOk}
use Rattle.std.proofs.Common.{◌≡◌, ◌⊎◌, ◌+◌, arith, ℕ, List, slice_set, sym, ◌∙◌, ap, subst, inl, inr}
use Rattle.std.proofs.Common.{⊎_elim, true≢false}
use Rattle.nvm_board.specs.Facts.{address, IsMemory}
use Rattle.undo_journal.specs.Memory.{committed}
use Rattle.card_model.specs.LifeCycle.{life_cycle_byte}
use Rattle.card_model.specs.declared.life_cycle.LifeCycle.{LifeCycle}
use Rattle.file_tree.specs.declared.entry.Entry.{Entry}
use Rattle.file_tree.specs.declared.layout.TheConstants.{FIRST_ENTRY_PAGE}
use Rattle.file_tree.specs.States.{ChangesLife}
use Rattle.card_model.specs.FileLives.{life_at}
use Rattle.file_tree.specs.Table.{table, entry_in, path_of, IsUsed}
use Rattle.file_tree.specs.Trees.{tree_of, TreeStands}
use Rattle.file_tree.specs.TreeParts.{TellsLife}
use Rattle.file_tree.specs.laws.Nodes.{used_small}
use Rattle.file_changes.specs.laws.LifeChanges.{life_written, life_changed, life_stays, byte_of_state}
use Rattle.undo_journal.specs.Commits.{TurnsTo}
use Rattle.undo_journal.specs.laws.Transactions.{by_gate_after, reads_turn, turns_after}
use Rattle.undo_journal.specs.laws.Told.{changes_after, reads_change, changes_handed}
use Rattle.file_changes.proofs.life_cycles.set_life_cycle.Goals as goal

-- the word that is written changes the state of the words as they were
changed : (m now after : List ℕ) (e w : ℕ) (state : LifeCycle) (entry : Entry) → IsMemory m → TreeStands m
    → IsUsed (table m) e → now ≡ m → entry ≡ entry_in (table m) e → TellsLife entry (life_cycle_byte state) w
    → after ≡ slice_set now (address (FIRST_ENTRY_PAGE + e) 0) w → ChangesLife m e state after
changed m now after e w state entry sized stands used words is tells done =
    let by_entry : Entry → Type 0 = λ x. TellsLife x (life_cycle_byte state) w in
    let by_words : List ℕ → Type 0 = λ l. ChangesLife m e state l in
    let told : TellsLife (entry_in (table m) e) (life_cycle_byte state) w = subst by_entry is tells in
    subst by_words (sym (done ∙ ap (λ (l : List ℕ). slice_set l (address (FIRST_ENTRY_PAGE + e) 0) w) words))
    (life_changed m (slice_set m (address (FIRST_ENTRY_PAGE + e) 0) w) e state sized stands used
    (life_written m e w (life_cycle_byte state) sized (used_small m e used) used told))

pub returns-then-has_life_cycle-clause-done : goal.returns-then-has_life_cycle-clause-done
returns-then-has_life_cycle-clause-done g c =
    let m = committed c.args.store.now in
    let by_words : List ℕ → Type 0 = λ l. ChangesLife m c.args.e c.args.state l in
    subst by_words (sym c.read_entry.ensures.store.only.keeps.committed_words)
    (life_stays m c.requires.file.tree c.args.e c.args.state c.requires.file.used
    (ap (λ (x : Entry). x.life) (sym c.in_ok-entry.ensures.entry)
    ∙ c.has_life_cycle.ensures.0 c.if-has_life_cycle.true))

pub commit_word-requires-clause-place : goal.commit_word-requires-clause-place
commit_word-requires-clause-place g c =
    let small = used_small (committed c.args.store.now) c.args.e c.requires.file.used in
    let size = c.in_ok-entry.ensures.store.ready.usable.committed_size in
    (inl (omega (arith, c.entry_address.ensures, small)), omega (arith, size, c.entry_address.ensures, small))

pub returns-clause-done : goal.returns-clause-done
returns-clause-done g c =
    let m = committed c.args.store.now in
    let family : ℕ → Type 0 = λ a. OnOk c.commit_word.result (committed c.commit_word.new.store
    ≡ slice_set (committed c.read_entry.new.store) a c.life_word.result) in
    on_then _ _ _ (changed m (committed c.read_entry.new.store)
    (committed c.commit_word.new.store) c.args.e c.life_word.result
    c.args.state c.in_ok-entry.entry c.requires.file.ready.usable.committed_size c.requires.file.tree
    c.requires.file.used
    c.read_entry.ensures.store.only.keeps.committed_words c.in_ok-entry.ensures.entry
    c.life_word.ensures)
    (subst family c.entry_address.ensures c.commit_word.ensures.done)

pub returns-clause-any_exit : goal.returns-clause-any_exit
returns-clause-any_exit g c =
    let m = committed c.args.store.now in
    let family : ℕ → Type 0 = λ a. (committed c.commit_word.new.store ≡ committed c.read_entry.new.store)
    ⊎ (committed c.commit_word.new.store ≡ slice_set (committed c.read_entry.new.store) a c.life_word.result) in
    ⊎_elim
    (λ (same : committed c.commit_word.new.store ≡ committed c.read_entry.new.store).
    inl (same ∙ c.read_entry.ensures.store.only.keeps.committed_words))
    (λ (set : committed c.commit_word.new.store
    ≡ slice_set (committed c.read_entry.new.store) (address (FIRST_ENTRY_PAGE + c.args.e) 0) c.life_word.result).
    inr (changed m (committed c.read_entry.new.store)
    (committed c.commit_word.new.store) c.args.e c.life_word.result
    c.args.state c.in_ok-entry.entry c.requires.file.ready.usable.committed_size c.requires.file.tree
    c.requires.file.used
    c.read_entry.ensures.store.only.keeps.committed_words c.in_ok-entry.ensures.entry
    c.life_word.ensures
    set))
    (subst family c.entry_address.ensures c.commit_word.ensures.any_exit)

-- a file that is in the state has its byte
has_byte : (m : List ℕ) (e : ℕ) (state : LifeCycle) (entry : Entry) → TreeStands m → IsUsed (table m) e
    → entry ≡ entry_in (table m) e → life_at (tree_of m) (path_of (table m) e) ≡ state
    → entry.life ≡ life_cycle_byte state
has_byte m e state entry stands used is here = ap (λ (x : Entry). x.life) is ∙ byte_of_state m e state stands used here

pub returns-clause-stays : goal.returns-clause-stays
returns-clause-stays g c = λ here. absurd (true≢false (sym (c.has_life_cycle.ensures.1
    (has_byte (committed c.args.store.now) c.args.e c.args.state c.in_ok-entry.entry c.requires.file.tree
    c.requires.file.used c.in_ok-entry.ensures.entry here)) ∙ c.if-has_life_cycle.false))

pub returns-in_err-entry-clause-any_exit : goal.returns-in_err-entry-clause-any_exit
returns-in_err-entry-clause-any_exit g c = inl c.read_entry.ensures.store.only.keeps.committed_words

pub returns-in_err-entry-clause-done : goal.returns-in_err-entry-clause-done
returns-in_err-entry-clause-done g c = none_ok _ _ _ c.from_residual.ensures.1

pub returns-in_err-entry-clause-stays : goal.returns-in_err-entry-clause-stays
returns-in_err-entry-clause-stays g c = λ here. c.read_entry.ensures.store.only

pub returns-in_err-entry-clause-store : goal.returns-in_err-entry-clause-store
returns-in_err-entry-clause-store g c =
    changes_handed _ _ _ _ _ c.from_residual.ensures.1
    (reads_change _ _ _ _ c.requires.file.ready.idle c.in_err-entry.ensures.store)

pub returns-then-has_life_cycle-clause-any_exit : goal.returns-then-has_life_cycle-clause-any_exit
returns-then-has_life_cycle-clause-any_exit g c = inl c.read_entry.ensures.store.only.keeps.committed_words

pub returns-then-has_life_cycle-clause-stays : goal.returns-then-has_life_cycle-clause-stays
returns-then-has_life_cycle-clause-stays g c = λ here. c.read_entry.ensures.store.only

pub returns-then-has_life_cycle-clause-store : goal.returns-then-has_life_cycle-clause-store
returns-then-has_life_cycle-clause-store g c =
    reads_change _ _ _ _ c.requires.file.ready.idle c.in_ok-entry.ensures.store

pub commit_word-requires-clause-ready : goal.commit_word-requires-clause-ready
commit_word-requires-clause-ready g c = c.in_ok-entry.ensures.store.ready

pub returns-clause-store : goal.returns-clause-store
returns-clause-store g c =
    changes_after _ _ _ _ _ c.read_entry.ensures.store.only c.commit_word.ensures.store

pub returns-in_err-entry-clause-by_gate : goal.returns-in_err-entry-clause-by_gate
returns-in_err-entry-clause-by_gate g c = inl c.read_entry.ensures.store.only.keeps.committed_words

pub returns-then-has_life_cycle-clause-by_gate : goal.returns-then-has_life_cycle-clause-by_gate
returns-then-has_life_cycle-clause-by_gate g c = inl c.read_entry.ensures.store.only.keeps.committed_words

pub returns-clause-by_gate : goal.returns-clause-by_gate
returns-clause-by_gate g c =
    by_gate_after c.args.store.now c.read_entry.new.store c.commit_word.new.store
    c.read_entry.ensures.store.only.keeps.committed_words c.commit_word.ensures.by_gate

pub read_entry-requires : goal.read_entry-requires
read_entry-requires g c = record {
  ready = c.requires.file.ready;
  within = used_small (committed c.args.store.now) c.args.e c.requires.file.used;
}

pub returns-in_err-entry-clause-turned : goal.returns-in_err-entry-clause-turned
returns-in_err-entry-clause-turned g c =
    reads_turn (λ after. ChangesLife (committed c.args.store.now) c.args.e c.args.state after) _ _
    c.read_entry.ensures.store.only

pub returns-then-has_life_cycle-clause-turned : goal.returns-then-has_life_cycle-clause-turned
returns-then-has_life_cycle-clause-turned g c =
    reads_turn (λ after. ChangesLife (committed c.args.store.now) c.args.e c.args.state after) _ _
    c.read_entry.ensures.store.only

pub returns-clause-turned : goal.returns-clause-turned
returns-clause-turned g c =
    let m = committed c.args.store.now in
    let now = committed c.read_entry.new.store in
    let word = c.life_word.result in
    let family : ℕ → Type 0 = λ a. TurnsTo (λ after. after ≡ slice_set now a word) c.read_entry.new.store
    c.commit_word.new.store in
    turns_after (λ after. after ≡ slice_set now (address (FIRST_ENTRY_PAGE + c.args.e) 0) word)
    (λ after. ChangesLife m c.args.e c.args.state after) c.args.store.now c.read_entry.new.store
    c.commit_word.new.store c.read_entry.ensures.store.only
    (changed m now (committed c.commit_word.new.store) c.args.e word c.args.state c.in_ok-entry.entry
    c.requires.file.ready.usable.committed_size c.requires.file.tree c.requires.file.used
    c.read_entry.ensures.store.only.keeps.committed_words c.in_ok-entry.ensures.entry c.life_word.ensures)
    (subst family c.entry_address.ensures c.commit_word.ensures.turned)
