use Rattle.std.proofs.Common.{◌≡◌, ◌+◌, ◌-◌, ◌/◌, ℕ, List, length, sym, ◌∙◌, ap, subst, true≢false}
use Rattle.undo_journal.specs.Memory.{committed}
use Rattle.undo_journal.specs.laws.Calls.{reads_then}
use Rattle.undo_journal.specs.laws.Exits.{none_ok}
use Rattle.undo_journal.specs.laws.Told.{reads_handed, reads_on}
use Rattle.block_chain.specs.BlockWords.{word}
use Rattle.file_tree.specs.declared.entry.Entry.{Entry}
use Rattle.file_tree.specs.Naming.{BearsName}
use Rattle.file_tree.specs.Table.{table, entry_in}
use Rattle.file_lookup.proofs.NameWords.{last_of_name}
use Rattle.file_lookup.proofs.SecondWords.{second_as_long}
use Rattle.file_lookup.proofs.naming.bears_name_at.Goals as goal

pub returns-in_err-second : goal.returns-in_err-second
returns-in_err-second g c = record {
  told = none_ok _ _ _ c.from_residual.ensures.1;
  store = reads_handed _ _ _ _ c.from_residual.ensures.1 c.in_err-second.ensures.store;
}

pub returns-then-not-is_as_long : goal.returns-then-not-is_as_long
returns-then-not-is_as_long g c = record {
  told = (
    λ is. absurd (true≢false (sym is)),
    λ bears. absurd (true≢false (sym (c.is_as_long.ensures.1 (second_as_long (committed c.args.store.now) c.args.e
        c.in_ok-second.second c.requires.entry.within c.args.name.now c.in_ok-second.ensures.word bears))
        ∙ c.if-not-is_as_long.true)),
  );
  store = c.in_ok-second.ensures.store;
}

pub returns-in_err-last : goal.returns-in_err-last
returns-in_err-last g c = record {
  told = none_ok _ _ _ c.from_residual-in_err-last.ensures.1;
  store = reads_handed _ _ _ _ c.from_residual-in_err-last.ensures.1
      (reads_on _ _ _ _ c.read_second_word.ensures.store.only c.in_err-last.ensures.store);
}

pub returns-then-not-ends_alike : goal.returns-then-not-ends_alike
returns-then-not-ends_alike g c = record {
  told = (
    λ is. absurd (true≢false (sym is)),
    λ bears. absurd (true≢false (sym (c.ends_alike.ensures.1 (last_of_name (committed c.args.store.now) c.args.e
        c.in_ok-last.last c.requires.entry.within c.args.name.now c.requires.some
        (c.in_ok-last.ensures.word
        ∙ ap (λ (l : List ℕ). word l (1 + c.args.e) (4 + (length c.args.name.now - 1) / 4))
        c.read_second_word.ensures.store.only.keeps.committed_words) bears))
        ∙ c.if-not-ends_alike.true)),
  );
  store = reads_on _ _ _ _ c.read_second_word.ensures.store.only c.in_ok-last.ensures.store;
}

pub returns-in_err-entry : goal.returns-in_err-entry
returns-in_err-entry g c = record {
  told = none_ok _ _ _ c.from_residual-in_err-entry.ensures.1;
  store = reads_handed _ _ _ _ c.from_residual-in_err-entry.ensures.1
      (reads_on _ _ _ _ (reads_then _ _ _ c.read_second_word.ensures.store.only c.read_entry_word.ensures.store.only)
      c.in_err-entry.ensures.store);
}

pub returns : goal.returns
returns g c =
    let reads = reads_then _ _ _ c.read_second_word.ensures.store.only c.read_entry_word.ensures.store.only in
    record {
      told = let m = committed c.args.store.now in
          let is : c.in_ok-entry.entry ≡ entry_in (table m) c.args.e = c.in_ok-entry.ensures.entry
          ∙ ap (λ (l : List ℕ). entry_in (table l) c.args.e) reads.keeps.committed_words in
          let family : Entry → Type 0 = λ x. BearsName x c.args.name.now in (
            λ yes. subst family is (c.bears_name.ensures.0 yes),
            λ bears. c.bears_name.ensures.1 (subst family (sym is) bears),
          );
      store = reads_on _ _ _ _ reads c.in_ok-entry.ensures.store;
    }
