use Rattle.std.proofs.Common.{◌≡◌, ◌≢◌, ℕ, List, sym, ◌∙◌, ap, subst, true≢false}
use Rattle.undo_journal.specs.Memory.{committed}
use Rattle.undo_journal.specs.laws.Exits.{none_ok}
use Rattle.undo_journal.specs.laws.Told.{reads_handed, reads_on}
use Rattle.file_tree.specs.declared.entry.Entry.{Entry}
use Rattle.file_tree.specs.declared.entry.EntryHead.{EntryHead}
use Rattle.file_tree.specs.Entries.{head_of}
use Rattle.file_tree.specs.TreeParts.{IsShortChild}
use Rattle.file_tree.specs.Table.{table, entry_in}
use Rattle.file_lookup.proofs.SecondWords.{second_of_child}
use Rattle.file_lookup.proofs.look_up.is_child_at.Goals as goal

-- what names a child by the head of its entry
abbrev NamesChild : EntryHead → ℕ → ℕ → Type 0
NamesChild head df n = (head.kind ≢ 0) × (head.parent ≡ df) × (head.short ≡ n)

told_by_head : (x : Entry) (head : EntryHead) (df n : ℕ) → head ≡ head_of x → IsShortChild x df n
    → NamesChild head df n
told_by_head x head df n is child = subst (λ (h : EntryHead). NamesChild h df n) (sym is)
    (child.used, child.parent, child.short)

told_of_head : (x : Entry) (head : EntryHead) (df n : ℕ) → head ≡ head_of x → NamesChild head df n
    → IsShortChild x df n
told_of_head x head df n is names =
    let told : NamesChild (head_of x) df n = subst (λ (h : EntryHead). NamesChild h df n) is names in
    record { used = told.0; parent = told.1; short = told.2 }

pub returns-in_err-second : goal.returns-in_err-second
returns-in_err-second g c = record {
  told = none_ok _ _ _ c.from_residual.ensures.1;
  store = reads_handed _ _ _ _ c.from_residual.ensures.1 c.in_err-second.ensures.store;
}

pub returns-then-not-names_child : goal.returns-then-not-names_child
returns-then-not-names_child g c = record {
  told = (
    λ is. absurd (true≢false (sym is)),
    λ child. absurd (true≢false (sym (c.names_child.ensures.1 (second_of_child (committed c.args.store.now) c.args.e
        c.args.df c.args.short c.in_ok-second.second c.requires.within c.in_ok-second.ensures.word child))
        ∙ c.if-not-names_child.true)),
  );
  store = c.in_ok-second.ensures.store;
}

pub returns-in_err-head : goal.returns-in_err-head
returns-in_err-head g c = record {
  told = none_ok _ _ _ c.from_residual-in_err-head.ensures.1;
  store = reads_handed _ _ _ _ c.from_residual-in_err-head.ensures.1
      (reads_on _ _ _ _ c.read_second_word.ensures.store.only c.in_err-head.ensures.store);
}

pub returns : goal.returns
returns g c = record {
  told = let m = committed c.args.store.now in
      let is : c.in_ok-head.head ≡ head_of (entry_in (table m) c.args.e) = c.in_ok-head.ensures.head
      ∙ ap (λ (l : List ℕ). head_of (entry_in (table l) c.args.e))
      c.read_second_word.ensures.store.only.keeps.committed_words in (
        λ yes. told_of_head _ _ _ _ is (c.is_child.ensures.0 yes),
        λ child. c.is_child.ensures.1 (told_by_head _ _ _ _ is child),
      );
  store = reads_on _ _ _ _ c.read_second_word.ensures.store.only c.in_ok-head.ensures.store;
}
