use Rattle.std.proofs.Common.{◌≡◌, ℕ, List, Option, Some, None, IfSome, option_map, sym, ◌∙◌, ap, subst}
use Rattle.std.proofs.Common.{if◌then◌else◌, rules}
use Rattle.std.specs.Option.{is_none}
use Rattle.card_model.specs.declared.status.Sw.{Sw}
use Rattle.card_model.specs.Guards.{file_refusals, missing, allowed}
use Rattle.card_model.specs.Behaviours.{refused_by}
use Rattle.undo_journal.specs.Memory.{committed}
use Rattle.undo_journal.specs.laws.Calls.{reads_then}
use Rattle.file_tree.specs.declared.entry.Entry.{Entry}
use Rattle.card_model.specs.FileLives.{is_barred}
use Rattle.file_tree.specs.Table.{table, entry_in, path_of}
use Rattle.file_tree.specs.laws.Nodes.{used_small}
use Rattle.command_base.specs.Standing.{card_of}
use Rattle.command_base.specs.Working.{session_of, IsElementary}
use Rattle.command_base.specs.NamedFiles.{file_refusal, fits, fits_kind}
use Rattle.command_base.proofs.NamedEntries.{entry-named, entry-refusal}
use Rattle.command_base.specs.laws.Readings.{kept_still}
use Rattle.file_tree.specs.Table.{IsUsed}
use Rattle.undo_journal.specs.laws.Told.{reads_on}
use Rattle.command_base.specs.laws.Stopping.{finds-stopped, reads-stopped, refused-weaker}
use Rattle.command_base.specs.declared.stop.Stop.TheVariants.{Failed}
use Rattle.command_base.proofs.target_file.find_file.Goals as goal

pub returns-in_err-check_file : goal.returns-in_err-check_file
returns-in_err-check_file g c = record {
  told = let m = committed c.args.store.now in
      let t = table m in
      let e = c.in-Some.number in
      let file = subst (λ (o : Option ℕ). IfSome o (IsElementary t c.args.current.now.df)) c.in-Some.is
      c.in_ok-number.ensures.child in
      let place = c.in_ok-number.ensures.found.told ∙ ap (λ (o : Option ℕ). option_map (path_of t) o) c.in-Some.is in
      let same = c.read_entry.ensures.store.only.keeps.committed_words
      ∙ c.find_target.ensures.found.store.only.keeps.committed_words in
      let entry : c.in_ok-entry.entry ≡ entry_in t e =
      c.in_ok-entry.ensures.entry ∙ ap (λ (l : List ℕ). entry_in (table l) e)
      c.find_target.ensures.found.store.only.keeps.committed_words in
      let l = committed c.read_entry.new.store in
      let verdict : Option Sw = file_refusal (is_barred (card_of l).tree (path_of (table l) e))
      (fits_kind c.args.need.structure c.in_ok-entry.entry.kind)
      (allowed (card_of l) (session_of (table l) c.args.current.now) (path_of (table l) e) c.args.need.bit) in
      let refused : Option Sw = refused_by (file_refusals (card_of m) (session_of t c.args.current.now) c.args.target
      (fits c.args.need.structure) c.args.need.bit) in
      finds-stopped _ c.in_err-check_file.field-0.0 c.from_residual-in_err-check_file.ensures.1 _
      (λ (status : Sw). refused ≡ Some status)
      (refused-weaker c.in_err-check_file.field-0.0 (λ (status : Sw). verdict ≡ Some status)
      (λ (status : Sw). refused ≡ Some status) (λ (status : Sw) (due : verdict ≡ Some status).
      entry-refusal m c.requires.target.kept.ready.usable.committed_size c.requires.target.kept.card c.args.current.now
      c.args.target
      c.args.need e file place
      ∙ ap (λ (y : Entry). file_refusal (is_barred (card_of m).tree (path_of t e)) (fits_kind c.args.need.structure
      y.kind) (allowed (card_of m) (session_of t c.args.current.now) (path_of t e) c.args.need.bit)) (sym entry)
      ∙ ap (λ (l : List ℕ). file_refusal (is_barred (card_of l).tree (path_of (table l) e))
      (fits_kind c.args.need.structure c.in_ok-entry.entry.kind)
      (allowed (card_of l) (session_of (table l) c.args.current.now) (path_of (table l) e) c.args.need.bit)) (sym same)
      ∙ due) c.in_err-check_file.ensures.told);
  store = reads-stopped _ _ c.from_residual-in_err-check_file.ensures.1 _ _
      (reads_on _ _ _ _ (reads_then _ _ _ c.find_target.ensures.found.store.only c.read_entry.ensures.store.only)
      c.in_err-check_file.ensures.store);
}

pub returns : goal.returns
returns g c = record {
  told = let m = committed c.args.store.now in
      let t = table m in
      let e = c.in-Some.number in
      let file = subst (λ (o : Option ℕ). IfSome o (IsElementary t c.args.current.now.df)) c.in-Some.is
      c.in_ok-number.ensures.child in
      let place = c.in_ok-number.ensures.found.told ∙ ap (λ (o : Option ℕ). option_map (path_of t) o) c.in-Some.is in
      let same = c.read_entry.ensures.store.only.keeps.committed_words
      ∙ c.find_target.ensures.found.store.only.keeps.committed_words in
      let entry : c.in_ok-entry.entry ≡ entry_in t e =
      c.in_ok-entry.ensures.entry ∙ ap (λ (l : List ℕ). entry_in (table l) e)
      c.find_target.ensures.found.store.only.keeps.committed_words in
      let none = entry-refusal m c.requires.target.kept.ready.usable.committed_size c.requires.target.kept.card
      c.args.current.now
      c.args.target c.args.need e file place
      ∙ ap (λ (y : Entry). file_refusal (is_barred (card_of m).tree (path_of t e))
      (fits_kind c.args.need.structure y.kind)
      (allowed (card_of m) (session_of t c.args.current.now) (path_of t e) c.args.need.bit)) (sym entry)
      ∙ ap (λ (l : List ℕ). file_refusal (is_barred (card_of l).tree (path_of (table l) e))
      (fits_kind c.args.need.structure c.in_ok-entry.entry.kind)
      (allowed (card_of l) (session_of (table l) c.args.current.now) (path_of (table l) e) c.args.need.bit)) (sym same)
      ∙ c.in_ok-check_file.ensures.told in
      entry-named m c.requires.target.kept.ready.usable.committed_size c.requires.target.kept.card c.args.current.now
      c.args.target
      c.args.need e file place none c.in_ok-entry.entry entry;
  store = reads_on _ _ _ _ (reads_then _ _ _ c.find_target.ensures.found.store.only c.read_entry.ensures.store.only)
      c.in_ok-check_file.ensures.store;
}

pub returns-in_err-entry : goal.returns-in_err-entry
returns-in_err-entry g c = record {
  told = search rules;
  store = reads-stopped _ (Failed c.in_err-entry.field-0.0) c.from_residual-in_err-entry.ensures.1 _ _
      (reads_on _ _ _ _ c.find_target.ensures.found.store.only c.in_err-entry.ensures.store);
}

absent : {A : Type 0} (o : Option A) (status : Sw) (rest : Option Sw) → o ≡ None
    → (if is_none o then Some status else rest) ≡ Some status
absent o status rest is = ap (λ (p : Option _). if is_none p then Some status else rest) is

pub returns-in_default : goal.returns-in_default
returns-in_default g c = record {
  told = let none = c.in_ok-number.ensures.found.told
      ∙ ap (λ (o : Option ℕ). option_map (path_of (table (committed c.args.store.now))) o) c.in_default.is in
      absent _ (missing c.args.target) _ none ∙ ap (λ (s : Sw). Some s) (sym c.missing.ensures);
  store = search rules;
}

pub check_file-requires : goal.check_file-requires
check_file-requires g c = record {
  file = record {
    kept = kept_still _ _ _ (reads_then _ _ _ c.find_target.ensures.found.store.only c.read_entry.ensures.store.only)
        c.in_ok-entry.ensures.store.ready c.requires.target.kept;
    used = let same = c.read_entry.ensures.store.only.keeps.committed_words
        ∙ c.find_target.ensures.found.store.only.keeps.committed_words in
        let file = subst (λ (o : Option ℕ). IfSome o (IsElementary (table (committed c.args.store.now))
        c.args.current.now.df)) c.in-Some.is c.in_ok-number.ensures.child in
        subst (λ (l : List ℕ). IsUsed (table l) c.in-Some.number) (sym same) file.child.used;
    entry = c.in_ok-entry.ensures.entry
        ∙ ap (λ (l : List ℕ). entry_in (table l) c.in-Some.number)
        (sym c.read_entry.ensures.store.only.keeps.committed_words);
  };
}

pub read_entry-requires : goal.read_entry-requires
read_entry-requires g c = record {
  ready = search rules;
  within = let t = table (committed c.args.store.now) in
      let file = subst (λ (o : Option ℕ). IfSome o (IsElementary t c.args.current.now.df)) c.in-Some.is
      c.in_ok-number.ensures.child in
      used_small (committed c.args.store.now) c.in-Some.number file.child.used;
}
