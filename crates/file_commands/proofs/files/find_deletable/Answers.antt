use Rattle.std.proofs.Common.{◌≡◌, ◌≢◌, ◌<◌, ℕ, Bool, false, List, Option, Some, IfSome, IsTrue, option_map}
use Rattle.std.proofs.Common.{sym, ◌∙◌, ap, subst, arith, true≢false}
use Rattle.undo_journal.specs.Memory.{committed}
use Rattle.undo_journal.specs.laws.Calls.{reads_then}
use Rattle.card_model.specs.FileTrees.{Path}
use Rattle.file_tree.specs.declared.entry.Entry.{Entry}
use Rattle.file_tree.specs.Table.{table, entry_in, path_of, IsUsed}
use Rattle.file_tree.specs.laws.Nodes.{used_small}
use Rattle.file_tree.specs.laws.Paths.{parent_used, path-zero}
use Rattle.card_model.specs.declared.status.Sw.{Sw}
use Rattle.card_model.specs.FileCommands.{delete_refusals}
use Rattle.card_model.specs.Behaviours.{refused_by}
use Rattle.command_base.specs.Standing.{card_of}
use Rattle.command_base.specs.Working.{session_of}
use Rattle.file_commands.proofs.Deletions.{deletable, deletion_verdict, entry-verdict, subject-found}
use Rattle.file_commands.proofs.LifeSteps.{current-there}
use Rattle.card_model.specs.declared.requests.LifeCycleChange.TheVariants.{Activate}
use Rattle.file_commands.proofs.FileSteps.{delete-master}
use Rattle.command_base.specs.laws.Readings.{entry_still, kept_still, used_still}
use Rattle.undo_journal.specs.laws.Told.{reads_on}
use Rattle.command_base.specs.declared.stop.Stop.TheVariants.{Failed}
use Rattle.command_base.specs.laws.Stopping.{finds-stopped, reads-stopped, refused-weaker}
use Rattle.file_commands.proofs.Missing.{delete-missed}
use Rattle.file_commands.proofs.files.find_deletable.Goals as goal

-- an entry that isn't the master file's is above 0
above-master : (e : ℕ) (master : Bool) → (e ≡ 0 → IsTrue master) → master ≡ false → 0 < e
above-master e master is fails =
    let some : e ≢ 0 = λ zero. true≢false (sym (is zero) ∙ fails) in
    omega (arith, some)

pub returns-then-is_master : goal.returns-then-is_master
returns-then-is_master g c = record {
  told = let m = committed c.args.store.now in
      let t = table m in
      let x = c.args.current.now in
      let master = c.is_master.ensures.0 c.if-is_master.true in
      delete-master (card_of m) (session_of t x) c.args.subject
      (subject-found m c.requires.card.kept.card x c.requires.card.kept.current c.unwrap_or-own.result
      c.unwrap_or-own.ensures
      c.args.subject c.in_ok-number.field-0 c.in_ok-number.ensures.found.told
      ∙ ap (λ (o : Option ℕ). option_map (path_of t) o) c.in-Some.is
      ∙ ap (λ (p : Path). Some p) (path-zero t 7 c.in-Some.number master));
  store = c.in_ok-number.ensures.found.store;
}

pub returns-in_err-check_deletion : goal.returns-in_err-check_deletion
returns-in_err-check_deletion g c = record {
  told = let m = committed c.args.store.now in
      let t = table m in
      let x = c.args.current.now in
      let e = c.in-Some.number in
      let used = subst (λ (o : Option ℕ). IfSome o (IsUsed t)) c.in-Some.is c.in_ok-number.ensures.used in
      let place = subject-found m c.requires.card.kept.card x c.requires.card.kept.current c.unwrap_or-own.result
      c.unwrap_or-own.ensures
      c.args.subject c.in_ok-number.field-0 c.in_ok-number.ensures.found.told
      ∙ ap (λ (o : Option ℕ). option_map (path_of t) o) c.in-Some.is in
      let same = c.read_entry.ensures.store.only.keeps.committed_words
      ∙ c.find_subject.ensures.found.store.only.keeps.committed_words in
      let entry : c.in_ok-entry.entry ≡ entry_in t e =
      c.in_ok-entry.ensures.entry ∙ ap (λ (l : List ℕ). entry_in (table l) e)
      c.find_subject.ensures.found.store.only.keeps.committed_words in
      let below = above-master e c.is_master.result c.is_master.ensures.1 c.if-is_master.false in
      let verdict : Option Sw = deletion_verdict (committed c.read_entry.new.store) x e c.in_ok-entry.entry.parent in
      let refused : Option Sw = refused_by (delete_refusals (card_of m) (session_of t x) c.args.subject) in
      finds-stopped _ c.in_err-check_deletion.field-0.0 c.from_residual-in_err-check_deletion.ensures.1 _
      (λ (status : Sw). refused ≡ Some status)
      (refused-weaker c.in_err-check_deletion.field-0.0 (λ (status : Sw). verdict ≡ Some status)
      (λ (status : Sw). refused ≡ Some status) (λ (status : Sw) (due : verdict ≡ Some status).
      entry-verdict m c.requires.card.kept.ready.usable.committed_size c.requires.card.kept.card x c.args.subject e
      below used place (committed c.read_entry.new.store) same c.in_ok-entry.entry entry ∙ due)
      c.in_err-check_deletion.ensures.told);
  store = reads-stopped _ _ c.from_residual-in_err-check_deletion.ensures.1 _ _
      (reads_on _ _ _ _ (reads_then _ _ _ c.find_subject.ensures.found.store.only c.read_entry.ensures.store.only)
      c.in_err-check_deletion.ensures.store);
}

pub returns : goal.returns
returns g c = record {
  told = let m = committed c.args.store.now in
      let t = table m in
      let x = c.args.current.now in
      let e = c.in-Some.number in
      let used = subst (λ (o : Option ℕ). IfSome o (IsUsed t)) c.in-Some.is c.in_ok-number.ensures.used in
      let place = subject-found m c.requires.card.kept.card x c.requires.card.kept.current c.unwrap_or-own.result
      c.unwrap_or-own.ensures
      c.args.subject c.in_ok-number.field-0 c.in_ok-number.ensures.found.told
      ∙ ap (λ (o : Option ℕ). option_map (path_of t) o) c.in-Some.is in
      let same = c.read_entry.ensures.store.only.keeps.committed_words
      ∙ c.find_subject.ensures.found.store.only.keeps.committed_words in
      let entry : c.in_ok-entry.entry ≡ entry_in t e =
      c.in_ok-entry.ensures.entry ∙ ap (λ (l : List ℕ). entry_in (table l) e)
      c.find_subject.ensures.found.store.only.keeps.committed_words in
      let below = above-master e c.is_master.result c.is_master.ensures.1 c.if-is_master.false in
      deletable m c.requires.card.kept.ready.usable.committed_size c.requires.card.kept.card x c.args.subject e below
      used place
      (entry-verdict m c.requires.card.kept.ready.usable.committed_size c.requires.card.kept.card x c.args.subject e
      below used place (committed c.read_entry.new.store) same c.in_ok-entry.entry entry
      ∙ c.in_ok-check_deletion.ensures.told)
      c.in_ok-entry.entry entry;
  store = reads_on _ _ _ _ (reads_then _ _ _ c.find_subject.ensures.found.store.only c.read_entry.ensures.store.only)
      c.in_ok-check_deletion.ensures.store;
}

pub check_deletion-requires-clause-above : goal.check_deletion-requires-clause-above
check_deletion-requires-clause-above g c =
    let m = committed c.args.store.now in
    let e = c.in-Some.number in
    let used = subst (λ (o : Option ℕ). IfSome o (IsUsed (table m))) c.in-Some.is c.in_ok-number.ensures.used in
    let same = c.read_entry.ensures.store.only.keeps.committed_words
    ∙ c.find_subject.ensures.found.store.only.keeps.committed_words in
    let entry : c.in_ok-entry.entry ≡ entry_in (table m) e =
    c.in_ok-entry.ensures.entry ∙ ap (λ (l : List ℕ). entry_in (table l) e)
    c.find_subject.ensures.found.store.only.keeps.committed_words in
    let below = above-master e c.is_master.result c.is_master.ensures.1 c.if-is_master.false in
    subst (λ (l : List ℕ). IsUsed (table l) c.in_ok-entry.entry.parent) (sym same)
    (subst (λ (y : Entry). IsUsed (table m) y.parent) (sym entry)
    (parent_used (table m) c.requires.card.kept.card.tree.entries e below used))

pub returns-in_err-entry : goal.returns-in_err-entry
returns-in_err-entry g c = record {
  told = finds-stopped _ (Failed c.in_err-entry.field-0.0) c.from_residual-in_err-entry.ensures.1 _ _ tt;
  store = reads-stopped _ (Failed c.in_err-entry.field-0.0) c.from_residual-in_err-entry.ensures.1 _ _
      (reads_on _ _ _ _ c.find_subject.ensures.found.store.only c.in_err-entry.ensures.store);
}

pub find_subject-requires-clause-own : goal.find_subject-requires-clause-own
find_subject-requires-clause-own g c =
    let t = table (committed c.args.store.now) in
    subst (λ (e : ℕ). IsUsed t e) (sym c.unwrap_or-own.ensures)
    (current-there t c.args.current.now c.requires.card.kept.current Activate)

pub check_deletion-requires-clause-file : goal.check_deletion-requires-clause-file
check_deletion-requires-clause-file g c = record {
  kept = kept_still _ _ _ (reads_then _ _ _ c.find_subject.ensures.found.store.only c.read_entry.ensures.store.only)
      c.in_ok-entry.ensures.store.ready c.requires.card.kept;
  used = used_still c.args.store.now c.read_entry.new.store c.in-Some.number
      (reads_then c.args.store.now c.find_subject.new.store c.read_entry.new.store
      c.find_subject.ensures.found.store.only
      c.read_entry.ensures.store.only) (subst (λ (o : Option ℕ). IfSome o (IsUsed (table (committed c.args.store.now))))
      c.in-Some.is c.in_ok-number.ensures.used);
  entry = entry_still c.find_subject.new.store c.read_entry.new.store c.in-Some.number c.in_ok-entry.entry
      c.read_entry.ensures.store.only c.in_ok-entry.ensures.entry;
}

pub read_entry-requires : goal.read_entry-requires
read_entry-requires g c = record {
  ready = c.in_ok-number.ensures.found.store.ready;
  within = let m = committed c.args.store.now in
      used_small m c.in-Some.number
      (subst (λ (o : Option ℕ). IfSome o (IsUsed (table m))) c.in-Some.is c.in_ok-number.ensures.used);
}

pub returns-in_err-number : goal.returns-in_err-number
returns-in_err-number g c = record {
  told = finds-stopped _ (Failed c.in_err-number.field-0.0) c.from_residual.ensures.1 _ _ tt;
  store = reads-stopped _ (Failed c.in_err-number.field-0.0) c.from_residual.ensures.1 _ _
      c.in_err-number.ensures.found.store;
}

pub returns-in_default : goal.returns-in_default
returns-in_default g c = record {
  told = let m = committed c.args.store.now in
      let t = table m in
      let x = c.args.current.now in
      delete-missed (card_of m) (session_of t x) c.args.subject
      (subject-found m c.requires.card.kept.card x c.requires.card.kept.current c.unwrap_or-own.result
      c.unwrap_or-own.ensures
      c.args.subject c.in_ok-number.field-0 c.in_ok-number.ensures.found.told
      ∙ ap (λ (o : Option ℕ). option_map (path_of t) o) c.in_default.is);
  store = c.in_ok-number.ensures.found.store;
}
