use Rattle.std.proofs.lemmas.Result.{IfOk-weaker}
use Rattle.std.proofs.Common.{◌≡◌, ◌||◌, ℕ, List, Bool, true, false, sym, ◌∙◌, ap, ap₂, rules}
use Rattle.undo_journal.specs.Memory.{committed}
use Rattle.file_tree.specs.declared.entry.Entry.{Entry}
use Rattle.card_model.specs.FileLives.{bars, is_barred}
use Rattle.file_tree.specs.Table.{table, entry_in, path_of, IsUsed}
use Rattle.file_tree.specs.Trees.{tree_of, TreeStands}
use Rattle.file_tree.specs.Entries.{life_told}
use Rattle.file_tree.specs.States.{barred_up}
use Rattle.file_tree.specs.laws.Barring.{barred_told, life_told_there}
use Rattle.undo_journal.specs.laws.Told.{reads_none}
use Rattle.file_lookup.proofs.barring.is_barred_at.Goals as goal

-- what the entry's own state and the way up tell
told : (m : List ℕ) (e : ℕ) (x : Entry) (own up : Bool) → TreeStands m → IsUsed (table m) e → x ≡ entry_in (table m) e
    → own ≡ bars (life_told x) → up ≡ barred_up (table m) 7 e
    → (own || up) ≡ is_barred (tree_of m) (path_of (table m) e)
told m e x own up stands used is here above =
    ap₂ (λ (a b : Bool). a || b)
    (here ∙ ap (λ (y : Entry). bars (life_told y)) is ∙ ap bars (sym (life_told_there m stands.entries e used)))
    (above ∙ barred_told m stands.entries e used)

pub returns-then-bars : goal.returns-then-bars
returns-then-bars g c = record {
  told = let m = committed c.args.store.now in
      told m c.args.e c.args.entry.now true (barred_up (table m) 7 c.args.e) c.requires.entry.file.tree
      c.requires.entry.file.used
      c.requires.entry.entry (sym c.if-bars.true ∙ c.bars.ensures ∙ ap bars c.life_cycle.ensures)
      (λ i. barred_up (table m) 7 c.args.e);
  store = reads_none _ c.requires.entry.file.ready;
}

pub returns : goal.returns
returns g c = record {
  told = let m = committed c.args.store.now in
      IfOk-weaker _ _ _ (λ barred is. told m c.args.e c.args.entry.now false barred c.requires.entry.file.tree
      c.requires.entry.file.used
      c.requires.entry.entry (sym c.if-bars.false ∙ c.bars.ensures ∙ ap bars c.life_cycle.ensures) is)
      c.is_below_barred.ensures.told;
  store = search rules;
}

pub is_below_barred-requires-clause-parent : goal.is_below_barred-requires-clause-parent
is_below_barred-requires-clause-parent g c = c.new.ensures ∙ ap (λ (x : Entry). x.parent) c.requires.entry.entry

pub is_below_barred-requires-clause-file : goal.is_below_barred-requires-clause-file
is_below_barred-requires-clause-file g c = c.requires.entry.file
