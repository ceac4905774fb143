use Rattle.undo_journal.specs.Memory.{committed}
use Rattle.undo_journal.specs.laws.Calls.{reads_then}
use Rattle.file_tree.specs.laws.Nodes.{used_small}
use Rattle.std.proofs.Common.{◌≡◌, ℕ, Bool, List, Option, sym, ◌∙◌}
use Rattle.command_base.specs.laws.Readings.{entry_still, file_kept, kept_still, used_still}
use Rattle.card_model.specs.FileLives.{next_life}
use Rattle.file_tree.specs.Table.{table, entry_in, path_of}
use Rattle.file_tree.specs.Trees.{tree_of}
use Rattle.file_commands.specs.LifeParts.{change_at, changed_by}
use Rattle.card_model.specs.declared.requests.LifeCycleChange.{LifeCycleChange}
use Rattle.card_model.specs.declared.life_cycle.LifeCycle.{LifeCycle}
use Rattle.card_model.specs.declared.life_cycle.LifeCycleCommand.{LifeCycleCommand}
use Rattle.card_model.specs.declared.access_mode.AccessBit.{AccessBit}
use Rattle.file_tree.specs.declared.entry.Entry.{Entry}
use Rattle.command_base.specs.declared.current.Current.{Current}
use Rattle.card_model.specs.LifeCycleCommands.{change_bit, command_of}
use Rattle.card_model.specs.Guards.{allowed}
use Rattle.command_base.specs.Standing.{card_of}
use Rattle.command_base.specs.Working.{session_of}
use Rattle.undo_journal.specs.laws.Told.{reads_on}
use Rattle.command_base.specs.declared.stop.Stop.TheVariants.{Refused, Failed}
use Rattle.command_base.specs.laws.Stopping.{finds-stopped, reads-stopped}
use Rattle.file_commands.proofs.life_cycles.read_change.Goals as goal

-- the change by what the calls found that read the card
change-told : (m one two : List ℕ) → one ≡ m → two ≡ one → (x : Current) (change : LifeCycleChange) (e : ℕ)
    → (row : LifeCycleCommand × AccessBit) → row ≡ (command_of change, change_bit change)
    → (entry : Entry) → entry ≡ entry_in (table m) e
    → (next : Option LifeCycle) → next ≡ next_life (tree_of one) (path_of (table one) e) row.0
    → (permitted : Bool)
    → permitted ≡ allowed (card_of two) (session_of (table two) x) (path_of (table two) e) row.1
    → changed_by change e entry next permitted ≡ change_at m x change e
change-told m one two read same x change e row row-is entry is next next-told permitted told =
    let then : two ≡ m = same ∙ read in
    let life : next ≡ next_life (tree_of m) (path_of (table m) e) (command_of change) =
    next-told ∙ (λ i. next_life (tree_of (read i)) (path_of (table (read i)) e) ((row-is i).0)) in
    let may : permitted ≡ allowed (card_of m) (session_of (table m) x) (path_of (table m) e) (change_bit change) =
    told ∙ (λ i. allowed (card_of (then i)) (session_of (table (then i)) x) (path_of (table (then i)) e)
    ((row-is i).1)) in
    λ i. changed_by change e (is i) (life i) (may i)

pub returns-in_err-entry : goal.returns-in_err-entry
returns-in_err-entry g c = record {
  told = finds-stopped _ (Failed c.in_err-entry.field-0.0) c.from_residual.ensures.1 _ _ tt;
  store = reads-stopped _ (Failed c.in_err-entry.field-0.0) c.from_residual.ensures.1 _ _ c.in_err-entry.ensures.store;
}

pub returns-in_err-next : goal.returns-in_err-next
returns-in_err-next g c = record {
  told = finds-stopped _ (Failed c.in_err-next.field-0.0) c.from_residual-in_err-next.ensures.1 _ _ tt;
  store = reads-stopped _ (Failed c.in_err-next.field-0.0) c.from_residual-in_err-next.ensures.1 _ _
      (reads_on _ _ _ _ c.read_entry.ensures.store.only c.in_err-next.ensures.store);
}

pub returns-in_err-allowed : goal.returns-in_err-allowed
returns-in_err-allowed g c = record {
  told = finds-stopped _ (Failed c.in_err-allowed.field-0.0) c.from_residual-in_err-allowed.ensures.1 _ _ tt;
  store = reads-stopped _ (Failed c.in_err-allowed.field-0.0) c.from_residual-in_err-allowed.ensures.1 _ _
      (reads_on _ _ _ _ (reads_then _ _ _ c.read_entry.ensures.store.only c.next_life_cycle.ensures.store.only)
      c.in_err-allowed.ensures.store);
}

pub returns : goal.returns
returns g c = record {
  told = sym (c.changed_by.ensures ∙ change-told (committed c.args.store.now) (committed c.read_entry.new.store)
      (committed c.next_life_cycle.new.store) c.read_entry.ensures.store.only.keeps.committed_words
      c.next_life_cycle.ensures.store.only.keeps.committed_words c.args.current.now c.args.change c.args.number
      c.row_of-command.result c.row_of-command.ensures c.in_ok-entry.entry c.in_ok-entry.ensures.entry c.in_ok-next.next
      c.in_ok-next.ensures.told c.in_ok-allowed.allowed c.in_ok-allowed.ensures.told)
      ∙ c.in_ok-changed_by.was;
  store = reads_on _ _ _ _ (reads_then _ _ _ c.read_entry.ensures.store.only c.next_life_cycle.ensures.store.only)
      c.in_ok-allowed.ensures.store;
}

pub returns-in_err-changed_by : goal.returns-in_err-changed_by
returns-in_err-changed_by g c = record {
  told = finds-stopped _ (Refused c.in_err-changed_by.field-0.0) c.from_residual-in_err-changed_by.ensures.1 _ _
      (sym (c.changed_by.ensures ∙ change-told (committed c.args.store.now) (committed c.read_entry.new.store)
      (committed c.next_life_cycle.new.store) c.read_entry.ensures.store.only.keeps.committed_words
      c.next_life_cycle.ensures.store.only.keeps.committed_words c.args.current.now c.args.change c.args.number
      c.row_of-command.result c.row_of-command.ensures c.in_ok-entry.entry c.in_ok-entry.ensures.entry c.in_ok-next.next
      c.in_ok-next.ensures.told c.in_ok-allowed.allowed c.in_ok-allowed.ensures.told)
      ∙ c.in_err-changed_by.was);
  store = reads-stopped _ (Refused c.in_err-changed_by.field-0.0) c.from_residual-in_err-changed_by.ensures.1 _ _
      (reads_on _ _ _ _ (reads_then _ _ _ c.read_entry.ensures.store.only c.next_life_cycle.ensures.store.only)
      c.in_ok-allowed.ensures.store);
}

pub allows-requires : goal.allows-requires
allows-requires g c = record {
  file = record {
    kept = kept_still _ _ _ (reads_then _ _ _ c.read_entry.ensures.store.only c.next_life_cycle.ensures.store.only)
        c.in_ok-next.ensures.store.ready c.requires.kept;
    used = used_still c.args.store.now c.next_life_cycle.new.store c.args.number
        (reads_then _ _ _ c.read_entry.ensures.store.only c.next_life_cycle.ensures.store.only) c.requires.used;
    entry = entry_still c.args.store.now c.next_life_cycle.new.store c.args.number c.in_ok-entry.entry
        (reads_then _ _ _ c.read_entry.ensures.store.only c.next_life_cycle.ensures.store.only)
        c.in_ok-entry.ensures.entry;
  };
}

pub next_life_cycle-requires : goal.next_life_cycle-requires
next_life_cycle-requires g c = record {
  entry = record {
    file = file_kept _ _ _ (kept_still _ _ _ c.read_entry.ensures.store.only c.in_ok-entry.ensures.store.ready
        c.requires.kept)
        (used_still c.args.store.now c.read_entry.new.store c.args.number c.read_entry.ensures.store.only
        c.requires.used);
    entry = entry_still c.args.store.now c.read_entry.new.store c.args.number c.in_ok-entry.entry
        c.read_entry.ensures.store.only c.in_ok-entry.ensures.entry;
  };
}

pub read_entry-requires : goal.read_entry-requires
read_entry-requires g c = record {
  ready = c.requires.kept.ready;
  within = used_small (committed c.args.store.now) c.args.number c.requires.used;
}
