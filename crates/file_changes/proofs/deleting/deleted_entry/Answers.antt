use Rattle.std.proofs.Common.{rules, ◌≡◌, ◌==◌, ◌&&◌, ℕ, Bool, true, false, not, if◌then◌else◌, List}
use Rattle.std.proofs.Common.{Option, None, Some}
use Rattle.std.proofs.Common.{slice_index, inl, inr, refl, sym, ◌∙◌, ap}
use Rattle.std.proofs.lemmas.Bool.{eq-eqb}
use Rattle.std.proofs.lemmas.Bool.Decides.{eqb_tells}
use Rattle.undo_journal.specs.Memory.{committed}
use Rattle.undo_journal.specs.laws.Exits.{none_ok}
use Rattle.undo_journal.specs.laws.Told.{reads_handed, reads_none}
use Rattle.file_tree.specs.declared.entry.Entry.{Entry}
use Rattle.file_tree.specs.Subtrees.{leads_up}
use Rattle.file_tree.specs.Table.{table, entry_in}
use Rattle.file_tree.specs.laws.Kinds.{kind_of_unused}
use Rattle.file_changes.proofs.deleting.deleted_entry.Goals as goal

-- an entry is given by whether it is used, and whether it leads up
abbrev by : List Entry → ℕ → Bool → Bool → Option Entry
by t e free leads = if not free && leads then Some (entry_in t e) else None

none_by : (t : List Entry) (e : ℕ) (free : Bool) → by t e free false ≡ None
none_by t e true = refl
none_by t e false = refl

pub returns-then-not-is_within : goal.returns-then-not-is_within
returns-then-not-is_within g c = record {
  told = let t = table (committed c.args.store.now) in
      let free = (entry_in t c.args.e).kind == 0 in
      let within : c.is_within.result ≡ leads_up t 7 c.args.top c.args.e =
      c.is_within.ensures (λ f. (entry_in t f).parent) (λ f told small answers.
      let read : told ≡ slice_index c.args.parents.now f = search rules in read ∙ c.requires.parents f small) in
      sym (ap (by t c.args.e free) (sym within ∙ c.if-not-is_within.true) ∙ none_by t c.args.e free);
  store = reads_none _ c.requires.entry.ready;
}

pub returns-in_err-entry : goal.returns-in_err-entry
returns-in_err-entry g c = record {
  told = none_ok _ _ _ c.from_residual.ensures.1;
  store = reads_handed _ _ _ _ c.from_residual.ensures.1 c.in_err-entry.ensures.store;
}

pub returns-then-not-is_used : goal.returns-then-not-is_used
returns-then-not-is_used g c = record {
  told = let t = table (committed c.args.store.now) in
      let none : (entry_in t c.args.e).kind ≡ 0 = sym (ap (λ (x : Entry). x.kind) c.in_ok-entry.ensures.entry)
      ∙ kind_of_unused _ _ c.is_used.ensures c.if-not-is_used.true in
      sym (ap (λ (b : Bool). by t c.args.e b (leads_up t 7 c.args.top c.args.e)) (eq-eqb _ _ none));
  store = c.in_ok-entry.ensures.store;
}

pub returns : goal.returns
returns g c = record {
  told = let t = table (committed c.args.store.now) in
      let is = c.in_ok-entry.ensures.entry in
      let within : c.is_within.result ≡ leads_up t 7 c.args.top c.args.e =
      c.is_within.ensures (λ f. (entry_in t f).parent) (λ f told small answers.
      let read : told ≡ slice_index c.args.parents.now f = search rules in read ∙ c.requires.parents f small) in
      let used : ((entry_in t c.args.e).kind == 0) ≡ false = elim (eqb_tells (entry_in t c.args.e).kind 0) [
        | inl same ↦ absurd (c.is_used.ensures.0 c.if-not-is_used.false (ap (λ (x : Entry). x.kind) is ∙ same.1))
        | inr other ↦ other.0
      ] in
      ap (λ (x : Entry). Some x) is
      ∙ sym (ap (by t c.args.e ((entry_in t c.args.e).kind == 0)) (sym within ∙ c.if-not-is_within.false)
      ∙ ap (λ (b : Bool). by t c.args.e b true) used);
  store = c.in_ok-entry.ensures.store;
}
