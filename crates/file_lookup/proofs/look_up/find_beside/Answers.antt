use Rattle.undo_journal.specs.laws.Exits.{none_ok}
use Rattle.std.specs.Bool.{then_some}
use Rattle.std.proofs.Common.{rules, ◌≡◌, ◌==◌, ◌∙◌, ℕ, Bool, true, false, if◌then◌else◌, None, Some}
use Rattle.std.proofs.Common.{ap, refl, sym, subst}
use Rattle.std.proofs.Common.{true≢false}
use Rattle.undo_journal.specs.Memory.{committed}
use Rattle.file_tree.specs.Table.{table}
use Rattle.file_tree.specs.Indexes.{TellsChild}
use Rattle.file_tree.specs.laws.Kinds.{kind_test}
use Rattle.file_tree.specs.laws.Nodes.{used_small}
use Rattle.file_tree.specs.laws.LookUps.{beside_there}
use Rattle.undo_journal.specs.laws.Told.{reads_none, reads_handed}
use Rattle.file_lookup.proofs.look_up.find_beside.Goals as goal

some_if : (b : Bool) (e : ℕ) → then_some b e ≡ (if b then Some e else None)
some_if true e = refl
some_if false e = refl

pub returns-then-is_master : goal.returns-then-is_master
returns-then-is_master g c = record {
  told = λ some. absurd (some (c.is_master.ensures.0 c.if-is_master.true));
  store = reads_none _ c.requires.df.file.ready;
}

pub returns-in_default : goal.returns-in_default
returns-in_default g c = record {
  told = search rules;
  store = reads_none _ c.requires.df.file.ready;
}

pub returns-in_err-other : goal.returns-in_err-other
returns-in_err-other g c = record {
  told = none_ok _ _ _ c.from_residual.ensures.1;
  store = reads_handed _ _ _ _ c.from_residual.ensures.1 c.in_err-other.ensures.store;
}

pub returns : goal.returns
returns g c = record {
  told = let m = committed c.args.store.now in
      let of_parent : ℕ → Type 0 = λ p. TellsChild (table m) p c.args.identifier (Some c.in-Some.beside) in
      let told = subst of_parent (c.parent.ensures m c.requires.df.file.tree.entries c.requires.df.file.used
      c.requires.df.index)
      (c.in-Some.ensures m c.requires.df.index) in
      beside_there (table m) c.args.df c.args.identifier c.in-Some.beside c.in_ok-other.other c.then_some.result
      c.requires.df.file.tree.entries.identifiers
      (λ is. true≢false (sym (c.is_master.ensures.1 is) ∙ c.if-is_master.false)) told c.in_ok-other.ensures.entry
      (c.then_some.ensures ∙ ap (λ (found : Bool). then_some found c.in-Some.beside)
      (kind_test _ _ _ c.has_kind.ensures)
      ∙ some_if (c.in_ok-other.other.kind == 1) c.in-Some.beside);
  store = c.in_ok-other.ensures.store;
}

pub read_entry-requires : goal.read_entry-requires
read_entry-requires g c = record {
  ready = search rules;
  within = let m = committed c.args.store.now in
      used_small m c.in-Some.beside (c.in-Some.ensures m c.requires.df.index).0.used;
}
