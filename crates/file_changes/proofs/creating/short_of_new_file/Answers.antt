use Rattle.std.proofs.Common.{◌≡◌, ◌≢◌, ℕ, List, Option, refl, sym, ◌∙◌, ap, subst, arith}
use Rattle.undo_journal.specs.Memory.{committed}
use Rattle.card_model.specs.declared.fcp.Fcp.{Fcp}
use Rattle.card_model.specs.declared.fcp.FileKind.{FileKind}
use Rattle.card_model.specs.declared.fcp.FileKind.TheVariants as kinds
use Rattle.card_model.specs.declared.fcp.ShortIdentifier.{ShortIdentifier}
use Rattle.card_model.specs.declared.fcp.ShortIdentifier.TheVariants.{Absent}
use Rattle.card_model.specs.FileControl.{IsShort, short_of_kind}
use Rattle.card_model.specs.FileTrees.{Path, Tree}
use Rattle.card_model.specs.NewFiles.{short_for, short_of_new}
use Rattle.file_tree.specs.Table.{table, path_of}
use Rattle.file_tree.specs.Trees.{tree_of}
use Rattle.file_changes.specs.CreationParts.{short_option}
use Rattle.file_changes.specs.laws.Allowed.{creatable_short}
use Rattle.file_changes.specs.laws.NewEntries.{some_option}
use Rattle.undo_journal.specs.laws.Told.{reads_none}
use Rattle.std.proofs.lemmas.Result.{IfOk-weaker}
use Rattle.file_changes.proofs.creating.short_of_new_file.Goals as goal

-- a template of this kind
abbrev with_kind : Fcp → FileKind → Fcp
with_kind fcp kind = record { identifier = fcp.identifier; life_cycle = fcp.life_cycle; rule = fcp.rule; kind = kind }

-- of a file that is no dedicated one the template says it
as_told : (tree : Tree) (df : Path) (fcp : Fcp) (kind : FileKind) → ((name : Option (List ℕ)) → kind ≢ kinds.Df name)
    → short_for tree df fcp.identifier (short_of_kind kind) ≡ short_of_new tree df (with_kind fcp kind)
as_told tree df fcp (kinds.Df name) other = absurd (other name refl)
as_told tree df fcp (kinds.Transparent short size) other = refl
as_told tree df fcp (kinds.Linear short records) other = refl
as_told tree df fcp (kinds.Cyclic short records) other = refl

pub returns-in-Df : goal.returns-in-Df
returns-in-Df g c = record {
  told = let m = committed c.args.store.now in
      ap (λ (kind : FileKind). short_of_new (tree_of m) (path_of (table m) c.args.df) (with_kind c.args.fcp.now kind))
      (sym c.in-Df.is);
  store = reads_none _ c.requires.df.ready;
}

pub returns-in-Absent : goal.returns-in-Absent
returns-in-Absent g c = record {
  told = let m = committed c.args.store.now in
      let path = path_of (table m) c.args.df in
      let in_tree = λ (s : ShortIdentifier). short_for (tree_of m) path c.args.fcp.now.identifier s in
      IfOk-weaker c.short_by_default.result (λ (n : ℕ). short_option n ≡ in_tree Absent)
      (λ (n : ℕ). short_option n ≡ short_of_new (tree_of m) path c.args.fcp.now)
      (λ n is. is ∙ ap in_tree (sym c.in-Absent.is ∙ c.short.ensures)
      ∙ as_told (tree_of m) path c.args.fcp.now c.args.fcp.now.kind c.in_default.not-Df)
      c.short_by_default.ensures.told;
  store = c.short_by_default.ensures.store;
}

pub returns-in-Empty : goal.returns-in-Empty
returns-in-Empty g c = record {
  told = let m = committed c.args.store.now in
      let path = path_of (table m) c.args.df in
      ap (λ (s : ShortIdentifier). short_for (tree_of m) path c.args.fcp.now.identifier s)
      (sym c.in-Empty.is ∙ c.short.ensures)
      ∙ as_told (tree_of m) path c.args.fcp.now c.args.fcp.now.kind c.in_default.not-Df;
  store = reads_none _ c.requires.df.ready;
}

pub returns-in-Given : goal.returns-in-Given
returns-in-Given g c = record {
  told = let m = committed c.args.store.now in
      let path = path_of (table m) c.args.df in
      let range = subst (λ (s : ShortIdentifier). IsShort s) (sym c.short.ensures ∙ c.in-Given.is)
      (creatable_short c.args.fcp.now.kind c.requires.fcp.ranges.kind) in
      let some : c.in-Given.number ≢ 0 = λ z. omega (arith, z, range.0) in
      some_option c.in-Given.number some
      ∙ ap (λ (s : ShortIdentifier). short_for (tree_of m) path c.args.fcp.now.identifier s)
      (sym c.in-Given.is ∙ c.short.ensures)
      ∙ as_told (tree_of m) path c.args.fcp.now c.args.fcp.now.kind c.in_default.not-Df;
  store = reads_none _ c.requires.df.ready;
}

pub short_by_default-requires : goal.short_by_default-requires
short_by_default-requires g c = record { df = c.requires.df }
