use Rattle.file_tree.specs.Formats.{block_count}
use Rattle.std.proofs.Common.{◌≡◌, Option, None, ◌∙◌, ap}
use Rattle.undo_journal.specs.Memory.{committed}
use Rattle.card_model.specs.declared.status.Sw.{Sw}
use Rattle.card_model.specs.declared.fcp.Fcp.{Fcp}
use Rattle.file_changes.specs.declared.placing.NewPlace.{NewPlace}
use Rattle.file_changes.specs.declared.placing.NewPlace.TheVariants.{At, Refused}
use Rattle.file_changes.specs.CreationRefusals.{taken_refusal, place_refusal, first_reason}
use Rattle.card_model.specs.Spaces.{free_space}
use Rattle.file_tree.specs.Table.{path_of}
use Rattle.file_tree.specs.Trees.{tree_of}
use Rattle.std.proofs.lemmas.Result.{IfOk-weaker}
use Rattle.std.proofs.Common.{List, ℕ, sym, subst}
use Rattle.file_tree.specs.Table.{table}
use Rattle.undo_journal.specs.laws.Exits.{none_ok}
use Rattle.undo_journal.specs.laws.Told.{reads_on, reads_handed}
use Rattle.file_changes.specs.CreationParts.{FindsPlace, TellsPlace}
use Rattle.file_lookup.specs.laws.StoredFiles.{file_still}
use Rattle.file_changes.proofs.creating.find_place.Goals as goal

-- where no name is taken, what was told of the place tells it all
place_told : (m now : List ℕ) (df : ℕ) (fcp : Fcp) (place : NewPlace) → now ≡ m
    → taken_refusal (tree_of m) (path_of (table m) df) fcp ≡ None → TellsPlace now df fcp.kind place
    → FindsPlace m df fcp place
place_told m now df fcp (Refused status) same none told =
    ap (λ (o : Option Sw). first_reason o
    (place_refusal (block_count m) (tree_of m) (path_of (table m) df) fcp.kind)) none
    ∙ subst (λ (l : List ℕ). TellsPlace l df fcp.kind (Refused status)) same told
place_told m now df fcp (At e) same none told =
    let there = subst (λ (l : List ℕ). TellsPlace l df fcp.kind (At e)) same told in (none, there.0, there.1)

pub taken-requires-clause-fcp : goal.taken-requires-clause-fcp
taken-requires-clause-fcp g c = c.requires.fcp

pub returns-in_err-status : goal.returns-in_err-status
returns-in_err-status g c = record {
  told = none_ok _ _ _ c.from_residual.ensures.1;
  store = reads_handed _ _ _ _ c.from_residual.ensures.1 c.in_err-status.ensures.store;
}

pub returns-in-Some : goal.returns-in-Some
returns-in-Some g c = record {
  told = let m = committed c.args.store.now in
      let path = path_of (table m) c.args.df in
      ap (λ (o : Option Sw). first_reason o (place_refusal (block_count m) (tree_of m) path c.args.fcp.now.kind))
      (sym c.in_ok-status.ensures.told ∙ c.in-Some.is);
  store = c.in_ok-status.ensures.store;
}

pub returns-in-None : goal.returns-in-None
returns-in-None g c = record {
  told = IfOk-weaker c.place_for.result _ _
      (λ place told. place_told (committed c.args.store.now)
      (committed c.taken.new.store) c.args.df c.args.fcp.now place
      c.taken.ensures.store.only.keeps.committed_words (sym c.in_ok-status.ensures.told ∙ c.in-None.is) told)
      c.place_for.ensures.told;
  store = reads_on _ _ _ _ c.taken.ensures.store.only c.place_for.ensures.store;
}

pub place_for-requires : goal.place_for-requires
place_for-requires g c = record {
  df = file_still _ _ _ c.taken.ensures.store.only c.in_ok-status.ensures.store.ready c.requires.df;
  free = c.requires.space.free ∙ ap (λ (l : List ℕ). free_space (block_count l) (tree_of l))
      (sym c.taken.ensures.store.only.keeps.committed_words);
}

pub taken-requires-clause-df : goal.taken-requires-clause-df
taken-requires-clause-df g c = record {
  file = c.requires.df;
  index = c.requires.space.index;
}
