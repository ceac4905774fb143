use Rattle.std.proofs.Common.{◌≡◌, ℕ, Option, option_map, sym, ◌∙◌, ap}
use Rattle.undo_journal.specs.Memory.{committed}
use Rattle.undo_journal.specs.laws.Told.{reads_none}
use Rattle.card_model.specs.declared.requests.Subject.{Subject}
use Rattle.card_model.specs.FileTrees.{Tree}
use Rattle.card_model.specs.Selectors.{reached}
use Rattle.file_tree.specs.Table.{table, path_of}
use Rattle.file_tree.specs.Trees.{tree_of}
use Rattle.card_model.specs.Reaching.{subject_or}
use Rattle.command_base.specs.Standing.{card_of}
use Rattle.command_base.specs.Working.{session_of}
use Rattle.std.proofs.lemmas.Result.{IfOk-weaker}
use Rattle.command_base.specs.laws.Entries.{card-tree}
use Rattle.command_base.specs.laws.Readings.{df_kept}
use Rattle.file_commands.proofs.files.find_subject.Goals as goal

pub returns-in-Current-clause-found : goal.returns-in-Current-clause-found
returns-in-Current-clause-found g c =
    let m = committed c.args.store.now in
    let own = option_map (path_of (table m)) c.args.own in
    record {
      told = ap (λ (subject : Subject). subject_or own (card_of m).tree (session_of
          (table m) c.args.current.now) subject)
          c.in-Current.is;
      store = reads_none _ c.requires.card.kept.ready;
    }

pub returns-in-Identifier-clause-found : goal.returns-in-Identifier-clause-found
returns-in-Identifier-clause-found g c =
    let m = committed c.args.store.now in
    let t = table m in
    let df = path_of t c.args.current.now.df in
    let id = c.in-Identifier.identifier in
    let own = option_map (path_of t) c.args.own in
    record {
      told = IfOk-weaker c.select.result (λ (found : Option ℕ). option_map (path_of t) found ≡ reached
          (tree_of m) df id) _
          (λ found is. ap (λ (subject : Subject). subject_or own (card_of m).tree
          (session_of t c.args.current.now) subject)
          c.in-Identifier.is ∙ ap (λ (tree : Tree). reached tree df id) (card-tree m) ∙ sym is)
          c.select.ensures.found;
      store = c.select.ensures.store;
    }

pub select-requires : goal.select-requires
select-requires g c = record {
  df = record {
    file = df_kept _ _ c.requires.card.kept;
    index = c.requires.card.index;
  };
}
