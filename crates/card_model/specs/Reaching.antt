-- The file that a command names (ISO/IEC 7816-4, 7.3.1 and 11.2.2).
use Rattle.std.specs.Prelude.{[], ◌∷◌, ◌++◌, Option, Some, option_map, unwrap_or}
use Rattle.card_model.specs.Requests.{Selection, master_file, identifier, parent, name, path_from_master}
use Rattle.card_model.specs.Requests.{path_from_current}
use Rattle.card_model.specs.declared.requests.Target.{Target}
use Rattle.card_model.specs.declared.requests.Target.TheVariants.{Current, Short}
use Rattle.card_model.specs.declared.requests.Subject.{Subject}
use Rattle.card_model.specs.declared.requests.Subject.TheVariants as subject
use Rattle.card_model.specs.FileTrees.{Path, Tree}
use Rattle.card_model.specs.Selectors.{Selector, reached, selected, child_by_short}
use Rattle.card_model.specs.Selectors as selector
use Rattle.card_model.specs.Sessions.{Session}

-- The selection of SELECT as a selector in the tree of files.
abbrev pub named : Selection → Selector
named master_file = selector.the_master
named (identifier id) = selector.by_identifier id
named parent = selector.the_parent
named (name bytes) = selector.by_name bytes
named (path_from_master identifiers) = selector.path_from_master identifiers
named (path_from_current identifiers) = selector.path_from_current identifiers

-- The file that SELECT selects from a current DF.
abbrev pub selected_from : Tree → Path → Selection → Option Path
selected_from tree df selection = selected tree df (named selection)

-- The path of the current EF, if there is one.
abbrev pub current_elementary : Session → Option Path
current_elementary s = option_map (λ id. s.current_df ++ id ∷ []) s.current_ef

-- The EF that a command on contents names: the current one, or a child of the current DF by its short identifier.
abbrev pub target_of : Tree → Session → Target → Option Path
target_of tree s Current = current_elementary s
target_of tree s (Short n) = child_by_short tree s.current_df n

-- The file that a command on files works on: `own` if it names none, or the file that SELECT selects by the
-- identifier.
abbrev pub subject_or : Option Path → Tree → Session → Subject → Option Path
subject_or own tree s subject.Current = own
subject_or own tree s (subject.Identifier id) = reached tree s.current_df id

-- Without a name it is the current EF, or the current DF if there is no current EF.
abbrev pub subject_of : Tree → Session → Subject → Option Path
subject_of tree s = subject_or (Some (unwrap_or (current_elementary s) s.current_df)) tree s
