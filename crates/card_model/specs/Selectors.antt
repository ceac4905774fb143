-- The file that a name, a path, an identifier or a short identifier selects from the current DF (ISO/IEC 7816-4,
-- 7.3.1 and 11.2.2).
use Rattle.std.specs.Prelude.{ℕ, ◌≡◌, ◌⊎◌, ◌==◌, Bool, true, false, not, ◌&&◌, List, [], ◌∷◌, ◌++◌, length, map, find}
use Rattle.std.specs.Prelude.{Option, None, Some, option_map}
use Rattle.std.specs.Option.{option_map_or}
use Rattle.std.specs.Ordering.{nat_cmp, eq_by_cmp}
use Rattle.std.specs.Cmp.Lexicographic.{slice_cmp}
use Rattle.std.specs.FinMap.{entries}
use Rattle.card_model.specs.FileTrees.{Path, Tree, File, Kind, dedicated, elementary, master_file, parent, identifier}
use Rattle.card_model.specs.FileTrees.{exists, file_at, is_dedicated, short_of}

-- A path that a selector may mean, with the condition under which it does.
pub record Candidate : Type 0 where
  pub leads : Bool
  pub path : Path

-- The path of the first candidate whose condition is true.
abbrev pub first_reached : List Candidate → Option Path
first_reached candidates = option_map (λ candidate. candidate.path) (find (λ candidate. candidate.leads) candidates)

-- The candidates for an identifier, in order: a child of the current DF, a DF beside it, its parent, itself, the MF.
abbrev pub candidates : Tree → Path → ℕ → List Candidate
candidates tree df id =
    let child = df ++ id ∷ [] in
    let beside = parent df ++ id ∷ [] in
    let is_master = length df == 0 in
    let is_beside = not is_master && (exists tree beside && is_dedicated (file_at tree beside).kind) in
    record { leads = exists tree child; path = child }
    ∷ record { leads = is_beside; path = beside }
    ∷ record { leads = not is_master && (identifier (parent df) == id); path = parent df }
    ∷ record { leads = identifier df == id; path = df }
    ∷ record { leads = master_file == id; path = [] }
    ∷ []

-- The file that an identifier selects from a DF.
abbrev pub reached : Tree → Path → ℕ → Option Path
reached tree df id = first_reached (candidates tree df id)

-- True for a DF of this name.
abbrev pub is_named : List ℕ → Kind → Bool
is_named name (dedicated None) = false
is_named name (dedicated (Some other)) = eq_by_cmp (slice_cmp nat_cmp) other name
is_named name (elementary short body) = false

-- The ways to select a file: as the MF, by identifier, as the parent of the current DF, by DF name, by path. A path
-- begins below the MF or below the current DF, and doesn't contain the identifier of that file.
pub data Selector : Type 0 where
  the_master : Selector
  by_identifier : ℕ → Selector
  the_parent : Selector
  by_name : List ℕ → Selector
  path_from_master : Path → Selector
  path_from_current : Path → Selector

-- The candidates for a selector. The MF has no parent. A name must match in full and is looked up in all files of the
-- card. Along a path each file is a child of the one before.
abbrev pub candidates_of : Tree → Path → Selector → List Candidate
candidates_of tree df the_master = record { leads = true; path = [] } ∷ []
candidates_of tree df (by_identifier id) = candidates tree df id
candidates_of tree df the_parent = record { leads = not (length df == 0); path = parent df } ∷ []
candidates_of tree df (by_name name) =
    map (λ node. record { leads = is_named name node.1.kind; path = node.0 }) (entries tree)
candidates_of tree df (path_from_master path) = record { leads = exists tree path; path = path } ∷ []
candidates_of tree df (path_from_current path) = record { leads = exists tree (df ++ path); path = df ++ path } ∷ []

-- The file that SELECT selects from a DF: the first candidate whose condition is true.
abbrev pub selected : Tree → Path → Selector → Option Path
selected tree df selector = first_reached (candidates_of tree df selector)

-- Identifiers that no file below the MF may have: the MF's own and two reserved ones (ISO/IEC 7816-4, 7.4.1).
abbrev pub IsReserved : ℕ → Type 0
IsReserved id = (id ≡ master_file) ⊎ (id ≡ 0x3FFF) ⊎ (id ≡ 0xFFFF)

-- True if a path is that of a child of the DF.
abbrev pub is_child : Path → Path → Bool
is_child df path = not (length path == 0) && eq_by_cmp (slice_cmp nat_cmp) (parent path) df

-- True if the file has this short identifier.
abbrev pub has_short : File → ℕ → Bool
has_short file n = option_map_or (λ short. short == n) (short_of file.kind) false

-- The child of a DF with this short identifier.
abbrev pub child_by_short : Tree → Path → ℕ → Option Path
child_by_short tree df n =
    option_map (λ node. node.0) (find (λ node. is_child df node.0 && has_short node.1 n) (entries tree))
