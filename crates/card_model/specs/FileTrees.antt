-- The files of a card: a tree of DFs and EFs (ISO/IEC 7816-4, clause 7; ETSI TS 102 221, clause 8).
use Rattle.std.specs.Prelude.{◌+◌, ◌-◌, ℕ, List, length, Bool, true, false, IsTrue, ◌&&◌, [], ◌∷◌, take, slice_index}
use Rattle.std.specs.Prelude.{Option, None, unwrap_or, is_some}
use Rattle.std.specs.List.{splice}
use Rattle.std.specs.Ordering.{nat_cmp}
use Rattle.std.specs.Cmp.Lexicographic.{slice_cmp}
use Rattle.std.specs.FinMap.{FinMap, get}
use Rattle.card_model.specs.declared.life_cycle.LifeCycle.{LifeCycle}
use Rattle.card_model.specs.declared.life_cycle.LifeCycle.TheVariants.{Activated}

-- Replacing some of a list's bytes.

-- The bytes with new ones written over them from an offset on.
abbrev pub overwrite : List ℕ → ℕ → List ℕ → List ℕ
overwrite bytes offset new = splice bytes offset (offset + length new) new

-- The content of an EF. A transparent one is a list of bytes. A linear one has a record length, a capacity in
-- records, and its records in the order of their numbers. A cyclic one has the same, with the newest record first as
-- record 1.
pub data Body : Type 0 where
  transparent : List ℕ → Body
  linear : ℕ → ℕ → List (List ℕ) → Body
  cyclic : ℕ → ℕ → List (List ℕ) → Body

-- A DF has an optional name, an EF an optional short identifier and its content.
pub data Kind : Type 0 where
  dedicated : Option (List ℕ) → Kind
  elementary : Option ℕ → Body → Kind

-- A file: life cycle state, access rule (as bytes) and kind.
pub record File : Type 0 where
  pub life : LifeCycle
  pub rule : List ℕ
  pub kind : Kind

-- The path of a file: the identifiers from below the MF down to the file. The MF's path is empty.
abbrev pub Path : Type 0
Path = List ℕ

-- The files of a card by path.
abbrev pub Tree : Type 0
Tree = FinMap (slice_cmp nat_cmp) File

-- The identifier of the MF.
abbrev pub master_file : ℕ
master_file = 0x3F00

-- The path one level up. The MF has no parent, so its own path is the result.
abbrev pub parent : Path → Path
parent path = take (length path - 1) path

-- The identifier of the file at a path.
abbrev pub identifier : Path → ℕ
identifier path = slice_index (master_file ∷ path) (length path)

-- A placeholder for a file that doesn't exist; `file_at` needs a value there.
abbrev pub no_file : File
no_file = record { life = Activated; rule = []; kind = dedicated None }

-- True if there is a file at the path.
abbrev pub exists : Tree → Path → Bool
exists tree path = is_some (get tree path)

-- The file at a path, `no_file` if there is none. Commands refuse such a path before they use it.
abbrev pub file_at : Tree → Path → File
file_at tree path = unwrap_or (get tree path) no_file

-- True for a DF.
abbrev pub is_dedicated : Kind → Bool
is_dedicated (dedicated name) = true
is_dedicated (elementary short body) = false

-- True for a transparent EF.
abbrev pub is_transparent : Kind → Bool
is_transparent (dedicated name) = false
is_transparent (elementary short (transparent bytes)) = true
is_transparent (elementary short (linear record_length capacity records)) = false
is_transparent (elementary short (cyclic record_length capacity records)) = false

-- The bytes of a transparent EF, none for any other file.
abbrev pub file_bytes : Kind → List ℕ
file_bytes (dedicated name) = []
file_bytes (elementary short (transparent bytes)) = bytes
file_bytes (elementary short (linear record_length capacity records)) = []
file_bytes (elementary short (cyclic record_length capacity records)) = []

-- A transparent EF with these bytes. Any other file is unchanged.
abbrev pub with_bytes : Kind → List ℕ → Kind
with_bytes (dedicated name) new = dedicated name
with_bytes (elementary short (transparent bytes)) new = elementary short (transparent new)
with_bytes (elementary short (linear record_length capacity records)) new =
    elementary short (linear record_length capacity records)
with_bytes (elementary short (cyclic record_length capacity records)) new =
    elementary short (cyclic record_length capacity records)

-- The short identifier of an EF, if it has one.
abbrev pub short_of : Kind → Option ℕ
short_of (dedicated name) = None
short_of (elementary short body) = short

-- A valid tree: the MF exists, and the parent of each file exists and is a DF. (The parent of the MF is the MF.)
pub record IsTree (tree : Tree) : Type 0 where
  pub master : IsTrue (exists tree [])
  pub parents : (path : Path) → IsTrue (exists tree path)
      → IsTrue (exists tree (parent path) && is_dedicated (file_at tree (parent path)).kind)
