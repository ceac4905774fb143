-- The memory and the session of a working card: their values in the model, and the files that can be current.
use Rattle.std.specs.Prelude.{◌≡◌, ◌≤◌, ℕ, Bool, not, List, length, map, option_map, IfSome}
use Rattle.undo_journal.specs.Memory.{Memory, committed, IsReady}
use Rattle.file_tree.specs.declared.entry.Entry.{Entry}
use Rattle.file_tree.specs.declared.kinds.EntryKind.TheVariants.{Dedicated, Transparent}
use Rattle.file_tree.specs.Kinds.{kind_byte}
use Rattle.card_model.specs.declared.space.FreeSpace.{FreeSpace}
use Rattle.file_tree.specs.Table.{table, entry_in, path_of, IsChild, IsUsed}
use Rattle.file_tree.specs.Indexes.{IsIndex}
use Rattle.file_tree.specs.declared.index.Index.{Index}
use Rattle.command_base.specs.declared.current.Current.{Current}
use Rattle.command_base.specs.declared.target_file.TargetFile.{TargetFile}
use Rattle.card_model.specs.Cards.{Card, card_space}
use Rattle.card_model.specs.Sessions.{Session, marked}
use Rattle.pin_store.specs.Pages.{pins_of}
use Rattle.command_base.specs.Standing.{card_of, IsCard}

-- an elementary file that is a child of the dedicated file
pub record IsElementary (t : List Entry) (df e : ℕ) : Type 0 where
  pub child : IsChild t df e
  pub kind : kind_byte Transparent ≤ (entry_in t e).kind

-- The current files are a dedicated file and, if present, an elementary file in it. The set of verified PINs has eight
-- flags.
pub record IsCurrent (t : List Entry) (x : Current) : Type 0 where
  pub df : (entry_in t x.df).kind ≡ kind_byte Dedicated
  pub ef : IfSome x.ef (IsElementary t x.df)
  pub marks : length x.verified ≡ 8

-- the disabled PINs of a memory of format 2, as a flag for each of PIN 1 to 8
abbrev pub disabled_in : List ℕ → List Bool
disabled_in m = map (λ pin. not pin.enabled) (pins_of m)

-- the session of the model for these entry numbers
abbrev pub session_of : List Entry → Current → Session
session_of t x = record {
  current_df = path_of t x.df;
  current_ef = option_map (λ e. (entry_in t e).identifier) x.ef;
  pointer = x.pointer;
  verified = marked x.verified;
}

-- the card of a store, its session, and its free space
abbrev pub card_in : Memory → Card
card_in m = card_of (committed m)

abbrev pub table_in : Memory → List Entry
table_in m = table (committed m)

abbrev pub session_in : Memory → Current → Session
session_in m x = session_of (table_in m) x

abbrev pub space_in : Memory → FreeSpace
space_in m = card_space (card_in m)

-- The invariant of a working card: a store that is ready, a valid card image, and current files that exist.
pub record IsKept (m : Memory) (x : Current) : Type 0 where
  pub ready : IsReady m
  pub card : IsCard (committed m)
  pub current : IsCurrent (table_in m) x

-- A working card, and the index of its files.
pub record IsIndexed (m : Memory) (x : Current) (files : Index) : Type 0 where
  pub kept : IsKept m x
  pub index : IsIndex (table_in m) files

-- A working card, its free space, and the index of its files.
pub record IsWorking (m : Memory) (x : Current) (free : FreeSpace) (files : Index) : Type 0 where
  pub kept : IsKept m x
  pub space : free ≡ space_in m
  pub index : IsIndex (table_in m) files

-- A file of a working card, with its entry as stored.
pub record HasTargetFile (m : Memory) (x : Current) (file : TargetFile) : Type 0 where
  pub kept : IsKept m x
  pub used : IsUsed (table_in m) file.number
  pub entry : file.entry ≡ entry_in (table_in m) file.number
