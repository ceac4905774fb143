-- How the code checks the file that a command names. No clause of the card's calls names these definitions.
use Rattle.std.specs.Prelude.{◌≡◌, ◌==◌, ℕ, Bool, not, if◌then◌else◌, ◌||◌, IsTrue, List, Option, Some, None}
use Rattle.card_model.specs.declared.requests.Target.{Target}
use Rattle.card_model.specs.declared.status.Sw.{Sw}
use Rattle.card_model.specs.declared.status.TheConstants.Sw.{ACCESS_DENIED, CONDITIONS_NOT_SATISFIED, WRONG_STRUCTURE}
use Rattle.file_tree.specs.declared.entry.Entry.{Entry}
use Rattle.file_tree.specs.declared.kinds.EntryKind.TheVariants as kinds
use Rattle.file_tree.specs.Kinds.{kind_byte}
use Rattle.card_model.specs.RecordCommands.{has_records, is_cyclic, is_linear}
use Rattle.file_tree.specs.Table.{table, entry_in, path_of}
use Rattle.command_base.specs.declared.current.Current.{Current}
use Rattle.command_base.specs.declared.target_file.Need.{Need}
use Rattle.command_base.specs.declared.target_file.AcceptedStructure.{AcceptedStructure}
use Rattle.command_base.specs.declared.target_file.AcceptedStructure.TheVariants.{Bytes, Records, Linear, Cyclic}
use Rattle.card_model.specs.Cards.{Kind, is_transparent}
use Rattle.card_model.specs.Guards.{file_refusals}
use Rattle.card_model.specs.Behaviours.{refused_by}
use Rattle.card_model.specs.Reaching.{target_of}
use Rattle.command_base.specs.Standing.{card_of}
use Rattle.undo_journal.specs.Memory.{Memory}
use Rattle.card_model.specs.Requests.{IsTarget}
use Rattle.command_base.specs.Working.{IsElementary, IsKept, session_of}

-- true if a file of this kind has a structure that the command accepts
abbrev pub fits : AcceptedStructure → Kind → Bool
fits Bytes kind = is_transparent kind
fits Records kind = has_records kind
fits Linear kind = is_linear kind
fits Cyclic kind = is_cyclic kind

-- the same, for the kind of an entry
abbrev pub fits_kind : AcceptedStructure → ℕ → Bool
fits_kind Bytes kind = kind == kind_byte kinds.Transparent
fits_kind Records kind = kind == kind_byte kinds.Linear || kind == kind_byte kinds.Cyclic
fits_kind Linear kind = kind == kind_byte kinds.Linear
fits_kind Cyclic kind = kind == kind_byte kinds.Cyclic

-- the refusal of a command by its file, from three findings: it is barred, its structure fits, its rule permits
abbrev pub file_refusal : Bool → Bool → Bool → Option Sw
file_refusal barred fit permitted =
    if barred then Some CONDITIONS_NOT_SATISFIED else
    if not fit then Some WRONG_STRUCTURE else
    if not permitted then Some ACCESS_DENIED else None

-- The entry of a file that a command on contents names, and that doesn't refuse the command.
pub record IsNamed (m : List ℕ) (x : Current) (target : Target) (need : Need) (e : ℕ) (entry : Entry) : Type 0 where
  pub entry_is : entry ≡ entry_in (table m) e
  pub place : target_of (card_of m).tree (session_of (table m) x) target ≡ Some (path_of (table m) e)
  pub file : IsElementary (table m) x.df e
  pub unrefused : refused_by (file_refusals (card_of m) (session_of (table m) x) target (fits need.structure) need.bit)
      ≡ None
  pub structure : IsTrue (fits_kind need.structure entry.kind)

-- A working card, and a target that a command may have.
pub record HasTarget (m : Memory) (x : Current) (target : Target) : Type 0 where
  pub kept : IsKept m x
  pub range : IsTarget target
