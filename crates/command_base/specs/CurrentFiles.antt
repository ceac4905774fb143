-- How the session changes: the current files, the record pointer and the verified PINs, as entry numbers.
-- No clause of the card's calls names these definitions.
use Rattle.std.specs.Prelude.{◌==◌, ℕ, Bool, true, false, if◌then◌else◌, Option, Some, None}
use Rattle.card_model.specs.declared.requests.Target.{Target}
use Rattle.card_model.specs.declared.requests.Target.TheVariants as target
use Rattle.card_model.specs.Pins.{no_pins, with_pin, without_pin}
use Rattle.pin_store.specs.declared.errors.Outcome.{Outcome as AttemptEnd}
use Rattle.pin_store.specs.declared.errors.Outcome.TheVariants.{Matched, Wrong}
use Rattle.file_tree.specs.declared.entry.Entry.{Entry}
use Rattle.file_tree.specs.declared.kinds.EntryKind.TheVariants.{Dedicated}
use Rattle.file_tree.specs.Kinds.{kind_byte}
use Rattle.command_base.specs.declared.current.Current.{Current}
use Rattle.command_base.specs.declared.current.Shown.{Shown}
use Rattle.command_base.specs.declared.current.Shown.TheVariants.{Value, UnblockingValue}

-- the session after power-on: the master file is current, and no PIN is verified
abbrev pub fresh_current : Current
fresh_current = record { df = 0; ef = None; pointer = None; verified = no_pins }

-- the session after the file of entry `e` becomes current, by its parent; the verified PINs stay
abbrev pub made_current : Current → ℕ → ℕ → Bool → Current
made_current x e parent dedicated = record x {
  df = if dedicated then e else parent;
  ef = if dedicated then None else Some e;
  pointer = None;
}

-- the same, by the kind and the parent of its entry
abbrev pub current_by : Current → ℕ → ℕ → ℕ → Current
current_by x e kind parent = made_current x e parent (kind == kind_byte Dedicated)

abbrev pub current_at : Current → ℕ → Entry → Current
current_at x e entry = current_by x e entry.kind entry.parent

-- the session after a binary command with this target
abbrev pub named_from : Current → Target → ℕ → Current
named_from x target.Current e = x
named_from x (target.Short n) e = record x { ef = Some e; pointer = None }

-- the session after a command on records, with its final record pointer
abbrev pub pointing_from : Current → Target → ℕ → Option ℕ → Current
pointing_from x target e pointer = record (named_from x target e) { pointer = pointer }

-- the record pointer at the start of a command on records
abbrev pub pointer_from : Current → Target → Option ℕ
pointer_from x target.Current = x.pointer
pointer_from x (target.Short n) = None

-- the session after a PIN or unblocking value was presented
abbrev pub tried_from : Current → ℕ → Bool → AttemptEnd → Current
tried_from x n unverifies Matched = record x { verified = with_pin x.verified n }
tried_from x n true (Wrong left) = record x { verified = without_pin x.verified n }
tried_from x n false (Wrong left) = x

-- true if a wrong value removes the PIN from the verified ones: the value of the PIN itself
abbrev pub unverifies : Shown → Bool
unverifies Value = true
unverifies UnblockingValue = false
