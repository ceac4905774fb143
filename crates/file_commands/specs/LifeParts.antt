-- Changes of a life cycle as the code computes them (ISO/IEC 7816-9). No clause of the card's calls names these.
use Rattle.std.specs.Prelude.{◌≡◌, ◌==◌, ℕ, Bool, true, not, if◌then◌else◌, List, Option, Some, None, unwrap_or, Result}
use Rattle.std.specs.Prelude.{Ok, Err}
use Rattle.card_model.specs.declared.life_cycle.LifeCycle.{LifeCycle}
use Rattle.card_model.specs.declared.status.Sw.{Sw}
use Rattle.card_model.specs.declared.status.TheConstants.Sw.{ACCESS_DENIED, CONDITIONS_NOT_SATISFIED, WRONG_STRUCTURE}
use Rattle.card_model.specs.declared.requests.Subject.{Subject}
use Rattle.card_model.specs.declared.requests.LifeCycleChange.{LifeCycleChange}
use Rattle.card_model.specs.declared.requests.LifeCycleChange.TheVariants.{Activate, Deactivate, TerminateDf}
use Rattle.card_model.specs.declared.requests.LifeCycleChange.TheVariants.{TerminateEf}
use Rattle.file_tree.specs.declared.entry.Entry.{Entry}
use Rattle.card_model.specs.FileLives.{next_life}
use Rattle.file_tree.specs.Table.{table, entry_in, path_of, IsUsed}
use Rattle.file_tree.specs.Trees.{tree_of}
use Rattle.command_base.specs.declared.current.Current.{Current}
use Rattle.file_commands.specs.declared.life_cycles.Changed.{Changed}
use Rattle.card_model.specs.Guards.{allowed}
use Rattle.card_model.specs.LifeCycleCommands.{change_bit, change_refusals, changed_file, command_of}
use Rattle.card_model.specs.Behaviours.{refused_by}
use Rattle.command_base.specs.Standing.{card_of}
use Rattle.command_base.specs.Working.{session_of}
use Rattle.file_tree.specs.Kinds.{kind_byte}
use Rattle.file_tree.specs.declared.kinds.EntryKind.TheVariants.{Dedicated}

-- the entry of the file that a command without data changes; None: no current elementary file
abbrev pub current_changed : Current → LifeCycleChange → Option ℕ
current_changed x Activate = Some (unwrap_or x.ef x.df)
current_changed x Deactivate = Some (unwrap_or x.ef x.df)
current_changed x TerminateDf = Some x.df
current_changed x TerminateEf = x.ef

-- true if the command is for files of this kind
abbrev pub is_for_kind : LifeCycleChange → ℕ → Bool
is_for_kind Activate kind = true
is_for_kind Deactivate kind = true
is_for_kind TerminateDf kind = kind == kind_byte Dedicated
is_for_kind TerminateEf kind = not (kind == kind_byte Dedicated)

-- the change or its refusal: no state transition, the wrong kind of file, or a rule that forbids it
abbrev pub changed_by : LifeCycleChange → ℕ → Entry → Option LifeCycle → Bool → Result Changed Sw
changed_by change e entry None allowed = Err CONDITIONS_NOT_SATISFIED
changed_by change e entry (Some life) allowed =
    if not (is_for_kind change entry.kind) then Err WRONG_STRUCTURE else
    if not allowed then Err ACCESS_DENIED else
    Ok (record { number = e; entry = entry; life = life })

-- the same for the file of an entry
abbrev pub change_at : List ℕ → Current → LifeCycleChange → ℕ → Result Changed Sw
change_at m x change e =
    let path = path_of (table m) e in
    changed_by change e (entry_in (table m) e) (next_life (tree_of m) path (command_of change))
    (allowed (card_of m) (session_of (table m) x) path (change_bit change))

-- The entry of a file whose life cycle a command changes without refusal, and its state after the change.
pub record IsChanged (m : List ℕ) (x : Current) (change : LifeCycleChange) (subject : Subject)
    (changed : Changed) : Type 0 where
  pub entry_is : changed.entry ≡ entry_in (table m) changed.number
  pub used : IsUsed (table m) changed.number
  pub place : changed_file (card_of m).tree (session_of (table m) x) change subject
      ≡ Some (path_of (table m) changed.number)
  pub next : next_life (tree_of m) (path_of (table m) changed.number) (command_of change) ≡ Some changed.life
  pub unrefused : refused_by (change_refusals (card_of m) (session_of (table m) x) change subject) ≡ None
