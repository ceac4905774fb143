-- The life cycle of files: which files are barred, and the state after a life cycle command (ISO/IEC 7816-9; ISO/IEC
-- 7816-4, 7.4.10).
use Rattle.std.specs.Prelude.{Bool, true, false, ◌||◌, if◌then◌else◌, List, length, map, take, Option, None}
use Rattle.std.specs.List.{list_any, range_with_len}
use Rattle.card_model.specs.LifeCycle.{state_after}
use Rattle.card_model.specs.declared.life_cycle.LifeCycle.{LifeCycle}
use Rattle.card_model.specs.declared.life_cycle.LifeCycle.TheVariants.{Creation, Initialisation, Deactivated, Activated}
use Rattle.card_model.specs.declared.life_cycle.LifeCycle.TheVariants.{Terminated}
use Rattle.card_model.specs.declared.life_cycle.LifeCycleCommand.{LifeCycleCommand}
use Rattle.card_model.specs.declared.access_mode.AccessBit.{AccessBit}
use Rattle.card_model.specs.Rule.{allows}
use Rattle.card_model.specs.FileTrees.{File, Path, Tree, file_at}

-- A deactivated or terminated file bars itself and all files below it.
abbrev pub bars : LifeCycle → Bool
bars Creation = false
bars Initialisation = false
bars Deactivated = true
bars Activated = false
bars Terminated = true

-- The paths of all ancestors, from the MF down. The MF has none.
abbrev pub above : Path → List Path
above path = map (λ n. take n path) (range_with_len 0 (length path))

-- The life cycle state of the file at a path.
abbrev pub life_at : Tree → Path → LifeCycle
life_at tree path = (file_at tree path).life

-- True if an ancestor is deactivated or terminated. `is_barred` also counts the file itself.
abbrev pub has_barred_above : Tree → Path → Bool
has_barred_above tree path = list_any (λ p. bars (life_at tree p)) (above path)

abbrev pub is_barred : Tree → Path → Bool
is_barred tree path = bars (life_at tree path) || has_barred_above tree path

-- The state of a file after a life cycle command. None is a refusal: an ancestor bars the file, or the command is not
-- allowed in the present state.
abbrev pub next_life : Tree → Path → LifeCycleCommand → Option LifeCycle
next_life tree path command = if has_barred_above tree path then None else state_after command (life_at tree path)

-- True if the access rule of the file allows an operation. The two lists give, for each PIN, if it is verified and if
-- it is disabled.
abbrev pub is_allowed : Tree → Path → AccessBit → List Bool → List Bool → Bool
is_allowed tree path bit verified disabled = allows (file_at tree path).rule bit (life_at tree path) verified disabled

-- The same file in another life cycle state.
abbrev pub with_life : File → LifeCycle → File
with_life file state = record file { life = state }
