-- The life cycle of a file: status bytes and commands (ISO/IEC 7816-4, 7.4.10; ISO/IEC 7816-9).
use Rattle.std.specs.Prelude.{ℕ, Option, Some, None, ◌==◌, if◌then◌else◌}
use Rattle.card_model.specs.declared.life_cycle.LifeCycle.{LifeCycle}
use Rattle.card_model.specs.declared.life_cycle.LifeCycle.TheVariants.{Creation, Initialisation, Deactivated, Activated}
use Rattle.card_model.specs.declared.life_cycle.LifeCycle.TheVariants.{Terminated}
use Rattle.card_model.specs.declared.life_cycle.LifeCycleCommand.{LifeCycleCommand}
use Rattle.card_model.specs.declared.life_cycle.LifeCycleCommand.TheVariants.{Activate, Deactivate, Terminate}

-- the state that a life cycle status byte encodes; None: no valid byte
abbrev pub life_cycle_at : ℕ → Option LifeCycle
life_cycle_at b =
    if b == 0x01 then Some Creation else
    if b == 0x03 then Some Initialisation else
    if b == 0x04 then Some Deactivated else
    if b == 0x05 then Some Activated else
    if b == 0x0C then Some Terminated else None

-- the life cycle status byte of a state
abbrev pub life_cycle_byte : LifeCycle → ℕ
life_cycle_byte Creation = 0x01
life_cycle_byte Initialisation = 0x03
life_cycle_byte Deactivated = 0x04
life_cycle_byte Activated = 0x05
life_cycle_byte Terminated = 0x0C

-- a table row with a column for each state: creation, initialisation, deactivated, activated, terminated
abbrev pub by_state : {A : Type 0} → A → A → A → A → A → LifeCycle → A
by_state creation initialisation deactivated activated terminated Creation = creation
by_state creation initialisation deactivated activated terminated Initialisation = initialisation
by_state creation initialisation deactivated activated terminated Deactivated = deactivated
by_state creation initialisation deactivated activated terminated Activated = activated
by_state creation initialisation deactivated activated terminated Terminated = terminated

-- the state after a command that finds a file in this state, one row for each command; None: the card refuses it
abbrev pub state_after : LifeCycleCommand → LifeCycle → Option LifeCycle
state_after Activate = by_state (Some Activated) (Some Activated) (Some Activated) (Some Activated) None
state_after Deactivate = by_state None None (Some Deactivated) (Some Deactivated) None
state_after Terminate = by_state (Some Terminated) (Some Terminated) (Some Terminated) (Some Terminated) None
