-- The session in the model of a card.
use Rattle.std.specs.Prelude.{List}
use Rattle.file_tree.specs.declared.entry.Entry.{Entry}
use Rattle.card_start.specs.declared.state.CardState.{CardState}
use Rattle.card_start.specs.declared.state.CardState.TheVariants.{Working, Failed, Dark}
use Rattle.command_base.specs.declared.current.Current.{Current}
use Rattle.card_model.specs.Sessions.{Session, fresh_session}
use Rattle.command_base.specs.Working.{session_of}

-- the session of the model; that after power-on for a card that doesn't work
abbrev pub session_while : CardState → List Entry → Current → Session
session_while Working t x = session_of t x
session_while Failed t x = fresh_session
session_while Dark t x = fresh_session
