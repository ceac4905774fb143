-- The body of a command as the definitions describe it (ISO/IEC 7816-4, 5.2).
use Rattle.card_model.specs.CommandTable.{SentBody}
use Rattle.apdu_core.specs.declared.form.CommandBody.{CommandBody}

-- a body, with its data field as a value instead of a borrowed slice
abbrev pub body_view : CommandBody → SentBody
body_view b = record { sent = b.sent.now; expected = b.expected }
