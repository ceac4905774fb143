-- The steps that parse the bytes of a command (ISO/IEC 7816-4, clause 5).
-- Only `IsParsed` occurs in a public contract, that of `Command::parse`.
use Rattle.std.specs.Prelude.{◌≡◌, ◌≤◌, Bool, ℕ, List, length, Option, Some, None, is_some, IfSome}
use Rattle.std.specs.Prelude.{Result, is_ok, IfOk, IfErr}
use Rattle.card_model.specs.declared.status.Sw.{Sw}
use Rattle.card_model.specs.declared.status.TheConstants.Sw.{WRONG_LENGTH}
use Rattle.apdu_core.specs.declared.commands.Command.{Command}
use Rattle.apdu_core.specs.declared.form.CommandBody.{CommandBody}
use Rattle.apdu_core.specs.declared.form.Operands.{Operands}
use Rattle.card_model.specs.CommandTable.{asked_by_row, sent_body, Row}
use Rattle.apdu_core.specs.BodyParts.{body_view}
use Rattle.apdu_core.specs.ParsedCommands.{IsCommandInRange, Gives}
use Rattle.card_model.specs.Requests.{Request}

-- the result is the expected command or refusal, and the parts of the command are in the ranges of its row
pub record IsParsed (result : Result Command Sw) (wanted : Result Request Sw) : Type 0 where
  pub asked : Gives result wanted
  pub ranges : IfOk result IsCommandInRange

-- the bytes after an instruction are parsed by the row of the instruction; None: an unknown instruction
abbrev pub Parses : Option Row → Operands → Result Command Sw → Type 0
Parses row operands result = IsParsed result (asked_by_row row operands.p1 operands.p2 operands.rest.now)

-- a lookup by numbers has a result if and only if the test is true, and the result is the named thing
pub record NamesWhere {T : Type 0} (result : Option T) (test : Bool) (IsNamed : T → Type 0) : Type 0 where
  pub known : is_some result ≡ test
  pub named : IfSome result IsNamed

-- a part of a command is read if and only if the test is true; else the refusal has this one status word
pub record ReadsWhere {T : Type 0} (result : Result T Sw) (test : Bool) (IsRead : T → Type 0) (status : Sw)
    : Type 0 where
  pub known : is_ok result ≡ test
  pub value : IfOk result IsRead
  pub refusal : IfErr result (λ refusal. refusal ≡ status)

-- the body of a command is that of the bytes after its header; bytes of no valid form are refused with 6700
pub record ReadsBody (result : Result CommandBody Sw) (bytes : List ℕ) : Type 0 where
  pub form : IfOk result (λ body. sent_body bytes ≡ Some (body_view body))
  pub short : IfOk result (λ body. length body.sent.now ≤ 255)
  pub refusal : IfErr result (λ refusal. (refusal ≡ WRONG_LENGTH) × (sent_body bytes ≡ None))
