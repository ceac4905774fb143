-- Commands on files: CREATE FILE and DELETE FILE (ISO/IEC 7816-9).
use Rattle.std.specs.Prelude.{◌==◌, ◌||◌, ℕ, List, [], ◌∷◌, ◌++◌, length, not, nat_eq, None, is_none, unwrap_or, Bool}
use Rattle.std.specs.Prelude.{true, false, Result, Ok, Err}
use Rattle.std.specs.FinMap.{insert, retain_keys}
use Rattle.std.specs.List.{starts_with}
use Rattle.card_model.specs.declared.access_mode.AccessBit.{AccessBit}
use Rattle.card_model.specs.declared.access_mode.AccessBit.TheVariants.{CreateDf, CreateEf, DeleteChild, DeleteSelf}
use Rattle.card_model.specs.declared.status.TheConstants.Sw.{DONE, CONDITIONS_NOT_SATISFIED, FILE_NOT_FOUND}
use Rattle.card_model.specs.declared.status.TheConstants.Sw.{FILE_EXISTS, NAME_EXISTS, NO_ROOM, WRONG_DATA}
use Rattle.card_model.specs.declared.life_cycle.LifeCycle.TheVariants.{Activated}
use Rattle.card_model.specs.declared.fault.FcpFault.{FcpFault}
use Rattle.card_model.specs.declared.fcp.Fcp.{Fcp}
use Rattle.card_model.specs.declared.fcp.FileKind.{FileKind}
use Rattle.card_model.specs.declared.fcp.FileKind.TheVariants.{Df, Transparent, Linear, Cyclic}
use Rattle.card_model.specs.TemplateGrammar.{fcp_read}
use Rattle.card_model.specs.FileControl.{name_bytes, short_of_kind}
use Rattle.card_model.specs.NewFiles.{has_name, has_no_room, has_short_given, new_file, short_of_new}
use Rattle.card_model.specs.declared.requests.Subject.{Subject}
use Rattle.card_model.specs.Behaviours.{Behaviour, changes, Outcome, Refusal, Refusals, no_refusals, only_status}
use Rattle.card_model.specs.Cards.{Card, Path, exists, parent}
use Rattle.card_model.specs.Guards.{allowed, barred_above, barred_file, denied, unless_allowed}
use Rattle.card_model.specs.Reaching.{subject_of}
use Rattle.card_model.specs.SelectCommand.{selecting}
use Rattle.card_model.specs.Sessions.{Session, at_dedicated_file}

-- The path of the subject. If there is no such file the command is refused, whatever the path.
abbrev pub subject_path : Card → Session → Subject → Path
subject_path c s subject = unwrap_or (subject_of c.tree s subject) []

-- The refusals of DELETE FILE. The file doesn't exist. It is the MF. An ancestor is deactivated or terminated; the
-- file itself may be. Neither the file's own rule nor that of its parent, for the files in it, allows the command.
abbrev pub delete_refusals : Card → Session → Subject → Refusals
delete_refusals c s subject = record no_refusals {
  target = record { applies = is_none (subject_of c.tree s subject); status = FILE_NOT_FOUND }
      ∷ record { applies = length (subject_path c s subject) == 0; status = CONDITIONS_NOT_SATISFIED } ∷ [];
  life_cycle = barred_above c (subject_path c s subject) ∷ [];
  access = unless_allowed (allowed c s (subject_path c s subject) DeleteSelf
      || allowed c s (parent (subject_path c s subject)) DeleteChild) ∷ [];
}

-- The card without a file and all files below it: those whose paths begin with the file's path.
abbrev pub without : Card → Path → Card
without c path = record c { tree = retain_keys c.tree (λ other. not (starts_with nat_eq other path)) }

abbrev pub deleted_card : Card → Session → Subject → Card
deleted_card c s subject = without c (subject_path c s subject)

-- The effect of DELETE FILE: the parent becomes the current DF, whatever was current before.
abbrev pub file_deleted : Card → Session → Subject → Outcome
file_deleted c s subject = record {
  card = deleted_card c s subject;
  session = at_dedicated_file s (parent (subject_path c s subject));
  response = only_status DONE;
}

abbrev pub on_delete_file : Subject → Behaviour
on_delete_file subject =
    changes (λ c s. delete_refusals c s subject) (λ c s. file_deleted c s subject)

-- A placeholder for the parameters that a faulty template lacks. Such a command is refused.
abbrev pub no_parameters : Fcp
no_parameters = record { identifier = 0; life_cycle = Activated; rule = []; kind = Df None }

abbrev pub told_by : Result Fcp FcpFault → Fcp
told_by (Ok fcp) = fcp
told_by (Err fault) = no_parameters

abbrev pub tells_none : Result Fcp FcpFault → Bool
tells_none (Ok fcp) = false
tells_none (Err fault) = true

-- The refusals of CREATE FILE by the new file's parameters. A child has its identifier. A DF of the card has its
-- name. A child has its given short identifier. The new file would be on level 9. There is no free entry, or too few
-- free blocks.
abbrev pub place_refusals : Card → Path → Fcp → List Refusal
place_refusals c df fcp =
    record { applies = exists c.tree (df ++ fcp.identifier ∷ []); status = FILE_EXISTS }
    ∷ record { applies = has_name c.tree (name_bytes fcp.kind); status = NAME_EXISTS }
    ∷ record { applies = has_short_given c.tree df (short_of_kind fcp.kind); status = WRONG_DATA }
    ∷ record { applies = length df == 7; status = CONDITIONS_NOT_SATISFIED }
    ∷ record { applies = has_no_room c.blocks c.tree fcp.kind; status = NO_ROOM } ∷ []

-- The operation that the DF's rule must allow, by the kind of the new file.
abbrev pub creation_bit : FileKind → AccessBit
creation_bit (Df name) = CreateDf
creation_bit (Transparent short size) = CreateEf
creation_bit (Linear short records) = CreateEf
creation_bit (Cyclic short records) = CreateEf

-- The refusals of CREATE FILE. The current DF is barred. The template is faulty. The rule of the current DF doesn't
-- allow a new file of this kind. The names or the space for the new file are in use.
abbrev pub create_refusals : Card → Session → List ℕ → Refusals
create_refusals c s template = record no_refusals {
  life_cycle = barred_file c s.current_df ∷ [];
  template = record { applies = tells_none (fcp_read template); status = WRONG_DATA } ∷ [];
  access = denied c s s.current_df (creation_bit (told_by (fcp_read template)).kind) ∷ [];
  limits = place_refusals c s.current_df (told_by (fcp_read template));
}

-- The card with a new file in a DF. All bytes of its content, or of its existing records, are FF.
abbrev pub with_new : Card → Path → Fcp → Card
with_new c df fcp = record c {
  tree = insert c.tree (df ++ fcp.identifier ∷ []) (new_file fcp (short_of_new c.tree df fcp));
}

-- The card with the new file in the current DF.
abbrev pub created_card : Card → Session → List ℕ → Card
created_card c s template = with_new c s.current_df (told_by (fcp_read template))

-- The effect of CREATE FILE: the new file becomes current.
abbrev pub new_outcome : Card → Session → Fcp → Outcome
new_outcome c s fcp =
    let df = s.current_df in
    record {
      card = with_new c df fcp;
      session = selecting s (df ++ fcp.identifier ∷ []) (new_file fcp (short_of_new c.tree df fcp)).kind;
      response = only_status DONE;
    }

abbrev pub file_created : Card → Session → List ℕ → Outcome
file_created c s template = new_outcome c s (told_by (fcp_read template))

abbrev pub on_create_file : List ℕ → Behaviour
on_create_file template =
    changes (λ c s. create_refusals c s template) (λ c s. file_created c s template)
