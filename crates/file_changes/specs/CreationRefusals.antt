-- The refusals of a new file in a DF, in their order (ISO/IEC 7816-9, CREATE FILE).
use Rattle.std.specs.Prelude.{◌==◌, ℕ, if◌then◌else◌}
use Rattle.std.specs.Prelude.{[], ◌∷◌, ◌++◌, length, Option, None, Some}
use Rattle.card_model.specs.declared.status.Sw.{Sw}
use Rattle.card_model.specs.declared.status.TheConstants.Sw.{FILE_EXISTS, NAME_EXISTS, WRONG_DATA, NO_ROOM}
use Rattle.card_model.specs.declared.status.TheConstants.Sw.{CONDITIONS_NOT_SATISFIED}
use Rattle.card_model.specs.declared.fcp.Fcp.{Fcp}
use Rattle.card_model.specs.declared.fcp.FileKind.{FileKind}
use Rattle.card_model.specs.FileControl.{short_of_kind, name_bytes}
use Rattle.card_model.specs.FileTrees.{Path, Tree, exists}
use Rattle.card_model.specs.NewFiles.{has_name, has_short_given, has_no_room}

-- The refusal by a name in use: a child has the identifier, a DF has the name, or a child has the given short
-- identifier.
abbrev pub taken_refusal : Tree → Path → Fcp → Option Sw
taken_refusal tree df fcp =
    if exists tree (df ++ fcp.identifier ∷ []) then Some FILE_EXISTS else
    if has_name tree (name_bytes fcp.kind) then Some NAME_EXISTS else
    if has_short_given tree df (short_of_kind fcp.kind) then Some WRONG_DATA else None

-- The refusal by place: the file would be on level 9, or there is no free entry or too few free blocks.
abbrev pub place_refusal : ℕ → Tree → Path → FileKind → Option Sw
place_refusal n tree df kind =
    if length df == 7 then Some CONDITIONS_NOT_SATISFIED else
    if has_no_room n tree kind then Some NO_ROOM else None

-- The first of two refusals.
abbrev pub first_reason : Option Sw → Option Sw → Option Sw
first_reason (Some status) other = Some status
first_reason None other = other

-- The first refusal of a new file in a DF, in a memory of n blocks.
abbrev pub creation_refusal : ℕ → Tree → Path → Fcp → Option Sw
creation_refusal n tree df fcp = first_reason (taken_refusal tree df fcp) (place_refusal n tree df fcp.kind)
