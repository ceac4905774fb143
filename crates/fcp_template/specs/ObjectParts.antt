-- The objects of a template, without its tag and its length. No public clause uses these definitions.
use Rattle.std.specs.Prelude.{ℕ, ◌≡◌, ◌≤◌, ◌⊎◌, [], ◌∷◌, List, length, Result, Err}
use Rattle.std.specs.Option.{unwrap_or}
use Rattle.card_model.specs.declared.fcp.Fcp.{Fcp}
use Rattle.card_model.specs.declared.fault.FcpFault.{FcpFault}
use Rattle.card_model.specs.declared.fault.FcpFault.TheVariants.{Shape}
use Rattle.card_model.specs.TemplateGrammar.{DataObject, objects_text, objects_in, meaning}

-- The text is tag 62, a length byte 00 to 7F, and so many bytes.
pub record IsBody (text body : List ℕ) : Type 0 where
  pub spelled : text ≡ 0x62 ∷ length body ∷ body
  pub short : length body ≤ 0x7F

-- The objects that fill the bytes, if any do.
abbrev pub objects_of : List ℕ → List DataObject
objects_of bytes = unwrap_or (objects_in (length bytes) bytes) []

-- Objects fill the bytes.
abbrev pub AreObjects : List ℕ → Type 0
AreObjects bytes = bytes ≡ objects_text (objects_of bytes)

-- The bytes mean what the objects mean that fill them. Bytes that no objects fill have the fault Shape.
abbrev pub BodyReads : List ℕ → Result Fcp FcpFault → Type 0
BodyReads body read =
    ((os : List DataObject) × (body ≡ objects_text os) × (read ≡ meaning os))
    ⊎ (((os : List DataObject) → body ≡ objects_text os → ⊥) × (read ≡ Err Shape))
