-- The objects that fill bytes: the first one, and those after it.
use Rattle.std.proofs.Common.{ℕ, ◌≡◌, ◌++◌, List, [], ◌∷◌, length, Option, Some, None, refl, sym, ap, ◌∙◌, arith}
use Rattle.std.proofs.Common.{append-nil, append_assoc}
use Rattle.std.proofs.lemmas.Grind.{flat_map-append}
use Rattle.std.proofs.lemmas.List.{nil_from_length}
use Rattle.std.specs.Option.{unwrap_or}
use Rattle.card_model.specs.TemplateGrammar.{DataObject, object_text, objects_text, objects_in}
use Rattle.fcp_template.specs.ObjectParts.{objects_of, AreObjects}
use Rattle.fcp_template.proofs.OneReading.{Fill, objects_fill}
use Rattle.fcp_template.proofs.Splitting.{same_object, same_objects}

-- the objects that fill a text of objects
objects_of_text : (os : List DataObject) → objects_of (objects_text os) ≡ os
objects_of_text os =
    at_found (objects_in (length (objects_text os)) (objects_text os))
    (objects_fill (length (objects_text os)) (objects_text os) (omega arith))
  where
    at_found : (found : Option (List DataObject)) → Fill (objects_text os) found → unwrap_or found [] ≡ os
    at_found None none = absurd (none os refl)
    at_found (Some qs) e = sym (same_objects os qs e)

pub objects_are : (bytes : List ℕ) (os : List DataObject) → bytes ≡ objects_text os → objects_of bytes ≡ os
objects_are bytes os e = ap (λ (text : List ℕ). objects_of text) e ∙ objects_of_text os

pub are_objects : (bytes : List ℕ) (os : List DataObject) → bytes ≡ objects_text os → AreObjects bytes
are_objects bytes os e = e ∙ ap (λ (qs : List DataObject). objects_text qs) (sym (objects_are bytes os e))

-- a text of objects that begins with one
split_objects : (os : List DataObject) (o : DataObject) (rest : List ℕ) → object_text o ++ rest ≡ objects_text os
    → (more : List DataObject) × (os ≡ o ∷ more) × (rest ≡ objects_text more)
split_objects [] o rest e = absurd cc
split_objects (p ∷ os) o rest e =
    let same = same_object o p rest (objects_text os) e in
    (os, ap (λ (q : DataObject). q ∷ os) (sym same.0), same.1)

pub first_of : (bytes rest : List ℕ) (o : DataObject) → AreObjects bytes → bytes ≡ object_text o ++ rest
    → (objects_of bytes ≡ o ∷ objects_of rest) × AreObjects rest
first_of bytes rest o are is =
    let parts = split_objects (objects_of bytes) o rest (sym is ∙ are) in (
      parts.1 ∙ ap (λ (more : List DataObject). o ∷ more) (sym (objects_are rest parts.0 parts.2)),
      are_objects rest parts.0 parts.2,
    )

-- bytes that no object begins have none
pub none_of : (bytes : List ℕ) → AreObjects bytes
    → ((o : DataObject) (rest : List ℕ) → bytes ≡ object_text o ++ rest → ⊥) → objects_of bytes ≡ []
none_of bytes are none = at_objects (objects_of bytes) are
  where
    at_objects : (os : List DataObject) → bytes ≡ objects_text os → os ≡ []
    at_objects [] e = refl
    at_objects (o ∷ os) e = absurd (none o (objects_text os) e)

-- objects so far, and one more
pub one_more : (front : List DataObject) (o : DataObject) (bytes rest after : List ℕ)
    → bytes ≡ objects_text front ++ rest → rest ≡ object_text o ++ after
    → (more : List DataObject) × (bytes ≡ objects_text more ++ after)
one_more front o bytes rest after so_far found =
    let text : objects_text (front ++ o ∷ []) ≡ objects_text front ++ object_text o =
    flat_map-append object_text front (o ∷ [])
    ∙ ap (λ (last : List ℕ). objects_text front ++ last) (append-nil (object_text o)) in (
      front ++ o ∷ [],
      so_far ∙ ap (λ (more : List ℕ). objects_text front ++ more) found
          ∙ sym (append_assoc (objects_text front) (object_text o) after)
          ∙ ap (λ (all : List ℕ). all ++ after) (sym text),
    )

-- all objects
pub all_objects : (front : List DataObject) (bytes rest : List ℕ) → bytes ≡ objects_text front ++ rest
    → length rest ≡ 0 → bytes ≡ objects_text front
all_objects front bytes rest so_far none =
    so_far ∙ ap (λ (more : List ℕ). objects_text front ++ more) (nil_from_length rest none)
    ∙ append-nil (objects_text front)
