-- A text is cut into objects in one way.
use Rattle.std.proofs.Common.{ℕ, ◌≡◌, ◌<◌, List, [], ◌∷◌, ◌++◌, length, refl, sym, ap, ◌∙◌, append_assoc}
use Rattle.std.proofs.Common.{arith}
use Rattle.card_model.specs.TemplateGrammar.{DataObject, object_text, objects_text, IsTemplate}

-- a list is cut in one way at a length
pub same_front : (a b x y : List ℕ) → length a ≡ length b → a ++ x ≡ b ++ y → (a ≡ b) × (x ≡ y)
same_front [] [] x y len e = (refl, e)
same_front [] (v ∷ b) x y len e = absurd (omega arith)
same_front (u ∷ a) [] x y len e = absurd (omega arith)
same_front (u ∷ a) (v ∷ b) x y len e =
    let fewer : length a ≡ length b = omega arith in
    let rest : a ++ x ≡ b ++ y = cc in
    let head : u ≡ v = cc in
    let r = same_front a b x y fewer rest in
    ((λ i. head i ∷ r.0 i), r.1)

-- no object's bytes begin another's
pub same_object : (o p : DataObject) (x y : List ℕ) → object_text o ++ x ≡ object_text p ++ y → (o ≡ p) × (x ≡ y)
same_object o p x y e =
    let tag : o.tag ≡ p.tag = cc in
    let len : length o.value ≡ length p.value = cc in
    let rest : o.value ++ x ≡ p.value ++ y = cc in
    let r = same_front o.value p.value x y len rest in
    ((λ i. record { tag = tag i; value = r.0 i }), r.1)

-- what follows the first of a list of objects is the bytes of the others
pub after_objects : (front os : List DataObject) (rest : List ℕ) → objects_text front ++ rest ≡ objects_text os
    → (others : List DataObject) × (rest ≡ objects_text others)
after_objects [] os rest e = (os, e)
after_objects (o ∷ front) [] rest e = absurd cc
after_objects (o ∷ front) (p ∷ os) rest e =
    let e' : object_text o ++ (objects_text front ++ rest) ≡ object_text p ++ objects_text os =
    sym (append_assoc (object_text o) (objects_text front) rest) ∙ e in
    after_objects front os rest (same_object o p _ _ e').1

pub same_objects : (os ps : List DataObject) → objects_text os ≡ objects_text ps → os ≡ ps
same_objects [] [] e = refl
same_objects [] (p ∷ ps) e = absurd cc
same_objects (o ∷ os) [] e = absurd cc
same_objects (o ∷ os) (p ∷ ps) e =
    let r = same_object o p (objects_text os) (objects_text ps) e in
    let s = same_objects os ps r.1 in
    λ i. r.0 i ∷ s i

-- a text is a template of one list of objects
pub one_template : (text : List ℕ) (os ps : List DataObject) → IsTemplate text os → IsTemplate text ps → os ≡ ps
one_template text os ps t u =
    let a = t.spelled in
    let b = u.spelled in
    let e : objects_text os ≡ objects_text ps = cc in
    same_objects os ps e

-- bytes that no object begins are no objects, whatever objects stand before them
pub no_objects : (front os : List DataObject) (rest : List ℕ) → 0 < length rest
    → ((o : DataObject) (more : List ℕ) → rest ≡ object_text o ++ more → ⊥)
    → objects_text front ++ rest ≡ objects_text os → ⊥
no_objects front os rest some stuck e = at_others (after_objects front os rest e)
  where
    at_others : (others : List DataObject) × (rest ≡ objects_text others) → ⊥
    at_others ([], is) = let none : length rest ≡ 0 = ap (λ (bytes : List ℕ). length bytes) is in omega arith
    at_others (o ∷ others, is) = stuck o (objects_text others) is
