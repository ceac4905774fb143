-- A text reads as one thing.
use Rattle.std.proofs.Common.{ℕ, zero, suc, ◌≡◌, ◌≤◌, ◌<◌, ◌==◌, nat_le, ◌&&◌, Bool, true, false, List, [], ◌∷◌, ◌++◌}
use Rattle.std.proofs.Common.{length, take, drop, Option, Some, None, option_map, Result, Err, refl, sym, ap, subst}
use Rattle.std.proofs.Common.{◌∙◌, inl, inr, arith}
use Rattle.std.specs.Prelude.{MatchOption, ◌↔◌, if◌then◌else◌}
use Rattle.std.proofs.lemmas.Bool.{cases_lt, lt-leb, le-leb, eqb-true, leb-true, and_parts}
use Rattle.std.proofs.lemmas.Bool.Decides.{nat_tests}
use Rattle.std.proofs.lemmas.List.{take-append-drop, length-append, length-take, length-drop}
use Rattle.card_model.specs.declared.fcp.Fcp.{Fcp}
use Rattle.card_model.specs.declared.fault.FcpFault.{FcpFault}
use Rattle.card_model.specs.declared.fault.FcpFault.TheVariants.{Shape}
use Rattle.card_model.specs.TemplateGrammar.{DataObject, object_text, objects_text, IsTemplate, meaning, FcpReads}
use Rattle.card_model.specs.TemplateGrammar.{objects_in, meaning_of, fcp_read}
use Rattle.fcp_template.proofs.Splitting.{one_template, same_object}

-- a template reads as what its objects mean
pub reading_of_template : (text : List ℕ) (os : List DataObject) (read : Result Fcp FcpFault) → IsTemplate text os
    → FcpReads text read → read ≡ meaning os
reading_of_template text os read t (inl h) = h.2 ∙ ap meaning (one_template text h.0 os h.1 t)
reading_of_template text os read t (inr h) = absurd (h.0 os t)

-- any other text reads as the fault Shape
pub reading_of_other : (text : List ℕ) (read : Result Fcp FcpFault) → ((os : List DataObject) → IsTemplate text os → ⊥)
    → FcpReads text read → read ≡ Err Shape
reading_of_other text read none (inl h) = absurd (none h.0 h.1)
reading_of_other text read none (inr h) = h.1

-- what the objects in bytes are, where these are at most so many bytes
abbrev pub Fill : List ℕ → Option (List DataObject) → Type 0
Fill bytes found = MatchOption found ((os : List DataObject) → bytes ≡ objects_text os → ⊥)
    (λ os. bytes ≡ objects_text os)

nothing_more : (tag n : ℕ) (rest : List ℕ) → length rest < n → (os : List DataObject) → tag ∷ n ∷ rest ≡ objects_text os
    → ⊥
nothing_more tag n rest few [] e = absurd cc
nothing_more tag n rest few (o ∷ os) e =
    let is : rest ≡ o.value ++ objects_text os = cc in
    let len : n ≡ length o.value = cc in
    let size = ap (λ (bytes : List ℕ). length bytes) is in
    omega (arith, length-append o.value (objects_text os))

-- bytes with a first object are its bytes and what follows it
cut_first : (tag n : ℕ) (rest : List ℕ) → n ≤ length rest
    → tag ∷ n ∷ rest ≡ object_text (record { tag = tag; value = take n rest }) ++ drop n rest
cut_first tag n rest enough =
    let len : n ≡ length (take n rest) = omega (arith, length-take n rest) in
    let parts : rest ≡ take n rest ++ drop n rest = sym (take-append-drop n rest) in
    λ i. tag ∷ len i ∷ parts i

-- the first object, and the objects of what follows it
with_first : (tag n : ℕ) (rest : List ℕ) → n ≤ length rest → (found : Option (List DataObject))
    → Fill (drop n rest) found
    → Fill (tag ∷ n ∷ rest) (option_map (λ os. record { tag = tag; value = take n rest } ∷ os) found)
with_first tag n rest enough None none = at_objects
  where
    at_objects : (os : List DataObject) → tag ∷ n ∷ rest ≡ objects_text os → ⊥
    at_objects [] e = absurd cc
    at_objects (o ∷ os) e = none os (same_object (record { tag = tag; value = take n rest }) o (drop n rest)
        (objects_text os) (sym (cut_first tag n rest enough) ∙ e)).1
with_first tag n rest enough (Some os) is = cut_first tag n rest enough
    ∙ ap (λ (more : List ℕ). object_text (record { tag = tag; value = take n rest }) ++ more) is

-- a tag alone is no object
lone_tag : (tag : ℕ) (os : List DataObject) → tag ∷ [] ≡ objects_text os → ⊥
lone_tag tag [] e = absurd cc
lone_tag tag (o ∷ os) e = absurd cc

pub objects_fill : (most : ℕ) (bytes : List ℕ) → length bytes ≤ most → Fill bytes (objects_in most bytes)
unfolding objects_in
objects_fill most [] few = refl
objects_fill zero (tag ∷ rest) few = absurd (omega arith)
objects_fill (suc most) (tag ∷ []) few = lone_tag tag
objects_fill (suc most) (tag ∷ n ∷ rest) few =
    let fewer : length (drop n rest) ≤ most = omega (arith, length-drop n rest) in
    let more = objects_fill most (drop n rest) fewer in
    elim (cases_lt (length rest) n) [
      | inl lt ↦ rw (lt-leb n (length rest) lt) (nothing_more tag n rest lt)
      | inr le ↦ rw (le-leb n (length rest) le) (with_first tag n rest le (objects_in most (drop n rest)) more)
    ]

-- a text whose tag and length are right reads as its objects
reads_found : (text body : List ℕ) → text ≡ 0x62 ∷ length body ∷ body → length body ≤ 0x7F
    → (found : Option (List DataObject)) → Fill body found → FcpReads text (meaning_of found)
reads_found text body is short None none = inr (other, refl)
  where
    other : (os : List DataObject) → IsTemplate text os → ⊥
    other os t = let spelled = t.spelled in let e : body ≡ objects_text os = cc in none os e
reads_found text body is short (Some os) fill =
    inl (
      os,
      record {
        spelled = is ∙ ap (λ (bytes : List ℕ). 0x62 ∷ length bytes ∷ bytes) fill;
        short =
            subst (λ (bytes : List ℕ). length bytes ≤ 0x7F) fill short;
      },
      refl,
    )

read_at : (tag n : ℕ) (body : List ℕ) (test : Bool) → ((tag == 0x62) && nat_le n 0x7F && (length body == n)) ≡ test
    → FcpReads (tag ∷ n ∷ body) (if test then meaning_of (objects_in n body) else Err Shape)
read_at tag n body true e =
    let parts = and_parts ((tag == 0x62) && nat_le n 0x7F) (length body == n) e in
    let others = and_parts (tag == 0x62) (nat_le n 0x7F) parts.0 in
    let first : tag ≡ 0x62 = eqb-true tag 0x62 others.0 in
    let short : n ≤ 0x7F = leb-true n 0x7F others.1 in
    let size : length body ≡ n = eqb-true (length body) n parts.1 in
    let is : tag ∷ n ∷ body ≡ 0x62 ∷ length body ∷ body = λ i. first i ∷ sym size i ∷ body in
    reads_found (tag ∷ n ∷ body) body is (omega arith) (objects_in n body) (objects_fill n body (omega arith))
read_at tag n body false e = inr (other, refl)
  where
    other : (os : List DataObject) → IsTemplate (tag ∷ n ∷ body) os → ⊥
    other os t =
        let spelled = t.spelled in
        let first : tag ≡ 0x62 = cc in
        let len : n ≡ length (objects_text os) = cc in
        let is : body ≡ objects_text os = cc in
        let size : length body ≡ n = ap (λ (bytes : List ℕ). length bytes) is ∙ sym len in
        let short = t.short in
        grind (arith, nat_tests)

-- the function reads as the relation says
fcp_read-reads : (text : List ℕ) → FcpReads text (fcp_read text)
unfolding fcp_read
fcp_read-reads [] = inr ((λ os t. let spelled = t.spelled in absurd cc), refl)
fcp_read-reads (tag ∷ []) = inr ((λ os t. let spelled = t.spelled in absurd cc), refl)
fcp_read-reads (tag ∷ n ∷ body) = read_at tag n body _ refl

-- what a text reads as is what the function gives
pub fcp_read-is : (text : List ℕ) (read : Result Fcp FcpFault) → FcpReads text read → read ≡ fcp_read text
fcp_read-is text read reads = same_reading (fcp_read-reads text)
  where
    same_reading : FcpReads text (fcp_read text) → read ≡ fcp_read text
    same_reading (inl h) = reading_of_template text h.0 read h.1 reads ∙ sym h.2
    same_reading (inr h) = reading_of_other text read h.0 reads ∙ sym h.1

pub reading_is_a_function : (text : List ℕ) (read : Result Fcp FcpFault) → FcpReads text read ↔ (read ≡ fcp_read text)
reading_is_a_function text read = (
  fcp_read-is text read,
  λ e. subst (λ (r : Result Fcp FcpFault). FcpReads text r)
      (sym e) (fcp_read-reads text),
)
