-- The template of a proper file is of bytes, and short.
use Rattle.std.specs.Prelude.{◌<◌, ◌≤◌, ◌+◌, ◌*◌, ◌/◌, ◌%◌, ℕ, List, [], ◌∷◌, ◌++◌, length, Option, Some, None}
use Rattle.std.proofs.Common.{arith, lit<, lit≤}
use Rattle.std.proofs.lemmas.List.{length-append}
use Rattle.std.proofs.lemmas.List.Elements.{All-nil, All-cons, All-append}
use Rattle.card_model.specs.LifeCycle.{life_cycle_byte}
use Rattle.card_model.specs.declared.life_cycle.LifeCycle.{LifeCycle}
use Rattle.card_model.specs.declared.life_cycle.LifeCycle.TheVariants.{Creation, Initialisation, Deactivated}
use Rattle.card_model.specs.declared.life_cycle.LifeCycle.TheVariants.{Activated, Terminated}
use Rattle.card_model.specs.TemplateGrammar.{DataObject, object_text, objects_text}
use Rattle.card_model.specs.Templates.{data_object, descriptor_value, fcp_objects, kind_objects, short_value}
use Rattle.card_model.specs.Templates.{in_two_bytes}
use Rattle.card_model.specs.Templates.{kind_told, parameters_of, short_told, template_of}
use Rattle.card_model.specs.Requests.{AreBytes}
use Rattle.card_model.specs.Cards.{File, Kind, Path, transparent, linear, cyclic, dedicated, elementary, identifier}
use Rattle.card_model.specs.Cards.{IsProperFile, IsProperKind, IsProperShort}

abbrev byte : ℕ → Type 0
byte number = number < 256

-- bytes that fit an answer
pub record IsText (text : List ℕ) : Type 0 where
  pub bytes : AreBytes text
  pub size : length text ≤ 256

-- at most so many bytes
record IsPart (text : List ℕ) (n : ℕ) : Type 0 where
  bytes : AreBytes text
  size : length text ≤ n

part-none : IsPart [] 0
part-none = record { bytes = All-nil byte; size = omega arith }

part-cons : (b : ℕ) (rest : List ℕ) (n : ℕ) → b < 256 → IsPart rest n → IsPart (b ∷ rest) (n + 1)
part-cons b rest n small part =
    let most = part.size in record { bytes = All-cons byte b rest small part.bytes; size = omega (arith, most) }

part-more : (text : List ℕ) (n k : ℕ) → n ≤ k → IsPart text n → IsPart text k
part-more text n k more part =
    let most = part.size in record { bytes = part.bytes; size = omega (arith, most, more) }

part-append : (a b : List ℕ) (n k : ℕ) → IsPart a n → IsPart b k → IsPart (a ++ b) (n + k)
part-append a b n k front back =
    let long = length-append a b in
    let first = front.size in
    let second = back.size in
    record { bytes = All-append byte a b front.bytes back.bytes; size = omega (arith, long, first, second) }

part-object : (tag : ℕ) (value : List ℕ) (n : ℕ) → tag < 256 → n ≤ 255 → IsPart value n
    → IsPart (object_text (data_object tag value)) (n + 1 + 1)
part-object tag value n small few part =
    let most = part.size in
    part-cons tag (length value ∷ value) (n + 1) small
    (part-cons (length value) value n (omega (arith, most, few)) part)

part-two : (n : ℕ) → n < 65536 → IsPart (in_two_bytes n) 2
part-two n small =
    part-cons (n / 256) (n % 256 ∷ []) 1 (omega (arith, small)) (part-cons (n % 256) [] 0 (omega arith) part-none)

-- 82
part-plain : (first : ℕ) → first < 256 → IsPart (first ∷ 0x21 ∷ []) 5
part-plain first small = part-more (first ∷ 0x21 ∷ []) 2 5 (lit≤ tt)
    (part-cons first (0x21 ∷ []) 1 small (part-cons 0x21 [] 0 (lit< tt) part-none))

part-records : (first record_length capacity number : ℕ) → first < 256 → record_length ≤ 255 → capacity ≤ 254
    → number ≤ capacity → IsPart (first ∷ 0x21 ∷ in_two_bytes record_length ++ number ∷ []) 5
part-records first record_length capacity number small short most few =
    part-cons first (0x21 ∷ in_two_bytes record_length ++ number ∷ []) 4 small
    (part-cons 0x21 (in_two_bytes record_length ++ number ∷ []) 3 (lit< tt)
    (part-append (in_two_bytes record_length) (number ∷ []) 2 1 (part-two record_length (omega (arith, short)))
    (part-cons number [] 0 (omega (arith, most, few)) part-none)))

part-descriptor : (kind : Kind) → IsProperKind kind → IsPart (descriptor_value (kind_told kind)) 5
part-descriptor (dedicated name) proper = part-plain 0x78 (lit< tt)
part-descriptor (elementary short (transparent bytes)) proper = part-plain 0x41 (lit< tt)
part-descriptor (elementary short (linear record_length capacity records)) proper =
    part-records 0x42 record_length capacity (length records) (lit< tt) proper.1.record_length proper.1.capacity
    proper.1.number
part-descriptor (elementary short (cyclic record_length capacity records)) proper =
    part-records 0x46 record_length capacity (length records) (lit< tt) proper.1.record_length proper.1.capacity
    proper.1.number

-- 84, 88 and 80, and what follows them
part-short : (short : Option ℕ) → IsProperShort short → IsPart (short_value (short_told short)) 1
part-short None few = part-more [] 0 1 (lit≤ tt) part-none
part-short (Some n) few = let most = few.1 in part-cons (n * 8) [] 0 (omega (arith, most)) part-none

part-short_and_size : (short : Option ℕ) (size : ℕ) → IsProperShort short → size < 65536
    → (rest : List DataObject) (n : ℕ)
    → IsPart (objects_text rest) n
    → IsPart (objects_text (data_object 0x88 (short_value (short_told short)) ∷ data_object 0x80 (in_two_bytes size)
    ∷ rest)) (3 + (4 + n))
part-short_and_size short size few small rest n part =
    part-append (object_text (data_object 0x88 (short_value (short_told short)))) _ 3 (4 + n)
    (part-object 0x88 (short_value (short_told short)) 1 (lit< tt) (lit≤ tt) (part-short short few))
    (part-append (object_text (data_object 0x80 (in_two_bytes size))) (objects_text rest) 4 n
    (part-object 0x80 (in_two_bytes size) 2 (lit< tt) (lit≤ tt) (part-two size small)) part)

part-kind : (kind : Kind) → IsProperKind kind → (rest : List DataObject) (n : ℕ) → IsPart (objects_text rest) n
    → IsPart (objects_text (kind_objects (kind_told kind) ++ rest)) (18 + n)
part-kind (dedicated None) proper rest n part = part-more (objects_text rest) n (18 + n) (omega arith) part
part-kind (dedicated (Some name)) proper rest n part =
    part-append (object_text (data_object 0x84 name)) (objects_text rest) 18 n
    (part-object 0x84 name 16 (lit< tt) (lit≤ tt) (record { bytes = proper.bytes; size = proper.size })) part
part-kind (elementary short (transparent bytes)) proper rest n part =
    let most = proper.1.size in
    part-more _ (3 + (4 + n)) (18 + n) (omega arith)
    (part-short_and_size short (length bytes) proper.0 (omega (arith, most)) rest n part)
part-kind (elementary short (linear record_length capacity records)) proper rest n part =
    let most = proper.1.room in
    part-more _ (3 + (4 + n)) (18 + n) (omega arith)
    (part-short_and_size short (capacity * record_length) proper.0 (omega (arith, most)) rest n part)
part-kind (elementary short (cyclic record_length capacity records)) proper rest n part =
    let most = proper.1.room in
    part-more _ (3 + (4 + n)) (18 + n) (omega arith)
    (part-short_and_size short (capacity * record_length) proper.0 (omega (arith, most)) rest n part)

small-life : (life : LifeCycle) → life_cycle_byte life < 256
small-life Creation = lit< tt
small-life Initialisation = lit< tt
small-life Deactivated = lit< tt
small-life Activated = lit< tt
small-life Terminated = lit< tt

-- the whole
module _ (path : Path) (file : File) (small : identifier path < 65536) (proper : IsProperFile file) where
  part-end : IsPart (objects_text (data_object 0x8A (life_cycle_byte file.life ∷ []) ∷ data_object 0x8C file.rule ∷
      [])) 13
  part-end =
      part-append (object_text (data_object 0x8A (life_cycle_byte file.life ∷ []))) _ 3 10
      (part-object 0x8A (life_cycle_byte file.life ∷ []) 1 (lit< tt) (lit≤ tt)
      (part-cons (life_cycle_byte file.life) [] 0 (small-life file.life) part-none))
      (part-append (object_text (data_object 0x8C file.rule)) [] 10 0
      (part-object 0x8C file.rule 8 (lit< tt) (lit≤ tt) (record { bytes = proper.rule; size = proper.rule_size }))
      part-none)

  part-all : IsPart (objects_text (fcp_objects (parameters_of path file))) 42
  part-all =
      part-append (object_text (data_object 0x82 (descriptor_value (kind_told file.kind)))) _ 7 35
      (part-object 0x82 (descriptor_value (kind_told file.kind)) 5 (lit< tt) (lit≤ tt)
      (part-descriptor file.kind proper.kind))
      (part-append (object_text (data_object 0x83 (in_two_bytes (identifier path)))) _ 4 31
      (part-object 0x83 (in_two_bytes (identifier path)) 2 (lit< tt) (lit≤ tt) (part-two (identifier path) small))
      (part-kind file.kind proper.kind _ 13 part-end))

  pub text-template : IsText (template_of path file)
  unfolding template_of
  text-template =
      let objects = objects_text (fcp_objects (parameters_of path file)) in
      let most = part-all.size in
      let whole = part-cons 0x62 (length objects ∷ objects) 43 (lit< tt) (part-cons (length objects) objects 42 (omega
      (arith, most)) part-all) in
      let long = whole.size in
      record { bytes = whole.bytes; size = omega (arith, long) }
