-- READ, UPDATE, APPEND and SEARCH RECORD: proper cards stay proper, and answers are short.
use Rattle.std.specs.Prelude.{◌≡◌, ◌<◌, ◌≤◌, ◌-◌, ◌==◌, ◌&&◌, ℕ, Bool, true, false}
use Rattle.std.specs.Prelude.{not, nat_le, List, [], ◌∷◌, All, length, slice_set}
use Rattle.std.specs.Prelude.{Option, None, if◌then◌else◌}
use Rattle.std.proofs.Common.{arith, sym, refl, lit<, length-take, length-set, true≢false}
use Rattle.std.proofs.lemmas.Bool.{and_parts, eqb-true, leb-false, leb-true, not-false, or_left}
use Rattle.std.proofs.lemmas.List.{length-append}
use Rattle.std.proofs.lemmas.List.Elements.{All-nil, All-cons, All-push, All-take, All-set}
use Rattle.std.proofs.lemmas.List.Elements.{All-filter, All-from_get_or, All-weaker}
use Rattle.card_model.specs.declared.direction.Direction.{Direction}
use Rattle.card_model.specs.declared.direction.Direction.TheVariants.{Backward, Forward}
use Rattle.card_model.specs.declared.status.TheConstants.Sw.{DONE}
use Rattle.card_model.specs.declared.requests.Target.{Target}
use Rattle.card_model.specs.declared.requests.RecordPlace.{RecordPlace}
use Rattle.card_model.specs.declared.requests.RecordChoice.{RecordChoice}
use Rattle.card_model.specs.Requests.{AreBytes, IsStatusWord, read_record, update_record, append_record, search_record}
use Rattle.card_model.specs.RecordLists.{front, has_record, record_of, records_found, numbers_on, stands_in}
use Rattle.card_model.specs.laws.Finding.{filter-few, number_backward, number_forward, steps_few, steps_forward}
use Rattle.card_model.specs.Cards.{Card, File, Kind, Path, transparent, linear, cyclic, dedicated, elementary, file_at}
use Rattle.card_model.specs.Cards.{identifier, IsProper, IsProperKind, IsRecord}
use Rattle.card_model.specs.Guards.{target_kind, target_path}
use Rattle.card_model.specs.Behaviours.{refused_by}
use Rattle.card_model.specs.RecordCommands.{append_refusals, appended_records, capacity_of, has_records, is_cyclic}
use Rattle.card_model.specs.RecordCommands.{is_linear, is_oldest, matches, on_append_record, on_read_record}
use Rattle.card_model.specs.RecordCommands.{on_search_record, on_update_record, place_number, pointer_at}
use Rattle.card_model.specs.RecordCommands.{record_appended, record_length, record_read, record_updated, records_of}
use Rattle.card_model.specs.RecordCommands.{records_searched, replaces, search_refusals, search_status, target_number}
use Rattle.card_model.specs.RecordCommands.{update_record_refusals, updated_records, with_records, with_records_at}
use Rattle.card_model.specs.Sessions.{Session}
use Rattle.card_model.specs.laws.FileLaws.{short-given}
use Rattle.card_model.specs.laws.Lawful.{Lawful, lawful-unshown, missing-word, same-none, same-one}
use Rattle.card_model.specs.laws.ProperLaws.{IsFine, at-or, no_bytes, proper-file_at, proper-insert}
use Rattle.card_model.specs.laws.ProperLaws.{short-status, there-identifier, unrefused-each}
use Rattle.card_model.specs.laws.TextLaws.{IsText}

abbrev byte : ℕ → Type 0
byte number = number < 256

-- what a file holds of records; another file holds none
pub record HoldsRecords (kind : Kind) : Type 0 where
  pub each : All (IsRecord (record_length kind)) (records_of kind)
  pub record_length : record_length kind ≤ 255
  pub capacity : capacity_of kind ≤ 254
  pub number : length (records_of kind) ≤ capacity_of kind

no_records : (long : ℕ) → All (IsRecord long) []
no_records long = All-nil (IsRecord long)

holds-records : (kind : Kind) → IsProperKind kind → HoldsRecords kind
holds-records (dedicated name) proper = record {
  each = no_records 0;
  record_length = omega arith;
  capacity = omega arith;
  number = omega arith;
}
holds-records (elementary short (transparent bytes)) proper = record {
  each = no_records 0;
  record_length = omega arith;
  capacity = omega arith;
  number = omega arith;
}
holds-records (elementary short (linear long capacity records)) proper = record {
  each = proper.1.each;
  record_length = proper.1.record_length;
  capacity = proper.1.capacity;
  number = proper.1.number;
}
holds-records (elementary short (cyclic long capacity records)) proper = record {
  each = proper.1.each;
  record_length = proper.1.record_length;
  capacity = proper.1.capacity;
  number = proper.1.number;
}

-- records that are as well as those that a file had
pub record AreFine (kind : Kind) (records : List (List ℕ)) : Type 0 where
  pub each : All (IsRecord (record_length kind)) records
  pub number : length records ≤ capacity_of kind

proper-with_records : (kind : Kind) (records : List (List ℕ)) → IsProperKind kind → AreFine kind records
    → IsProperKind (with_records kind records)
proper-with_records (dedicated name) records proper fine = proper
proper-with_records (elementary short (transparent bytes)) records proper fine = proper
proper-with_records (elementary short (linear long capacity old)) records proper fine = (
  proper.0,
  record {
    each = fine.each;
    some = proper.1.some;
    record_length = proper.1.record_length;
    room = proper.1.room;
    least = proper.1.least;
    capacity = proper.1.capacity;
    number = fine.number;
  },
)
proper-with_records (elementary short (cyclic long capacity old)) records proper fine = (
  proper.0,
  record {
    each = fine.each;
    some = proper.1.some;
    record_length = proper.1.record_length;
    room = proper.1.room;
    least = proper.1.least;
    capacity = proper.1.capacity;
    number = fine.number;
  },
)

proper-with_records_at : (c : Card) (path : Path) (records : List (List ℕ)) → identifier path < 65536 → IsProper c
    → AreFine (file_at c.tree path).kind records → IsProper (with_records_at c path records)
proper-with_records_at c path records small proper fine =
    let was = proper-file_at c path proper in
    let file = file_at c.tree path in
    proper-insert c path (record file { kind = with_records file.kind records }) small proper
    (record { rule = was.rule; rule_size = was.rule_size; kind = proper-with_records file.kind records was.kind fine })

-- a record in front of the others, of which at most so many are left
pub fine-front : (kind : Kind) (n : ℕ) (new : List ℕ) (records : List (List ℕ)) → n ≤ capacity_of kind
    → IsRecord (record_length kind) new → All (IsRecord (record_length kind)) records
    → AreFine kind (front n new records)
fine-front kind n new records few fine all =
    let some = length-take n (new ∷ records) in
    record {
      each = All-take (IsRecord (record_length kind)) n (new ∷ records)
          (All-cons (IsRecord (record_length kind)) new records fine all);
      number = omega (arith, some, few);
    }

-- one of them is another
fine-updated : (kind : Kind) (test : Bool) (i : ℕ) (new : List ℕ) → HoldsRecords kind
    → IsRecord (record_length kind) new
    → AreFine kind (if test then front (length (records_of kind)) new (records_of kind) else
    slice_set (records_of kind) i new)
fine-updated kind true i new holds fine =
    fine-front kind (length (records_of kind)) new (records_of kind) holds.number fine holds.each
fine-updated kind false i new holds fine =
    let long = length-set (records_of kind) i new in
    let few = holds.number in
    record {
      each = All-set (IsRecord (record_length kind)) (records_of kind) i new fine holds.each;
      number = omega (arith, long, few);
    }

-- one more, where a linear file has room
fine-appended : (kind : Kind) (new : List ℕ) → HoldsRecords kind → has_records kind ≡ true
    → (is_linear kind && nat_le (capacity_of kind) (length (records_of kind))) ≡ false
    → IsRecord (record_length kind) new → AreFine kind (appended_records kind new)
fine-appended (dedicated name) new holds some room fine = absurd (true≢false (sym some))
fine-appended (elementary short (transparent bytes)) new holds some room fine = absurd (true≢false (sym some))
fine-appended (elementary short (linear long capacity records)) new holds some room fine =
    let few = leb-false capacity (length records) room in
    let more = length-append records (new ∷ []) in
    record { each = All-push (IsRecord long) records new holds.each fine; number = omega (arith, few, more) }
fine-appended (elementary short (cyclic long capacity records)) new holds some room fine =
    let kind = elementary short (cyclic long capacity records) in
    let same : capacity ≤ capacity = omega arith in
    fine-front kind capacity new records same fine holds.each

-- the numbers of records that are found: at most 254, each at most 254
bytes-numbers : (direction : Direction) (first last : ℕ) → first ≤ last → last ≤ 254
    → AreBytes (numbers_on direction first last)
bytes-numbers Forward first last below most =
    All-from_get_or byte (numbers_on Forward first last) 0 (λ i lt.
    let long = steps_forward Forward first last refl in
    let number = number_forward Forward first last i refl lt in omega (arith, lt, long, number, below, most))
bytes-numbers Backward first last below most =
    All-from_get_or byte (numbers_on Backward first last) 0 (λ i lt.
    let number = number_backward Backward first last i refl lt in omega (arith, number, below, most))

text-found : (direction : Direction) (first : ℕ) (text : List ℕ) (records : List (List ℕ))
    → has_record records first ≡ true → length records ≤ 254 → IsText (records_found direction first text records)
text-found direction first text records there most =
    let numbers = numbers_on direction first (length records) in
    let test : ℕ → Bool = λ number. stands_in text (record_of records number) in
    let parts = and_parts (nat_le 1 first) (nat_le first (length records)) there in
    let some = leb-true 1 first parts.0 in
    let below = leb-true first (length records) parts.1 in
    let steps = steps_few direction first (length records) some below in
    let few = filter-few test numbers in
    record {
      bytes = All-filter test byte numbers (bytes-numbers direction first (length records) below most);
      size = omega (arith, steps, few, most);
    }

search-word : (numbers : List ℕ) → IsStatusWord (search_status numbers)
search-word [] = lit< tt
search-word (number ∷ numbers) = lit< tt

-- bytes of the length of a record
record-new : (kind : Kind) (bytes : List ℕ) → AreBytes bytes
    → not (length bytes == record_length kind) ≡ false → IsRecord (record_length kind) bytes
record-new kind bytes all is = record {
  bytes = all;
  size = eqb-true (length bytes) (record_length kind) (not-false (length bytes == record_length kind) is);
}

-- a record fits an answer
text-record : (kind : Kind) (bytes : List ℕ) → HoldsRecords kind → IsRecord (record_length kind) bytes → IsText bytes
text-record kind bytes holds proper =
    let long = proper.size in
    let short = holds.record_length in
    record { bytes = proper.bytes; size = omega (arith, long, short) }

-- what UPDATE RECORD is for has records
replaced-records : (choice : RecordChoice) (kind : Kind) → replaces choice kind ≡ true → has_records kind ≡ true
replaced-records choice kind = among (is_oldest choice)
  where
    among : (oldest : Bool) → (if oldest then has_records kind else is_linear kind) ≡ true → has_records kind ≡ true
    among true is = is
    among false is = or_left (is_linear kind) (is_cyclic kind) is

module _ (c : Card) (s : Session) (proper : IsProper c) (target : Target) where
  pub holds : HoldsRecords (target_kind c s target)
  holds = holds-records (target_kind c s target) (proper-file_at c (target_path c s target) proper).kind

  -- a file of records that is named, with other records
  pub proper-target : (records : List (List ℕ)) → has_records (target_kind c s target) ≡ true
      → AreFine (target_kind c s target) records → IsProper (with_records_at c (target_path c s target) records)
  proper-target records some fine =
      proper-with_records_at c (target_path c s target) records
      (there-identifier c (target_path c s target) (λ (file : File). has_records file.kind)
      proper refl some) proper fine

  pub fine-record_read : (choice : RecordChoice) → IsFine (record_read c s target choice)
  fine-record_read choice =
      let kind = target_kind c s target in
      let none : IsText [] = record { bytes = no_bytes; size = omega arith } in
      let texts = All-weaker (IsRecord (record_length kind)) IsText
      (λ (bytes : List ℕ) proper_record. text-record kind bytes holds proper_record) (records_of kind) holds.each in
      let text = at-or IsText (records_of kind) (target_number c s target choice - 1) [] none texts in
      record {
        card = proper;
        response = record { size = text.size; bytes = text.bytes; status = lit< tt };
      }

  pub fine-record_updated : (choice : RecordChoice) (bytes : List ℕ) → AreBytes bytes
      → refused_by (update_record_refusals c s target choice bytes) ≡ None
      → IsFine (record_updated c s target choice bytes)
  fine-record_updated choice bytes all unrefused =
      let kind = target_kind c s target in
      let number = target_number c s target choice in
      -- it is named; it isn't barred; its structure; its rule; the record is there; the length
      let known = unrefused-each (update_record_refusals c s target choice bytes) unrefused in
      let some = replaced-records choice kind (not-false (replaces choice kind) known.1.1.0) in
      record {
        card = proper-target (updated_records kind number bytes) some
            (fine-updated kind (is_cyclic kind) (number - 1) bytes holds
            (record-new kind bytes all known.1.1.1.1.1.0));
        response = short-status DONE (lit< tt);
      }

  pub fine-record_appended : (bytes : List ℕ) → AreBytes bytes → refused_by (append_refusals c s target bytes) ≡ None
      → IsFine (record_appended c s target bytes)
  fine-record_appended bytes all unrefused =
      let kind = target_kind c s target in
      -- it is named; it isn't barred; its structure; its rule; there is room; the length
      let known = unrefused-each (append_refusals c s target bytes) unrefused in
      let some = not-false (has_records kind) known.1.1.0 in
      record {
        card = proper-target (appended_records kind bytes) some
            (fine-appended kind bytes holds some known.1.1.1.1.0 (record-new kind bytes all known.1.1.1.1.1.0));
        response = short-status DONE (lit< tt);
      }

  pub fine-records_searched : (first : RecordPlace) (direction : Direction) (text : List ℕ) (expected : Option ℕ)
      → refused_by (search_refusals c s target first direction text expected) ≡ None
      → IsFine (records_searched c s target first direction text expected)
  fine-records_searched first direction text expected unrefused =
      let records = records_of (target_kind c s target) in
      let number = place_number first (pointer_at s target) in
      -- it is named; it isn't barred; its structure; its rule; the record is there
      let known = unrefused-each (search_refusals c s target first direction text expected) unrefused in
      let there = not-false (has_record records number) known.1.1.1.1.0 in
      let few = holds.number in
      let most = holds.capacity in
      let numbers = matches c s target first direction text in
      let given = short-given expected numbers
      (text-found direction number text records there (omega (arith, few, most))) in
      record {
        card = proper;
        response = record { size = given.size; bytes = given.bytes; status = search-word numbers };
      }

-- the laws of the four
module _ (target : Target) where
  pub lawful-read : (choice : RecordChoice) (expected : ℕ) → Lawful (read_record target choice expected)
  lawful-read choice expected =
      lawful-unshown (read_record target choice expected) (on_read_record target choice expected) refl
      (λ c s. (missing-word target, (lit< tt, (lit< tt, (lit< tt, (lit< tt, (omega arith, tt)))))))
      (λ c s proper small unrefused. fine-record_read c s proper target choice)
      (λ c s. refl) (λ c s. same-none c)

  pub lawful-update : (choice : RecordChoice) (bytes : List ℕ) → Lawful (update_record target choice bytes)
  lawful-update choice bytes =
      lawful-unshown (update_record target choice bytes) (on_update_record target choice bytes) refl
      (λ c s. (missing-word target, (lit< tt, (lit< tt, (lit< tt, (lit< tt, (lit< tt, tt)))))))
      (λ c s proper all unrefused. fine-record_updated c s proper target choice bytes all unrefused) (λ c s. refl)
      (λ c s. same-one c _ refl refl)

  pub lawful-append : (bytes : List ℕ) → Lawful (append_record target bytes)
  lawful-append bytes =
      lawful-unshown (append_record target bytes) (on_append_record target bytes) refl
      (λ c s. (missing-word target, (lit< tt, (lit< tt, (lit< tt, (lit< tt, (lit< tt, tt)))))))
      (λ c s proper all unrefused. fine-record_appended c s proper target bytes all unrefused)
      (λ c s. refl) (λ c s. same-one c _ refl refl)

  pub lawful-search : (first : RecordPlace) (direction : Direction) (text : List ℕ) (expected : Option ℕ)
      → Lawful (search_record target first direction text expected)
  lawful-search first direction text expected =
      lawful-unshown (search_record target first direction text expected)
      (on_search_record target first direction text expected) refl
      (λ c s. (missing-word target, (lit< tt, (lit< tt, (lit< tt, (lit< tt, (omega arith, tt)))))))
      (λ c s proper all unrefused. fine-records_searched c s proper target first direction text expected unrefused)
      (λ c s. refl) (λ c s. same-none c)
