-- INCREASE: proper cards stay proper, and answers are short.
use Rattle.std.specs.Prelude.{◌≡◌, ◌<◌, ◌≤◌, ◌+◌, ◌/◌, ◌%◌, ◌^◌, ℕ, zero, suc}
use Rattle.std.specs.Prelude.{nat_lt, List, length}
use Rattle.std.specs.Prelude.{Option, None}
use Rattle.std.proofs.Common.{arith, refl, lit<}
use Rattle.std.proofs.lemmas.Bool.{ltb-false, not-false, or_parts, or_right}
use Rattle.std.proofs.lemmas.List.{length-append}
use Rattle.std.proofs.lemmas.List.Elements.{All-cons, All-append}
use Rattle.card_model.specs.declared.requests.Target.TheVariants.{Current}
use Rattle.card_model.specs.Requests.{AreBytes, increase}
use Rattle.card_model.specs.RecordLists.{spelled, front, raised_number}
use Rattle.card_model.specs.laws.Spelling.{length-spelled}
use Rattle.card_model.specs.Cards.{Card, IsProper, IsRecord}
use Rattle.card_model.specs.RecordCommands.{increase_refusals, increased, increased_data, increased_kind, on_increase}
use Rattle.card_model.specs.RecordCommands.{sum_record, is_cyclic, is_linear, record_length, records_of}
use Rattle.card_model.specs.Behaviours.{refused_by}
use Rattle.card_model.specs.Sessions.{Session}
use Rattle.card_model.specs.laws.FileLaws.{short-given}
use Rattle.card_model.specs.laws.Lawful.{Lawful, lawful-unshown, missing-word, same-one}
use Rattle.card_model.specs.laws.ProperLaws.{IsFine, no_bytes}
use Rattle.card_model.specs.laws.ProperLaws.{unrefused-each}
use Rattle.card_model.specs.laws.TextLaws.{IsText}
use Rattle.card_model.specs.laws.RecordLaws.{HoldsRecords, fine-front, holds, proper-target}

abbrev byte : ℕ → Type 0
byte number = number < 256

-- the bytes that spell a number
bytes-spelled : (size n : ℕ) → AreBytes (spelled size n)
unfolding spelled
bytes-spelled zero n = no_bytes
bytes-spelled (suc size) n =
    let small : n / 256 ^ size % 256 < 256 = omega arith in
    All-cons byte (n / 256 ^ size % 256) (spelled size (n % 256 ^ size)) small (bytes-spelled size (n % 256 ^ size))

module _ (c : Card) (s : Session) (proper : IsProper c) (sent : List ℕ) (all : AreBytes sent) where
  current_records : HoldsRecords (increased_kind c s)
  current_records = holds c s proper Current

  sum_bytes : AreBytes (sum_record c s sent)
  sum_bytes =
      let kind = increased_kind c s in bytes-spelled (record_length kind) (raised_number (records_of kind) sent)

  sum_length : length (sum_record c s sent) ≡ record_length (increased_kind c s)
  sum_length =
      let kind = increased_kind c s in length-spelled (record_length kind) (raised_number (records_of kind) sent)

  fine-sum : IsRecord (record_length (increased_kind c s)) (sum_record c s sent)
  fine-sum = record { bytes = sum_bytes; size = sum_length }

  -- the new record and what was sent
  text-increased : record_length (increased_kind c s) + length sent ≤ 256 → IsText (increased_data c s sent)
  text-increased few =
      let sum = sum_record c s sent in
      let long = length-append sum sent in
      let front = sum_length in
      record { bytes = All-append byte sum sent sum_bytes all; size = omega (arith, long, front, few) }

  pub fine-increased : (expected : Option ℕ) → refused_by (increase_refusals c s sent expected) ≡ None
      → IsFine (increased c s sent expected)
  fine-increased expected unrefused =
      let kind = increased_kind c s in
      let records = records_of kind in
      let long = record_length kind in
      -- it is named; it isn't barred; its structure; its rule; the lengths
      let known = unrefused-each (increase_refusals c s sent expected) unrefused in
      let of_cycle = not-false (is_cyclic kind) known.1.1.0 in
      let few = ltb-false 256 (long + length sent)
      (or_parts (nat_lt long (length sent)) (nat_lt 256 (long + length sent)) known.1.1.1.1.0).1 in
      let text = short-given expected (increased_data c s sent) (text-increased few) in
      record {
        card = proper-target c s proper Current (front (length records) (sum_record c s sent) records)
            (or_right (is_linear kind) (is_cyclic kind) of_cycle)
            (fine-front kind (length records) (sum_record c s sent) records current_records.number fine-sum
            current_records.each);
        response = record { size = text.size; bytes = text.bytes; status = lit< tt };
      }

pub lawful-increase : (sent : List ℕ) (expected : Option ℕ) → Lawful (increase sent expected)
lawful-increase sent expected =
    lawful-unshown (increase sent expected) (on_increase sent expected) refl
    (λ c s. (missing-word Current, (lit< tt, (lit< tt, (lit< tt, (lit< tt, (lit< tt, (lit< tt, (omega arith, tt)))))))))
    (λ c s proper all unrefused. fine-increased c s proper sent all.0 expected unrefused)
    (λ c s. refl) (λ c s. same-one c _ refl refl)
