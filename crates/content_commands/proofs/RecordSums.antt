-- INCREASE, by the entry of the current cyclic file.
use Rattle.std.proofs.Common.{◌≡◌, ◌||◌, ◌+◌, ◌^◌, ◌≤◌, ℕ, Bool, true, false, not, nat_le, nat_lt}
use Rattle.std.proofs.Common.{List, [], ◌∷◌, ◌++◌, length, Option, Some, None, if◌then◌else◌, refl, ◌∙◌, ap}
use Rattle.std.proofs.lemmas.Bool.{ltb-false}
use Rattle.nvm_board.specs.Facts.{IsMemory}
use Rattle.card_model.specs.declared.access_mode.AccessBit.TheVariants.{Update}
use Rattle.card_model.specs.declared.status.Sw.{Sw}
use Rattle.card_model.specs.declared.status.TheConstants.Sw.{DONE, MAXIMUM_REACHED, RECORD_NOT_FOUND, WRONG_LENGTH}
use Rattle.card_model.specs.Requests.{increase}
use Rattle.card_model.specs.declared.requests.Target.TheVariants as target
use Rattle.ef_body.specs.Bodies.{cyclic_body_records}
use Rattle.card_model.specs.RecordLists.{spelled, front, has_record, raised_number}
use Rattle.ef_contents.specs.Refusals.{unraised}
use Rattle.file_tree.specs.Table.{table}
use Rattle.command_base.specs.declared.current.Current.{Current}
use Rattle.command_base.specs.declared.target_file.Need.{Need}
use Rattle.content_commands.specs.declared.record_file.RecordFile.{RecordFile}
use Rattle.card_model.specs.Cards.{Card, Kind}
use Rattle.card_model.specs.Guards.{file_refusals, target_kind, target_path, asks_less, given, length_refusal}
use Rattle.card_model.specs.Guards.{right_length}
use Rattle.card_model.specs.RecordCommands.{increased_data, is_cyclic, no_record, pointing, record_length, records_of}
use Rattle.card_model.specs.RecordCommands.{with_records_at}
use Rattle.card_model.specs.Behaviours.{refused_by, Refusal, outcome}
use Rattle.card_model.specs.Sessions.{Session}
use Rattle.card_model.specs.Steps.{commits, effect, refusals_of}
use Rattle.command_base.specs.Standing.{card_of, IsCard}
use Rattle.command_base.specs.Working.{session_of}
use Rattle.content_commands.specs.RecordParts.{IsRecordFile}
use Rattle.card_model.specs.laws.Guarding.{guarded-free, guarded-refused}
use Rattle.content_commands.proofs.RecordBodies.{Agree}
use Rattle.content_commands.proofs.RecordSteps.{agree}

-- more bytes than a record has, or an answer of more than 256 bytes
abbrev pub too_long : ℕ → ℕ → Bool
too_long long sent = nat_lt long sent || nat_lt 256 (long + sent)

-- bytes that aren't too many leave room for an answer
or-right : (a b : Bool) → (a || b) ≡ false → b ≡ false
or-right true b is = cc
or-right false b is = is

or-left : (a b : Bool) → (a || b) ≡ false → a ≡ false
or-left true b is = is
or-left false b is = refl

pub short-sent : (long sent : ℕ) → too_long long sent ≡ false → sent ≤ long
short-sent long sent is = ltb-false long sent (or-left (nat_lt long sent) (nat_lt 256 (long + sent)) is)

pub short-fits : (long sent : ℕ) → too_long long sent ≡ false → long + sent ≤ 256
short-fits long sent is = ltb-false 256 (long + sent) (or-right (nat_lt long sent) (nat_lt 256 (long + sent)) is)

-- what refuses besides the file
abbrev pub sum_limits : Card → Session → List ℕ → Option ℕ → List Refusal
sum_limits c s sent expected =
    let kind = target_kind c s target.Current in
    let long = record_length kind in
    record { applies = too_long long (length sent); status = WRONG_LENGTH }
    ∷ no_record c s target.Current 1
    ∷ record { applies = nat_le (256 ^ long) (raised_number (records_of kind) sent); status = MAXIMUM_REACHED }
    ∷ length_refusal expected (increased_data c s sent) ∷ []

-- what the file refuses
pub increase-barred : (c : Card) (s : Session) (status : Sw) (sent : List ℕ) (expected : Option ℕ)
    → refused_by (file_refusals c s target.Current is_cyclic Update) ≡ Some status
    → refused_by (refusals_of c s (increase sent expected)) ≡ Some status
unfolding refusals_of
increase-barred c s status sent expected is =
    guarded-refused c s target.Current is_cyclic Update status is (sum_limits c s sent expected)

module _ (m : List ℕ) (sized : IsMemory m) (words : IsCard m) (x : Current) (need : Need) (file : RecordFile)
    (found : IsRecordFile m x target.Current need file) (sent : List ℕ) (expected : Option ℕ)
    (unrefused : refused_by (file_refusals (card_of m) (session_of (table m) x) target.Current is_cyclic Update)
    ≡ None) where
  abbrev c : Card
  c = card_of m

  abbrev s : Session
  s = session_of (table m) x

  abbrev kind : Kind
  kind = target_kind c s target.Current

  abbrev records : List (List ℕ)
  records = cyclic_body_records m file.ring

  abbrev pub new_record : List ℕ
  new_record = spelled file.ring.record_length (raised_number records sent)

  abbrev is_long : Bool
  is_long = too_long file.ring.record_length (length sent)

  agrees : Agree m kind file
  agrees = agree m sized words x target.Current need file found

  abbrev verdict : Bool → Bool → Bool → List ℕ → Option Sw
  verdict wrong has over answer =
      if wrong then Some WRONG_LENGTH else
      if not has then Some RECORD_NOT_FOUND else
      if over then Some MAXIMUM_REACHED else
      if asks_less expected answer then Some (right_length answer) else None

  -- what refuses the sum refuses the command
  by-refusal : (has over : Bool) (status : Sw) (answer : List ℕ)
      → (if has then (if over then Some MAXIMUM_REACHED else None) else Some RECORD_NOT_FOUND) ≡ Some status
      → verdict false has over answer ≡ Some status
  by-refusal true true status answer is = is
  by-refusal true false status answer is = cc
  by-refusal false over status answer is = is

  by-none : (has over : Bool) (answer : List ℕ)
      → (if has then (if over then Some MAXIMUM_REACHED else None) else Some RECORD_NOT_FOUND) ≡ None
      → verdict false has over answer ≡ (if asks_less expected answer then Some (right_length answer) else None)
  by-none true true answer is = cc
  by-none true false answer is = refl
  by-none false over answer is = cc

  abbrev has_one : Bool
  has_one = has_record records 1

  abbrev is_over : Bool
  is_over = nat_le (256 ^ file.ring.record_length) (raised_number records sent)

  increase-is : refused_by (refusals_of c s (increase sent expected))
      ≡ verdict is_long has_one is_over (new_record ++ sent)
  unfolding refusals_of
  increase-is =
      let long = agrees.length_is in
      let rs = agrees.records in
      guarded-free c s target.Current is_cyclic Update unrefused (sum_limits c s sent expected)
      ∙ (λ i. verdict (too_long (long i) (length sent)) (has_record (rs i) 1)
      (nat_le (256 ^ long i) (raised_number (rs i) sent)) (spelled (long i) (raised_number (rs i) sent) ++ sent))

  pub increase-long : is_long ≡ true → refused_by (refusals_of c s (increase sent expected)) ≡ Some WRONG_LENGTH
  increase-long long = increase-is ∙ ap (λ (b : Bool). verdict b has_one is_over (new_record ++ sent)) long

  module _ (short : is_long ≡ false) where
    short-is : refused_by (refusals_of c s (increase sent expected))
        ≡ verdict false has_one is_over (new_record ++ sent)
    short-is = increase-is ∙ ap (λ (b : Bool). verdict b has_one is_over (new_record ++ sent)) short

    pub increase-unraised : (status : Sw) → unraised file.ring.record_length records sent ≡ Some status
        → refused_by (refusals_of c s (increase sent expected)) ≡ Some status
    increase-unraised status is = short-is ∙ by-refusal has_one is_over status (new_record ++ sent) is

    module _ (free : unraised file.ring.record_length records sent ≡ None) where
      free-is : refused_by (refusals_of c s (increase sent expected))
          ≡ (if asks_less expected (new_record ++ sent) then Some (right_length (new_record ++ sent)) else None)
      free-is = short-is ∙ by-none has_one is_over (new_record ++ sent) free

      pub increase-less : asks_less expected (new_record ++ sent) ≡ true
          → refused_by (refusals_of c s (increase sent expected)) ≡ Some (right_length (new_record ++ sent))
      increase-less less =
          free-is ∙ ap (λ (b : Bool). if b then Some (right_length (new_record ++ sent)) else None) less

      pub increase-free : asks_less expected (new_record ++ sent) ≡ false
          → refused_by (refusals_of c s (increase sent expected)) ≡ None
      increase-free enough =
          free-is ∙ ap (λ (b : Bool). if b then Some (right_length (new_record ++ sent)) else None) enough

  pub increase-commits : commits c s (increase sent expected)
      ≡ with_records_at c (target_path c s target.Current) (front (length records) new_record records) ∷ []
  unfolding commits
  increase-commits =
      let long = agrees.length_is in
      let rs = agrees.records in
      λ i. with_records_at c (target_path c s target.Current)
      (front (length (rs i)) (spelled (long i) (raised_number (rs i) sent)) (rs i)) ∷ []

  pub increase-effect : effect c s (increase sent expected)
      ≡ outcome (with_records_at c (target_path c s target.Current) (front (length records) new_record records))
      (pointing s target.Current (target_path c s target.Current) (Some 1)) (given expected (new_record ++ sent)) DONE
  unfolding effect
  increase-effect =
      let long = agrees.length_is in
      let rs = agrees.records in
      λ i. outcome (with_records_at c (target_path c s target.Current) (front (length (rs i)) (spelled (long i)
      (raised_number (rs i) sent)) (rs i))) (pointing s target.Current (target_path c s target.Current) (Some 1))
      (given expected (spelled (long i) (raised_number (rs i) sent) ++ sent)) DONE
