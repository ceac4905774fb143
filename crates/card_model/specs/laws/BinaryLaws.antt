-- READ BINARY and UPDATE BINARY: proper cards stay proper, and answers are short.
use Rattle.std.specs.Prelude.{◌≡◌, ◌<◌, ◌≤◌, ◌+◌, ◌==◌, ℕ, Bool, true, false, nat_lt, List}
use Rattle.std.specs.Prelude.{[], ◌++◌, length, take, drop, None, if◌then◌else◌}
use Rattle.std.proofs.Common.{arith, refl, sym, lit<, length-take, length-drop, true≢false}
use Rattle.std.proofs.lemmas.Bool.{ltb-true, ltb-false, not-false}
use Rattle.std.proofs.lemmas.List.{length-append}
use Rattle.std.proofs.lemmas.List.Elements.{All-append, All-take, All-drop}
use Rattle.card_model.specs.declared.status.TheConstants.Sw.{DONE, END_REACHED}
use Rattle.card_model.specs.declared.requests.Target.{Target}
use Rattle.card_model.specs.Requests.{AreBytes, read_binary, update_binary}
use Rattle.card_model.specs.BinaryCommands.{binary_read, binary_updated, on_read_binary, on_update_binary}
use Rattle.card_model.specs.BinaryCommands.{read_response, target_bytes, update_refusals}
use Rattle.card_model.specs.Cards.{Card, File, Kind, Path, transparent, linear, cyclic, dedicated, elementary}
use Rattle.card_model.specs.Cards.{file_bytes}
use Rattle.card_model.specs.Cards.{file_at, identifier, is_transparent, overwrite, with_bytes, with_content, IsContent}
use Rattle.card_model.specs.Cards.{IsProper, IsProperKind}
use Rattle.card_model.specs.Guards.{target_kind, target_path}
use Rattle.card_model.specs.Behaviours.{refused_by}
use Rattle.card_model.specs.Sessions.{Session}
use Rattle.card_model.specs.laws.Lawful.{Lawful, lawful-unshown, missing-word, same-none, same-one}
use Rattle.card_model.specs.laws.ProperLaws.{IsFine, IsShort, either-if, no_bytes, proper-file_at, proper-insert}
use Rattle.card_model.specs.laws.ProperLaws.{short-status, there-identifier, unrefused-each}

-- the bytes that a file holds; another file holds none
proper-bytes : (kind : Kind) → IsProperKind kind → AreBytes (file_bytes kind)
proper-bytes (dedicated name) proper = no_bytes
proper-bytes (elementary short (transparent bytes)) proper = proper.1.bytes
proper-bytes (elementary short (linear size capacity records)) proper = no_bytes
proper-bytes (elementary short (cyclic size capacity records)) proper = no_bytes

proper-content : (kind : Kind) → is_transparent kind ≡ true → IsProperKind kind → IsContent (file_bytes kind)
proper-content (dedicated name) of_bytes proper = absurd (true≢false (sym of_bytes))
proper-content (elementary short (transparent bytes)) of_bytes proper = proper.1
proper-content (elementary short (linear size capacity records)) of_bytes proper = absurd (true≢false (sym of_bytes))
proper-content (elementary short (cyclic size capacity records)) of_bytes proper = absurd (true≢false (sym of_bytes))

proper-with_bytes : (kind : Kind) (bytes : List ℕ) → IsProperKind kind → IsContent bytes
    → IsProperKind (with_bytes kind bytes)
proper-with_bytes (dedicated name) bytes proper all = proper
proper-with_bytes (elementary short (transparent old)) bytes proper all = (proper.0, all)
proper-with_bytes (elementary short (linear size capacity records)) bytes proper all = proper
proper-with_bytes (elementary short (cyclic size capacity records)) bytes proper all = proper

proper-overwrite : (bytes : List ℕ) (offset : ℕ) (new : List ℕ) → offset + length new ≤ length bytes → IsContent bytes
    → AreBytes new → IsContent (overwrite bytes offset new)
proper-overwrite bytes offset new within content all_new =
    let byte : ℕ → Type 0 = λ number. number < 256 in
    let front = length-take offset bytes in
    let back = length-drop (offset + length new) bytes in
    let behind = length-append new (drop (offset + length new) bytes) in
    let whole = length-append (take offset bytes) (new ++ drop (offset + length new) bytes) in
    let least = content.some in
    let most = content.size in
    record {
      bytes = All-append byte (take offset bytes) (new ++ drop (offset + length new) bytes)
          (All-take byte offset bytes content.bytes)
          (All-append byte new (drop (offset + length new) bytes) all_new
          (All-drop byte (offset + length new) bytes content.bytes));
      some = omega (arith, front, back, behind, whole, least, within);
      size = omega (arith, front, back, behind, whole, most, within);
    }

proper-with_content : (c : Card) (path : Path) (bytes : List ℕ) → identifier path < 65536 → IsProper c
    → IsContent bytes → IsProper (with_content c path bytes)
proper-with_content c path bytes small proper all =
    let was = proper-file_at c path proper in
    let file = file_at c.tree path in
    proper-insert c path (record file { kind = with_bytes file.kind bytes }) small proper
    (record { rule = was.rule; rule_size = was.rule_size; kind = proper-with_bytes file.kind bytes was.kind all })

-- READ BINARY gives at most 256 bytes, all of the file
short-within : (test : Bool) (rest : List ℕ) (expected : ℕ) → nat_lt (length rest) expected ≡ test → expected < 256
    → AreBytes rest
    → IsShort (if test then record { text = rest; status = END_REACHED } else record {
      text = take expected rest;
      status = DONE;
    })
short-within true rest expected is small all =
    let few = ltb-true (length rest) expected is in
    record { size = omega (arith, few, small); bytes = all; status = lit< tt }
short-within false rest expected is small all =
    let some = length-take expected rest in
    record {
      size = omega (arith, some, small);
      bytes = All-take (λ number. number < 256) expected rest all;
      status = lit< tt;
    }

short-read : (rest : List ℕ) (expected : ℕ) → expected < 256 → AreBytes rest → IsShort (read_response rest expected)
short-read rest expected small all =
    either-if IsShort (expected == 0) (record { text = take 256 rest; status = DONE }) _
    (let most = length-take 256 rest in
    record { size = omega (arith, most); bytes = All-take (λ number. number < 256) 256 rest all; status = lit< tt })
    (short-within (nat_lt (length rest) expected) rest expected refl small all)

module _ (c : Card) (s : Session) (proper : IsProper c) (target : Target) (offset : ℕ) where
  proper-target : IsProperKind (target_kind c s target)
  proper-target = (proper-file_at c (target_path c s target) proper).kind

  pub fine-read : (expected : ℕ) → expected < 256 → IsFine (binary_read c s target offset expected)
  fine-read expected small = record {
    card = proper;
    response = short-read (drop offset (target_bytes c s target)) expected small
        (All-drop (λ number. number < 256) offset (target_bytes c s target)
        (proper-bytes (target_kind c s target) proper-target));
  }

  pub fine-update : (bytes : List ℕ) → AreBytes bytes → refused_by (update_refusals c s target offset bytes) ≡ None
      → IsFine (binary_updated c s target offset bytes)
  fine-update bytes all unrefused =
      let path = target_path c s target in
      -- the file is named; it isn't barred; it is transparent; it may be updated; the offset is within; so is the end
      let known = unrefused-each (update_refusals c s target offset bytes) unrefused in
      let of_bytes = not-false (is_transparent (target_kind c s target)) known.1.1.0 in
      let within = ltb-false (length (target_bytes c s target)) (offset + length bytes) known.1.1.1.1.1.0 in
      record {
        card = proper-with_content c path (overwrite (target_bytes c s target) offset bytes)
            (there-identifier c path (λ (file : File). is_transparent file.kind) proper refl of_bytes) proper
            (proper-overwrite (target_bytes c s target) offset bytes within
            (proper-content (target_kind c s target) of_bytes proper-target) all);
        response = short-status DONE (lit< tt);
      }

-- the laws of both
module _ (target : Target) (offset : ℕ) where
  pub lawful-read : (expected : ℕ) → Lawful (read_binary target offset expected)
  lawful-read expected =
      lawful-unshown (read_binary target offset expected) (on_read_binary target offset expected) refl
      (λ c s. (missing-word target, (lit< tt, (lit< tt, (lit< tt, (lit< tt, tt))))))
      (λ c s proper small unrefused. fine-read c s proper target offset expected small)
      (λ c s. refl) (λ c s. same-none c)

  pub lawful-update : (bytes : List ℕ) → Lawful (update_binary target offset bytes)
  lawful-update bytes =
      lawful-unshown (update_binary target offset bytes) (on_update_binary target offset bytes) refl
      (λ c s. (missing-word target, (lit< tt, (lit< tt, (lit< tt, (lit< tt, (lit< tt, tt)))))))
      (λ c s proper all unrefused. fine-update c s proper target offset bytes all unrefused) (λ c s. refl)
      (λ c s. same-one c _ refl refl)
