-- What READ BINARY and UPDATE BINARY do, on any card.
use Rattle.std.proofs.Common.{◌≡◌, ℕ, List, [], ◌∷◌, drop, Some, None, ◌∙◌, ap}
use Rattle.card_model.specs.declared.access_mode.AccessBit.TheVariants.{Read, Update}
use Rattle.card_model.specs.declared.status.Sw.{Sw}
use Rattle.card_model.specs.declared.status.TheConstants.Sw.{DONE}
use Rattle.card_model.specs.declared.requests.Target.{Target}
use Rattle.card_model.specs.Requests.{read_binary, update_binary}
use Rattle.ef_contents.specs.Refusals.{overlong, past_end}
use Rattle.std.specs.FinMap.{get}
use Rattle.card_model.specs.BinaryCommands.{is_past, is_too_long, read_response, updated_card}
use Rattle.card_model.specs.Cards.{Card, File, Path, file_bytes, is_transparent, overwrite, with_content}
use Rattle.card_model.specs.Guards.{file_refusals, naming, target_kind, target_path}
use Rattle.card_model.specs.Behaviours.{refused, refused_by, only_status}
use Rattle.card_model.specs.Reaching.{target_of}
use Rattle.card_model.specs.Sessions.{Session}
use Rattle.card_model.specs.Steps.{commits, refusals_of, effect, served}
use Rattle.card_model.specs.laws.Guarding.{guarded-free, guarded-refused, named-kind, named-path, served-done}
use Rattle.card_model.specs.laws.Guarding.{served-refused}

module _ (c : Card) (s : Session) (target : Target) (offset : ℕ) where
  -- a refusal of READ BINARY by its file
  pub read-refused : (expected : ℕ) (status : Sw) → refused_by (file_refusals c s target is_transparent Read)
      ≡ Some status → served c s (read_binary target offset expected) ≡ refused c s status
  unfolding refusals_of
  read-refused expected status is = served-refused c s (read_binary target offset expected) status
      (guarded-refused c s target is_transparent Read status is (is_past c s target offset ∷ []))

  -- and of UPDATE BINARY
  pub update-refused : (bytes : List ℕ) (status : Sw)
      → refused_by (file_refusals c s target is_transparent Update) ≡ Some status
      → served c s (update_binary target offset bytes) ≡ refused c s status
  unfolding refusals_of
  update-refused bytes status is = served-refused c s (update_binary target offset bytes) status
      (guarded-refused c s target is_transparent Update status is
      (is_past c s target offset ∷ is_too_long c s target offset bytes ∷ []))

  -- a file that is named
  module _ (path : Path) (file : File) (place : target_of c.tree s target ≡ Some path)
      (there : get c.tree path ≡ Some file) where
    path-is : target_path c s target ≡ path
    path-is = named-path c s target is_transparent Read path file place there

    kind-is : target_kind c s target ≡ file.kind
    kind-is = named-kind c s target is_transparent Read path file place there

    -- READ BINARY of a file that doesn't refuse it: what refuses a read of its bytes decides
    module _ (expected : ℕ) (free : refused_by (file_refusals c s target is_transparent Read) ≡ None) where
      read-decided : refused_by (refusals_of c s (read_binary target offset expected))
          ≡ past_end (file_bytes file.kind) offset
      unfolding refusals_of
      read-decided =
          guarded-free c s target is_transparent Read free (is_past c s target offset ∷ [])
          ∙ (λ i. past_end (file_bytes (kind-is i)) offset)

      pub read-past : (status : Sw) → past_end (file_bytes file.kind) offset ≡ Some status
          → served c s (read_binary target offset expected) ≡ refused c s status
      read-past status past =
          served-refused c s (read_binary target offset expected) status (read-decided ∙ past)

      pub read-within : past_end (file_bytes file.kind) offset ≡ None
          → served c s (read_binary target offset expected)
          ≡ record {
            card = c;
            session = naming s target path;
            response = read_response (drop offset (file_bytes file.kind)) expected;
          }
      unfolding effect
      read-within within =
          served-done c s (read_binary target offset expected) (read-decided ∙ within)
          ∙ (λ i. record {
            card = c;
            session = naming s target (path-is i);
            response = read_response (drop offset (file_bytes (kind-is i))) expected;
          })

    -- UPDATE BINARY of a file that doesn't refuse it: what refuses an update of its bytes decides
    module _ (bytes : List ℕ) (free : refused_by (file_refusals c s target is_transparent Update) ≡ None) where
      pub update-decided : refused_by (refusals_of c s (update_binary target offset bytes))
          ≡ overlong (file_bytes file.kind) offset bytes
      unfolding refusals_of
      update-decided =
          guarded-free c s target is_transparent Update free
          (is_past c s target offset ∷ is_too_long c s target offset bytes ∷ [])
          ∙ (λ i. overlong (file_bytes (kind-is i)) offset bytes)

      pub update-past : (status : Sw) → overlong (file_bytes file.kind) offset bytes ≡ Some status
          → served c s (update_binary target offset bytes) ≡ refused c s status
      update-past status past =
          served-refused c s (update_binary target offset bytes) status (update-decided ∙ past)

      update-card : updated_card c s target offset bytes
          ≡ with_content c path (overwrite (file_bytes file.kind) offset bytes)
      update-card = λ i. with_content c (path-is i) (overwrite (file_bytes (kind-is i)) offset bytes)

      pub update-commits : commits c s (update_binary target offset bytes)
          ≡ with_content c path (overwrite (file_bytes file.kind) offset bytes) ∷ []
      unfolding commits
      update-commits = ap (λ (d : Card). d ∷ []) update-card

      pub update-within : overlong (file_bytes file.kind) offset bytes ≡ None
          → served c s (update_binary target offset bytes)
          ≡ record {
            card = with_content c path (overwrite (file_bytes file.kind) offset bytes);
            session = naming s target path;
            response = only_status DONE;
          }
      unfolding effect
      update-within within =
          served-done c s (update_binary target offset bytes) (update-decided ∙ within)
          ∙ (λ i. record { card = update-card i; session = naming s target (path-is i); response = only_status DONE })
