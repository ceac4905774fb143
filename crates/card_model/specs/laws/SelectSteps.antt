-- What SELECT does, on any card.
use Rattle.std.proofs.Common.{◌≡◌, ℕ, Bool, true, false, List, [], Option, Some, None, is_none, unwrap_or}
use Rattle.std.proofs.Common.{if◌then◌else◌, ◌∙◌, ap}
use Rattle.card_model.specs.declared.status.Sw.{Sw}
use Rattle.card_model.specs.declared.status.TheConstants.Sw.{FILE_NOT_FOUND}
use Rattle.card_model.specs.declared.requests.Returned.{Returned}
use Rattle.card_model.specs.Requests.{Selection, select}
use Rattle.std.specs.FinMap.{get}
use Rattle.card_model.specs.Cards.{Card, File, Path, file_at, no_file}
use Rattle.card_model.specs.Guards.{asks_less, given, right_length}
use Rattle.card_model.specs.Behaviours.{refused, refused_by, unless_refused}
use Rattle.card_model.specs.Reaching.{selected_from}
use Rattle.card_model.specs.SelectCommand.{select_refusals, file_selected, selected_data, selected_path, selecting}
use Rattle.card_model.specs.SelectCommand.{selection_data, selection_status}
use Rattle.card_model.specs.Sessions.{Session}
use Rattle.card_model.specs.Steps.{served, refusals_of, effect}

module _ (c : Card) (s : Session) (selection : Selection) (returned : Returned) (expected : Option ℕ) where
  -- the refusal by its tests: no file, and an Le that asks for less than what is found
  abbrev verdict : Bool → Bool → List ℕ → Option Sw
  verdict none less found = if none then Some FILE_NOT_FOUND else if less then Some (right_length found) else None

  -- a file that isn't reached
  pub select-missed : selected_from c.tree s.current_df selection ≡ None
      → served c s (select selection returned expected) ≡ refused c s FILE_NOT_FOUND
  unfolding served refusals_of effect
  select-missed place =
      let found = selected_data c s selection returned in
      ap (λ (o : Option Path). unless_refused c s (verdict (is_none o) (asks_less expected found) found)
      (file_selected c s selection returned expected)) place

  -- a file that is reached
  module _ (path : Path) (file : File) (place : selected_from c.tree s.current_df selection
      ≡ Some path) (there : get c.tree path ≡ Some file) where
    is_path : selected_path c s selection ≡ path
    is_path = ap (λ (found : Option Path). unwrap_or found []) place

    is_file : file_at c.tree (selected_path c s selection) ≡ file
    is_file = ap (file_at c.tree) is_path ∙ ap (λ (found : Option File). unwrap_or found no_file) there

    is_found : selected_data c s selection returned ≡ selection_data returned c.tree path
    is_found = ap (selection_data returned c.tree) is_path

    by_length : (less : Bool) → asks_less expected (selection_data returned c.tree path) ≡ less
        → refused_by (select_refusals c s selection returned expected)
        ≡ verdict false less (selection_data returned c.tree path)
    by_length less is =
        (λ i. verdict (is_none (place i)) (asks_less expected (is_found i)) (is_found i))
        ∙ ap (λ (b : Bool). verdict false b (selection_data returned c.tree path)) is

    -- with an Le that asks for less than there is
    pub select-less : asks_less expected (selection_data returned c.tree path) ≡ true
        → served c s (select selection returned expected)
        ≡ refused c s (right_length (selection_data returned c.tree path))
    unfolding served refusals_of effect
    select-less is = ap (λ (refusal : Option Sw). unless_refused c s refusal (file_selected c s selection returned
        expected)) (by_length true is)

    pub select-reached : asks_less expected (selection_data returned c.tree path) ≡ false
        → served c s (select selection returned expected)
        ≡ record {
          card = c;
          session = selecting s path file.kind;
          response = record {
            text = given expected (selection_data returned c.tree path);
            status = selection_status file.life;
          };
        }
    unfolding served refusals_of effect
    select-reached is =
        ap (λ (refusal : Option Sw). unless_refused c s refusal (file_selected c s selection returned expected))
        (by_length false is)
        ∙ (λ i. record {
          card = c;
          session = selecting s (is_path i) (is_file i).kind;
          response = record {
            text = given expected (is_found i);
            status = selection_status (is_file i).life;
          };
        })
