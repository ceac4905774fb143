-- SELECT (ISO/IEC 7816-4, 11.2.2).
use Rattle.std.specs.Prelude.{ℕ, List, [], ◌∷◌, Option, is_none, unwrap_or}
use Rattle.card_model.specs.declared.status.Sw.{Sw}
use Rattle.card_model.specs.declared.status.TheConstants.Sw.{DONE, SELECTED_DEACTIVATED, SELECTED_TERMINATED}
use Rattle.card_model.specs.declared.status.TheConstants.Sw.{FILE_NOT_FOUND}
use Rattle.card_model.specs.declared.life_cycle.LifeCycle.{LifeCycle}
use Rattle.card_model.specs.declared.life_cycle.LifeCycle.TheVariants.{Creation, Initialisation, Deactivated, Activated}
use Rattle.card_model.specs.declared.life_cycle.LifeCycle.TheVariants.{Terminated}
use Rattle.card_model.specs.declared.requests.Returned.{Returned}
use Rattle.card_model.specs.declared.requests.Returned.TheVariants.{Template, Nothing}
use Rattle.card_model.specs.Requests.{Selection}
use Rattle.card_model.specs.Behaviours.{Behaviour, looks, Outcome, Refusals, no_refusals}
use Rattle.card_model.specs.Cards.{Card, Path, Kind, Tree, dedicated, elementary, file_at, identifier, parent}
use Rattle.card_model.specs.Guards.{given, length_refusal}
use Rattle.card_model.specs.Reaching.{selected_from}
use Rattle.card_model.specs.Sessions.{Session, at_dedicated_file, at_elementary_file}
use Rattle.card_model.specs.Templates.{template_at}

-- The status word, by the selected file's own life cycle state.
abbrev pub selection_status : LifeCycle → Sw
selection_status Creation = DONE
selection_status Initialisation = DONE
selection_status Deactivated = SELECTED_DEACTIVATED
selection_status Activated = DONE
selection_status Terminated = SELECTED_TERMINATED

-- The session after a file has become current.
abbrev pub selecting : Session → Path → Kind → Session
selecting s path (dedicated name) = at_dedicated_file s path
selecting s path (elementary short body) = at_elementary_file s (parent path) (identifier path)

-- The data of SELECT: the template of the file, if it is asked for.
abbrev pub selection_data : Returned → Tree → Path → List ℕ
selection_data Template tree path = template_at tree path
selection_data Nothing tree path = []

-- The path of the selected file. If there is none SELECT is refused, whatever the path.
abbrev pub selected_path : Card → Session → Selection → Path
selected_path c s selection = unwrap_or (selected_from c.tree s.current_df selection) []

abbrev pub selected_data : Card → Session → Selection → Returned → List ℕ
selected_data c s selection returned = selection_data returned c.tree (selected_path c s selection)

-- The refusals of SELECT: there is no such file, or Le is too small. Life cycles and access rules don't refuse it.
abbrev pub select_refusals : Card → Session → Selection → Returned → Option ℕ → Refusals
select_refusals c s selection returned expected = record no_refusals {
  target = record { applies = is_none (selected_from c.tree s.current_df selection); status = FILE_NOT_FOUND } ∷ [];
  limits = length_refusal expected (selected_data c s selection returned) ∷ [];
}

-- The effect of SELECT: the file becomes current.
abbrev pub file_selected : Card → Session → Selection → Returned → Option ℕ → Outcome
file_selected c s selection returned expected =
    let path = selected_path c s selection in
    let file = file_at c.tree path in
    record {
      card = c;
      session = selecting s path file.kind;
      response = record {
        text = given expected (selection_data returned c.tree path);
        status = selection_status file.life;
      };
    }

abbrev pub on_select : Selection → Returned → Option ℕ → Behaviour
on_select selection returned expected =
    looks (λ c s. select_refusals c s selection returned expected)
    (λ c s. file_selected c s selection returned expected)
