-- SELECT, CREATE FILE and DELETE FILE: proper cards stay proper, and answers are short.
use Rattle.std.specs.Prelude.{◌≡◌, ◌<◌, ℕ, Bool, true, false, List}
use Rattle.std.specs.Prelude.{[], ◌∷◌, ◌++◌}
use Rattle.std.specs.Prelude.{Option, Some, None, Result, Ok, Err, cond, not, nat_eq, is_some}
use Rattle.std.specs.List.{starts_with}
use Rattle.std.specs.Option.{option_map_or}
use Rattle.std.proofs.Common.{arith, ap, sym, ◌∙◌, refl, lit<, true≢false}
use Rattle.std.specs.FinMap.{get, retain_keys, get-retain_keys}
use Rattle.std.specs.FinMap.{slice_cmp-IsAntisymmetric, nat_cmp-IsAntisymmetric}
use Rattle.card_model.specs.declared.status.TheConstants.Sw.{DONE}
use Rattle.card_model.specs.declared.life_cycle.LifeCycle.{LifeCycle}
use Rattle.card_model.specs.declared.life_cycle.LifeCycle.TheVariants.{Creation, Initialisation, Deactivated}
use Rattle.card_model.specs.declared.life_cycle.LifeCycle.TheVariants.{Activated, Terminated}
use Rattle.card_model.specs.declared.fault.FcpFault.{FcpFault}
use Rattle.card_model.specs.declared.fcp.Fcp.{Fcp}
use Rattle.card_model.specs.TemplateGrammar.{fcp_read}
use Rattle.card_model.specs.NewFiles.{new_file, short_of_new}
use Rattle.card_model.specs.laws.PathEnds.{identifier-push}
use Rattle.card_model.specs.declared.requests.Subject.{Subject}
use Rattle.card_model.specs.declared.requests.Returned.{Returned}
use Rattle.card_model.specs.declared.requests.Returned.TheVariants.{Template, Nothing}
use Rattle.card_model.specs.Requests.{AreBytes, IsStatusWord, select, create_file, delete_file, Selection}
use Rattle.card_model.specs.Cards.{Card, File, Path, file_at, identifier, IsProper, IsProperFile}
use Rattle.card_model.specs.FileCommands.{created_card, file_created, file_deleted, no_parameters, subject_path}
use Rattle.card_model.specs.FileCommands.{told_by, with_new, on_create_file, on_delete_file, without}
use Rattle.card_model.specs.Guards.{given}
use Rattle.card_model.specs.SelectCommand.{on_select, file_selected, selected_path, selection_data, selection_status}
use Rattle.card_model.specs.Sessions.{Session}
use Rattle.card_model.specs.Templates.{template_at, template_of}
use Rattle.card_model.specs.laws.Lawful.{Lawful, lawful-unshown, same-none, same-one}
use Rattle.card_model.specs.laws.ProperLaws.{IsFine, no_bytes, proper-insert, short-status}
use Rattle.card_model.specs.laws.TemplateLaws.{IsFineFcp, IsFineRead, fine-read, proper-new}
use Rattle.card_model.specs.laws.TextLaws.{IsText, text-template}

-- files less
proper-without : (c : Card) (path : Path) → IsProper c → IsProper (without c path)
proper-without c path proper = record {
  files = λ q found is. chosen (outside q) q found (sym (kept_at q) ∙ is);
  identifiers = λ q found is. named (outside q) q found (sym (kept_at q) ∙ is);
  pins = proper.pins;
}
  where
    named : (test : Bool) (q : Path) (found : File) → cond test (get c.tree q) None ≡ Some found
        → identifier q < 65536
    named true q found is = proper.identifiers q found is
    named false q found is = absurd (true≢false (sym (ap (λ (some : Option File). is_some some) is)))

    outside : Path → Bool
    outside other = not (starts_with nat_eq other path)

    kept_at : (q : Path) → get (retain_keys c.tree outside) q ≡ cond (outside q) (get c.tree q) None
    kept_at q = get-retain_keys c.tree outside q
        (λ other same. ap outside (sym (slice_cmp-IsAntisymmetric nat_cmp-IsAntisymmetric q other same)))

    chosen : (test : Bool) (q : Path) (found : File) → cond test (get c.tree q) None ≡ Some found → IsProperFile found
    chosen true q found is = proper.files q found is
    chosen false q found is = absurd (true≢false (sym (ap (λ (some : Option File). is_some some) is)))

-- the status words of SELECT
selection-word : (life : LifeCycle) → IsStatusWord (selection_status life)
selection-word Creation = lit< tt
selection-word Initialisation = lit< tt
selection-word Deactivated = lit< tt
selection-word Activated = lit< tt
selection-word Terminated = lit< tt

-- the template of what stands at a path
short-template : (c : Card) (path : Path) → IsProper c → IsText (template_at c.tree path)
short-template c path proper = among (get c.tree path) refl
  where
    among : (found : Option File) → get c.tree path ≡ found → IsText (option_map_or (template_of path) found [])
    among None is = record { bytes = no_bytes; size = omega arith }
    among (Some file) is = text-template path file (proper.identifiers path file is) (proper.files path file is)

short-data : (c : Card) (returned : Returned) (path : Path) → IsProper c → IsText (selection_data returned c.tree path)
short-data c Template path proper = short-template c path proper
short-data c Nothing path proper = record { bytes = no_bytes; size = omega arith }

-- no more is given than was found
pub short-given : (expected : Option ℕ) (found : List ℕ) → IsText found → IsText (given expected found)
short-given None found text = record { bytes = no_bytes; size = omega arith }
short-given (Some le) found text = text

module _ (c : Card) (s : Session) (proper : IsProper c) where
  pub fine-selected : (selection : Selection) (returned : Returned) (expected : Option ℕ)
      → IsFine (file_selected c s selection returned expected)
  fine-selected selection returned expected =
      let path = selected_path c s selection in
      let text = short-given expected (selection_data returned c.tree path) (short-data c returned path proper) in
      record {
        card = proper;
        response = record {
          size = text.size;
          bytes = text.bytes;
          status = selection-word (file_at c.tree path).life;
        };
      }

  fine-new : (df : Path) (fcp : Fcp) → IsFineFcp fcp → IsProper (with_new c df fcp)
  fine-new df fcp fine =
      let id = identifier-push df fcp.identifier in
      let small = fine.identifier in
      proper-insert c (df ++ fcp.identifier ∷ []) (new_file fcp (short_of_new c.tree df fcp))
      (omega (arith, id, small)) proper (proper-new c.tree df fcp fine)

  fine-created : (template : List ℕ) → AreBytes template → IsProper (created_card c s template)
  fine-created template all = among (fcp_read template) (fine-read template all)
    where
      among : (read : Result Fcp FcpFault) → IsFineRead read → IsProper (with_new c s.current_df (told_by read))
      among (Ok fcp) fine = fine-new s.current_df fcp fine
      among (Err fault) fine = fine-new s.current_df no_parameters (record {
        identifier = omega arith;
        rule = no_bytes;
        rule_size = omega arith;
        kind = tt;
      })

  pub fine-create : (template : List ℕ) → AreBytes template → IsFine (file_created c s template)
  fine-create template all = record {
    card = fine-created template all;
    response = short-status DONE (lit< tt);
  }

  pub fine-delete : (subject : Subject) → IsFine (file_deleted c s subject)
  fine-delete subject = record {
    card = proper-without c (subject_path c s subject) proper;
    response = short-status DONE (lit< tt);
  }

-- the laws of the three
pub lawful-select : (selection : Selection) (returned : Returned) (expected : Option ℕ)
    → Lawful (select selection returned expected)
lawful-select selection returned expected =
    lawful-unshown (select selection returned expected) (on_select selection returned expected) refl
    (λ c s. (lit< tt, (omega arith, tt)))
    (λ c s proper small unrefused. fine-selected c s proper selection returned expected)
    (λ c s. refl) (λ c s. same-none c)

pub lawful-create : (template : List ℕ) → Lawful (create_file template)
lawful-create template =
    lawful-unshown (create_file template) (on_create_file template) refl
    (λ c s. (lit< tt, (lit< tt, (lit< tt, (lit< tt, (lit< tt, (lit< tt, (lit< tt, (lit< tt, tt)))))))))
    (λ c s proper all unrefused. fine-create c s proper template all)
    (λ c s. refl) (λ c s. same-one c _ refl refl)

pub lawful-delete : (subject : Subject) → Lawful (delete_file subject)
lawful-delete subject =
    lawful-unshown (delete_file subject) (on_delete_file subject) refl
    (λ c s. (lit< tt, (lit< tt, (lit< tt, (lit< tt, tt)))))
    (λ c s proper small unrefused. fine-delete c s proper subject) (λ c s. refl)
    (λ c s. same-one c _ refl refl)
