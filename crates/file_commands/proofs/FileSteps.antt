-- What DELETE FILE and CREATE FILE do, on any card.
use Rattle.std.proofs.Common.{◌≡◌, ◌==◌, ◌||◌, ℕ, Bool, true, false, not, List, [], ◌∷◌, ◌++◌, length, Option, Some}
use Rattle.std.proofs.Common.{None, is_none, unwrap_or, Result, Ok, Err, if◌then◌else◌, ◌∙◌, ap, refl}
use Rattle.card_model.specs.declared.status.Sw.{Sw}
use Rattle.card_model.specs.declared.status.TheConstants.Sw.{ACCESS_DENIED, CONDITIONS_NOT_SATISFIED, DONE}
use Rattle.card_model.specs.declared.status.TheConstants.Sw.{FILE_NOT_FOUND}
use Rattle.card_model.specs.declared.status.TheConstants.Sw.{FILE_EXISTS, NAME_EXISTS, NO_ROOM, WRONG_DATA}
use Rattle.card_model.specs.declared.fault.FcpFault.{FcpFault}
use Rattle.card_model.specs.declared.fcp.Fcp.{Fcp}
use Rattle.card_model.specs.TemplateGrammar.{fcp_read}
use Rattle.card_model.specs.FileControl.{name_bytes, short_of_kind}
use Rattle.card_model.specs.declared.requests.Subject.{Subject}
use Rattle.card_model.specs.Requests.{create_file, delete_file}
use Rattle.file_changes.specs.CreationRefusals.{creation_refusal, first_reason}
use Rattle.card_model.specs.NewFiles.{has_name, has_no_room, has_short_given}
use Rattle.card_model.specs.Cards.{Card, Path, exists, parent}
use Rattle.card_model.specs.FileCommands.{create_refusals, created_card, creation_bit, delete_refusals, deleted_card}
use Rattle.card_model.specs.FileCommands.{new_outcome, place_refusals, tells_none, told_by, with_new, without}
use Rattle.card_model.specs.Behaviours.{first_applying, refused, refused_by, only_status}
use Rattle.card_model.specs.Reaching.{subject_of}
use Rattle.card_model.specs.Sessions.{Session, at_dedicated_file}
use Rattle.card_model.specs.Steps.{commits, served, refusals_of, effect}
use Rattle.command_base.specs.NamedFiles.{file_refusal}
use Rattle.card_model.specs.laws.Guarding.{served-done, served-refused}
use Rattle.card_model.specs.Guards.{allowed}
use Rattle.card_model.specs.FileLives.{has_barred_above, is_barred}
use Rattle.card_model.specs.declared.access_mode.AccessBit.TheVariants.{DeleteChild, DeleteSelf}

module _ (c : Card) (s : Session) (subject : Subject) where
  -- the refusals by their tests: no file, the master file, and then what the file calls for
  abbrev verdict : Bool → Bool → Option Sw → Option Sw
  verdict none master rest =
      if none then Some FILE_NOT_FOUND else if master then Some CONDITIONS_NOT_SATISFIED else rest

  -- the refusals by a path: a file above it is barred, and its rule or that of its parent doesn't allow it
  abbrev by_file : Path → Option Sw
  by_file path = file_refusal (has_barred_above c.tree path) true
      (allowed c s path DeleteSelf || allowed c s (parent path) DeleteChild)

  by_place : (found : Option Path) → subject_of c.tree s subject ≡ found
      → refused_by (delete_refusals c s subject)
      ≡ verdict (is_none found) (length (unwrap_or found []) == 0) (by_file (unwrap_or found []))
  by_place found place = ap (λ (f : Option Path). verdict (is_none f) (length (unwrap_or f []) == 0)
      (by_file (unwrap_or f []))) place

  pub delete-master : subject_of c.tree s subject ≡ Some []
      → refused_by (delete_refusals c s subject) ≡ Some CONDITIONS_NOT_SATISFIED
  delete-master place = by_place (Some []) place

  -- a refusal
  pub delete-refused : (status : Sw) → refused_by (delete_refusals c s subject) ≡ Some status
      → served c s (delete_file subject) ≡ refused c s status
  unfolding refusals_of
  delete-refused status is = served-refused c s (delete_file subject) status is

  -- another file
  module _ (path : Path) (place : subject_of c.tree s subject ≡ Some path) where
    pub delete-by-file : (length path == 0) ≡ false → refused_by (delete_refusals c s subject) ≡ by_file path
    delete-by-file below = by_place (Some path) place ∙ ap (λ (b : Bool). verdict false b (by_file path)) below

    path-is : unwrap_or (subject_of c.tree s subject) [] ≡ path
    path-is = ap (λ (f : Option Path). unwrap_or f []) place

    delete-card : deleted_card c s subject ≡ without c path
    delete-card = ap (λ (p : Path). without c p) path-is

    pub delete-commits : commits c s (delete_file subject) ≡ without c path ∷ []
    unfolding commits
    delete-commits = ap (λ (d : Card). d ∷ []) delete-card

    pub delete-unrefused : refused_by (delete_refusals c s subject) ≡ None
        → refused_by (refusals_of c s (delete_file subject)) ≡ None
    unfolding refusals_of
    delete-unrefused none = none

    pub delete-done : refused_by (delete_refusals c s subject) ≡ None → served c s (delete_file subject)
        ≡ record { card = without c path; session = at_dedicated_file s (parent path); response = only_status DONE }
    unfolding effect
    delete-done none =
        served-done c s (delete_file subject) (delete-unrefused none)
        ∙ (λ i. record {
          card = delete-card i;
          session = at_dedicated_file s (parent (path-is i));
          response = only_status DONE;
        })

-- the first of five refusals is the first of the first three, or else of the other two
five : (identifier name short deep full : Bool)
    → (if identifier then Some FILE_EXISTS else if name then Some NAME_EXISTS else if short then Some WRONG_DATA else
    if deep then Some CONDITIONS_NOT_SATISFIED else if full then Some NO_ROOM else None)
    ≡ first_reason
    (if identifier then Some FILE_EXISTS else if name then Some NAME_EXISTS else
    if short then Some WRONG_DATA else None)
    (if deep then Some CONDITIONS_NOT_SATISFIED else if full then Some NO_ROOM else None)
five true name short deep full = refl
five false true short deep full = refl
five false false true deep full = refl
five false false false true full = refl
five false false false false true = refl
five false false false false false = refl

module _ (c : Card) (s : Session) (template : List ℕ) where
  -- the refusals by their tests: the dedicated file is barred, the template tells of no file, the rule doesn't allow it
  abbrev by_guards : Bool → Bool → Bool → Option Sw → Option Sw
  by_guards barred none permitted rest =
      if barred then Some CONDITIONS_NOT_SATISFIED else
      if none then Some WRONG_DATA else
      if not permitted then Some ACCESS_DENIED else rest

  -- and by what the template reads as
  abbrev by_reading : Bool → Result Fcp FcpFault → Option Sw
  by_reading barred read = by_guards barred (tells_none read)
      (allowed c s s.current_df (creation_bit (told_by read).kind))
      (first_applying (place_refusals c s.current_df (told_by read)))

  create-verdict : (barred : Bool) → is_barred c.tree s.current_df ≡ barred → (read : Result Fcp FcpFault)
      → fcp_read template ≡ read → refused_by (create_refusals c s template) ≡ by_reading barred read
  create-verdict barred bars read is = λ i. by_reading (bars i) (is i)

  pub create-refusal : (status : Sw) → refused_by (create_refusals c s template) ≡ Some status
      → served c s (create_file template) ≡ refused c s status
  unfolding refusals_of
  create-refusal status is = served-refused c s (create_file template) status is

  -- a dedicated file that is barred
  pub create-barred : is_barred c.tree s.current_df ≡ true
      → refused_by (create_refusals c s template) ≡ Some CONDITIONS_NOT_SATISFIED
  create-barred bars = create-verdict true bars (fcp_read template) refl

  module _ (unbarred : is_barred c.tree s.current_df ≡ false) where
    -- a template that tells of no file
    pub create-unread : (fault : FcpFault) → fcp_read template ≡ Err fault
        → refused_by (create_refusals c s template) ≡ Some WRONG_DATA
    create-unread fault is = create-verdict false unbarred (Err fault) is

    -- a template that tells of one
    module _ (fcp : Fcp) (is : fcp_read template ≡ Ok fcp) where
      by_rule : (permitted : Bool) → allowed c s s.current_df (creation_bit fcp.kind) ≡ permitted
          → refused_by (create_refusals c s template)
          ≡ by_guards false false permitted (first_applying (place_refusals c s.current_df fcp))
      by_rule permitted told =
          create-verdict false unbarred (Ok fcp) is
          ∙ ap (λ (b : Bool). by_guards false false b (first_applying (place_refusals c s.current_df fcp))) told

      pub create-denied : allowed c s s.current_df (creation_bit fcp.kind) ≡ false
          → refused_by (create_refusals c s template) ≡ Some ACCESS_DENIED
      create-denied denied = by_rule false denied

      module _ (permitted : allowed c s s.current_df (creation_bit fcp.kind) ≡ true) where
        refusal-is : refused_by (create_refusals c s template) ≡ creation_refusal c.blocks c.tree s.current_df fcp
        refusal-is =
            by_rule true permitted
            ∙ five (exists c.tree (s.current_df ++ fcp.identifier ∷ [])) (has_name c.tree (name_bytes fcp.kind))
            (has_short_given c.tree s.current_df (short_of_kind fcp.kind)) (length s.current_df == 7)
            (has_no_room c.blocks c.tree fcp.kind)

        pub create-refused : (status : Sw) → creation_refusal c.blocks c.tree s.current_df fcp ≡ Some status
            → served c s (create_file template) ≡ refused c s status
        create-refused status refuses = create-refusal status (refusal-is ∙ refuses)

        pub create-unrefused : creation_refusal c.blocks c.tree s.current_df fcp ≡ None
            → refused_by (refusals_of c s (create_file template)) ≡ None
        unfolding refusals_of
        create-unrefused none = refusal-is ∙ none

        create-card : created_card c s template ≡ with_new c s.current_df fcp
        create-card = ap (λ (read : Result Fcp FcpFault). with_new c s.current_df (told_by read)) is

        pub create-commits : commits c s (create_file template) ≡ with_new c s.current_df fcp ∷ []
        unfolding commits
        create-commits = ap (λ (d : Card). d ∷ []) create-card

        pub create-done : creation_refusal c.blocks c.tree s.current_df fcp ≡ None
            → served c s (create_file template) ≡ new_outcome c s fcp
        unfolding effect
        create-done none =
            served-done c s (create_file template) (create-unrefused none)
            ∙ ap (λ (read : Result Fcp FcpFault). new_outcome c s (told_by read)) is
