-- Each step of the tree machine leaves a session whose current files are in the tree.
use Rattle.std.specs.Prelude.{◌≡◌, ◌<◌, ◌-◌, ◌==◌, ◌&&◌, ◌++◌, ◌∷◌, [], not, ℕ, Bool, true, false, cond}
use Rattle.std.specs.Prelude.{if◌then◌else◌, List, length, slice_index, take, map, find, nat_eq}
use Rattle.std.specs.Prelude.{Option, Some, None, option_map, unwrap_or, is_some, is_none, IfSome}
use Rattle.std.specs.Prelude.{Result, Ok, Err}
use Rattle.std.specs.List.{starts_with}
use Rattle.std.specs.Ordering.{nat_cmp}
use Rattle.std.specs.Cmp.Lexicographic.{slice_cmp, nat_list_cmp_total}
use Rattle.std.specs.FinMap.{get, insert, entries, get-entries, get-insert}
use Rattle.std.specs.FinMap.Entries as keyed
use Rattle.std.proofs.Common.{arith, refl, sym, ◌∙◌, ap, inl, inr, true≢false}
use Rattle.std.proofs.lemmas.Bool.{and_parts, not-false}
use Rattle.std.proofs.lemmas.Bool.Decides.{eqb_tells}
use Rattle.std.proofs.lemmas.List.{length-take}
use Rattle.card_model.specs.declared.status.Sw.{Sw}
use Rattle.card_model.specs.declared.status.TheConstants.Sw.{CONDITIONS_NOT_SATISFIED}
use Rattle.card_model.specs.declared.requests.Target.{Target}
use Rattle.card_model.specs.declared.requests.Target.TheVariants.{Current, Short}
use Rattle.card_model.specs.declared.requests.Subject.{Subject}
use Rattle.card_model.specs.declared.requests.Subject.TheVariants as subjects
use Rattle.card_model.specs.FileTrees.{File, Kind, Path, Tree, IsTree, dedicated, elementary}
use Rattle.card_model.specs.FileTrees.{exists, file_at, identifier, is_dedicated, is_transparent, no_file}
use Rattle.card_model.specs.FileTrees.{parent}
use Rattle.card_model.specs.Selectors.{Candidate, Selector, candidates, candidates_of, first_reached, is_named}
use Rattle.card_model.specs.Selectors as selector
use Rattle.card_model.specs.Sessions.{Session, at_dedicated_file, at_elementary_file}
use Rattle.card_model.specs.SelectCommand.{selecting, select_refusals, selected_path}
use Rattle.card_model.specs.Cards.{Card}
use Rattle.card_model.specs.WellFormed.{HasCurrentFiles, IsWellFormed}
use Rattle.card_model.specs.Reaching.{named, subject_of}
use Rattle.card_model.specs.Requests.{Request, select, read_binary, update_binary}
use Rattle.card_model.specs.Requests.{create_file, delete_file, read_record, update_record, append_record}
use Rattle.card_model.specs.Requests.{search_record, increase, change_life_cycle, terminate_card_usage, verify}
use Rattle.card_model.specs.Requests.{change_reference_data, reset_retry_counter, change_requirement}
use Rattle.card_model.specs.Behaviours.{Attempt, Outcome, is_right, refused, refused_by, unless_refused}
use Rattle.card_model.specs.Guards.{naming, target_kind, target_path}
use Rattle.card_model.specs.BinaryCommands.{read_refusals, update_refusals}
use Rattle.card_model.specs.RecordCommands.{append_refusals, has_records, increase_refusals, is_cyclic}
use Rattle.card_model.specs.RecordCommands.{read_record_refusals, replaces, search_refusals, update_record_refusals}
use Rattle.card_model.specs.FileCommands.{created_card, delete_refusals, subject_path, told_by, without}
use Rattle.card_model.specs.FileLives.{with_life}
use Rattle.card_model.specs.TemplateGrammar.{fcp_read}
use Rattle.card_model.specs.LifeCycleCommands.{changed_life, changed_path, life_changed}
use Rattle.card_model.specs.NewFiles.{new_file, short_of_new}
use Rattle.card_model.specs.PinCommands.{attempted, attempted_as, changing, marking, resetting, unverified}
use Rattle.card_model.specs.PinCommands.{verifying}
use Rattle.card_model.specs.CommandTable.{asked}
use Rattle.card_model.specs.Steps.{behaviour_of, carried_out, effect, outcome_of, refusals_of, served, step}
use Rattle.card_model.specs.laws.Orders.{same_path, one_of_same, same_of_one}
use Rattle.card_model.specs.laws.ProperLaws.{either-if, unrefused-each}
use Rattle.card_core.proofs.FormedTrees.{df_is_kept, is_df}
use Rattle.card_core.proofs.FormedSteps.{alike_bytes, alike_records, created_formed, life_formed, replaced_records}

-- whether what is found is an EF
abbrev is_ef : Option File → Bool
is_ef found = is_some found && not (is_dedicated (unwrap_or found no_file).kind)

-- a path ends with its identifier
last_again : (x : ℕ) (path : Path)
    → take (length path) (x ∷ path) ++ slice_index (x ∷ path) (length path) ∷ [] ≡ x ∷ path
last_again x [] = refl
last_again x (y ∷ path) = ap (λ (p : Path). x ∷ p) (last_again y path)

path_again : (path : Path) → 0 < length path → parent path ++ identifier path ∷ [] ≡ path
path_again [] some = absurd (omega (arith, some))
path_again (x ∷ path) some =
    let less : length (x ∷ path) - 1 ≡ length path = omega arith in
    ap (λ (n : ℕ). take n (x ∷ path) ++ slice_index (x ∷ path) (length path) ∷ []) less ∙ last_again x path

module _ (tree : Tree) (valid : IsTree tree) where
  -- an EF is below the MF
  below_root : (path : Path) → is_ef (get tree path) ≡ true → 0 < length path
  below_root [] ef = absurd (by (get tree []) ef (valid.parents [] valid.master))
    where
      by : (found : Option File) → is_ef found ≡ true → is_df found ≡ true → ⊥
      by None ef df = true≢false (sym df)
      by (Some file) ef df = true≢false (sym ef ∙ ap (λ (b : Bool). not b) df)
  below_root (x ∷ path) ef = omega arith

  -- files that become current
  at_ef : (s : Session) (path : Path) → is_ef (get tree path) ≡ true
      → HasCurrentFiles tree (at_elementary_file s (parent path) (identifier path))
  at_ef s path ef = record {
    df = valid.parents path (and_parts (is_some (get tree path)) _ ef).0;
    ef = ap (λ (p : Path). is_ef (get tree p)) (path_again path (below_root path ef)) ∙ ef;
  }

  at_df : (s : Session) (path : Path) → is_df (get tree path) ≡ true → HasCurrentFiles tree (at_dedicated_file s path)
  at_df s path df = record { df = df; ef = tt }

  at_file : (s : Session) (path : Path) (file : File) → get tree path ≡ Some file
      → HasCurrentFiles tree (selecting s path file.kind)
  at_file s path file is = by file.kind refl
    where
      by : (kind : Kind) → file.kind ≡ kind → HasCurrentFiles tree (selecting s path kind)
      by (dedicated name) same = at_df s path (ap is_df is ∙ ap is_dedicated same)
      by (elementary short body) same = at_ef s path (ap is_ef is ∙ ap (λ (k : Kind). not (is_dedicated k)) same)

  at_named : (s : Session) (target : Target) (path : Path) → HasCurrentFiles tree s → is_ef (get tree path) ≡ true
      → HasCurrentFiles tree (naming s target path)
  at_named s Current path current ef = current
  at_named s (Short n) path current ef = at_ef s path ef

  -- a DF that is current, and what is above it
  df_there : (path : Path) → is_df (get tree path) ≡ true → is_some (get tree path) ≡ true
  df_there path df = (and_parts (is_some (get tree path)) _ df).0

-- candidates that are there where they lead
abbrev Lead : Tree → List Candidate → Type 0
Lead tree [] = Unit {0}
Lead tree (candidate ∷ rest) =
    (candidate.leads ≡ true → is_some (get tree candidate.path) ≡ true) × Lead tree rest

reached_there : (tree : Tree) (all : List Candidate) → Lead tree all → is_none (first_reached all) ≡ false
    → is_some (get tree (unwrap_or (first_reached all) [])) ≡ true
reached_there tree [] lead some = absurd (true≢false some)
reached_there tree (candidate ∷ rest) lead some =
    by candidate.leads lead.0 (reached_there tree rest lead.1) some
  where
    by : (leads : Bool) → (leads ≡ true → is_some (get tree candidate.path) ≡ true)
        → (is_none (first_reached rest) ≡ false → is_some (get tree (unwrap_or (first_reached rest) [])) ≡ true)
        → is_none (option_map (λ (x : Candidate). x.path)
        (if leads then Some candidate else find (λ (x : Candidate). x.leads) rest)) ≡ false
        → is_some (get tree (unwrap_or (option_map (λ (x : Candidate). x.path)
        (if leads then Some candidate else find (λ (x : Candidate). x.leads) rest)) [])) ≡ true
    by true first more some = first refl
    by false first more some = more some

-- the DFs of a name
named_lead : (tree : Tree) (name : List ℕ) (es : List (Path × File))
    → ((q : Path) → is_some (keyed.find (slice_cmp nat_cmp) q es) ≡ true → is_some (get tree q) ≡ true)
    → Lead tree (map (λ node. record { leads = is_named name node.1.kind; path = node.0 }) es)
named_lead tree name [] lift = tt
named_lead tree name (e ∷ es) lift = (
  λ leads. lift e.0 (ap (λ (b : Bool). is_some (cond b (Some e.1) (keyed.find (slice_cmp nat_cmp) e.0 es)))
      (same_of_one e.0 e.0 refl)),
  named_lead tree name es (λ q there. lift q (by (same_path q e.0) (keyed.find (slice_cmp nat_cmp) q es) there)),
)
  where
    by : (same : Bool) (found : Option File) → is_some found ≡ true → is_some (cond same (Some e.1) found) ≡ true
    by true found there = refl
    by false found there = there

module _ (c : Card) (s : Session) (formed : IsWellFormed c) (current : HasCurrentFiles c.tree s) where
  abbrev df : Path
  df = s.current_df

  own_there : is_some (get c.tree df) ≡ true
  own_there = df_there c.tree formed.tree df current.df

  above_there : is_some (get c.tree (parent df)) ≡ true
  above_there = df_there c.tree formed.tree (parent df) (formed.tree.parents df own_there)

  id_lead : (id : ℕ) → Lead c.tree (candidates c.tree df id)
  id_lead id = (
    λ leads. leads,
    (
      λ leads. (and_parts (exists c.tree (parent df ++ id ∷ [])) _ (and_parts (not (length df == 0)) _ leads).1).0,
      (λ leads. above_there, (λ leads. own_there, (λ leads. formed.tree.master, tt))),
    ),
  )

  all_lead : (selection : Selector) → Lead c.tree (candidates_of c.tree df selection)
  all_lead selector.the_master = (λ leads. formed.tree.master, tt)
  all_lead (selector.by_identifier id) = id_lead id
  all_lead selector.the_parent = (λ leads. above_there, tt)
  all_lead (selector.by_name name) = named_lead c.tree name (entries c.tree)
      (λ q there. ap (λ (o : Option File). is_some o) (get-entries c.tree q) ∙ there)
  all_lead (selector.path_from_master path) = (λ leads. leads, tt)
  all_lead (selector.path_from_current path) = (λ leads. leads, tt)

  found_at : (path : Path) → is_some (get c.tree path) ≡ true → get c.tree path ≡ Some (file_at c.tree path)
  found_at path there = by (get c.tree path) there
    where
      by : (found : Option File) → is_some found ≡ true → found ≡ Some (unwrap_or found no_file)
      by None there = absurd (true≢false (sym there))
      by (Some file) there = refl

  subject_there : (subject : Subject) → is_none (subject_of c.tree s subject) ≡ false
      → is_some (get c.tree (subject_path c s subject)) ≡ true
  subject_there subjects.Current some = by s.current_ef current.ef
    where
      by : (ef : Option ℕ) → IfSome ef (λ id. is_ef (get c.tree (s.current_df ++ id ∷ [])) ≡ true)
          → is_some (get c.tree (unwrap_or (option_map (λ id. s.current_df ++ id ∷ []) ef) s.current_df)) ≡ true
      by None is = own_there
      by (Some id) is = (and_parts (is_some (get c.tree (s.current_df ++ id ∷ []))) _ is).0
  subject_there (subjects.Identifier id) some = reached_there c.tree (candidates c.tree df id) (id_lead id) some

  -- where no DF is fit, the file at a path is an EF
  ef_there : (path : Path) (test : Kind → Bool) → ((name : Option (List ℕ)) → test (dedicated name) ≡ false)
      → test (file_at c.tree path).kind ≡ true → is_ef (get c.tree path) ≡ true
  ef_there path test never is = by (get c.tree path) is
    where
      by_kind : (kind : Kind) → test kind ≡ true → not (is_dedicated kind) ≡ true
      by_kind (dedicated name) is = absurd (true≢false (sym is ∙ never name))
      by_kind (elementary short body) is = refl

      by : (found : Option File) → test (unwrap_or found no_file).kind ≡ true → is_ef found ≡ true
      by None is = absurd (true≢false (sym is ∙ never None))
      by (Some file) is = by_kind file.kind is

  -- an EF at a path has other content: the current files are there still
  module _ (path : Path) (file : File) (ef : is_ef (get c.tree path) ≡ true)
      (still : is_dedicated file.kind ≡ false) where
    df_left : (q : Path) → is_df (get c.tree q) ≡ true → is_df (get (insert c.tree path file) q) ≡ true
    df_left q there =
        ap is_df (get-insert nat_list_cmp_total c.tree path file q) ∙ by (same_path q path) refl
      where
        never : (found : Option File) → is_ef found ≡ true → is_df found ≡ true → ⊥
        never None e d = true≢false (sym d)
        never (Some f) e d = true≢false (sym e ∙ ap (λ (b : Bool). not b) d)

        by : (test : Bool) → same_path q path ≡ test → is_df (cond test (Some file) (get c.tree q)) ≡ true
        by true same = absurd (never (get c.tree q)
            (ap (λ (p : Path). is_ef (get c.tree p)) (one_of_same q path same) ∙ ef) there)
        by false same = there

    ef_left : (q : Path) → is_ef (get c.tree q) ≡ true → is_ef (get (insert c.tree path file) q) ≡ true
    ef_left q there = ap is_ef (get-insert nat_list_cmp_total c.tree path file q) ∙ by (same_path q path)
      where
        by : (test : Bool) → is_ef (cond test (Some file) (get c.tree q)) ≡ true
        by true = ap (λ (b : Bool). not b) still
        by false = there

    files_left : (x : Session) → HasCurrentFiles c.tree x → HasCurrentFiles (insert c.tree path file) x
    files_left x has = record { df = df_left x.current_df has.df; ef = by x.current_ef has.ef }
      where
        by : (o : Option ℕ) → IfSome o (λ id. is_ef (get c.tree (x.current_df ++ id ∷ [])) ≡ true)
            → IfSome o (λ id. is_ef (get (insert c.tree path file) (x.current_df ++ id ∷ [])) ≡ true)
        by None is = tt
        by (Some id) is = ef_left (x.current_df ++ id ∷ []) is

-- an EF's kind is no DF's
not_df : (kind : Kind) (test : Kind → Bool) → ((name : Option (List ℕ)) → test (dedicated name) ≡ false)
    → test kind ≡ true → is_dedicated kind ≡ false
not_df (dedicated name) test never is = absurd (true≢false (sym is ∙ never name))
not_df (elementary short body) test never is = refl

-- what is shorter doesn't begin with a path
shorter : (q path : Path) → length q < length path → starts_with nat_eq q path ≡ false
shorter [] [] less = absurd (omega (arith, less))
shorter [] (y ∷ path) less = refl
shorter (x ∷ q) [] less = absurd (omega (arith, less))
shorter (x ∷ q) (y ∷ path) less = by (nat_eq y x) (shorter q path (omega (arith, less)))
  where
    by : (same : Bool) → starts_with nat_eq q path ≡ false → (same && starts_with nat_eq q path) ≡ false
    by true rest = rest
    by false rest = refl

-- the file that was put
put_there : (tree : Tree) (path : Path) (file : File) → get (insert tree path file) path ≡ Some file
put_there tree path file = get-insert nat_list_cmp_total tree path file path
    ∙ ap (λ (b : Bool). cond b (Some file) (get tree path)) (same_of_one path path refl)

module _ (c : Card) (s : Session) (formed : IsWellFormed c) (current : HasCurrentFiles c.tree s) where
  abbrev kind_at : Path → Kind
  kind_at path = (file_at c.tree path).kind

  -- a command on contents of an EF, and one that changes them
  module _ (target : Target) (test : Kind → Bool)
      (never : (name : Option (List ℕ)) → test (dedicated name) ≡ false)
      (fits : test (target_kind c s target) ≡ true) where
    ef_named : is_ef (get c.tree (target_path c s target)) ≡ true
    ef_named = ef_there c s formed current (target_path c s target) test never fits

    named_left : HasCurrentFiles c.tree (naming s target (target_path c s target))
    named_left = at_named c.tree formed.tree s target (target_path c s target) current ef_named

    changed_left : (file : File) → is_dedicated file.kind ≡ is_dedicated (target_kind c s target)
        → HasCurrentFiles (insert c.tree (target_path c s target) file) (naming s target (target_path c s target))
    changed_left file same =
        files_left c s formed current (target_path c s target) file ef_named
        (same ∙ not_df (target_kind c s target) test never fits) _ named_left

  deleted_left : (subject : Subject) → refused_by (delete_refusals c s subject) ≡ None
      → HasCurrentFiles (without c (subject_path c s subject)).tree
      (at_dedicated_file s (parent (subject_path c s subject)))
  deleted_left subject unrefused =
      let path = subject_path c s subject in
      -- there is one; it isn't the MF
      let known = unrefused-each (delete_refusals c s subject) unrefused in
      let below : 0 < length path = elim (eqb_tells (length path) 0) [
        | inl is ↦ absurd (true≢false (sym is.0 ∙ known.1.0))
        | inr other ↦ (let some = other.1 in omega (arith, some))
      ] in
      let long = length-take (length path - 1) path in
      let less : length (parent path) < length path = omega (arith, long, below) in
      record {
        df = df_is_kept c path below formed (parent path) (ap (λ (b : Bool). not b) (shorter (parent path) path less))
            (formed.tree.parents path (subject_there c s formed current subject known.0));
        ef = tt;
      }

  attempted_left : (a : Attempt) → HasCurrentFiles (attempted c s a).card.tree (attempted c s a).session
  attempted_left a = by (is_right c a)
    where
      by_mark : (mark : Bool) → HasCurrentFiles c.tree (unverified s a mark)
      by_mark true = record { df = current.df; ef = current.ef }
      by_mark false = current

      by : (right : Bool) → HasCurrentFiles (attempted_as c s a right).card.tree (attempted_as c s a right).session
      by true = record { df = current.df; ef = current.ef }
      by false = by_mark a.unverifies

  session_formed : (request : Request) → refused_by ((behaviour_of request).refusals c s) ≡ None
      → HasCurrentFiles ((behaviour_of request).effect c s).card.tree ((behaviour_of request).effect c s).session
  session_formed (select selection returned expected) unrefused =
      let path = selected_path c s selection in
      let known = unrefused-each (select_refusals c s selection returned expected) unrefused in
      at_file c.tree formed.tree s path (file_at c.tree path) (found_at c s formed current path
      (reached_there c.tree (candidates_of c.tree s.current_df (named selection))
      (all_lead c s formed current (named selection)) known.0))
  session_formed (read_binary target offset expected) unrefused =
      let known = unrefused-each (read_refusals c s target offset) unrefused in
      named_left target is_transparent (λ name. refl) (not-false (is_transparent (target_kind c s target)) known.1.1.0)
  session_formed (update_binary target offset bytes) unrefused =
      let kind = target_kind c s target in
      let known = unrefused-each (update_refusals c s target offset bytes) unrefused in
      changed_left target is_transparent (λ name. refl) (not-false (is_transparent kind) known.1.1.0) _
      (alike_bytes kind _).df
  session_formed (create_file template) unrefused =
      let fcp = told_by (fcp_read template) in
      at_file (created_card c s template).tree (created_formed c s formed template current unrefused).tree s
      (s.current_df ++ fcp.identifier ∷ []) (new_file fcp (short_of_new c.tree s.current_df fcp))
      (put_there c.tree (s.current_df ++ fcp.identifier ∷ []) (new_file fcp (short_of_new c.tree s.current_df fcp)))
  session_formed (delete_file subject) unrefused = deleted_left subject unrefused
  session_formed (read_record target choice expected) unrefused =
      let known = unrefused-each (read_record_refusals c s target choice expected) unrefused in
      let left = named_left target has_records (λ name. refl)
      (not-false (has_records (target_kind c s target)) known.1.1.0) in
      record { df = left.df; ef = left.ef }
  session_formed (update_record target choice bytes) unrefused =
      let kind = target_kind c s target in
      let known = unrefused-each (update_record_refusals c s target choice bytes) unrefused in
      let left = changed_left target has_records (λ name. refl)
      (replaced_records choice kind (not-false (replaces choice kind) known.1.1.0)) _ (alike_records kind _).df in
      record { df = left.df; ef = left.ef }
  session_formed (append_record target bytes) unrefused =
      let kind = target_kind c s target in
      let known = unrefused-each (append_refusals c s target bytes) unrefused in
      let left = changed_left target has_records (λ name. refl) (not-false (has_records kind) known.1.1.0) _
      (alike_records kind _).df in
      record { df = left.df; ef = left.ef }
  session_formed (search_record target first direction text expected) unrefused =
      let known = unrefused-each (search_refusals c s target first direction text expected) unrefused in
      let left = named_left target has_records (λ name. refl)
      (not-false (has_records (target_kind c s target)) known.1.1.0) in
      record { df = left.df; ef = left.ef }
  session_formed (increase sent expected) unrefused =
      let kind = target_kind c s Current in
      let known = unrefused-each (increase_refusals c s sent expected) unrefused in
      let left = changed_left Current is_cyclic (λ name. refl) (not-false (is_cyclic kind) known.1.1.0) _
      (alike_records kind _).df in
      record { df = left.df; ef = left.ef }
  session_formed (change_life_cycle change subject) unrefused =
      let path = changed_path c s change subject in
      let file = with_life (file_at c.tree path) (changed_life c s change subject) in
      at_file (life_changed c s change subject).card.tree (life_formed c s formed change subject unrefused).tree s path
      file (put_there c.tree path file)
  session_formed terminate_card_usage unrefused = current
  session_formed (verify pin None) unrefused = current
  session_formed (verify pin (Some shown)) unrefused = attempted_left (verifying pin shown)
  session_formed (change_reference_data pin shown new) unrefused = attempted_left (changing pin shown new)
  session_formed (reset_retry_counter pin None) unrefused = current
  session_formed (reset_retry_counter pin (Some values)) unrefused = attempted_left (resetting pin values.0 values.1)
  session_formed (change_requirement change pin shown) unrefused = attempted_left (marking change pin shown)

  served_current : (request : Request) → HasCurrentFiles (served c s request).card.tree (served c s request).session
  unfolding served effect refusals_of
  served_current request = by (refused_by (refusals_of c s request)) (session_formed request)
    where
      by : (refusal : Option Sw)
          → (refusal ≡ None → HasCurrentFiles (effect c s request).card.tree (effect c s request).session)
          → HasCurrentFiles (unless_refused c s refusal (effect c s request)).card.tree
          (unless_refused c s refusal (effect c s request)).session
      by None done = done refl
      by (Some status) done = current

  outcome_current : (wanted : Result Request Sw)
      → HasCurrentFiles (outcome_of c s wanted).card.tree (outcome_of c s wanted).session
  unfolding step
  outcome_current (Ok request) =
      either-if (λ (outcome : Outcome). HasCurrentFiles outcome.card.tree outcome.session) c.in_use
      (served c s request) (refused c s CONDITIONS_NOT_SATISFIED) (served_current request) current
  outcome_current (Err status) = current

-- the current files after a command are in its tree
pub step_current : (c : Card) (s : Session) (command : List ℕ) → IsWellFormed c → HasCurrentFiles c.tree s
    → HasCurrentFiles (carried_out c s command).card.tree (carried_out c s command).session
step_current c s command formed current = outcome_current c s formed current (asked command)
