-- A change of the life cycle of a file by its entry, and what refuses it.
use Rattle.std.proofs.Common.{◌≡◌, ◌≢◌, ◌⊎◌, ◌==◌, ◌+◌, ℕ, suc, cond, Bool, true, false, not, List, [], ◌∷◌, length}
use Rattle.std.proofs.Common.{Option, Some, None, is_none}
use Rattle.std.proofs.Common.{IfSome, option_map, unwrap_or, Result, Ok, Err, MatchResult, if◌then◌else◌, refl, sym}
use Rattle.std.proofs.Common.{◌∙◌, ap, subst, arith, ⊎_elim, ap₂, slice_index_or}
use Rattle.std.proofs.lemmas.Bool.{cases_eq, ne_eqb}
use Rattle.std.proofs.lemmas.List.Sums.{sum_by-cons}
use Rattle.std.specs.List.{count_by}
use Rattle.std.specs.Result.{result_err}
use Rattle.nvm_board.specs.Facts.{IsMemory}
use Rattle.nvm_board.specs.laws.Sizes.{memory_same}
use Rattle.card_model.specs.LifeCycle.{life_cycle_at, life_cycle_byte}
use Rattle.card_model.specs.declared.life_cycle.LifeCycle.{LifeCycle}
use Rattle.card_model.specs.declared.status.Sw.{Sw}
use Rattle.card_model.specs.declared.status.TheConstants.Sw.{ACCESS_DENIED, CONDITIONS_NOT_SATISFIED, DONE}
use Rattle.card_model.specs.declared.status.TheConstants.Sw.{WRONG_STRUCTURE}
use Rattle.card_model.specs.declared.requests.Subject.{Subject}
use Rattle.card_model.specs.declared.requests.LifeCycleChange.{LifeCycleChange}
use Rattle.card_model.specs.declared.requests.LifeCycleChange.TheVariants.{Activate, Deactivate, TerminateDf}
use Rattle.card_model.specs.declared.requests.LifeCycleChange.TheVariants.{TerminateEf}
use Rattle.card_model.specs.Requests.{Request, change_life_cycle}
use Rattle.file_tree.specs.declared.entry.Entry.{Entry}
use Rattle.card_model.specs.FileTrees.{Body, File, Tree}
use Rattle.file_tree.specs.Entries.{file_of, free_entry}
use Rattle.card_model.specs.FileLives.{life_at, next_life}
use Rattle.file_tree.specs.States.{ChangesLife}
use Rattle.card_model.specs.Cards.{card_space, Card, Path, dedicated, elementary, file_at}
use Rattle.command_base.specs.laws.CardLaws.{card_space_is}
use Rattle.file_tree.specs.Table.{table, entry_in, free_entries, path_of, IsUsed}
use Rattle.file_tree.specs.Trees.{tree_of, file_in}
use Rattle.file_tree.specs.laws.Costs.{space_counted}
use Rattle.file_changes.specs.laws.NewEntries.{life_again}
use Rattle.file_tree.specs.laws.Nodes.{file_at_entry}
use Rattle.file_tree.specs.laws.Tables.{length-table}
use Rattle.command_base.specs.declared.current.Current.{Current}
use Rattle.file_commands.specs.declared.life_cycles.Changed.{Changed}
use Rattle.file_commands.specs.LifeParts.{change_at, changed_by, current_changed, is_for_kind, IsChanged}
use Rattle.card_model.specs.Guards.{allowed}
use Rattle.card_model.specs.LifeCycleCommands.{change_bit, change_refusals, changed_file, changed_path, command_of}
use Rattle.card_model.specs.LifeCycleCommands.{current_subject, is_for, changed_card, changed_life, life_changed}
use Rattle.card_model.specs.LifeCycleCommands.{no_subject, with_life_at, life_commits}
use Rattle.card_model.specs.Behaviours.{only_status, refused_by, unless_refused, outcome}
use Rattle.card_model.specs.Reaching.{current_elementary, subject_or}
use Rattle.card_model.specs.Sessions.{Session}
use Rattle.card_model.specs.SelectCommand.{selecting}
use Rattle.card_model.specs.Steps.{IsDoing, commits, commits_served, effect, last_of, refusals_of, served}
use Rattle.command_base.specs.laws.Words.{is-last}
use Rattle.command_base.specs.Standing.{card_of, IsCard}
use Rattle.command_base.specs.Working.{session_of, IsCurrent, IsElementary}
use Rattle.command_base.specs.CurrentFiles.{current_at}
use Rattle.card_model.specs.laws.Doing.{doing-one}
use Rattle.command_base.specs.laws.Entries.{card-tree, current-entry, current-path, selecting-entry}
use Rattle.command_base.specs.laws.Keeping.{files-after, files-stand}

-- two lists of one length, alike where a test looks
count-alike : {T : Type 0} (p : T → Bool) (d : T) (ys xs : List T) → length ys ≡ length xs
    → ((i : ℕ) → p (slice_index_or ys i d) ≡ p (slice_index_or xs i d)) → count_by p ys ≡ count_by p xs
count-alike p d [] [] long same = refl
count-alike p d [] (x ∷ xs) long same = absurd (let z : ⊥ = omega (arith, long) in z)
count-alike p d (y ∷ ys) [] long same = absurd (let z : ⊥ = omega (arith, long) in z)
count-alike p d (y ∷ ys) (x ∷ xs) long same =
    sum_by-cons (λ z. cond (p z) 1 0) y ys
    ∙ ap₂ (λ (b : Bool) (n : ℕ). cond b 1 0 + n) (same 0)
    (count-alike p d ys xs (omega (arith, long)) (λ i. same (suc i)))
    ∙ sym (sum_by-cons (λ z. cond (p z) 1 0) x xs)

-- the file that a command is about where it names none, by its entry
pub current-subject : (m : List ℕ) → IsCard m → (x : Current) → IsCurrent (table m) x → (change : LifeCycleChange)
    → current_subject (session_of (table m) x) change ≡ option_map (path_of (table m)) (current_changed x change)
current-subject m words x current = by_change
  where
    by_file : (ef : Option ℕ) → Some (unwrap_or (option_map (path_of (table m)) ef) (path_of (table m) x.df))
        ≡ Some (path_of (table m) (unwrap_or ef x.df))
    by_file None = refl
    by_file (Some e) = refl

    nearest : Some (unwrap_or (current_elementary (session_of (table m) x)) (path_of (table m) x.df))
        ≡ Some (path_of (table m) (unwrap_or x.ef x.df))
    nearest =
        ap (λ (found : Option Path). Some (unwrap_or found (path_of (table m) x.df))) (current-path m words x current)
        ∙ by_file x.ef

    by_change : (change : LifeCycleChange)
        → current_subject (session_of (table m) x) change ≡ option_map (path_of (table m)) (current_changed x change)
    by_change Activate = nearest
    by_change Deactivate = nearest
    by_change TerminateDf = refl
    by_change TerminateEf = current-path m words x current

-- what was found for a subject whose own file a change has
pub changed-found : (m : List ℕ) → IsCard m → (x : Current) → IsCurrent (table m) x → (change : LifeCycleChange)
    → (own : Option ℕ) → own ≡ current_changed x change → (subject : Subject) (found : Option ℕ)
    → subject_or (option_map (path_of (table m)) own) (card_of m).tree (session_of (table m) x) subject
    ≡ option_map (path_of (table m)) found
    → changed_file (card_of m).tree (session_of (table m) x) change subject ≡ option_map (path_of (table m)) found
changed-found m words x current change own is subject found told =
    ap (λ (o : Option Path). subject_or o (card_of m).tree (session_of (table m) x) subject)
    (current-subject m words x current change
    ∙ ap (λ (o : Option ℕ). option_map (path_of (table m)) o) (sym is)) ∙ told

-- and its own file is there
pub current-there : (t : List Entry) (x : Current) → IsCurrent t x → (change : LifeCycleChange)
    → IfSome (current_changed x change) (IsUsed t)
current-there t x current = by_change
  where
    df_used : IsUsed t x.df
    df_used = λ none. let k = current.df in let z : ⊥ = omega (arith, k, none) in z

    by_file : (ef : Option ℕ) → IfSome ef (IsElementary t x.df) → IfSome ef (IsUsed t)
    by_file None file = tt
    by_file (Some e) file = file.child.used

    nearest : (ef : Option ℕ) → IfSome ef (IsElementary t x.df) → IsUsed t (unwrap_or ef x.df)
    nearest None file = df_used
    nearest (Some e) file = file.child.used

    by_change : (change : LifeCycleChange) → IfSome (current_changed x change) (IsUsed t)
    by_change Activate = nearest x.ef current.ef
    by_change Deactivate = nearest x.ef current.ef
    by_change TerminateDf = df_used
    by_change TerminateEf = by_file x.ef current.ef

-- the refusals by their tests: no file, no state after the change, a file of another kind, a rule that doesn't allow it
abbrev verdict : Bool → Sw → Option LifeCycle → Bool → Bool → Option Sw
verdict none missing next fits permitted =
    if none then Some missing else
    if is_none next then Some CONDITIONS_NOT_SATISFIED else
    if not fits then Some WRONG_STRUCTURE else
    if not permitted then Some ACCESS_DENIED else None

-- and the same of a file that is there
by_tests : (missing : Sw) (change : LifeCycleChange) (e : ℕ) (entry : Entry) (next : Option LifeCycle)
    (permitted : Bool) → verdict false missing next (is_for_kind change entry.kind) permitted
    ≡ result_err (changed_by change e entry next permitted)
by_tests missing change e entry None permitted = refl
by_tests missing change e entry (Some life) permitted = by_two (is_for_kind change entry.kind) permitted
  where
    by_two : (fits permitted : Bool) → verdict false missing (Some life) fits permitted
        ≡ result_err {T = Changed} (if not fits then Err WRONG_STRUCTURE else if not permitted then Err ACCESS_DENIED
        else Ok (record { number = e; entry = entry; life = life }))
    by_two false permitted = refl
    by_two true false = refl
    by_two true true = refl

-- what a change is that nothing refuses
change-is : (change : LifeCycleChange) (e : ℕ) (entry : Entry) (life : LifeCycle) (permitted : Bool) (changed : Changed)
    → Ok changed ≡ changed_by change e entry (Some life) permitted
    → changed ≡ record { number = e; entry = entry; life = life }
change-is change e entry life permitted changed = by_two (is_for_kind change entry.kind) permitted
  where
    by_two : (fits permitted : Bool) → Ok changed ≡ (if not fits then Err WRONG_STRUCTURE else
        if not permitted then Err ACCESS_DENIED else Ok (record { number = e; entry = entry; life = life }))
        → changed ≡ record { number = e; entry = entry; life = life }
    by_two false permitted is = cc
    by_two true false is = cc
    by_two true true is = cc

-- the kinds that a command is for, by the kind of an entry
for-kind : (change : LifeCycleChange) (kind : ℕ) (name : Option (List ℕ)) (short : Option ℕ) (body : Body)
    → is_for change (if kind == 1 then dedicated name else elementary short body) ≡ is_for_kind change kind
for-kind Activate kind name short body = refl
for-kind Deactivate kind name short body = refl
for-kind TerminateDf kind name short body = by_test (kind == 1)
  where
    by_test : (b : Bool) → is_for TerminateDf (if b then dedicated name else elementary short body) ≡ b
    by_test true = refl
    by_test false = refl
for-kind TerminateEf kind name short body = by_test (kind == 1)
  where
    by_test : (b : Bool) → is_for TerminateEf (if b then dedicated name else elementary short body) ≡ not b
    by_test true = refl
    by_test false = refl

-- a command on the file of an entry
module _ (m : List ℕ) (words : IsCard m) (x : Current)
    (current : IsCurrent (table m) x) (change : LifeCycleChange) (subject : Subject) (e : ℕ) (used : IsUsed (table m) e)
    (place : changed_file (card_of m).tree (session_of (table m) x) change subject ≡ Some (path_of (table m) e)) where
  abbrev c : Card
  c = card_of m

  abbrev s : Session
  s = session_of (table m) x

  abbrev path : Path
  path = path_of (table m) e

  abbrev entry : Entry
  entry = entry_in (table m) e

  pub file-is : file_at c.tree path ≡ file_in m e
  file-is = ap (λ (tree : Tree). file_at tree path) (card-tree m) ∙ file_at_entry m words.tree.entries e path used refl

  fits-is : is_for change (file_at c.tree path).kind ≡ is_for_kind change entry.kind
  unfolding file_of
  fits-is = ap (λ (file : File). is_for change file.kind) file-is ∙ for-kind change entry.kind _ _ _

  -- what refuses it
  refusal-is : refused_by (change_refusals c s change subject) ≡ result_err (change_at m x change e)
  refusal-is =
      let tree = card-tree m in
      (λ i. verdict (is_none (place i)) (no_subject subject)
      (next_life c.tree (unwrap_or (place i) []) (command_of change))
      (is_for change (file_at c.tree (unwrap_or (place i) [])).kind)
      (allowed c s (unwrap_or (place i) []) (change_bit change)))
      ∙ (λ i. verdict false (no_subject subject) (next_life (tree i) path (command_of change)) (fits-is i)
      (allowed c s path (change_bit change)))
      ∙ by_tests (no_subject subject) change e entry (next_life (tree_of m) path (command_of change))
      (allowed c s path (change_bit change))

  -- what is found
  pub found-is : (answer : Result Changed Sw) → answer ≡ change_at m x change e → MatchResult answer
      (λ (changed : Changed). IsChanged m x change subject changed)
      (λ (refusal : Sw). refused_by (change_refusals c s change subject) ≡ Some refusal)
  found-is (Err refusal) is = refusal-is ∙ ap result_err (sym is)
  found-is (Ok changed) is = by_next (next_life (tree_of m) path (command_of change)) refl is
    where
      by_next : (next : Option LifeCycle) → next_life (tree_of m) path (command_of change) ≡ next
          → Ok changed ≡ changed_by change e entry next (allowed c s path (change_bit change))
          → IsChanged m x change subject changed
      by_next None none ok = absurd (let z : ⊥ = cc in z)
      by_next (Some life) some ok =
          subst (λ (found : Changed). IsChanged m x change subject found)
          (sym (change-is change e entry life (allowed c s path (change_bit change)) changed ok))
          (record {
            entry_is = refl;
            used = used;
            place = place;
            next = some;
            unrefused = refusal-is ∙ ap result_err (sym is);
          })

-- states with one byte are one state
pub same-state : (one other : LifeCycle) → life_cycle_byte one ≡ life_cycle_byte other → one ≡ other
same-state one other same =
    ap (λ (o : Option LifeCycle). unwrap_or o one) (sym (life_again one) ∙ ap life_cycle_at same ∙ life_again other)

-- A change that nothing refuses: what it does to the card and to the session.
module _ (m : List ℕ) (sized : IsMemory m) (words : IsCard m) (x : Current) (current : IsCurrent (table m) x)
    (change : LifeCycleChange) (subject : Subject) (changed : Changed)
    (found : IsChanged m x change subject changed) where
  abbrev before : Card
  before = card_of m

  abbrev session : Session
  session = session_of (table m) x

  abbrev e : ℕ
  e = changed.number

  abbrev at : Path
  at = path_of (table m) e

  abbrev request : Request
  request = change_life_cycle change subject

  abbrev at_file : Current
  at_file = current_at x e changed.entry

  path-is : changed_path before session change subject ≡ at
  path-is = ap (λ (o : Option Path). unwrap_or o []) found.place

  life-is : changed_life before session change subject ≡ changed.life
  life-is =
      (λ i. unwrap_or (next_life before.tree (path-is i) (command_of change)) (life_at before.tree (path-is i)))
      ∙ ap (λ (tree : Tree). unwrap_or (next_life tree at (command_of change)) (life_at before.tree at)) (card-tree m)
      ∙ ap (λ (next : Option LifeCycle). unwrap_or next (life_at before.tree at)) found.next

  card-changed : changed_card before session change subject ≡ with_life_at before at changed.life
  card-changed = λ i. with_life_at before (path-is i) (life-is i)

  -- a change to another state has one commit
  lasting : changed.life ≢ life_at (tree_of m) at
      → life_commits before session change subject ≡ changed_card before session change subject ∷ []
  lasting other =
      let tree = card-tree m in
      let differs : (life_cycle_byte (changed_life before session change subject)
      == life_cycle_byte (life_at before.tree (changed_path before session change subject))) ≡ false =
      (λ i. life_cycle_byte (life-is i) == life_cycle_byte (life_at before.tree (path-is i)))
      ∙ (λ i. life_cycle_byte changed.life == life_cycle_byte (life_at (tree i) at))
      ∙ ne_eqb (life_cycle_byte changed.life) (life_cycle_byte (life_at (tree_of m) at))
      (λ same. other (same-state changed.life (life_at (tree_of m) at) same)) in
      ap (λ (b : Bool). if b then [] else changed_card before session change subject ∷ []) differs

  -- which is made or not
  pub doing : changed.life ≢ life_at (tree_of m) at → (d : Card)
      → (d ≡ before) ⊎ (d ≡ changed_card before session change subject) → IsDoing before session request d
  unfolding commits refusals_of
  doing other d left =
      doing-one before session request (changed_card before session change subject) d found.unrefused (lasting other)
      left

  last-one : changed.life ≢ life_at (tree_of m) at → (d : Card) → d ≡ changed_card before session change subject
      → d ≡ last_of before (commits_served before session request)
  unfolding commits refusals_of
  last-one other d done =
      is-last before session request (changed_card before session change subject) d found.unrefused (lasting other) done

  module _ (after : List ℕ) (changes : ChangesLife m e changed.life after) where
    -- whatever doesn't depend on states stays in each entry
    part-kept : {T : Type 0} (part : Entry → T) → ((y : Entry) (life : ℕ) → part (record y { life = life }) ≡ part y)
        → (f : ℕ) → part (entry_in (table after) f) ≡ part (entry_in (table m) f)
    part-kept part other f = ⊎_elim
        (λ (same : f ≡ e).
        ap (λ (k : ℕ). part (entry_in (table after) k)) same
        ∙ ap part changes.entry ∙ other (entry_in (table m) e) (life_cycle_byte changed.life)
        ∙ sym (ap (λ (k : ℕ). part (entry_in (table m) k)) same))
        (λ (differs : f ≢ e). ap part (changes.others f differs))
        (cases_eq f e)

    kind-kept : (f : ℕ) → (entry_in (table after) f).kind ≡ (entry_in (table m) f).kind
    kind-kept = part-kept (λ (y : Entry). y.kind) (λ y life. refl)

    identifier-kept : (f : ℕ) → (entry_in (table after) f).identifier ≡ (entry_in (table m) f).identifier
    identifier-kept = part-kept (λ (y : Entry). y.identifier) (λ y life. refl)

    session-kept : (y : Current) → session_of (table m) y ≡ session_of (table after) y
    session-kept y =
        let df = changes.paths y.df in
        let ef = by_file y.ef in
        λ i. record (session_of (table m) y) { current_df = sym df i; current_ef = sym ef i }
      where
        by_file : (ef : Option ℕ) → option_map (λ f. (entry_in (table after) f).identifier) ef
            ≡ option_map (λ f. (entry_in (table m) f).identifier) ef
        by_file None = refl
        by_file (Some f) = ap (λ (id : ℕ). Some id) (identifier-kept f)

    pub changed-stands : IsCard after
    changed-stands = files-stand m after sized changes.rest words changes.stands

    pub card-is : card_of after ≡ changed_card before session change subject
    card-is =
        files-after m after sized changes.rest
        ∙ ap (λ (tree : Tree). record before { tree = tree }) changes.tree
        ∙ sym (ap (λ (tree : Tree). with_life_at (record before { tree = tree }) at changed.life) (card-tree m))
        ∙ sym card-changed

    -- it is the last card that the command commits
    pub last-changed : changed.life ≢ life_at (tree_of m) at
        → card_of after ≡ last_of before (commits_served before session request)
    last-changed other = last-one other (card_of after) card-is

    session-is : selecting session (changed_path before session change subject)
        (file_at before.tree (changed_path before session change subject)).kind ≡ session_of (table after) at_file
    session-is =
        (λ i. selecting session (path-is i) (file_at before.tree (path-is i)).kind)
        ∙ ap (λ (file : File). selecting session at file.kind)
        (file-is m words x current change subject e found.used found.place)
        ∙ selecting-entry m words e found.used x
        ∙ ap (λ (y : Entry). session_of (table m) (current_at x e y)) (sym found.entry_is)
        ∙ session-kept at_file

    pub changed-step : served before session request
        ≡ outcome (card_of after) (session_of (table after) at_file) [] DONE
    unfolding served refusals_of effect
    changed-step =
        ap (λ (refusal : Option Sw). unless_refused before session refusal (life_changed before session change subject))
        found.unrefused
        ∙ (λ i. record { card = sym card-is i; session = session-is i; response = only_status DONE })

    pub changed-current : IsCurrent (table after) at_file
    changed-current =
        let used : IsUsed (table after) e = λ none. found.used (sym (kind-kept e) ∙ none) in
        subst (λ (y : Current). IsCurrent (table after) y)
        (ap (current_at x e) changes.entry ∙ ap (current_at x e) (sym found.entry_is))
        (current-entry after changed-stands e used x current.marks)

    -- what is free stays
    pub changed-space : card_space (card_of after) ≡ card_space before
    changed-space =
        let sized_after : IsMemory after = memory_same _ _ changes.rest.size sized in
        let long : length (table after) ≡ length (table m) = length-table after ∙ sym (length-table m) in
        let entries : free_entries (table after) ≡ free_entries (table m) =
        count-alike (λ (y : Entry). y.kind == 0) free_entry (table after) (table m) long
        (λ f. ap (λ (kind : ℕ). kind == 0) (kind-kept f)) in
        card_space_is after changed-stands ∙ space_counted after sized_after changes.stands
        ∙ ap₂ (λ (free : List ℕ) (n : ℕ). record { blocks = length free; entries = n }) changes.free entries
        ∙ sym (card_space_is m words ∙ space_counted m sized words.tree)
