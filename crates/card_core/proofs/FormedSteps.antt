-- Each step of the tree machine leaves a well-formed card well formed.
use Rattle.std.specs.Prelude.{◌≡◌, ◌≢◌, ◌<◌, ◌≤◌, ◌-◌, ◌==◌, ◌&&◌, ◌++◌, ◌∷◌, [], not, ℕ, zero, suc, Bool, true, false}
use Rattle.std.specs.Prelude.{if◌then◌else◌, List, length, slice_set, find, nat_le, All}
use Rattle.std.specs.Prelude.{Option, Some, None, option_map, is_some, is_none, IsTrue, IfSome, IfOk, Result, Ok, Err}
use Rattle.std.specs.FinMap.{get, entries, get-entries}
use Rattle.std.specs.Option.{ok_or, option_map_or}
use Rattle.std.proofs.Common.{arith, refl, sym, ◌∙◌, ap, ap₂, inl, inr, subst, length-set, true≢false}
use Rattle.std.proofs.lemmas.Bool.{and_parts, not-false, or_left, or_right}
use Rattle.std.proofs.lemmas.Bool.Decides.{eqb_tells}
use Rattle.std.proofs.lemmas.List.{length-append, nil_from_length}
use Rattle.std.proofs.lemmas.List.Elements.{All-cons, All-head, All-tail}
use Rattle.std.proofs.lemmas.Option.{none-some, same_Some}
use Rattle.card_model.specs.declared.status.Sw.{Sw}
use Rattle.card_model.specs.declared.status.TheConstants.Sw.{CONDITIONS_NOT_SATISFIED}
use Rattle.card_model.specs.declared.fault.FcpFault.{FcpFault}
use Rattle.card_model.specs.declared.fault.FcpFault.TheVariants.{Missing, Twice, Value}
use Rattle.card_model.specs.declared.fcp.Fcp.{Fcp}
use Rattle.card_model.specs.declared.fcp.FileKind.{FileKind}
use Rattle.card_model.specs.declared.fcp.FileKind.TheVariants as kinds
use Rattle.card_model.specs.declared.fcp.ShortIdentifier.{ShortIdentifier}
use Rattle.card_model.specs.declared.fcp.ShortIdentifier.TheVariants.{Absent, Empty, Given}
use Rattle.card_model.specs.declared.requests.Target.{Target}
use Rattle.card_model.specs.declared.requests.Target.TheVariants.{Current}
use Rattle.card_model.specs.declared.requests.Subject.{Subject}
use Rattle.card_model.specs.declared.requests.LifeCycleChange.{LifeCycleChange}
use Rattle.card_model.specs.declared.requests.RecordChoice.{RecordChoice}
use Rattle.card_model.specs.Rule.{is_rule, allows}
use Rattle.card_model.specs.TemplateGrammar.{DataObject, ◌>>=◌, fcp_of, fcp_read, has_unknown, is_missing, is_twice}
use Rattle.card_model.specs.TemplateGrammar.{kind_read, life_cycle_of, meaning_of, objects_in, rule_read}
use Rattle.card_model.specs.TemplateGrammar.{value_at, descriptor_of, identifier_of}
use Rattle.card_model.specs.FileControl.{name_bytes, short_of_kind}
use Rattle.card_model.specs.FileTrees.{Body, File, Kind, Path, dedicated, elementary, transparent, linear, cyclic}
use Rattle.card_model.specs.FileTrees.{file_at, is_dedicated, is_transparent, parent, short_of, with_bytes}
use Rattle.card_model.specs.Selectors.{child_by_short, has_short, is_child, is_named}
use Rattle.card_model.specs.NewFiles.{has_name, has_short_given, low_bits, new_file, new_kind, short_for, short_of_new}
use Rattle.card_model.specs.Secrets.{Pin, charged_pin}
use Rattle.card_model.specs.Cards.{Card}
use Rattle.card_model.specs.Sessions.{Session, marks_of}
use Rattle.card_model.specs.WellFormed.{HasCurrentFiles, HasEightBytes, IsWellFormed}
use Rattle.card_model.specs.Requests.{IsSized, Request, select, read_binary, update_binary}
use Rattle.card_model.specs.Requests.{create_file, delete_file, read_record, update_record, append_record}
use Rattle.card_model.specs.Requests.{search_record, increase, change_life_cycle, terminate_card_usage, verify}
use Rattle.card_model.specs.Requests.{change_reference_data, reset_retry_counter, change_requirement}
use Rattle.card_model.specs.Behaviours.{Attempt, Outcome, charged_card, is_right, no_pin, pin_of, refused}
use Rattle.card_model.specs.Behaviours.{refused_by, settled_card, unless_refused, with_pin_of}
use Rattle.card_model.specs.Guards.{allowed, disabled_of, target_kind, target_path}
use Rattle.card_model.specs.BinaryCommands.{binary_updated, update_refusals}
use Rattle.card_model.specs.RecordCommands.{append_refusals, has_records, increase_refusals, is_cyclic}
use Rattle.card_model.specs.RecordCommands.{is_linear, replaces, with_records}
use Rattle.card_model.specs.RecordCommands.{update_record_refusals, with_records_at, is_oldest}
use Rattle.card_model.specs.FileCommands.{create_refusals, created_card, delete_refusals, file_deleted, subject_path}
use Rattle.card_model.specs.FileCommands.{tells_none}
use Rattle.card_model.specs.FileCommands.{told_by, with_new}
use Rattle.card_model.specs.LifeCycleCommands.{change_bit, change_refusals, changed_path, life_changed}
use Rattle.card_model.specs.LifeCycleCommands.{terminated_card}
use Rattle.card_model.specs.PinCommands.{attempted, attempted_as, changing, marking}
use Rattle.card_model.specs.PinCommands.{resetting, verifying}
use Rattle.card_model.specs.CommandTable.{asked}
use Rattle.card_model.specs.Steps.{behaviour_of, carried_out, effect, outcome_of, refusals_of, served, step}
use Rattle.card_model.specs.laws.Orders.{same_of_one}
use Rattle.card_model.specs.laws.PathEnds.{parent-push}
use Rattle.card_model.specs.laws.ProperLaws.{either-if, unrefused-each}
use Rattle.card_model.specs.laws.RowLaws.{asked-sized}
use Rattle.card_model.specs.laws.TableLaws.{choose}
use Rattle.card_core.proofs.FormedTrees.{AreAlike, Fits, fits_again, is_df, less_formed, none_passes, put_formed}
use Rattle.card_core.proofs.FormedTrees.{there_is}

-- other content of a kind
pub alike : (kind : Kind) → AreAlike kind kind
alike kind = record { df = refl; name = λ name is. is; short = refl }

alike_content : (short : Option ℕ) (old new : Body) → AreAlike (elementary short old) (elementary short new)
alike_content short old new = record {
  df = refl;
  name = λ name is. absurd (true≢false (sym (ap is_dedicated is)));
  short = refl;
}

pub alike_bytes : (kind : Kind) (bytes : List ℕ) → AreAlike kind (with_bytes kind bytes)
alike_bytes (dedicated name) bytes = alike (dedicated name)
alike_bytes (elementary short (transparent old)) bytes = alike_content short (transparent old) (transparent bytes)
alike_bytes (elementary short (linear long capacity records)) bytes =
    alike (elementary short (linear long capacity records))
alike_bytes (elementary short (cyclic long capacity records)) bytes =
    alike (elementary short (cyclic long capacity records))

pub alike_records : (kind : Kind) (records : List (List ℕ)) → AreAlike kind (with_records kind records)
alike_records (dedicated name) records = alike (dedicated name)
alike_records (elementary short (transparent old)) records = alike (elementary short (transparent old))
alike_records (elementary short (linear long capacity old)) records =
    alike_content short (linear long capacity old) (linear long capacity records)
alike_records (elementary short (cyclic long capacity old)) records =
    alike_content short (cyclic long capacity old) (cyclic long capacity records)

-- the rule that a template tells is valid
abbrev HasRule : Fcp → Type 0
HasRule fcp = IsTrue (is_rule fcp.rule)

through : {A B : Type 0} (P : A → Type 0) (Q : B → Type 0) (o : Option A) (f : A → Option B) → IfSome o P
    → ((x : A) → P x → IfSome (f x) Q) → IfSome (o >>= f) Q
through P Q None f all next = tt
through P Q (Some x) f all next = next x all

abbrev Any : {A : Type 0} → A → Type 0
Any x = Unit {0}

anything : {A : Type 0} (o : Option A) → IfSome o Any
anything None = tt
anything (Some x) = tt

rule_first : (found : Option (List ℕ)) → IfSome (found >>= rule_read) (λ rule. IsTrue (is_rule rule))
rule_first None = tt
rule_first (Some bytes) =
    choose (λ (o : Option (List ℕ)). IfSome o (λ rule. IsTrue (is_rule rule))) (is_rule bytes) (Some bytes) None
    (λ is. is) tt

rule_told : (os : List DataObject) → IfSome (fcp_of os) HasRule
unfolding fcp_of
rule_told os =
    through Any HasRule (value_at os 0x82 >>= descriptor_of) _ (anything _) (λ descriptor any_descriptor.
    through Any HasRule (value_at os 0x83 >>= identifier_of) _ (anything _) (λ id any_id.
    through Any HasRule (kind_read descriptor os) _ (anything _) (λ kind any_kind.
    through Any HasRule (life_cycle_of (value_at os 0x8A)) _ (anything _) (λ life any_life.
    through (λ rule. IsTrue (is_rule rule)) HasRule (value_at os 0x8C >>= rule_read) _ (rule_first (value_at os 0x8C))
    (λ rule valid.
    choose (λ told. IfSome told HasRule) (has_unknown os) None
    (Some (record { identifier = id; life_cycle = life; rule = rule; kind = kind })) (λ is. tt) valid)))))

abbrev RuleRead : Result Fcp FcpFault → Type 0
RuleRead (Ok fcp) = HasRule fcp
RuleRead (Err fault) = Unit {0}

rule_ok_or : (found : Option Fcp) → IfSome found HasRule → RuleRead (ok_or found Value)
rule_ok_or None valid = tt
rule_ok_or (Some fcp) valid = valid

rule_meaning : (found : Option (List DataObject)) → RuleRead (meaning_of found)
rule_meaning None = tt
rule_meaning (Some os) =
    choose RuleRead (is_missing os) (Err Missing) _ (λ is. tt)
    (choose RuleRead (is_twice os) (Err Twice) _ (λ is. tt) (rule_ok_or (fcp_of os) (rule_told os)))

rule_read_of : (text : List ℕ) → RuleRead (fcp_read text)
unfolding fcp_read
rule_read_of [] = tt
rule_read_of (tag ∷ []) = tt
rule_read_of (tag ∷ n ∷ body) =
    choose RuleRead ((tag == 0x62) && nat_le n 0x7F && (length body == n)) (meaning_of (objects_in n body)) _
    (λ is. rule_meaning (objects_in n body)) tt

-- the name that a new file has
own_name : Kind → Option (List ℕ)
own_name (dedicated name) = name
own_name (elementary short body) = None

new_name : (kind : FileKind) (short : Option ℕ) (name : List ℕ) → new_kind kind short ≡ dedicated (Some name)
    → name_bytes kind ≡ name
unfolding own_name
new_name (kinds.Df None) short name is = absurd (none-some name (ap own_name is))
new_name (kinds.Df (Some own)) short name is = same_Some own name (ap own_name is)
new_name (kinds.Transparent told size) short name is = absurd (true≢false (sym (ap is_dedicated is)))
new_name (kinds.Linear told records) short name is = absurd (true≢false (sym (ap is_dedicated is)))
new_name (kinds.Cyclic told records) short name is = absurd (true≢false (sym (ap is_dedicated is)))

-- a new file, where nothing refuses it
module _ (c : Card) (df : Path) (fcp : Fcp) (formed : IsWellFormed c) (above : is_df (get c.tree df) ≡ true)
    (valid : HasRule fcp) (vacant : is_some (get c.tree (df ++ fcp.identifier ∷ [])) ≡ false)
    (unnamed : has_name c.tree (name_bytes fcp.kind) ≡ false)
    (short_free : has_short_given c.tree df (short_of_kind fcp.kind) ≡ false)
    (shallow : (length df == 7) ≡ false) where
  abbrev path : Path
  path = df ++ fcp.identifier ∷ []

  new_level : length path ≤ 7
  new_level =
      let long = length-append df (fcp.identifier ∷ []) in
      let most = df_level (get c.tree df) refl above in
      let less = not_seven in omega (arith, long, most, less)
    where
      df_level : (found : Option File) → get c.tree df ≡ found → is_df found ≡ true → length df ≤ 7
      df_level None at is = absurd (true≢false (sym is))
      df_level (Some file) at is = formed.levels df file at

      not_seven : length df ≢ 7
      not_seven = elim (eqb_tells (length df) 7) [
        | inl is ↦ absurd (true≢false (sym is.0 ∙ shallow))
        | inr other ↦ other.1
      ]

  -- no DF has the new file's name
  fresh_name : (q : Path) (found : File) (name : List ℕ) → get c.tree q ≡ Some found
      → found.kind ≡ dedicated (Some name) → name_bytes fcp.kind ≡ name → ⊥
  fresh_name q found name at its own =
      let passes : is_named (name_bytes fcp.kind) found.kind ≡ true =
      ap (is_named (name_bytes fcp.kind)) its ∙ same_of_one name (name_bytes fcp.kind) (sym own) in
      true≢false (sym passes
      ∙ none_passes (λ node. is_named (name_bytes fcp.kind) node.1.kind) (entries c.tree) q found unnamed
      (sym (get-entries c.tree q) ∙ at))

  -- the MF has no short identifier
  root_short : (n : ℕ) (q : Path) (found : File) → q ≡ [] → get c.tree q ≡ Some found
      → short_of found.kind ≡ Some n → ⊥
  root_short n q found root at its =
      let there : get c.tree [] ≡ Some found = ap (get c.tree) (sym root) ∙ at in
      no_short found.kind n (sym (ap is_df there) ∙ formed.tree.parents [] formed.tree.master) its
    where
      no_short : (kind : Kind) (n : ℕ) → is_dedicated kind ≡ true → short_of kind ≡ Some n → ⊥
      no_short (dedicated name) n df its = none-some n its
      no_short (elementary short body) n df its = true≢false (sym df)

  itself : (n : ℕ) → (n == n) ≡ true
  itself n = elim (eqb_tells n n) [ inl is ↦ is.0 | inr other ↦ absurd (other.1 refl) ]

  unmapped : (o : Option (Path × File)) → is_some (option_map (λ node. node.0) o) ≡ false → is_some o ≡ false
  unmapped None e = refl
  unmapped (Some node) e = e

  -- no child has a short identifier that no child is found by
  fresh_child : (n : ℕ) → is_some (child_by_short c.tree df n) ≡ false → (q : Path) (found : File)
      → get c.tree q ≡ Some found → parent q ≡ df → short_of found.kind ≡ Some n → ⊥
  fresh_child n none q found at beside its = elim (eqb_tells (length q) 0) [
    | inl root ↦ root_short n q found (nil_from_length q root.1) at its
    | inr below ↦
        let child : is_child df q ≡ true =
        ap₂ (λ (a b : Bool). not a && b) below.0 (same_of_one (parent q) df beside) in
        let has : has_short found n ≡ true =
        ap (λ (o : Option ℕ). option_map_or (λ short. short == n) o false) its ∙ itself n in
        true≢false (sym (ap₂ (λ (a b : Bool). a && b) child has)
        ∙ none_passes (λ node. is_child df node.0 && has_short node.1 n) (entries c.tree) q found
        (unmapped (find (λ node. is_child df node.0 && has_short node.1 n) (entries c.tree)) none)
        (sym (get-entries c.tree q) ∙ at))
  ]

  abbrev NoChildHas : ℕ → Type 0
  NoChildHas n = is_some (child_by_short c.tree df n) ≡ false

  fresh_short : (told : ShortIdentifier) (n : ℕ) → has_short_given c.tree df told ≡ false
      → short_for c.tree df fcp.identifier told ≡ Some n → NoChildHas n
  fresh_short Empty n free is = absurd (none-some n is)
  fresh_short (Given k) n free is = subst (λ (m : ℕ). NoChildHas m) (same_Some k n is) free
  fresh_short Absent n free is =
      let low = low_bits fcp.identifier in
      by (nat_le 1 low) (nat_le low 30) (is_none (child_by_short c.tree df low)) refl is
    where
      none_some : (o : Option Path) → is_none o ≡ true → is_some o ≡ false
      none_some None e = refl
      none_some (Some q) e = absurd (true≢false (sym e))

      by : (a b none : Bool) → is_none (child_by_short c.tree df (low_bits fcp.identifier)) ≡ none
          → (if a && b && none then Some (low_bits fcp.identifier) else None) ≡ Some n → NoChildHas n
      by true true true none is = subst (λ (m : ℕ). NoChildHas m) (same_Some (low_bits fcp.identifier) n is)
          (none_some (child_by_short c.tree df (low_bits fcp.identifier)) none)
      by true true false none is = absurd (none-some n is)
      by true false any none is = absurd (none-some n is)
      by false b any none is = absurd (none-some n is)

  new_short : (n : ℕ) → short_of (new_kind fcp.kind (short_of_new c.tree df fcp)) ≡ Some n → NoChildHas n
  new_short n is = by fcp.kind short_free is
    where
      by : (kind : FileKind) → has_short_given c.tree df (short_of_kind kind) ≡ false
          → short_of (new_kind kind (short_of_new c.tree df (record {
            identifier = fcp.identifier;
            life_cycle = fcp.life_cycle;
            rule = fcp.rule;
            kind = kind;
          }))) ≡ Some n → NoChildHas n
      by (kinds.Df name) free is = absurd (none-some n is)
      by (kinds.Transparent told size) free is = fresh_short told n free is
      by (kinds.Linear told records) free is = fresh_short told n free is
      by (kinds.Cyclic told records) free is = fresh_short told n free is

  new_fits : Fits c.tree path (new_file fcp (short_of_new c.tree df fcp))
  new_fits = record {
    above = ap (λ (p : Path). is_df (get c.tree p)) (parent-push df fcp.identifier) ∙ above;
    kept = λ was. absurd (true≢false (sym (and_parts (is_some (get c.tree path)) _ was).0 ∙ vacant));
    level = new_level;
    rule = valid;
    name = λ q found name at its own. absurd (fresh_name q found name at its (new_name fcp.kind _ name own));
    short = λ q found n at beside its own.
        absurd (fresh_child n (new_short n own) q found at (beside ∙ parent-push df fcp.identifier) its);
  }

  pub new_formed : IsWellFormed (with_new c df fcp)
  new_formed = put_formed c path (new_file fcp (short_of_new c.tree df fcp)) formed new_fits

-- another PIN
set_in : {X : Type 0} (P : X → Type 0) (xs : List X) (i : ℕ) (x : X) → (i < length xs → P x) → All P xs
    → All P (slice_set xs i x)
set_in P [] i x inside all = all
set_in P (y ∷ xs) zero x inside all = All-cons P x xs (inside (omega arith)) (All-tail P y xs all)
set_in P (y ∷ xs) (suc i) x inside all =
    All-cons P y (slice_set xs i x) (All-head P y xs all)
    (set_in P xs i x (λ lt. inside (omega (arith, lt))) (All-tail P y xs all))

pinned : (c : Card) (n : ℕ) (pin : Pin) → IsWellFormed c → (n - 1 < length c.pins → HasEightBytes pin)
    → IsWellFormed (with_pin_of c n pin)
pinned c n pin formed eight = record {
  tree = formed.tree;
  levels = formed.levels;
  rules = formed.rules;
  names = formed.names;
  shorts = formed.shorts;
  pins = length-set c.pins (n - 1) pin ∙ formed.pins;
  values = set_in HasEightBytes c.pins (n - 1) pin eight formed.values;
}

charged_formed : (c : Card) (a : Attempt) → IsWellFormed c → IsWellFormed (charged_card c a)
charged_formed c a formed = pinned c a.pin (charged_pin a.secret (pin_of c a.pin)) formed (λ lt.
    let eight : HasEightBytes (pin_of c a.pin) = formed.values (a.pin - 1) no_pin lt in
    record { value = eight.value; unblocking = eight.unblocking })

abbrev KeepsEight : Attempt → Type 0
KeepsEight a = (pin : Pin) → HasEightBytes pin → HasEightBytes (a.becomes pin)

settled_formed : (c : Card) (a : Attempt) → IsWellFormed c → KeepsEight a → IsWellFormed (settled_card c a)
settled_formed c a formed keeps =
    let charged = charged_card c a in
    let still = charged_formed c a formed in
    pinned charged a.pin (a.becomes (pin_of charged a.pin)) still
    (λ lt. keeps (pin_of charged a.pin) (still.values (a.pin - 1) no_pin lt))

attempted_formed : (c : Card) (s : Session) (a : Attempt) → IsWellFormed c → KeepsEight a
    → IsWellFormed (attempted c s a).card
attempted_formed c s a formed keeps = by (is_right c a)
  where
    by : (right : Bool) → IsWellFormed (attempted_as c s a right).card
    by true = settled_formed c a formed keeps
    by false = charged_formed c a formed

-- what UPDATE RECORD is for has records
pub replaced_records : (choice : RecordChoice) (kind : Kind) → replaces choice kind ≡ true → has_records kind ≡ true
replaced_records choice kind = among (is_oldest choice)
  where
    among : (oldest : Bool) → (if oldest then has_records kind else is_linear kind) ≡ true
        → has_records kind ≡ true
    among true is = is
    among false is = or_left (is_linear kind) (is_cyclic kind) is

-- the parameters that a template tells
told_rule : (read : Result Fcp FcpFault) → RuleRead read → tells_none read ≡ false → HasRule (told_by read)
told_rule (Ok fcp) valid told = valid
told_rule (Err fault) valid told = absurd (true≢false told)

-- what each command does that isn't refused
module _ (c : Card) (s : Session) (formed : IsWellFormed c) where
  updated_formed : (target : Target) (offset : ℕ) (bytes : List ℕ)
      → refused_by (update_refusals c s target offset bytes) ≡ None
      → IsWellFormed (binary_updated c s target offset bytes).card
  updated_formed target offset bytes unrefused =
      let path = target_path c s target in
      let file = file_at c.tree path in
      -- the file is named; it isn't barred; it is transparent
      let known = unrefused-each (update_refusals c s target offset bytes) unrefused in
      let of_bytes = not-false (is_transparent (target_kind c s target)) known.1.1.0 in
      let there = there_is c path (λ (found : File). is_transparent found.kind) refl of_bytes in
      put_formed c path _ formed (fits_again c path file _ formed there refl (alike_bytes file.kind _))

  with_records_formed : (path : Path) (records : List (List ℕ)) → has_records (file_at c.tree path).kind ≡ true
      → IsWellFormed (with_records_at c path records)
  with_records_formed path records some =
      let file = file_at c.tree path in
      let there = there_is c path (λ (found : File). has_records found.kind) refl some in
      put_formed c path _ formed (fits_again c path file _ formed there refl (alike_records file.kind records))

  pub life_formed : (change : LifeCycleChange) (subject : Subject)
      → refused_by (change_refusals c s change subject) ≡ None → IsWellFormed (life_changed c s change subject).card
  life_formed change subject unrefused =
      let path = changed_path c s change subject in
      let file = file_at c.tree path in
      -- there is one; its state allows it; it is of the kind; its rule allows it
      let known = unrefused-each (change_refusals c s change subject) unrefused in
      let may = not-false (allowed c s path (change_bit change)) known.1.1.1.0 in
      let there = there_is c path (λ (found : File).
      allows found.rule (change_bit change) found.life (marks_of s.verified) (disabled_of c)) refl may in
      put_formed c path _ formed (fits_again c path file _ formed there refl (alike file.kind))

  pub created_formed : (template : List ℕ) → HasCurrentFiles c.tree s
      → refused_by (create_refusals c s template) ≡ None → IsWellFormed (created_card c s template)
  created_formed template current unrefused =
      -- it isn't barred; the template tells parameters; its rule; the identifier; the name; the short identifier
      let known = unrefused-each (create_refusals c s template) unrefused in
      let valid = told_rule (fcp_read template) (rule_read_of template) known.1.0 in
      let limits = known.1.1.1 in
      new_formed c s.current_df (told_by (fcp_read template)) formed current.df valid limits.0 limits.1.0
      limits.1.1.0 limits.1.1.1.0

  deleted_formed : (subject : Subject) → refused_by (delete_refusals c s subject) ≡ None
      → IsWellFormed (file_deleted c s subject).card
  deleted_formed subject unrefused =
      let known = unrefused-each (delete_refusals c s subject) unrefused in
      let path = subject_path c s subject in
      less_formed c path (elim (eqb_tells (length path) 0) [
        | inl is ↦ absurd (true≢false (sym is.0 ∙ known.1.0))
        | inr other ↦ (let some = other.1 in omega (arith, some))
      ]) formed

  terminated_formed : IsWellFormed (terminated_card c)
  terminated_formed = record {
    tree = formed.tree;
    levels = formed.levels;
    rules = formed.rules;
    names = formed.names;
    shorts = formed.shorts;
    pins = formed.pins;
    values = formed.values;
  }

  effect_formed : (request : Request) → HasCurrentFiles c.tree s → IsSized request
      → refused_by ((behaviour_of request).refusals c s) ≡ None
      → IsWellFormed ((behaviour_of request).effect c s).card
  effect_formed (select selection returned expected) current sized unrefused = formed
  effect_formed (read_binary target offset expected) current sized unrefused = formed
  effect_formed (update_binary target offset bytes) current sized unrefused =
      updated_formed target offset bytes unrefused
  effect_formed (create_file template) current sized unrefused = created_formed template current unrefused
  effect_formed (delete_file subject) current sized unrefused = deleted_formed subject unrefused
  effect_formed (read_record target choice expected) current sized unrefused = formed
  effect_formed (update_record target choice bytes) current sized unrefused =
      let known = unrefused-each (update_record_refusals c s target choice bytes) unrefused in
      with_records_formed (target_path c s target) _ (replaced_records choice (target_kind c s target)
      (not-false (replaces choice (target_kind c s target)) known.1.1.0))
  effect_formed (append_record target bytes) current sized unrefused =
      let known = unrefused-each (append_refusals c s target bytes) unrefused in
      with_records_formed (target_path c s target) _ (not-false (has_records (target_kind c s target)) known.1.1.0)
  effect_formed (search_record target first direction text expected) current sized unrefused = formed
  effect_formed (increase sent expected) current sized unrefused =
      let kind = target_kind c s Current in
      let known = unrefused-each (increase_refusals c s sent expected) unrefused in
      with_records_formed (target_path c s Current) _
      (or_right (is_linear kind) (is_cyclic kind) (not-false (is_cyclic kind) known.1.1.0))
  effect_formed (change_life_cycle change subject) current sized unrefused = life_formed change subject unrefused
  effect_formed terminate_card_usage current sized unrefused = terminated_formed
  effect_formed (verify pin None) current sized unrefused = formed
  effect_formed (verify pin (Some shown)) current sized unrefused =
      attempted_formed c s (verifying pin shown) formed
      (λ p eight. record { value = eight.value; unblocking = eight.unblocking })
  effect_formed (change_reference_data pin shown new) current sized unrefused =
      attempted_formed c s (changing pin shown new) formed
      (λ p eight. record { value = sized.1; unblocking = eight.unblocking })
  effect_formed (reset_retry_counter pin None) current sized unrefused = formed
  effect_formed (reset_retry_counter pin (Some values)) current sized unrefused =
      attempted_formed c s (resetting pin values.0 values.1) formed
      (λ p eight. record { value = sized.1; unblocking = eight.unblocking })
  effect_formed (change_requirement change pin shown) current sized unrefused =
      attempted_formed c s (marking change pin shown) formed
      (λ p eight. record { value = eight.value; unblocking = eight.unblocking })

  served_formed : (request : Request) → HasCurrentFiles c.tree s → IsSized request
      → IsWellFormed (served c s request).card
  unfolding served effect refusals_of
  served_formed request current sized =
      by (refused_by (refusals_of c s request)) (effect_formed request current sized)
    where
      by : (refusal : Option Sw) → (refusal ≡ None → IsWellFormed (effect c s request).card)
          → IsWellFormed (unless_refused c s refusal (effect c s request)).card
      by None done = done refl
      by (Some status) done = formed

  outcome_formed : (wanted : Result Request Sw) → HasCurrentFiles c.tree s → IfOk wanted IsSized
      → IsWellFormed (outcome_of c s wanted).card
  unfolding step
  outcome_formed (Ok request) current sized =
      either-if (λ (outcome : Outcome). IsWellFormed outcome.card) c.in_use (served c s request)
      (refused c s CONDITIONS_NOT_SATISFIED) (served_formed request current sized) formed
  outcome_formed (Err status) current sized = formed

-- a command leaves a well-formed card well formed
pub step_formed : (c : Card) (s : Session) (command : List ℕ) → IsWellFormed c → HasCurrentFiles c.tree s
    → IsWellFormed (carried_out c s command).card
step_formed c s command formed current =
    outcome_formed c s formed (asked command) current (asked-sized command)
