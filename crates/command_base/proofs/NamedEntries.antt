-- The structure of a file by the kind of its entry, and what refuses a command on contents by the entry of its file.
use Rattle.std.proofs.Common.{◌≡◌, ◌≢◌, ◌==◌, ◌≤◌, ℕ, Bool, true, false, List, take, Option, Some, None, refl, sym}
use Rattle.std.proofs.Common.{◌∙◌, ap, arith, if◌then◌else◌, ⊎_elim}
use Rattle.std.proofs.lemmas.Bool.{cases_eq}
use Rattle.nvm_board.specs.Facts.{IsMemory}
use Rattle.card_model.specs.declared.requests.Target.{Target}
use Rattle.file_tree.specs.declared.entry.Entry.{Entry}
use Rattle.card_model.specs.FileTrees.{Kind, transparent, linear, cyclic, dedicated, elementary}
use Rattle.file_tree.specs.Entries.{file_of, entry_capacity, linear_records, cyclic_records, name_of}
use Rattle.card_model.specs.FileLives.{is_barred}
use Rattle.file_tree.specs.Table.{table, entry_in, path_of}
use Rattle.file_tree.specs.Trees.{content, file_in}
use Rattle.command_base.specs.declared.current.Current.{Current}
use Rattle.command_base.specs.declared.target_file.Need.{Need}
use Rattle.command_base.specs.declared.target_file.AcceptedStructure.{AcceptedStructure}
use Rattle.command_base.specs.declared.target_file.AcceptedStructure.TheVariants.{Bytes, Records, Linear, Cyclic}
use Rattle.card_model.specs.Cards.{Card}
use Rattle.card_model.specs.Guards.{file_refusals, allowed}
use Rattle.card_model.specs.Behaviours.{refused_by}
use Rattle.card_model.specs.Reaching.{target_of}
use Rattle.card_model.specs.Sessions.{Session}
use Rattle.command_base.specs.Standing.{card_of, IsCard}
use Rattle.command_base.specs.Working.{session_of, IsElementary}
use Rattle.command_base.specs.NamedFiles.{file_refusal, fits, fits_kind, IsNamed}
use Rattle.command_base.specs.laws.Entries.{there}
use Rattle.card_model.specs.laws.Guarding.{guarded-named}
use Rattle.command_base.specs.laws.Told.{told-entry}

of-bytes : (s : AcceptedStructure) (short : Option ℕ) (held : List ℕ)
    → fits s (elementary short (transparent held)) ≡ fits_kind s 2
of-bytes Bytes short held = refl
of-bytes Records short held = refl
of-bytes Linear short held = refl
of-bytes Cyclic short held = refl

of-linear : (s : AcceptedStructure) (short : Option ℕ) (long capacity : ℕ) (records : List (List ℕ))
    → fits s (elementary short (linear long capacity records)) ≡ fits_kind s 3
of-linear Bytes short long capacity records = refl
of-linear Records short long capacity records = refl
of-linear Linear short long capacity records = refl
of-linear Cyclic short long capacity records = refl

of-cyclic : (s : AcceptedStructure) (short : Option ℕ) (long capacity : ℕ) (records : List (List ℕ))
    → fits s (elementary short (cyclic long capacity records)) ≡ fits_kind s 4
of-cyclic Bytes short long capacity records = refl
of-cyclic Records short long capacity records = refl
of-cyclic Linear short long capacity records = refl
of-cyclic Cyclic short long capacity records = refl

module _ (m : List ℕ) (e : ℕ) where
  abbrev x : Entry
  x = entry_in (table m) e

  abbrev short : Option ℕ
  short = if x.short == 0 then None else Some x.short

  -- what a file of an entry of a kind is
  abbrev kind_by : ℕ → Kind
  kind_by k =
      if k == 1 then dedicated (if x.name_length == 0 then None else Some (name_of x))
      else elementary short
      (if k == 2 then transparent (take x.size (content m x)) else
      if k == 3 then linear x.record_length (entry_capacity x) (linear_records x (content m x)) else
      cyclic x.record_length (entry_capacity x) (cyclic_records x (content m x)))

  -- whether the file of an entry has a structure
  pub fits-is : (s : AcceptedStructure) → 2 ≤ x.kind → x.kind ≤ 4 → fits s (file_in m e).kind ≡ fits_kind s x.kind
  unfolding file_of
  fits-is s high low = ⊎_elim
      (λ (bytes : x.kind ≡ 2).
      ap (λ (k : ℕ). fits s (kind_by k)) bytes ∙ of-bytes s short (take x.size (content m x))
      ∙ sym (ap (fits_kind s) bytes))
      (λ (no_bytes : x.kind ≢ 2). ⊎_elim
      (λ (in_order : x.kind ≡ 3).
      ap (λ (k : ℕ). fits s (kind_by k)) in_order
      ∙ of-linear s short x.record_length (entry_capacity x) (linear_records x (content m x))
      ∙ sym (ap (fits_kind s) in_order))
      (λ (not_in_order : x.kind ≢ 3).
      let newest_first : x.kind ≡ 4 = omega (arith, high, low, no_bytes, not_in_order) in
      ap (λ (k : ℕ). fits s (kind_by k)) newest_first
      ∙ of-cyclic s short x.record_length (entry_capacity x) (cyclic_records x (content m x))
      ∙ sym (ap (fits_kind s) newest_first))
      (cases_eq x.kind 3))
      (cases_eq x.kind 2)

-- a file that nothing refuses has the structure that the command is for
free-fits : (barred fit permitted : Bool) → file_refusal barred fit permitted ≡ None → fit ≡ true
free-fits true fit permitted none = cc
free-fits false true permitted none = refl
free-fits false false permitted none = cc

-- what refuses a command on contents, by the entry of the file that it names
module _ (m : List ℕ) (sized : IsMemory m) (words : IsCard m) (x : Current) (target : Target) (need : Need) (e : ℕ)
    (file : IsElementary (table m) x.df e)
    (place : target_of (card_of m).tree (session_of (table m) x) target ≡ Some (path_of (table m) e)) where
  abbrev c : Card
  c = card_of m

  abbrev s : Session
  s = session_of (table m) x

  abbrev path : List ℕ
  path = path_of (table m) e

  pub entry-refusal : refused_by (file_refusals c s target (fits need.structure) need.bit)
      ≡ file_refusal (is_barred c.tree path) (fits_kind need.structure (entry_in (table m) e).kind)
      (allowed c s path need.bit)
  entry-refusal =
      let used = file.child.used in
      guarded-named c s target (fits need.structure) need.bit path (file_in m e) place (there m words e used)
      ∙ ap (λ (fit : Bool). file_refusal (is_barred c.tree path) fit (allowed c s path need.bit))
      (fits-is m e need.structure file.kind (told-entry m sized words e used).file.kind)

  pub entry-named : refused_by (file_refusals c s target (fits need.structure) need.bit) ≡ None
      → (entry : Entry) → entry ≡ entry_in (table m) e → IsNamed m x target need e entry
  entry-named none entry is = record {
    entry_is = is;
    place = place;
    file = file;
    unrefused = none;
    structure =
        ap (λ (y : Entry). fits_kind need.structure y.kind) is
        ∙ free-fits (is_barred c.tree path) (fits_kind need.structure (entry_in (table m) e).kind)
        (allowed c s path need.bit) (sym entry-refusal ∙ none);
  }
