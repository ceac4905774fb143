use Rattle.std.proofs.Common.{◌≡◌, ◌≢◌, ◌&&◌, ℕ, Bool, true, false, not, Option, None, Some, nat_le, is_some}
use Rattle.std.proofs.Common.{is_none, option_map, if◌then◌else◌, refl, sym, ◌∙◌, ap, arith, inl, inr, true≢false}
use Rattle.std.proofs.lemmas.Bool.Decides.{leb_tells}
use Rattle.undo_journal.specs.Memory.{committed}
use Rattle.card_model.specs.FileTrees.{Path}
use Rattle.card_model.specs.Selectors.{child_by_short}
use Rattle.file_tree.specs.Table.{table, path_of}
use Rattle.file_tree.specs.Trees.{tree_of}
use Rattle.card_model.specs.NewFiles.{low_bits}
use Rattle.file_changes.specs.CreationParts.{short_option}
use Rattle.file_changes.specs.laws.NewEntries.{some_option}
use Rattle.undo_journal.specs.laws.Exits.{none_ok}
use Rattle.undo_journal.specs.laws.Told.{reads_none, reads_handed}
use Rattle.file_changes.proofs.creating.short_by_default.Goals as goal

-- low bits that are no short identifier
no_default : (n low : ℕ) (a b free : Bool) → nat_le 1 n ≡ a → low ≡ (if a && b then n else 0) → low ≡ 0
    → None ≡ (if a && b && free then Some n else None)
no_default n low true true free least is zero = elim (leb_tells 1 n) [
  | inl le ↦ (let l = le.1 in absurd (omega (arith, l, is, zero)))
  | inr gt ↦ absurd (true≢false (sym least ∙ gt.0))
]
no_default n low true false free least is zero = refl
no_default n low false b free least is zero = refl

-- low bits that are one
used_bits : (n low : ℕ) (a b : Bool) → low ≡ (if a && b then n else 0) → low ≢ 0 → low ≡ n
used_bits n low true true is some = is
used_bits n low true false is some = absurd (some is)
used_bits n low false b is some = absurd (some is)

-- which a child has or none has
by_default : (n low short : ℕ) (a b free : Bool) → low ≡ (if a && b then n else 0) → low ≢ 0
    → short ≡ (if not free then 0 else low) → short_option short ≡ (if a && b && free then Some n else None)
by_default n low short true true true is some told = some_option short (λ z. some (sym told ∙ z)) ∙ ap Some (told ∙ is)
by_default n low short true true false is some told = ap short_option told
by_default n low short true false free is some told = absurd (some is)
by_default n low short false b free is some told = absurd (some is)

-- whether a child was found
taken_is : (path : ℕ → Path) (found : Option ℕ) (child : Option Path) → option_map path found ≡ child
    → is_some found ≡ not (is_none child)
taken_is path None child is = ap (λ (o : Option Path). not (is_none o)) is
taken_is path (Some e) child is = ap (λ (o : Option Path). not (is_none o)) is

pub returns-then-low-eq0 : goal.returns-then-low-eq0
returns-then-low-eq0 g c = record {
  told = let n = low_bits c.args.identifier in
      no_default n c.low_short-low.result (nat_le 1 n) (nat_le n 30) _ refl c.low_short-low.ensures c.if-low-eq0.true;
  store = reads_none _ c.requires.df.ready;
}

pub find_short-requires-clause-some : goal.find_short-requires-clause-some
find_short-requires-clause-some g c = let some = c.if-low-eq0.false in omega (arith, some)

pub returns-in_err-find_short : goal.returns-in_err-find_short
returns-in_err-find_short g c = record {
  told = none_ok _ _ _ c.from_residual.ensures.1;
  store = reads_handed _ _ _ _ c.from_residual.ensures.1 c.in_err-find_short.ensures.store;
}

pub returns-in-Some : goal.returns-in-Some
returns-in-Some g c = record {
  told = let m = committed c.args.store.now in
      let n = low_bits c.args.identifier in
      let low = c.low_short-low.result in
      let child = child_by_short (tree_of m) (path_of (table m) c.args.df) in
      let is : low ≡ n = used_bits n low (nat_le 1 n) (nat_le n 30) c.low_short-low.ensures c.if-low-eq0.false in
      let taken = sym (ap is_some c.in-Some.is)
      ∙ taken_is (path_of (table m)) _ (child low) c.in_ok-find_short.ensures.found
      ∙ ap (λ (k : ℕ). not (is_none (child k))) is in
      by_default n low 0 (nat_le 1 n) (nat_le n 30) (is_none (child n)) c.low_short-low.ensures c.if-low-eq0.false
      (ap (λ (b : Bool). if b then 0 else low) taken);
  store = c.in_ok-find_short.ensures.store;
}

pub returns-in-None : goal.returns-in-None
returns-in-None g c = record {
  told = let m = committed c.args.store.now in
      let n = low_bits c.args.identifier in
      let low = c.low_short-low.result in
      let child = child_by_short (tree_of m) (path_of (table m) c.args.df) in
      let is : low ≡ n = used_bits n low (nat_le 1 n) (nat_le n 30) c.low_short-low.ensures c.if-low-eq0.false in
      let taken = sym (ap is_some c.in-None.is)
      ∙ taken_is (path_of (table m)) _ (child low) c.in_ok-find_short.ensures.found
      ∙ ap (λ (k : ℕ). not (is_none (child k))) is in
      by_default n low low (nat_le 1 n) (nat_le n 30) (is_none (child n)) c.low_short-low.ensures c.if-low-eq0.false
      (ap (λ (b : Bool). if b then 0 else low) taken);
  store = c.in_ok-find_short.ensures.store;
}

pub find_short-requires-clause-df : goal.find_short-requires-clause-df
find_short-requires-clause-df g c = c.requires.df
