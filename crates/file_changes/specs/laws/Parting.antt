-- A table in two parts: the entries of a file and of all below it go, the others stay. In each part a free entry stands
-- where the other part has one.
use Rattle.std.specs.Prelude.{◌≡◌, ◌≢◌, ◌==◌, ◌⊎◌, ◌<◌, ◌≤◌, ◌+◌, ◌-◌, ◌*◌, ℕ, zero, suc, Bool, true, false, cond}
use Rattle.std.specs.Prelude.{if◌then◌else◌, List, [], ◌∷◌, map, length, slice_index_or, Option, None, Some, All}
use Rattle.std.specs.List.{range_with_len, cons_option, sum_by}
use Rattle.std.proofs.Common.{refl, sym, ◌∙◌, ap, ap₂, subst, arith, inl, inr, ⊎_elim}
use Rattle.std.proofs.lemmas.List.Sums.{sum_by-append}
use Rattle.std.proofs.lemmas.Bool.{cases_lt}
use Rattle.std.proofs.lemmas.Bool.Decides.{eqb_tells}
use Rattle.block_chain.specs.declared.chain.Extent.{Extent}
use Rattle.block_chain.specs.Layout.{AreSplit}
use Rattle.block_chain.specs.laws.Extents.{split_none, split_given, split_kept}
use Rattle.file_tree.specs.declared.entry.Entry.{Entry}
use Rattle.card_model.specs.Spaces.{blocks_for}
use Rattle.file_tree.specs.Entries.{free_entry, extent_of, extent_told, entry_capacity}
use Rattle.file_tree.specs.Table.{entry_in, extents, free_entries, IsEntry}
use Rattle.file_changes.specs.DeletionParts.{is_gone, going, part_below}
use Rattle.file_tree.specs.laws.Costs.{extent_of-none, extent_of-some}

-- an entry, where it stays; else a free one
abbrev pub staying : List Entry → ℕ → ℕ → Entry
staying t top f = if is_gone t top f then free_entry else entry_in t f

-- the same by pages, which are one more than the numbers
pub shifted : (t : List Entry) (top a n : ℕ)
    → map (going t top) (range_with_len a n) ≡ map (λ page. going t top (page - 1)) (range_with_len (a + 1) n)
shifted t top a zero = refl
shifted t top a (suc n) =
    let place : a ≡ a + 1 - 1 = omega arith in
    ap₂ (λ (x : Entry) (xs : List Entry). x ∷ xs) (ap (going t top) place) (shifted t top (a + 1) n)

pub length-part : (t : List Entry) (top : ℕ) → length (part_below t top) ≡ 64
unfolding part_below
length-part t top = refl

-- an entry goes and is a file's, or it stays
abbrev pub GoesOrStays : Entry → Entry → Entry → Type 0
GoesOrStays x gone kept = ((gone ≡ x) × (kept ≡ free_entry) × (x.kind ≢ 0)) ⊎ ((gone ≡ free_entry) × (kept ≡ x))

extent_free : extent_of free_entry ≡ None
extent_free = extent_of-none free_entry (omega arith)

first_given : (m : List ℕ) (o : Option Extent) (es given kept : List Extent) → AreSplit m es given kept
    → AreSplit m (cons_option o es) (cons_option o given) kept
first_given m None es given kept split = split
first_given m (Some e) es given kept split = split_given m e es given kept split

first_kept : (m : List ℕ) (o : Option Extent) (es given kept : List Extent) → AreSplit m es given kept
    → AreSplit m (cons_option o es) given (cons_option o kept)
first_kept m None es given kept split = split
first_kept m (Some e) es given kept split = split_kept m e es given kept split

-- what holds of some extents, whether there is a first or not
all_option : (P : Extent → Type 0) (o : Option Extent) (es : List Extent) → All P (cons_option o es)
    → All P es × ((fs : List Extent) → All P fs → All P (cons_option o fs))
all_option P None es all = (all, λ fs each. each)
all_option P (Some e) es all = ((λ i d lt. all (suc i) d (omega (arith, lt))), λ fs each. more fs each)
  where
    more : (fs : List Extent) → All P fs → All P (cons_option (Some e) fs)
    more fs each zero d lt = all 0 e (omega arith)
    more fs each (suc i) d lt = each i d (omega (arith, lt))

abbrev one_free : Entry → ℕ
one_free x = cond (x.kind == 0) 1 0

free-cons : (x : Entry) (t : List Entry) → free_entries (x ∷ t) ≡ one_free x + free_entries t
free-cons x t =
    let e = sum_by-append one_free (x ∷ []) t in
    let z : 0 + one_free x ≡ one_free x = omega arith in
    e ∙ ap (λ (n : ℕ). n + sum_by one_free t) z

-- no more entries are free than there are
few_free : (t : List Entry) → free_entries t ≤ length t
few_free [] = omega arith
few_free (x ∷ t) = let more = free-cons x t in let rest = few_free t in let one = at_most (x.kind == 0) in
    omega (arith, more, rest, one)
  where
    at_most : (b : Bool) → cond b 1 0 ≤ 1
    at_most true = omega arith
    at_most false = omega arith

pub most_free : (t : List Entry) (top : ℕ) → free_entries (part_below t top) ≤ 64
most_free t top = let few = few_free (part_below t top) in let long = length-part t top in omega (arith, few, long)

one_used : (x : Entry) → x.kind ≢ 0 → one_free x ≡ 0
one_used x some = elim (eqb_tells x.kind 0) [
  | inl same ↦ absurd (some same.1)
  | inr other ↦ ap (λ (b : Bool). cond b 1 0) other.0
]

-- no entry is free, or one is
pub none_free : (t : List Entry) → ((f : ℕ) → f < length t → (entry_in t f).kind ≢ 0) → free_entries t ≡ 0
none_free [] used = refl
none_free (x ∷ t) used =
    let more = free-cons x t in
    let rest = none_free t (λ f lt. used (suc f) (omega (arith, lt))) in
    let first = one_used x (used 0 (omega arith)) in
    omega (arith, more, rest, first)

pub some_free : (t : List Entry) (f : ℕ) → f < length t → (entry_in t f).kind ≡ 0 → 1 ≤ free_entries t
some_free [] f lt free = absurd (omega (arith, lt))
some_free (x ∷ t) zero lt free =
    let more = free-cons x t in
    let first : one_free x ≡ 1 = (elim (eqb_tells x.kind 0) [
      | inl same ↦ ap (λ (b : Bool). cond b 1 0) same.0
      | inr other ↦ absurd (other.1 free)
    ]) in
    omega (arith, more, first)
some_free (x ∷ t) (suc f) lt free =
    let more = free-cons x t in
    let rest = some_free t f (omega (arith, lt)) free in
    omega (arith, more, rest)

-- three tables, entry by entry, of which the second and the third are the parts of the first
module _ (whole gone kept : ℕ → Entry) where
  abbrev pub all_of : (ℕ → Entry) → ℕ → ℕ → List Entry
  all_of f a n = map f (range_with_len a n)

  abbrev pub AreParts : ℕ → ℕ → Type 0
  AreParts a n = (f : ℕ) → a ≤ f → f < a + n → GoesOrStays (whole f) (gone f) (kept f)

  later : (a n : ℕ) → AreParts a (suc n) → AreParts (a + 1) n
  later a n parts f from below = parts f (omega (arith, from)) (omega (arith, below))

  pub parts_split : (m : List ℕ) (a n : ℕ) → AreParts a n
      → AreSplit m (extents (all_of whole a n)) (extents (all_of gone a n)) (extents (all_of kept a n))
  parts_split m a zero parts = split_none m
  parts_split m a (suc n) parts =
      let es = extents (all_of whole (a + 1) n) in
      let gs = extents (all_of gone (a + 1) n) in
      let ks = extents (all_of kept (a + 1) n) in
      let rest : AreSplit m es gs ks = parts_split m (a + 1) n (later a n parts) in
      ⊎_elim
      (λ (goes : (gone a ≡ whole a) × (kept a ≡ free_entry) × ((whole a).kind ≢ 0)).
      let family : Option Extent → Option Extent → Type 0 = λ g k. AreSplit m (cons_option (extent_of (whole a)) es)
      (cons_option g gs) (cons_option k ks) in
      let here : family (extent_of (whole a)) None = first_given m (extent_of (whole a)) es gs ks rest in
      subst (λ (k : Option Extent). family (extent_of (gone a)) k) (sym (ap extent_of goes.1 ∙ extent_free))
      (subst (λ (g : Option Extent). family g None) (sym (ap extent_of goes.0)) here))
      (λ (stays : (gone a ≡ free_entry) × (kept a ≡ whole a)).
      let family : Option Extent → Option Extent → Type 0 = λ g k. AreSplit m (cons_option (extent_of (whole a)) es)
      (cons_option g gs) (cons_option k ks) in
      let here : family None (extent_of (whole a)) = first_kept m (extent_of (whole a)) es gs ks rest in
      subst (λ (k : Option Extent). family (extent_of (gone a)) k) (sym (ap extent_of stays.1))
      (subst (λ (g : Option Extent). family g (extent_of (whole a))) (sym (ap extent_of stays.0 ∙ extent_free)) here))
      (parts a (omega arith) (omega arith))

  pub parts_all : (P : Extent → Type 0) (a n : ℕ) → AreParts a n → All P (extents (all_of whole a n))
      → All P (extents (all_of gone a n)) × All P (extents (all_of kept a n))
  parts_all P a zero parts all = (all, all)
  parts_all P a (suc n) parts all =
      let gs = extents (all_of gone (a + 1) n) in
      let ks = extents (all_of kept (a + 1) n) in
      let first = all_option P (extent_of (whole a)) (extents (all_of whole (a + 1) n)) all in
      let rest = parts_all P (a + 1) n (later a n parts) first.0 in
      let family : List Extent → Option Extent → Type 0 = λ es o. All P (cons_option o es) in
      ⊎_elim
      (λ (goes : (gone a ≡ whole a) × (kept a ≡ free_entry) × ((whole a).kind ≢ 0)). (
        subst (family gs) (sym (ap extent_of goes.0)) (first.1 gs rest.0),
        subst (family ks) (sym (ap extent_of goes.1 ∙ extent_free)) rest.1,
      ))
      (λ (stays : (gone a ≡ free_entry) × (kept a ≡ whole a)). (
        subst (family gs) (sym (ap extent_of stays.0 ∙ extent_free)) rest.0,
        subst (family ks) (sym (ap extent_of stays.1)) (first.1 ks rest.1),
      ))
      (parts a (omega arith) (omega arith))

  pub parts_free : (a n : ℕ) → AreParts a n
      → free_entries (all_of kept a n) + free_entries (all_of gone a n) ≡ free_entries (all_of whole a n) + n
  parts_free a zero parts = refl
  parts_free a (suc n) parts =
      let rest = parts_free (a + 1) n (later a n parts) in
      let x = free-cons (whole a) (all_of whole (a + 1) n) in
      let g = free-cons (gone a) (all_of gone (a + 1) n) in
      let k = free-cons (kept a) (all_of kept (a + 1) n) in
      ⊎_elim
      (λ (goes : (gone a ≡ whole a) × (kept a ≡ free_entry) × ((whole a).kind ≢ 0)).
      let p = ap one_free goes.0 in
      let q : one_free (kept a) ≡ 1 = ap one_free goes.1 in
      let r = one_used (whole a) goes.2 in
      omega (arith, rest, x, g, k, p, q, r))
      (λ (stays : (gone a ≡ free_entry) × (kept a ≡ whole a)).
      let p : one_free (gone a) ≡ 1 = ap one_free stays.0 in
      let q = ap one_free stays.1 in
      omega (arith, rest, x, g, k, p, q))
      (parts a (omega arith) (omega arith))

-- two tables that differ in one entry, which is free in the first alone
module _ (f g : ℕ → Entry) (p : ℕ) (free : (f p).kind ≡ 0) (used : (g p).kind ≢ 0)
    (others : (k : ℕ) → k ≢ p → g k ≡ f k) where
  tables_same : (a n : ℕ) → (p < a) ⊎ (a + n ≤ p)
      → free_entries (map f (range_with_len a n)) ≡ free_entries (map g (range_with_len a n))
  tables_same a zero out = refl
  tables_same a (suc n) out =
      let differs : a ≢ p = ⊎_elim (λ (before : p < a). λ is. omega (arith, before, is))
      (λ (past : a + suc n ≤ p). λ is. omega (arith, past, is)) out in
      let later : (p < a + 1) ⊎ (a + 1 + n ≤ p) = ⊎_elim
      (λ (before : p < a). inl (let z : p < a + 1 = omega (arith, before) in z))
      (λ (past : a + suc n ≤ p). inr (let z : a + 1 + n ≤ p = omega (arith, past) in z)) out in
      let rest = tables_same (a + 1) n later in
      let one = free-cons (f a) (map f (range_with_len (a + 1) n)) in
      let two = free-cons (g a) (map g (range_with_len (a + 1) n)) in
      let same = ap one_free (others a differs) in
      omega (arith, rest, one, two, same)

  pub one_less_free : (a n : ℕ) → a ≤ p → p < a + n
      → free_entries (map f (range_with_len a n)) ≡ free_entries (map g (range_with_len a n)) + 1
  one_less_free a zero from below = absurd (omega (arith, from, below))
  one_less_free a (suc n) from below =
      let one = free-cons (f a) (map f (range_with_len (a + 1) n)) in
      let two = free-cons (g a) (map g (range_with_len (a + 1) n)) in
      elim (eqb_tells a p) [
        | inl same ↦
            let rest = tables_same (a + 1) n (inl (let e = same.1 in let z : p < a + 1 = omega (arith, e) in z)) in
            let first : one_free (f a) ≡ 1 = ap (λ (k : ℕ). one_free (f k)) same.1 ∙ (elim (eqb_tells (f p).kind 0) [
              | inl is ↦ ap (λ (b : Bool). cond b 1 0) is.0
              | inr other ↦ absurd (other.1 free)
            ]) in
            let second : one_free (g a) ≡ 0 = ap (λ (k : ℕ). one_free (g k)) same.1 ∙ one_used (g p) used in
            omega (arith, one, two, rest, first, second)
        | inr other ↦
            let d = other.1 in
            let rest = one_less_free (a + 1) n (omega (arith, from, d)) (omega (arith, below)) in
            let same = ap one_free (others a d) in
            omega (arith, one, two, rest, same)
      ]

-- each elementary file has blocks
product_some : (a b : ℕ) → 1 ≤ a → 1 ≤ b → 1 ≤ a * b
product_some zero b some other = absurd (omega (arith, some))
product_some (suc a) b some other = omega (arith, other)

pub size_some : (x : Entry) → IsEntry x → 2 ≤ x.kind → 1 ≤ x.size
size_some x is high =
    let file = is.used (λ none. let z : ⊥ = omega (arith, none, high) in z) in
    elim (eqb_tells x.kind 2) [
      | inl same ↦ (file.body.transparent same.1).some
      | inr other ↦
          let most = file.kind in
          let body = file.body.records (elim (eqb_tells x.kind 3) [
            | inl third ↦ inl third.1
            | inr fourth ↦ inr (let a = other.1 in let b = fourth.1 in omega (arith, a, b, most, high))
          ]) in
          let product = product_some (entry_capacity x) x.record_length body.room body.some in
          let multiple = body.multiple in
          omega (arith, product, multiple)
    ]

first_some : (x : Entry) (es : List Extent) → IsEntry x → All (λ e. 1 ≤ e.blocks) es
    → All (λ e. 1 ≤ e.blocks) (cons_option (extent_of x) es)
first_some x es is all = ⊎_elim
    (λ (low : x.kind < 2). subst (λ (o : Option Extent). All (λ e. 1 ≤ e.blocks) (cons_option o es))
    (sym (extent_of-none x low)) all) (λ (high : 2 ≤ x.kind).
    let size = size_some x is high in
    let blocks : 1 ≤ blocks_for x.size = omega (arith, size) in
    let more : All (λ (e : Extent). 1 ≤ e.blocks) (extent_told x ∷ es) = λ i d lt. by_place i d lt blocks in
    subst (λ (o : Option Extent). All (λ e. 1 ≤ e.blocks) (cons_option o es)) (sym (extent_of-some x high)) more)
    (cases_lt x.kind 2)
  where
    by_place : (i : ℕ) (d : Extent) → i < length (extent_told x ∷ es) → 1 ≤ blocks_for x.size
        → 1 ≤ (slice_index_or (extent_told x ∷ es) i d).blocks
    by_place zero d lt blocks = blocks
    by_place (suc i) d lt blocks = all i d (omega (arith, lt))

pub extents_have : (t : List Entry) → All IsEntry t → All (λ e. 1 ≤ e.blocks) (extents t)
extents_have [] each = λ i d lt. absurd (omega (arith, lt))
extents_have (x ∷ t) each =
    first_some x (extents t) (each 0 x (omega arith)) (extents_have t (λ i d lt. each (suc i) d (omega (arith, lt))))
