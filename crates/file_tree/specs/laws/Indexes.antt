-- What a search among places finds, and what one place more, or fewer places, are the index of.
use Rattle.std.specs.Prelude.{◌≡◌, ◌≢◌, ◌==◌, ◌<◌, ◌≤◌, ◌+◌, ◌/◌, ◌||◌, ℕ, zero, suc, Bool, true, false}
use Rattle.std.specs.Prelude.{if◌then◌else◌, List, [], ◌∷◌, ◌++◌, map, length, take, drop, insert, slice_index_or, All}
use Rattle.std.specs.Prelude.{Contains, None, Some}
use Rattle.std.specs.List.{IsDistinct, list_any}
use Rattle.std.proofs.Common.{refl, sym, ◌∙◌, ap, ap₂, subst, arith, inl, inr, ⊎_elim, true≢false, length-take}
use Rattle.std.proofs.Common.{get_or-take, get_or-drop, length-drop}
use Rattle.std.proofs.lemmas.Bool.{cases_lt}
use Rattle.std.proofs.lemmas.Bool.Decides.{eqb_tells}
use Rattle.std.proofs.lemmas.List.{take-append-drop, append-nil, get_or_default, length-append}
use Rattle.std.proofs.lemmas.List.{length-map, nil_from_length}
use Rattle.std.proofs.lemmas.List.Elements.{All-nil, All-cons, All-head, All-tail, All-append}
use Rattle.std.proofs.lemmas.List.Elements.{All-map, recursion_from_All}
use Rattle.std.proofs.lemmas.List.Elements.{Contains-append_cases, Contains-append_left, Contains-append_right}
use Rattle.std.proofs.lemmas.Map.Steps.{length-le_from_distinct_below}
use Rattle.card_model.specs.declared.limits.TheConstants.{ENTRIES}
use Rattle.file_tree.specs.declared.entry.Entry.{Entry}
use Rattle.file_tree.specs.declared.steps.Key.{Key}
use Rattle.file_tree.specs.declared.steps.Place.{Place}
use Rattle.file_tree.specs.declared.index.Index.{Index}
use Rattle.file_tree.specs.Keys.{key_for, IsBefore}
use Rattle.file_tree.specs.Table.{table, entry_in, IsUsed, IsTable, HaveIdentifiers}
use Rattle.file_tree.specs.Indexes.{place_of, IsPlace, AreSorted, IsIndex, IsFreeIn, AddsEntry, TellsChild}
use Rattle.file_tree.specs.IndexParts.{key_at, AreBefore, AreBehind, TellsPut, halved, Puts, ArePlacesTo}
use Rattle.file_tree.specs.IndexParts.{parent_by}
use Rattle.file_tree.specs.laws.Tables.{entry_past}
use Rattle.file_tree.specs.laws.Alikes.{used_within}

-- a key, whatever stands past the end
pub same_key : (xs : List Place) (k : ℕ) (d e : Place) → k < length xs → key_at xs k d ≡ key_at xs k e
same_key xs k d e lt = ap (λ (p : Place). p.key) (get_or_default xs k d e lt)

-- The order of keys.
pub before_then : (a b c : Key) → IsBefore a b → IsBefore b c → IsBefore a c
before_then a b c (inl h) (inl g) = inl (omega (arith, h, g))
before_then a b c (inl h) (inr g) = inl (let e = g.0 in omega (arith, h, e))
before_then a b c (inr h) (inl g) = inl (let e = h.0 in omega (arith, g, e))
before_then a b c (inr h) (inr g) = inr (h.0 ∙ g.0, let e = h.1 in let f = g.1 in omega (arith, e, f))

pub never_before_itself : (a b : Key) → a ≡ b → IsBefore a b → ⊥
never_before_itself a b is (inl h) = let p = ap (λ (k : Key). k.parent) is in omega (arith, p, h)
never_before_itself a b is (inr h) = let p = ap (λ (k : Key). k.identifier) is in let g = h.1 in omega (arith, p, g)

-- of places by ascending keys, an earlier one is before a later one
sorted_at : (xs : List Place) (i j : ℕ) (d : Place) → AreSorted xs → i < j → j < length xs
    → IsBefore (key_at xs i d) (key_at xs j d)
sorted_at [] i j d up lt within = absurd (omega (arith, within))
sorted_at (x ∷ xs) i zero d up lt within = absurd (omega (arith, lt))
sorted_at (x ∷ xs) zero (suc j) d up lt within = up.0 j d (omega (arith, within))
sorted_at (x ∷ xs) (suc i) (suc j) d up lt within = sorted_at xs i j d up.1 (omega (arith, lt)) (omega (arith, within))

-- The steps of a search: where the place in the middle is before the key, so are all before it;
-- where it is behind, so are all that follow.
module _ (places : List Place) (key : Key) (middle : ℕ) (within : middle < length places)
    (up : AreSorted places) (e : Place) where
  pub search_up : IsBefore (key_at places middle e) key → AreBefore places key (middle + 1)
  search_up is = λ k d lt.
      let here : IsBefore (key_at places middle d) key =
      subst (λ (one : Key). IsBefore one key) (same_key places middle e d within) is in
      ⊎_elim
      (λ (less : k < middle). before_then (key_at places k d) (key_at places middle d) key
      (sorted_at places k middle d up less within) here) (λ (from : middle ≤ k).
      let same : middle ≡ k = omega (arith, lt, from) in
      let family : ℕ → Type 0 = λ j. IsBefore (key_at places j d) key in
      subst family same here)
      (cases_lt k middle)

  pub search_down : IsBefore key (key_at places middle e) → AreBehind places key middle
  search_down is = λ k d from below.
      let here : IsBefore key (key_at places middle d) =
      subst (λ (one : Key). IsBefore key one) (same_key places middle e d within) is in
      ⊎_elim
      (λ (more : middle < k). before_then key (key_at places middle d) (key_at places k d) here
      (sorted_at places middle k d up more below)) (λ (most : k ≤ middle).
      let same : middle ≡ k = omega (arith, from, most) in
      let family : ℕ → Type 0 = λ j. IsBefore key (key_at places j d) in
      subst family same here)
      (cases_lt middle k)

-- six halvings leave nothing of 63 places
halved-most : (n : ℕ) → halved n ≤ 63
unfolding halved
halved-most zero = omega arith
halved-most (suc n) = let h = halved-most n in omega (arith, h)

pub halved-few : (n : ℕ) → 0 < halved n → n < 6
unfolding halved
halved-few zero some = omega arith
halved-few (suc zero) some = omega arith
halved-few (suc (suc zero)) some = omega arith
halved-few (suc (suc (suc zero))) some = omega arith
halved-few (suc (suc (suc (suc zero)))) some = omega arith
halved-few (suc (suc (suc (suc (suc zero))))) some = omega arith
halved-few (suc (suc (suc (suc (suc (suc n)))))) some = absurd (let h = halved-most n in omega (arith, h, some))

pub halved-half : (n left : ℕ) → left ≤ halved n / 2 → left ≤ halved (n + 1)
unfolding halved
halved-half n left few = let e : n + 1 ≡ suc n = omega arith in subst (λ (k : ℕ). left ≤ halved k) (sym e) few

-- What is found is the child that is looked for, and where nothing is found there is none.
module _ (m : List ℕ) (index : Index) (places : List Place) (same : places ≡ index.places.items) (parent id at : ℕ)
    (is : IsIndex (table m) index) where
  each_place : All (IsPlace (table m)) places
  each_place = let family : List Place → Type 0 = λ ps. All (IsPlace (table m)) ps in subst family (sym same) is.each

  pub are_sorted : AreSorted places
  are_sorted = let family : List Place → Type 0 = λ ps. AreSorted ps in subst family (sym same) is.sorted

  pub found_child : (d : Place) → at < length places → key_at places at d ≡ key_for parent id
      → TellsChild (table m) parent id (Some (slice_index_or places at d).entry)
  found_child d within found =
      let place = each_place at d within in
      let one : key_for _ _ ≡ key_for parent id = sym place.key_is ∙ found in (
        record { below = place.below; used = place.used; parent = ap (λ (k : Key). k.parent) one },
        ap (λ (k : Key). k.identifier) one,
      )

  pub no_child : AreBefore places (key_for parent id) at → AreBehind places (key_for parent id) at
      → TellsChild (table m) parent id None
  no_child before behind = λ e child known.
      let d = place_of (table m) e in
      let family : List Place → Type 0 = λ ps. Contains ps d in
      let has = subst family (sym same) (is.all e child.below child.used) in
      let own : key_at places has.0 d ≡ key_for parent id =
      ap (λ (p : Place). p.key) has.2 ∙ ap₂ (λ (a b : ℕ). key_for a b) child.parent known in
      ⊎_elim
      (λ (lt : has.0 < at). never_before_itself _ _ own (before has.0 d lt))
      (λ (from : at ≤ has.0). never_before_itself _ _ (sym own) (behind has.0 d from has.1))
      (cases_lt has.0 at)

-- A place that is put where its key would stand.
pub puts_there : (places : List Place) (place : Place) (at : ℕ) → at ≤ length places → AreBefore places place.key at
    → AreBehind places place.key at → Puts places place (insert places at place)
puts_there places place at within before behind =
    let front = length-take at places in
    let back = length-drop at places in
    record {
      front = take at places;
      back = drop at places;
      old_is = sym (take-append-drop at places);
      new_is = refl;
      before = λ k d lt.
          let small : k < at = omega (arith, lt, front) in
          let family : Place → Type 0 = λ p. IsBefore p.key place.key in
          subst family (sym (get_or-take at places k d small)) (before k d small);
      behind = λ k d lt.
          let below : at + k < length places = omega (arith, lt, back) in
          let family : Place → Type 0 = λ p. IsBefore place.key p.key in
          subst family (sym (get_or-drop at places k d)) (behind (at + k) d (omega arith) below);
    }

-- a place is put behind all others
pub puts_behind : (places : List Place) (place : Place) → All (λ p. IsBefore p.key place.key) places
    → Puts places place (places ++ place ∷ [])
puts_behind places place all = record {
  front = places;
  back = [];
  old_is = sym (append-nil places);
  new_is = refl;
  before = all;
  behind = All-nil (λ p. IsBefore place.key p.key);
}

-- where the last key is before one, all are
pub all_before : (places : List Place) (key : Key) (last : ℕ) (d : Place) → last < length places → length places
    ≤ last + 1 → AreSorted places → IsBefore (key_at places last d) key → All (λ p. IsBefore p.key key) places
all_before places key last d within most up is = λ k e lt.
    search_up places key last within up d is k e (omega (arith, lt, most))

-- a key that was found is not apart from all
pub found_key : (places : List Place) (key : Key) (at : ℕ) (d : Place) → at < length places → key_at places at d ≡ key
    → All (λ p. p.key ≢ key) places → ⊥
found_key places key at d within is apart = apart at d within is

-- where no place has its key, a place was put
pub put_apart : (old : List Place) (place : Place) (new : List Place) (b : Bool) → All (λ p. p.key ≢ place.key) old
    → TellsPut old place new b → Puts old place new
put_apart old place new true apart puts = puts
put_apart old place new false apart taken = absurd (taken apart)

all_parts : (P : Place → Type 0) (xs ys : List Place) → All P (xs ++ ys) → All P xs × All P ys
all_parts P [] ys all = (All-nil P, all)
all_parts P (x ∷ xs) ys all =
    let rest = all_parts P xs ys (All-tail P x (xs ++ ys) all) in
    (All-cons P x xs (All-head P x (xs ++ ys) all) rest.0, rest.1)

sorted_around : (front back : List Place) (p : Place) → AreSorted (front ++ back)
    → All (λ q. IsBefore q.key p.key) front → All (λ q. IsBefore p.key q.key) back → AreSorted (front ++ p ∷ back)
sorted_around [] back p up before behind = (behind, up)
sorted_around (x ∷ front) back p up before behind =
    let later : Place → Type 0 = λ q. IsBefore x.key q.key in
    let parts = all_parts later front back up.0 in
    let first = All-head (λ q. IsBefore q.key p.key) x front before in
    let rest = sorted_around front back p up.1 (All-tail (λ q. IsBefore q.key p.key) x front before) behind in
    (All-append later front (p ∷ back) parts.0 (All-cons later p back first parts.1), rest)

contains_more : (xs : List Place) (x y : Place) → Contains xs y → Contains (x ∷ xs) y
contains_more xs x y has = let lt = has.1 in (suc has.0, omega (arith, lt), has.2)

module _ (old : List Place) (place : Place) (new : List Place) (puts : Puts old place new) where
  all_put : (P : Place → Type 0) → All P old → P place → All P new
  all_put P all own =
      let family : List Place → Type 0 = λ ps. All P ps in
      let parts = all_parts P puts.front puts.back (subst family puts.old_is all) in
      subst family (sym puts.new_is)
      (All-append P puts.front (place ∷ puts.back) parts.0 (All-cons P place puts.back own parts.1))

  has_put : (x : Place) → Contains old x → Contains new x
  has_put x has =
      let family : List Place → Type 0 = λ ps. Contains ps x in
      subst family (sym puts.new_is) (⊎_elim
      (λ (left : Contains puts.front x). Contains-append_left puts.front (place ∷ puts.back) x left)
      (λ (right : Contains puts.back x). Contains-append_right puts.front (place ∷ puts.back) x (contains_more puts.back
      place x right)) (Contains-append_cases puts.front puts.back x (subst family puts.old_is has)))

  pub length_put : length new ≡ length old + 1
  length_put =
      let a = ap (λ (ps : List Place). length ps) puts.old_is in
      let b = ap (λ (ps : List Place). length ps) puts.new_is in
      let x = length-append puts.front puts.back in
      let y = length-append puts.front (place ∷ puts.back) in
      omega (arith, a, b, x, y)

  has_own : Contains new place
  has_own =
      let family : List Place → Type 0 = λ ps. Contains ps place in
      subst family (sym puts.new_is) (Contains-append_right puts.front (place ∷ puts.back) place (0, omega arith, refl))

  sorted_put : AreSorted old → AreSorted new
  sorted_put up =
      let family : List Place → Type 0 = λ ps. AreSorted ps in
      subst family (sym puts.new_is)
      (sorted_around puts.front puts.back place (subst family puts.old_is up) puts.before puts.behind)

-- a place's key is that of its entry
pub place_is : (t : List Entry) (p : Place) → IsPlace t p → p ≡ place_of t p.entry
place_is t p is = ap (λ (k : Key). record { key = k; entry = p.entry }) is.key_is

-- files with one key are one
pub one_key : (t : List Entry) (p : Place) (e : ℕ) → HaveIdentifiers t → IsPlace t p → 0 < e → IsUsed t e
    → p.key ≡ (place_of t e).key → p.entry ≡ e
one_key t p e apart is below used same =
    let keys : key_for _ _ ≡ key_for _ _ = sym is.key_is ∙ same in
    apart (entry_in t e).parent p.entry e
    (record { below = is.below; used = is.used; parent = ap (λ (k : Key). k.parent) keys })
    (record { below = below; used = used; parent = refl })
    (ap (λ (k : Key). k.identifier) keys)

-- Entry by entry the places of all files are put.
pub places_none : (t : List Entry) → ArePlacesTo t 1 []
places_none t = record {
  each = All-nil (IsPlace t);
  below = All-nil (λ p. p.entry < 1);
  all = λ e some small used. absurd (omega (arith, some, small));
  sorted = tt;
}

module _ (t : List Entry) (e : ℕ) (places : List Place) (so_far : ArePlacesTo t e places) where
  below_more : All (λ p. p.entry < e + 1) places
  below_more = λ k d lt. let h = so_far.below k d lt in omega (arith, h)

  pub places_skip : (entry_in t e).kind ≡ 0 → ArePlacesTo t (e + 1) places
  places_skip free = record {
    each = so_far.each;
    below = below_more;
    all = λ f some small used. elim (eqb_tells f e) [
      | inl same ↦ absurd (used (ap (λ (k : ℕ). (entry_in t k).kind) same.1 ∙ free))
      | inr other ↦ let d = other.1 in so_far.all f some (omega (arith, small, d)) used
    ];
    sorted = so_far.sorted;
  }

  pub new_key : HaveIdentifiers t → 0 < e → IsUsed t e → All (λ p. p.key ≢ (place_of t e).key) places
  new_key apart below used = λ k d lt same.
      let one = one_key t (slice_index_or places k d) e apart (so_far.each k d lt) below used same in
      let h = so_far.below k d lt in
      omega (arith, one, h)

  pub places_put : (new : List Place) → 0 < e → IsUsed t e → Puts places (place_of t e) new → ArePlacesTo t (e + 1) new
  places_put new below used puts = record {
    each = all_put places (place_of t e) new puts (IsPlace t) so_far.each
        (record { below = below; used = used; key_is = refl });
    below = all_put places (place_of t e) new puts (λ p. p.entry < e + 1) below_more (omega arith);
    all = λ f some small used_f. elim (eqb_tells f e) [
      | inl same ↦
          let family : ℕ → Type 0 = λ k. Contains new (place_of t k) in
          subst family (sym same.1) (has_own places (place_of t e) new puts)
      | inr other ↦ let d = other.1 in
          has_put places (place_of t e) new puts (place_of t f) (so_far.all f some (omega (arith, small, d)) used_f)
    ];
    sorted = sorted_put places (place_of t e) new puts so_far.sorted;
  }

pub places_stored : (t : List Entry) (e : ℕ) (places new : List Place) (place : Place) → ArePlacesTo t e places → 0 < e
    → IsUsed t e → place ≡ place_of t e → length places < e → Puts places place new
    → (length new < e + 1) × ArePlacesTo t (e + 1) new
places_stored t e places new place so_far below used own small put =
    let family : Place → Type 0 = λ p. Puts places p new in
    let puts = subst family own put in
    let long = length_put places (place_of t e) new puts in
    (omega (arith, long, small), places_put t e places so_far new below used puts)

-- a place whose key another one has is that of a file whose identifier another child has
pub places_taken : (t : List Entry) (e : ℕ) (places : List Place) (place : Place) → ArePlacesTo t e places → 0 < e
    → IsUsed t e → place ≡ place_of t e → (All (λ p. p.key ≢ place.key) places → ⊥) → HaveIdentifiers t → ⊥
places_taken t e places place so_far below used own taken apart =
    let family : Place → Type 0 = λ p. All (λ q. q.key ≢ p.key) places → ⊥ in
    subst family own taken (new_key t e places so_far apart below used)

-- of places by ascending keys, those with one key are one
one_place : (places : List Place) (i j : ℕ) (d : Place) → AreSorted places → i < length places → j < length places
    → key_at places i d ≡ key_at places j d → i ≡ j
one_place places i j d up within also same = ⊎_elim
    (λ (lt : i < j). absurd (never_before_itself _ _ same (sorted_at places i j d up lt also)))
    (λ (ge : j ≤ i). ⊎_elim
    (λ (lt : j < i). absurd (never_before_itself _ _ (sym same) (sorted_at places j i d up lt within)))
    (λ (le : i ≤ j). let z : i ≡ j = omega (arith, ge, le) in z)
    (cases_lt j i))
    (cases_lt i j)

-- where each file has a place, children of one dedicated file have identifiers of their own
pub places_apart : (t : List Entry) (places : List Place) (end : ℕ) → length t ≤ end
    → ArePlacesTo t end places → HaveIdentifiers t
places_apart t places end most all df e f one other same =
    let d = place_of t e in
    let within = used_within t e one.used in
    let also = used_within t f other.used in
    let here = all.all e one.below (omega (arith, within, most)) one.used in
    let there = all.all f other.below (omega (arith, also, most)) other.used in
    let keys : key_for (entry_in t e).parent (entry_in t e).identifier
    ≡ key_for (entry_in t f).parent (entry_in t f).identifier =
    ap₂ (λ (a b : ℕ). key_for a b) (one.parent ∙ sym other.parent) same in
    let at : slice_index_or places there.0 d ≡ place_of t f =
    get_or_default places there.0 d (place_of t f) there.1 ∙ there.2 in
    let is = one_place places here.0 there.0 d all.sorted here.1 there.1
    (ap (λ (p : Place). p.key) here.2 ∙ keys ∙ sym (ap (λ (p : Place). p.key) at)) in
    ap (λ (p : Place). p.entry) (sym here.2 ∙ ap (λ (k : ℕ). slice_index_or places k d) is ∙ at)

pub places_whole : (t : List Entry) (index : Index) (end : ℕ) → length t ≤ end
    → ArePlacesTo t end index.places.items → IsIndex t index
places_whole t index end most all = record {
  each = all.each;
  all = λ e some used. let small = used_within t e used in all.all e some (omega (arith, small, most)) used;
  sorted = all.sorted;
}

-- An index of which an entry is free has room for one place more.
pub differ : (a b : ℕ) → (a ≡ b → ⊥) → (a == b) ≡ false
differ a b apart = elim (eqb_tells a b) [
  | inl same ↦ absurd (apart same.1)
  | inr other ↦ other.0
]

pub any_below : (xs : List ℕ) (n q : ℕ) → All (λ x. x < n) xs → list_any (λ x. q == x) xs ≡ true → q < n
any_below [] n q all any = absurd (true≢false (sym any))
any_below (x ∷ xs) n q all any = elim (eqb_tells q x) [
  | inl same ↦ let h = All-head (λ y. y < n) x xs all in let s = same.1 in omega (arith, h, s)
  | inr other ↦ any_below xs n q (All-tail (λ y. y < n) x xs all)
      (sym (ap (λ (b : Bool). b || list_any (λ y. q == y) xs) other.0) ∙ any)
]

-- the entries of places are apart
entries_apart : (t : List Entry) (xs : List Place) → All (IsPlace t) xs → AreSorted xs
    → IsDistinct (λ a b. a == b) (map (λ p. p.entry) xs)
unfolding IsDistinct
entries_apart t [] each up = tt
entries_apart t (x ∷ xs) each up =
    let rest = entries_apart t xs (All-tail (IsPlace t) x xs each) up.1 in
    let own = All-head (IsPlace t) x xs each in
    let others = All-tail (IsPlace t) x xs each in
    let apart : All (λ y. (x.entry == y) ≡ false) (map (λ p. p.entry) xs) =
    All-map (λ y. (x.entry == y) ≡ false) (λ (p : Place). p.entry) xs (λ k d lt.
    let p = slice_index_or xs k d in
    differ x.entry p.entry (λ same.
    let keys : x.key ≡ p.key = own.key_is ∙ ap (λ (e : ℕ). key_for (entry_in t e).parent (entry_in t e).identifier) same
    ∙ sym (others k d lt).key_is in
    never_before_itself x.key p.key keys (up.0 k d lt))) in
    (recursion_from_All (λ y. (x.entry == y) ≡ false) (map (λ p. p.entry) xs) apart, rest)

-- Numbers that are apart, above 0 and below 64, and of which none is one of these, are at most 62.
pub room : (index : Index) (e : ℕ) → IsFreeIn index e → length index.places.items < 63
unfolding IsDistinct
room index e is =
    let t = is.entries in
    let items = index.places.items in
    let numbers = map (λ (p : Place). p.entry) items in
    let each = is.indexed.each in
    let some : All (λ y. (0 == y) ≡ false) numbers = All-map (λ y. (0 == y) ≡ false) (λ (p : Place). p.entry) items
    (λ k d lt. let below = (each k d lt).below in
    differ 0 (slice_index_or items k d).entry (λ zero_is. let z : ⊥ = omega (arith, zero_is, below) in z)) in
    let other : All (λ y. (e == y) ≡ false) numbers = All-map (λ y. (e == y) ≡ false) (λ (p : Place). p.entry) items
    (λ k d lt. differ e (slice_index_or items k d).entry
    (λ same. (each k d lt).used (ap (λ (f : ℕ). (entry_in t f).kind) (sym same) ∙ is.free))) in
    let small : All (λ y. y < 64) numbers = All-map (λ y. y < 64) (λ (p : Place). p.entry) items
    (λ k d lt. in_table t is.size (slice_index_or items k d).entry (each k d lt).used) in
    let all_small : All (λ y. y < 64) (0 ∷ e ∷ numbers) =
    All-cons (λ y. y < 64) 0 (e ∷ numbers) (omega arith)
    (All-cons (λ y. y < 64) e numbers (let within = is.within in omega (arith, within)) small) in
    let first : (0 == e) ≡ false =
    differ 0 e (λ zero_is. let below = is.below in let z : ⊥ = omega (arith, zero_is, below) in z) in
    let apart : IsDistinct (λ a b. a == b) (0 ∷ e ∷ numbers) = (
      recursion_from_All (λ y. (0 == y) ≡ false) (e ∷ numbers) (All-cons (λ y. (0 == y) ≡ false) e numbers first some),
      (recursion_from_All (λ y. (e == y) ≡ false) numbers other, entries_apart t items each is.indexed.sorted),
    ) in
    let count = length-le_from_distinct_below (0 ∷ e ∷ numbers) 64 apart
    (λ q any. any_below (0 ∷ e ∷ numbers) 64 q all_small any) in
    let long = length-map items (λ (p : Place). p.entry) in
    omega (arith, count, long)
  where
    in_table : (t : List Entry) → length t ≡ ENTRIES → (f : ℕ) → IsUsed t f → f < 64
    in_table t size f used = ⊎_elim
        (λ (lt : f < 64). lt)
        (λ (past : 64 ≤ f). absurd (used (ap (λ (x : Entry). x.kind) (entry_past t f (omega (arith, size, past))))))
        (cases_lt f 64)

-- A file more
pub adds_key : (t after : List Entry) (index : Index) (parent id e : ℕ) → IsTable after → AddsEntry t parent id e after
    → IsIndex t index → All (λ p. p.key ≢ key_for parent id) index.places.items
adds_key t after index parent id e rules adds is = λ k d lt same.
    let p = slice_index_or index.places.items k d in
    let place = is.each k d lt in
    let other : p.entry ≢ e = λ one. place.used (ap (λ (f : ℕ). (entry_in t f).kind) one ∙ adds.free) in
    let stays = adds.others p.entry other in
    let now : IsPlace after p = record {
      below = place.below;
      used = λ none. place.used (ap (λ (x : Entry). x.kind) (sym stays) ∙ none);
      key_is = place.key_is ∙ ap (λ (x : Entry). key_for x.parent x.identifier) (sym stays);
    } in
    other (one_key after p e rules.identifiers now adds.below adds.used
    (same ∙ sym (ap₂ (λ (a b : ℕ). key_for a b) adds.parent_is adds.identifier_is)))

-- the place that is added, as the table after tells it
added_place : (t after : List Entry) (parent id e : ℕ) → AddsEntry t parent id e after
    → place_of after e ≡ record { key = key_for parent id; entry = e }
added_place t after parent id e adds =
    λ i. record { key = key_for (adds.parent_is i) (adds.identifier_is i); entry = e }

pub adds_place : (t after : List Entry) (index new : Index) (parent id e : ℕ) (place : Place)
    → AddsEntry t parent id e after → IsIndex t index → place ≡ record { key = key_for parent id; entry = e }
    → Puts index.places.items place new.places.items → IsIndex after new
adds_place t after index new parent id e place adds is told puts =
    let old = index.places.items in
    let items = new.places.items in
    let own : place ≡ place_of after e = told ∙ sym (added_place t after parent id e adds) in
    let is_place : IsPlace after place =
    (let family : Place → Type 0 = λ p. IsPlace after p in
    subst family (sym own) (record { below = adds.below; used = adds.used; key_is = refl })) in
    let stays : All (IsPlace after) old = λ k d lt.
    (let p = slice_index_or old k d in
    let was = is.each k d lt in
    let same = adds.others p.entry (λ one. was.used (ap (λ (f : ℕ). (entry_in t f).kind) one ∙ adds.free)) in
    record {
      below = was.below;
      used = λ none. was.used (ap (λ (x : Entry). x.kind) (sym same) ∙ none);
      key_is = was.key_is ∙ ap (λ (x : Entry). key_for x.parent x.identifier) (sym same);
    }) in
    record {
      each = all_put old place items puts (IsPlace after) stays is_place;
      all = λ f some used. elim (eqb_tells f e) [
        | inl same ↦
            let family : Place → Type 0 = λ p. Contains items p in
            subst family (own ∙ ap (place_of after) (sym same.1)) (has_own old place items puts)
        | inr other ↦
            let same = adds.others f other.1 in
            let family : Place → Type 0 = λ p. Contains items p in
            let before : IsUsed t f = λ none. used (ap (λ (x : Entry). x.kind) same ∙ none) in
            subst family (ap (λ (x : Entry). record { key = key_for x.parent x.identifier; entry = f }) (sym same))
            (has_put old place items puts (place_of t f) (is.all f some before))
      ];
      sorted = sorted_put old place items puts is.sorted;
    }

-- The parent of an entry, place by place.
parent_split : (ps : List Place) (j e : ℕ) (d : Place) → j < length ps
    → parent_by (drop j ps) e
    ≡ (if (slice_index_or ps j d).entry == e then (slice_index_or ps j d).key.parent else parent_by (drop (suc j) ps) e)
unfolding parent_by
parent_split [] j e d below = absurd (omega (arith, below))
parent_split (p ∷ ps) zero e d below = refl
parent_split (p ∷ ps) (suc j) e d below = parent_split ps j e d (omega (arith, below))

pub parent_here : (places : List Place) (k e : ℕ) (d : Place) → k < length places
    → (slice_index_or places k d).entry ≡ e → parent_by (drop k places) e ≡ (slice_index_or places k d).key.parent
parent_here places k e d lt is = parent_split places k e d lt ∙ elim (eqb_tells (slice_index_or places k d).entry e) [
  | inl same ↦
      ap (λ (b : Bool). if b then (slice_index_or places k d).key.parent else parent_by (drop (suc k) places) e) same.0
  | inr other ↦ absurd (other.1 is)
]

pub parent_skip : (places : List Place) (k e : ℕ) (d : Place) → k < length places
    → (slice_index_or places k d).entry ≢ e → parent_by (drop k places) e ≡ parent_by (drop (k + 1) places) e
parent_skip places k e d lt differs =
    let one : k + 1 ≡ suc k = omega arith in
    parent_split places k e d lt
    ∙ ap (λ (b : Bool). if b then (slice_index_or places k d).key.parent else parent_by (drop (suc k) places) e)
    (differ (slice_index_or places k d).entry e differs)
    ∙ ap (λ (n : ℕ). parent_by (drop n places) e) (sym one)

pub parent_none : (places : List Place) (k e : ℕ) → length places ≤ k → parent_by (drop k places) e ≡ 0
unfolding parent_by
parent_none places k e past = ap (λ (ps : List Place). parent_by ps e)
    (nil_from_length (drop k places) (let l = length-drop k places in omega (arith, l, past)))
