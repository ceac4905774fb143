use Rattle.std.proofs.Common.{rules, ◌≡◌, ◌<◌, ◌≤◌, ◌+◌, List, [], length, sym, ◌∙◌, ap, subst, arith}
use Rattle.std.proofs.Common.{slice_index_or, ℕ, Bool}
use Rattle.file_tree.specs.declared.entry.Entry.{Entry}
use Rattle.file_tree.specs.declared.steps.Key.{Key}
use Rattle.file_tree.specs.declared.steps.Place.{Place}
use Rattle.file_tree.specs.declared.index.Index.{Index}
use Rattle.file_tree.specs.Entries.{free_entry}
use Rattle.file_tree.specs.Keys.{key_for}
use Rattle.file_tree.specs.Table.{IsUsed}
use Rattle.file_tree.specs.Indexes.{place_of}
use Rattle.file_tree.specs.IndexParts.{ArePlacesTo, TellsPut}
use Rattle.file_tree.specs.laws.Indexes.{places_none, places_skip, places_stored, places_taken}
use Rattle.file_tree.specs.laws.Indexes.{places_apart, places_whole}
use Rattle.file_tree.specs.laws.Kinds.{kind_of_unused}
use Rattle.file_tree.specs.laws.Tables.{entry_within}
use Rattle.file_tree.proofs.index.Index.fill.Goals as goal
use Rattle.file_tree.proofs.index.Index.fill.Goals.{then-is_used+else-not-put, else-is_used}

-- what a list of entries has past its end
abbrev unread : Entry
unread = record free_entry { rule = []; name = [] }

pub loop-e-init : goal.loop-e-init
loop-e-init c =
    let empty = c.requires.empty in
    let none = ap (λ (ps : List Place). length ps) empty in
    let family : List Place → Type 0 = λ ps. ArePlacesTo c.args.entries.now 1 ps in
    record { size = omega (arith, none); so_far = subst family (sym empty) (places_none _) }

pub put-requires : goal.put-requires
put-requires c =
    let small : c.loop-e.e < length c.args.entries.now = search rules in
    let size = c.loop-e.invariant.size in
    let all = c.requires.size in
    omega (arith, small, size, all)

pub loop-e-preserved : goal.loop-e-preserved
loop-e-preserved c =
    let t = c.args.entries.now in
    let e = c.loop-e.e in
    let places = c.loop-e.self.places.items in
    let so_far = c.loop-e.invariant.so_far in
    let size = c.loop-e.invariant.size in
    let below : 0 < e = search rules in
    let small : e < length t = search rules in
    let stored = slice_index_or t e unread in
    let read = entry_within t e unread small in
    let told : Index → Type 0 = λ i. (length i.places.items < e + 1) × ArePlacesTo t (e + 1) i.places.items in
    let next : told c.if-is_used.self = elim c.if-is_used.branch [
      | then-is_used+else-not-put w ↦
          let used : IsUsed t e =
          λ none. c.is_used.ensures.0 w.if-is_used.true (ap (λ (y : Entry). y.kind) read ∙ none) in
          let place : Place = record { key = w.new-then-is_used.result; entry = w.new-then-is_used-2.result } in
          let own : place ≡ place_of t e =
          ap (λ (k : Key). record { key = k; entry = place.entry }) w.new-then-is_used.ensures
          ∙ ap (λ (n : ℕ). record { key = key_for n stored.identifier; entry = place.entry }) w.new.ensures
          ∙ ap (λ (n : ℕ). record { key = key_for stored.parent stored.identifier; entry = n })
          w.new-then-is_used-2.ensures
          ∙ ap (λ (y : Entry). record { key = key_for y.parent y.identifier; entry = e }) read in
          let family : Bool → Type 0 = λ b. TellsPut places place w.put.new.self.places.items b in
          subst told (sym w.self-is) (places_stored t e places w.put.new.self.places.items place so_far
          below used own size (subst family w.if-not-put.false (w.put.ensures so_far.sorted)))
      | else-is_used w ↦
          subst told (sym w.self-is) (
            omega (arith, size),
            places_skip t e places so_far (ap (λ (y : Entry). y.kind) (sym read)
                ∙ kind_of_unused _ _ c.is_used.ensures w.if-is_used.false),
          )
    ] in
    record { size = next.0; so_far = next.1 }

pub returns-then-not-put : goal.returns-then-not-put
returns-then-not-put c =
    let t = c.args.entries.now in
    let e = c.loop-e.e in
    let places = c.loop-e.self.places.items in
    let so_far = c.loop-e.invariant.so_far in
    let below : 0 < e = search rules in
    let small : e < length t = search rules in
    let stored = slice_index_or t e unread in
    let read = entry_within t e unread small in
    let used : IsUsed t e = λ none. c.is_used.ensures.0 c.if-is_used.true (ap (λ (y : Entry). y.kind) read ∙ none) in
    let place : Place = record { key = c.new-then-is_used.result; entry = c.new-then-is_used-2.result } in
    let own : place ≡ place_of t e =
    ap (λ (k : Key). record { key = k; entry = place.entry }) c.new-then-is_used.ensures
    ∙ ap (λ (n : ℕ). record { key = key_for n stored.identifier; entry = place.entry }) c.new.ensures
    ∙ ap (λ (n : ℕ). record { key = key_for stored.parent stored.identifier; entry = n }) c.new-then-is_used-2.ensures
    ∙ ap (λ (y : Entry). record { key = key_for y.parent y.identifier; entry = e }) read in
    let family : Bool → Type 0 = λ b. TellsPut places place c.put.new.self.places.items b in
    places_taken t e places place so_far below used own (subst family c.if-not-put.true (c.put.ensures so_far.sorted))

pub returns : goal.returns
returns c =
    let t = c.args.entries.now in
    let most : length t ≤ c.loop-e.e = search rules in (
      places_apart t c.loop-e.self.places.items c.loop-e.e most c.loop-e.invariant.so_far,
      places_whole t c.loop-e.self c.loop-e.e most c.loop-e.invariant.so_far,
    )
