use Rattle.std.proofs.Common.{◌≤◌, ◌<◌, ◌+◌, ◌∷◌, ℕ, List, length, drop, slice_index, refl, subst, arith}
use Rattle.std.proofs.lemmas.List.{drop_more, drop_all}
use Rattle.card_model.specs.FileTrees.{Path}
use Rattle.file_tree.specs.Table.{table, IsUsed}
use Rattle.file_tree.specs.laws.Selecting.{IsOnWay, way_goes_on, way_ends, way_is_lost}
use Rattle.file_lookup.proofs.naming.find_path.Goals as goal

-- what is left of the way begins with the next identifier
next_left : (m : List ℕ) (df at k : ℕ) (path : Path) → k < length path → IsOnWay m df at path (drop k path)
    → IsOnWay m df at path (slice_index path k ∷ drop (k + 1) path)
next_left m df at k path lt on =
    let family : Path → Type 0 = λ left. IsOnWay m df at path left in
    subst family (drop_more path k 0 lt) on

-- at first the whole path is left
way_begins : (m : List ℕ) (df : ℕ) (path : Path) → IsUsed (table m) df → IsOnWay m df df path path
way_begins m df path used = record { used = used; way = refl }

pub loop-k-init : goal.loop-k-init
loop-k-init c = record { way = λ m stands used is. way_begins m c.args.df c.args.path.now used }

pub loop-k-preserved : goal.loop-k-preserved
loop-k-preserved c = record {
  way = λ m stands used is.
      let path = c.args.path.now in
      let lt : c.loop-k.k < length path = c.loop-k-test.true in
      way_goes_on m stands.entries c.args.df c.loop-k.at (slice_index path c.loop-k.k)
      c.in-Some.child path (drop (c.loop-k.k + 1) path) (next_left m c.args.df c.loop-k.at c.loop-k.k path lt
      (c.loop-k.invariant.way m stands used is)) (c.in-Some.ensures m is);
}

pub returns-in-None-clause-found : goal.returns-in-None-clause-found
returns-in-None-clause-found c = λ m stands used is.
    let path = c.args.path.now in
    let lt : c.loop-k.k < length path = c.loop-k-test.true in
    way_is_lost m stands c.args.df c.loop-k.at (slice_index path c.loop-k.k) path (drop (c.loop-k.k + 1) path)
    (next_left m c.args.df c.loop-k.at c.loop-k.k path lt (c.loop-k.invariant.way m stands used is))
    (c.in-None.ensures m is)

pub returns-clause-found : goal.returns-clause-found
returns-clause-found c = λ m stands used is.
    let path = c.args.path.now in
    let end : length path ≤ c.loop-k.k = (let no = c.loop-k-test.false in omega (arith, no)) in
    let family : Path → Type 0 = λ left. IsOnWay m c.args.df c.loop-k.at path left in
    way_ends m stands.entries c.args.df c.loop-k.at path
    (subst family (drop_all c.loop-k.k path end) (c.loop-k.invariant.way m stands used is))

pub returns-clause-used : goal.returns-clause-used
returns-clause-used c = λ m stands used is. (c.loop-k.invariant.way m stands used is).used
