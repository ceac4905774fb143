use Rattle.std.proofs.Common.{◌≢◌, ℕ, List, Result, length, sym, subst}
use Rattle.std.specs.List.Sorted.{IsSearchInRange}
use Rattle.std.specs.Prelude.{All, insert}
use Rattle.file_tree.specs.declared.steps.Place.{Place}
use Rattle.file_tree.specs.Keys.{key_for, IsBefore}
use Rattle.file_tree.specs.Indexes.{AreSorted}
use Rattle.file_tree.specs.IndexParts.{Puts, TellsSearch}
use Rattle.file_tree.specs.laws.Indexes.{puts_behind, puts_there, found_key}
use Rattle.file_tree.proofs.index.Index.put.Goals as goal

-- what stands past the end
abbrev no_place : Place
no_place = record { key = key_for 0 0; entry = 0 }

abbrev sorted : List Place → Type 0
sorted ps = AreSorted ps

pub returns-then-is_greatest : goal.returns-then-is_greatest
returns-then-is_greatest c = λ up.
    let old = c.args.self.now.places.items in
    let same = c.as_slice.ensures.value in
    let before : List Place → Type 0 = λ ps. All (λ p. IsBefore p.key c.args.place.key) ps in
    let all = subst before same ((c.is_greatest.ensures (subst sorted (sym same) up)).0 c.if-is_greatest.true) in
    let after : List Place → Type 0 = λ ps. Puts old c.args.place ps in
    subst after (sym c.push.ensures.items) (puts_behind old c.args.place all)

pub returns-in-Ok : goal.returns-in-Ok
returns-in-Ok c = λ up apart.
    let places = c.as_slice-2.result.now in
    let same = c.as_slice-2.ensures.value in
    let others : List Place → Type 0 = λ ps. All (λ p. p.key ≢ c.args.place.key) ps in
    let within = subst (λ (r : Result ℕ ℕ). IsSearchInRange r (length places))
    c.in-Ok.is c.search-found.ensures.within in
    let there = subst (λ (r : Result ℕ ℕ). TellsSearch places c.args.place.key r) c.in-Ok.is
    (c.search-found.ensures.found (subst sorted (sym same) up)) in
    found_key places c.args.place.key c.in-Ok.field-0 no_place within (there no_place) (subst others (sym same) apart)

pub returns-in-Err : goal.returns-in-Err
returns-in-Err c = λ up.
    let old = c.args.self.now.places.items in
    let places = c.as_slice-2.result.now in
    let same = c.as_slice-2.ensures.value in
    let within = subst (λ (r : Result ℕ ℕ). IsSearchInRange r (length places))
    c.in-Err.is c.search-found.ensures.within in
    let there = subst (λ (r : Result ℕ ℕ). TellsSearch places c.args.place.key r) c.in-Err.is
    (c.search-found.ensures.found (subst sorted (sym same) up)) in
    let puts = puts_there places c.args.place c.in-Err.at within there.0 there.1 in
    let put : List Place → Type 0 = λ ps. Puts ps c.args.place (insert ps c.in-Err.at c.args.place) in
    let after : List Place → Type 0 = λ ps. Puts old c.args.place ps in
    subst after (sym c.insert.ensures.items) (subst put same puts)
