use Rattle.std.proofs.Common.{ℕ, None, Some, Result, length, slice_index_or, subst, ◌∙◌}
use Rattle.std.specs.List.Sorted.{IsSearchInRange}
use Rattle.file_tree.specs.declared.steps.Key.{Key}
use Rattle.file_tree.specs.IndexParts.{AreBefore, AreBehind, TellsSearch}
use Rattle.file_tree.specs.laws.Indexes.{are_sorted, found_child, no_child}
use Rattle.file_tree.specs.laws.Indexed.{told_path}
use Rattle.file_tree.proofs.index.Index.find.Goals as goal

pub returns-in-Ok-clause-found : goal.returns-in-Ok-clause-found
returns-in-Ok-clause-found c = λ m is.
    let places = c.as_slice-places.result.now in
    let same = c.as_slice-places.ensures.value in
    let up = are_sorted m c.args.self.now places same c.args.parent c.args.identifier c.in-Ok.at is in
    let within = subst (λ (r : Result ℕ ℕ). IsSearchInRange r (length places))
    c.in-Ok.is c.search-found.ensures.within in
    let there = subst (λ (r : Result ℕ ℕ). TellsSearch places c.new.result r)
    c.in-Ok.is (c.search-found.ensures.found up) in
    found_child m c.args.self.now places same c.args.parent c.args.identifier c.in-Ok.at is c.index-places-at.result
    within (there c.index-places-at.result ∙ c.new.ensures)

pub returns-in-Err-clause-found : goal.returns-in-Err-clause-found
returns-in-Err-clause-found c = λ m is.
    let places = c.as_slice-places.result.now in
    let same = c.as_slice-places.ensures.value in
    let at = c.in-Err.field-0 in
    let up = are_sorted m c.args.self.now places same c.args.parent c.args.identifier at is in
    let there = subst (λ (r : Result ℕ ℕ). TellsSearch places c.new.result r)
    c.in-Err.is (c.search-found.ensures.found up)
    in
    let before : Key → Type 0 = λ k. AreBefore places k at in
    let behind : Key → Type 0 = λ k. AreBehind places k at in
    no_child m c.args.self.now places same c.args.parent c.args.identifier at is
    (subst before c.new.ensures there.0) (subst behind c.new.ensures there.1)

pub returns-in-Ok-clause-path : goal.returns-in-Ok-clause-path
returns-in-Ok-clause-path c = λ m stands used is.
    told_path m stands.entries c.args.parent c.args.identifier used
    (Some (slice_index_or c.as_slice-places.result.now c.in-Ok.at c.index-places-at.result).entry)
    (returns-in-Ok-clause-found c m is)

pub returns-in-Err-clause-path : goal.returns-in-Err-clause-path
returns-in-Err-clause-path c = λ m stands used is.
    told_path m stands.entries c.args.parent c.args.identifier used None (returns-in-Err-clause-found c m is)
