use Rattle.std.specs.Prelude.{◌<◌}
use Rattle.std.proofs.Common.{◌∙◌, arith, inr, refl}
use Rattle.nvm_board.specs.laws.Sizes.{page_within, pages_same}
use Rattle.undo_journal.specs.Memory.{committed}
use Rattle.undo_journal.specs.laws.Memory.{current_size}
use Rattle.undo_journal.specs.laws.Exits.{none_ok}
use Rattle.undo_journal.specs.laws.Told.{reads_none, reads_change, changes_on, changes_handed, changes_within}
use Rattle.block_store.proofs.Linking.{links_none, links_more, linked_more, links_behind, links_first}
use Rattle.block_store.proofs.lengthening.link_pages.Goals as goal

pub loop-page-init : goal.loop-page-init
loop-page-init g c = record {
  from = omega arith;
  within = c.requires.order;
  only = links_none _ _ _;
  linked = λ q from below. absurd (omega (arith, from, below));
  behind = λ q from below. refl;
  changes = reads_change _ _ _ _ c.requires.ready.idle (reads_none _ c.requires.ready);
  counted = omega arith;
}

pub write_plain-requires-clause-place : goal.write_plain-requires-clause-place
write_plain-requires-clause-place g c =
    let invariant = c.loop-page.invariant in
    let lt : c.loop-page.page < c.args.end = omega (arith, c.loop-page-test.true) in
    let pages = pages_same (committed c.args.store.now) (committed c.loop-page.store) invariant.only.size in
    let inside = page_within (committed c.loop-page.store) c.loop-page.page
    invariant.changes.ready.usable.committed_size (omega (arith, lt, c.requires.inside, pages)) in
    let same = current_size c.loop-page.store in
    (inr (omega (arith, c.requires.blocks, invariant.from)), omega (arith, inside, same))

pub loop-page-preserved : goal.loop-page-preserved
loop-page-preserved g c =
    let invariant = c.loop-page.invariant in
    let lt : c.loop-page.page < c.args.end = omega (arith, c.loop-page-test.true) in
    let pages = pages_same (committed c.args.store.now) (committed c.loop-page.store) invariant.only.size in
    record {
      from = omega (arith, invariant.from);
      within = omega (arith, lt);
      only = links_more c.args.first c.args.end c.loop-page.page _ _ (committed c.loop-page.store) _ invariant.from lt
          invariant.only c.write_plain.ensures.any_exit;
      linked = linked_more c.args.first c.args.end c.args.rest c.loop-page.page _ (committed c.loop-page.store) _
          invariant.changes.ready.usable.committed_size (omega (arith, lt, c.requires.inside, pages))
          (c.from.ensures ∙ c.next_page-next.ensures) c.in_ok-write_plain.ensures.done invariant.linked;
      behind = λ q from below.
          links_behind c.loop-page.page _ (committed c.loop-page.store) _ c.write_plain.ensures.any_exit q
          (omega (arith, from)) ∙ invariant.behind q (omega (arith, from)) below;
      changes = changes_on _ 1 _ _ _ _ _ (omega (arith, invariant.from)) invariant.changes
          c.in_ok-write_plain.ensures.store;
      counted = omega (arith, c.in_ok-write_plain.ensures.counted, invariant.counted, invariant.from);
    }

pub returns-in_err-write_plain-clause-any_exit : goal.returns-in_err-write_plain-clause-any_exit
returns-in_err-write_plain-clause-any_exit g c =
    let invariant = c.loop-page.invariant in
    let lt : c.loop-page.page < c.args.end = omega (arith, c.loop-page-test.true) in
    links_more c.args.first c.args.end c.loop-page.page _ _ (committed c.loop-page.store) _ invariant.from lt
    invariant.only c.write_plain.ensures.any_exit

pub returns-in_err-write_plain-clause-done : goal.returns-in_err-write_plain-clause-done
returns-in_err-write_plain-clause-done g c = none_ok _ _ _ c.from_residual.ensures.1

pub returns-in_err-write_plain-clause-store : goal.returns-in_err-write_plain-clause-store
returns-in_err-write_plain-clause-store g c =
    let lt : c.loop-page.page < c.args.end = omega (arith, c.loop-page-test.true) in
    changes_handed _ _ _ _ _ c.from_residual.ensures.1
    (changes_on _ 1 _ _ _ _ _ (omega (arith, lt, c.loop-page.invariant.from)) c.loop-page.invariant.changes
    c.in_err-write_plain.ensures.store)

pub returns-in_err-write_plain-clause-ascending : goal.returns-in_err-write_plain-clause-ascending
returns-in_err-write_plain-clause-ascending g c =
    let invariant = c.loop-page.invariant in
    let lt : c.loop-page.page < c.args.end = omega (arith, c.loop-page-test.true) in
    let pages = pages_same (committed c.args.store.now) (committed c.loop-page.store) invariant.only.size in
    links_first c.args.first c.args.end c.args.rest c.loop-page.page _ (committed c.args.store.now)
    (committed c.loop-page.store) _ invariant.changes.ready.usable.committed_size
    (omega (arith, lt, c.requires.inside, pages)) (c.from.ensures ∙ c.next_page-next.ensures) invariant.linked
    invariant.behind c.write_plain.ensures.any_exit

pub returns-clause-ascending : goal.returns-clause-ascending
returns-clause-ascending g c =
    let invariant = c.loop-page.invariant in
    record {
      made = c.loop-page.page;
      linked = invariant.linked;
      behind = invariant.behind;
    }

pub returns-clause-any_exit : goal.returns-clause-any_exit
returns-clause-any_exit g c = c.loop-page.invariant.only

pub returns-clause-done : goal.returns-clause-done
returns-clause-done g c = λ q from below.
    c.loop-page.invariant.linked q from (omega (arith, below, c.loop-page-test.false))

pub returns-clause-store : goal.returns-clause-store
returns-clause-store g c =
    changes_within _ _ _ _ _ (omega (arith, c.loop-page.invariant.within)) c.loop-page.invariant.changes

pub returns-in_err-write_plain-clause-counted : goal.returns-in_err-write_plain-clause-counted
returns-in_err-write_plain-clause-counted g c = none_ok _ _ _ c.from_residual.ensures.1

pub returns-clause-counted : goal.returns-clause-counted
returns-clause-counted g c =
    let invariant = c.loop-page.invariant in
    omega (arith, invariant.counted, invariant.within, c.loop-page-test.false)
