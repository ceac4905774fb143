use Rattle.std.proofs.Common.{◌≡◌, ◌≢◌, ◌≤◌, ◌<◌, ◌+◌, ◌-◌, ◌∙◌, List, ap, arith, inl, inr, length, subst, sym, ℕ}
use Rattle.std.specs.Prelude.{slice_index}
use Rattle.card_sweeps.specs.Sweeps.{CutsTurn}
use Rattle.card_sweeps.specs.TurnCuts.{swept_by}
use Rattle.card_sweeps.proofs.Addresses.{ShowsWord, missed-all, missed-anywhere, missed-beside, missed-found}
use Rattle.card_sweeps.proofs.Addresses.{shows-more}
use Rattle.card_sweeps.proofs.CompleteSweeps.{mask-is}
use Rattle.card_sweeps.proofs.Stopped.{differs-on}
use Rattle.card_sweeps.proofs.turn_cuts.first_address.Goals as goal

pub returns-in_default-clause-only : goal.returns-in_default-clause-only
returns-in_default-clause-only g c = λ card missed other.
    missed-anywhere (swept_by g.P.Board.Board.facts c.args.runs.now) c.args.write c.args.words c.args.before.now
    (g.P.Board.Board.facts c.args.after.now) c.requires.some (c.requires.all card) other
    (rw c.words.ensures at (rw c.in_default.is at c.first_change.ensures)) missed

pub returns-then-words-lt2-clause-only : goal.returns-then-words-lt2-clause-only
returns-then-words-lt2-clause-only g c = λ card missed other.
    let one : c.args.words ≡ 1 = omega (arith, c.requires.some, c.if-words-lt2.true) in
    missed-beside (swept_by g.P.Board.Board.facts c.args.runs.now) c.args.write c.args.words c.args.before.now
    (g.P.Board.Board.facts c.args.after.now) c.requires.some (c.requires.all card) c.in-Some.changed
    (rw c.words.ensures at c.in-Some.ensures.0) other one missed

pub returns-in_err-left-clause-differs : goal.returns-in_err-left-clause-differs
returns-in_err-left-clause-differs g c = differs-on c.from_residual.result _ _ _ c.from_residual.ensures.1
    (λ spared card. inl (_, spared card)) c.in_err-left.ensures.differs

pub returns-then-not-is_same_word-clause-only : goal.returns-then-not-is_same_word-clause-only
returns-then-not-is_same_word-clause-only g c = λ card missed other.
    let facts = g.P.Board.Board.facts in
    let swept = swept_by facts c.args.runs.now in
    let mask = c.mask_at.ensures in
    let left = facts c.in_ok-left.left in
    let changed = c.in-Some.changed in
    let several : 2 ≤ c.args.words = omega (arith, c.if-words-lt2.false) in
    let few : c.loop-i.i < c.args.words = omega (arith, c.loop-i-test.true) in
    let place : c.saturating_sub.result ≡ changed - c.loop-i.i =
    omega (arith, c.saturating_sub.ensures, c.from.ensures) in
    let cut = subst (λ (m : ℕ). CutsTurn c.args.write m swept left)
    (mask-is c.args.words (c.loop-i.i + 2) c.mask_at.result mask.none mask.all mask.single)
    (c.in_ok-left.ensures.cut card) in
    let words = c.words-in-loop-i.ensures in
    let shows : length left.words ≡ length c.args.before.now → changed < length c.args.before.now
    → slice_index left.words changed ≢ slice_index c.args.before.now changed = λ sized lies same.
    let short : changed < length left.words = omega (arith, sized, lies) in
    c.is_same_word.ensures.other c.if-not-is_same_word.true
    (subst (λ (l : List ℕ). changed < length l) (sym words) short) lies
    (ap (λ (l : List ℕ). slice_index l changed) words ∙ same) in
    missed-found swept c.args.write c.args.words c.args.before.now (facts c.args.after.now) c.requires.some
    (c.requires.all card) changed (rw c.words.ensures at c.in-Some.ensures.0) c.loop-i.i other c.saturating_sub.result
    left several few place (c.loop-i.invariant.unseen card) cut shows missed

pub loop-i-preserved : goal.loop-i-preserved
loop-i-preserved g c = record {
  unseen = λ card.
      let facts = g.P.Board.Board.facts in
      let swept = swept_by facts c.args.runs.now in
      let mask = c.mask_at.ensures in
      let left = facts c.in_ok-left.left in
      let changed = c.in-Some.changed in
      shows-more (λ bit. ShowsWord swept c.args.write c.args.words c.args.before.now changed bit) c.loop-i.i
      (c.loop-i.invariant.unseen card)
      (record {
        left = left;
        cut = subst (λ (m : ℕ). CutsTurn c.args.write m swept left)
            (mask-is c.args.words (c.loop-i.i + 2) c.mask_at.result mask.none mask.all mask.single)
            (c.in_ok-left.ensures.cut card);
        old = ap (λ (l : List ℕ). slice_index l changed) (sym c.words-in-loop-i.ensures)
            ∙ c.is_same_word.ensures.same c.if-not-is_same_word.false;
      });
}

pub returns-clause-differs : goal.returns-clause-differs
returns-clause-differs g c = λ _ card.
    let facts = g.P.Board.Board.facts in
    let several : 2 ≤ c.args.words = omega (arith, c.if-words-lt2.false) in
    let whole : c.loop-i.i ≡ c.args.words = omega (arith, c.loop-i-test.false, c.loop-i.auto.i-end) in
    inr (λ other. missed-all (swept_by facts c.args.runs.now) c.args.write c.args.words c.args.before.now
    (facts c.args.after.now) c.requires.some (c.requires.all card) c.in-Some.changed
    (rw c.words.ensures at c.in-Some.ensures.0) c.loop-i.i other several whole (c.loop-i.invariant.unseen card))
