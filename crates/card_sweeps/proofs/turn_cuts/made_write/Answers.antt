use Rattle.std.proofs.Common.{◌∙◌, ap, inl, inr, subst, sym, true≢false, List, ℕ}
use Rattle.card_sweeps.specs.Masks.{words_tried}
use Rattle.card_sweeps.specs.Sweeps.{CutsTurn, EndsBefore}
use Rattle.card_sweeps.specs.TurnCuts.{swept_by}
use Rattle.card_sweeps.proofs.Addresses.{missed-there}
use Rattle.card_sweeps.proofs.CompleteSweeps.{mask-is}
use Rattle.card_sweeps.proofs.NewWords.{masked-same}
use Rattle.card_sweeps.proofs.Stopped.{differs-on}
use Rattle.card_sweeps.proofs.turn_cuts.made_write.Goals as goal

pub returns-clause-made : goal.returns-clause-made
returns-clause-made g c = λ card.
    let words = c.words_to_try-words.result in
    let mask = c.mask_at.ensures in
    let facts = g.P.Board.Board.facts in
    let swept = swept_by facts c.args.runs.now in
    let after = c.in_ok-after.after in
    record {
      none = (rw c.in-Ok.is at c.in_ok-none.ensures.cut) card;
      words_are = c.words_to_try-words.ensures.tried ∙ ap words_tried c.torn_words.ensures.last;
      none_new = masked-same c.in_ok-at.at words 0 _ _ _ _ _ c.words-3.ensures c.words-2.ensures
          (c.is_write.ensures.none c.if-not-is_write.false);
      all = subst (λ (m : ℕ). CutsTurn c.args.write m swept (facts after))
          (mask-is words 1 c.mask_at.result mask.none mask.all mask.single) (c.in_ok-after.ensures.cut card);
      all_new = masked-same c.in_ok-at.at words 1 _ _ _ _ _ c.words-3.ensures c.words-3.ensures
          (c.is_write.ensures.all c.if-not-is_write.false);
      inside = c.is_write.ensures.inside c.if-not-is_write.false;
    }

pub returns-then-is_same-clause-unmade : goal.returns-then-is_same-clause-unmade
returns-then-is_same-clause-unmade g c = λ card.
    let swept = swept_by g.P.Board.Board.facts c.args.runs.now in
    let same = sym c.words.ensures ∙ c.is_same.ensures.0 c.if-is_same.true in
    let unmade = rw c.in-Err.is at c.in_ok-none.ensures.unmade in
    let uncut = rw c.in-Err.is at c.in_ok-none.ensures.uncut in
    subst (λ (m : List ℕ). EndsBefore c.args.write swept m) same
    (record { unmade = unmade card; uncut = uncut card })

pub returns-in-Err-clause-differs : goal.returns-in-Err-clause-differs
returns-in-Err-clause-differs g c = λ _ card. inl (record {
  memory = (g.P.Board.Board.facts c.in-Err.whole).words;
  uncut = (rw c.in-Err.is at c.in_ok-none.ensures.uncut) card;
  other = λ same. true≢false (sym (c.is_same.ensures.1 (c.words.ensures ∙ same)) ∙ c.if-is_same.false);
})

pub returns-in_err-after-clause-differs : goal.returns-in_err-after-clause-differs
returns-in_err-after-clause-differs g c =
    differs-on c.from_residual-in_err-after.result _ _ _ c.from_residual-in_err-after.ensures.1
    (λ spared card. inr (inl (record {
      left = g.P.Board.Board.facts c.in-Ok.none;
      comes = (rw c.in-Ok.is at c.in_ok-none.ensures.cut) card;
      goes = (_, spared card);
    }))) c.in_err-after.ensures.differs

pub first_address-requires-clause-all : goal.first_address-requires-clause-all
first_address-requires-clause-all g c = λ card.
    let facts = g.P.Board.Board.facts in
    let mask = c.mask_at.ensures in
    subst (λ (m : ℕ). CutsTurn c.args.write m (swept_by facts c.args.runs.now) (facts c.in_ok-after.after))
    (mask-is c.words_to_try-words.result 1 c.mask_at.result mask.none mask.all mask.single)
    (c.in_ok-after.ensures.cut card)

pub returns-in_err-at-clause-differs : goal.returns-in_err-at-clause-differs
returns-in_err-at-clause-differs g c =
    let facts = g.P.Board.Board.facts in
    let mask = c.mask_at.ensures in
    let swept = swept_by facts c.args.runs.now in
    differs-on c.from_residual-in_err-at.result _ _ _ c.from_residual-in_err-at.ensures.1
    (λ told card.
    let first = (rw c.in-Ok.is at c.in_ok-none.ensures.cut) card in
    elim (told card) [
      | inl spared ↦ inr (inl (record { left = facts c.in-Ok.none; comes = first; goes = spared }))
      | inr missed ↦ inr (inr (record {
        none = c.in-Ok.none;
        first = first;
        words = c.words_to_try-words.result;
        words_are = c.words_to_try-words.ensures.tried ∙ ap words_tried c.torn_words.ensures.last;
        after = facts c.in_ok-after.after;
        all = subst (λ (m : ℕ). CutsTurn c.args.write m swept (facts c.in_ok-after.after))
            (mask-is c.words_to_try-words.result 1 c.mask_at.result mask.none mask.all mask.single)
            (c.in_ok-after.ensures.cut card);
        misses = missed;
      }))
    ]) c.in_err-at.ensures.differs

pub returns-then-not-is_write-clause-differs : goal.returns-then-not-is_write-clause-differs
returns-then-not-is_write-clause-differs g c = λ _ card.
    let facts = g.P.Board.Board.facts in
    let mask = c.mask_at.ensures in
    let swept = swept_by facts c.args.runs.now in
    let words = c.words_to_try-words.result in
    let first = (rw c.in-Ok.is at c.in_ok-none.ensures.cut) card in
    let all = subst (λ (m : ℕ). CutsTurn c.args.write m swept (facts c.in_ok-after.after))
    (mask-is words 1 c.mask_at.result mask.none mask.all mask.single) (c.in_ok-after.ensures.cut card) in
    inr (inr (record {
      none = c.in-Ok.none;
      first = first;
      words = words;
      words_are = c.words_to_try-words.ensures.tried ∙ ap words_tried c.torn_words.ensures.last;
      after = facts c.in_ok-after.after;
      all = all;
      misses = c.in_ok-at.ensures.only card
          (missed-there swept c.args.write words c.args.before.now (facts c.in_ok-after.after)
          c.words_to_try-words.ensures.some all (facts c.in-Ok.none) c.in_ok-at.at first
          (λ inside. rw c.words-3.ensures at (rw c.words-2.ensures at
          (c.is_write.ensures.other c.if-not-is_write.true inside))));
    }))
