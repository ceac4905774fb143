use Rattle.std.proofs.Common.{◌∙◌, ℕ, inl, inr, subst, sym, true≢false}
use Rattle.card_sweeps.specs.Sweeps.{CutsTurn, SparesTurn}
use Rattle.card_sweeps.specs.TurnCuts.{swept_by}
use Rattle.card_sweeps.proofs.CompleteSweeps.{mask-is}
use Rattle.card_sweeps.proofs.NewWords.{masked-same}
use Rattle.card_sweeps.proofs.Stopped.{differs-on}
use Rattle.card_sweeps.proofs.turn_cuts.masked_cut.Goals as goal

pub returns-clause-cut : goal.returns-clause-cut
returns-clause-cut g c = λ card.
    let mask = c.mask_at.ensures in
    let facts = g.P.Board.Board.facts in
    subst (λ (m : ℕ). CutsTurn c.args.write m (swept_by facts c.args.runs.now) (facts c.in_ok-left.left))
    (mask-is c.args.made.now.words c.args.i _ mask.none mask.all mask.single) (c.in_ok-left.ensures.cut card)

pub returns-clause-masked : goal.returns-clause-masked
returns-clause-masked g c =
    masked-same c.args.made.now.at c.args.made.now.words c.args.i _ _ _ _ _ c.words-after.ensures c.words.ensures
    (c.is_masked.ensures.0 c.if-not-is_masked.false)

pub returns-in_err-left-clause-differs : goal.returns-in_err-left-clause-differs
returns-in_err-left-clause-differs g c =
    let mask = c.mask_at.ensures in
    differs-on c.from_residual.result _ _ _ c.from_residual.ensures.1
    (λ spared card. inl (subst
    (λ (m : ℕ). SparesTurn c.args.write m (swept_by g.P.Board.Board.facts c.args.runs.now))
    (mask-is c.args.made.now.words c.args.i c.mask_at.result mask.none mask.all mask.single) (spared card)))
    c.in_err-left.ensures.differs

pub returns-then-not-is_masked-clause-differs : goal.returns-then-not-is_masked-clause-differs
returns-then-not-is_masked-clause-differs g c = λ _ card.
    let mask = c.mask_at.ensures in
    let facts = g.P.Board.Board.facts in
    inr (record {
      left = facts c.in_ok-left.left;
      cut = subst (λ (m : ℕ). CutsTurn c.args.write m (swept_by facts c.args.runs.now) (facts c.in_ok-left.left))
          (mask-is c.args.made.now.words c.args.i _ mask.none mask.all mask.single) (c.in_ok-left.ensures.cut card);
      other = λ is. true≢false (sym (c.is_masked.ensures.1
          (masked-same c.args.made.now.at c.args.made.now.words c.args.i _ _ _ _ _ (sym c.words-after.ensures)
          (sym c.words.ensures) is)) ∙ c.if-not-is_masked.true);
    })
