use Rattle.std.proofs.Common.{◌+◌, ◌<◌, ◌^◌, ℕ, List, length, get_or, slice_set, arith, ap, ◌∙◌}
use Rattle.std.proofs.Math.ListN.{length-set}
use Rattle.std.proofs.lemmas.List.Elements.{All-set}
use Rattle.nvm_board.specs.laws.Torn.{written-more}
use Rattle.simulated_boards.proofs.runs.put_run.Goals as goal

pub loop-i-preserved : goal.loop-i-preserved
loop-i-preserved c =
    let lt : c.loop-i.i < length c.args.run.now = omega arith in
    let put : List ℕ → List ℕ = λ l. slice_set l (c.args.start + c.loop-i.i) (get_or c.args.run.now c.loop-i.i 0) in
    record {
      all = length-set _ _ _ ∙ c.loop-i.invariant.all;
      so_far = ap put c.loop-i.invariant.so_far ∙ written-more _ _ _ _ lt;
      fits = λ old. let below : get_or c.args.run.now c.loop-i.i 0 < 2 ^ 32 = omega arith in
          All-set (λ w. w < 2 ^ 32) _ _ _ below (c.loop-i.invariant.fits old);
    }
