use Rattle.std.proofs.Common.{◌≤◌, ◌^◌, arith}
use Rattle.std.proofs.Math.Pow.{pow_mono}
use Rattle.card_sweeps.proofs.cut_masks.mask_at.Goals as goal

pub overflow_cast-result : goal.overflow_cast-result
overflow_cast-result c = let le : 2 ^ c.args.words ≤ 2 ^ 16 = pow_mono c.requires.words in omega (arith, le)
