use Rattle.std.proofs.Common.{◌≡◌, ◌<◌, ◌∙◌, ℕ, Bool, List, ap, sym, length, get_or, take, arith}
use Rattle.std.proofs.lemmas.List.{take_all}
use Rattle.std.proofs.lemmas.List.FromFn.{get_or-range_with_len, length-range_with_len}
use Rattle.std.proofs.lemmas.List.Sums.{count_by_more_no, count_by_more_yes}
use Rattle.std.specs.List.{count_by, range_with_len}
use Rattle.simulated_chips.specs.UsedWordParts.{used_at}
use Rattle.simulated_chips.proofs.sim_units.used_words.Goals as goal
use Rattle.simulated_chips.proofs.sim_units.used_words.Goals.{then-is_used, else-is_used}

pub loop-k-preserved : goal.loop-k-preserved
loop-k-preserved c =
    let used : ℕ → Bool = used_at c.args.words.now c.args.programs.now in
    let places = range_with_len c.args.at c.args.size in
    let n = length-range_with_len c.args.at c.args.size in
    let lt : c.loop-k.k < length places = omega (arith, n) in
    let here = get_or-range_with_len c.args.at c.args.size c.loop-k.k 0 (omega arith) in
    let is : used (get_or places c.loop-k.k 0) ≡ c.is_used.result = ap used here ∙ sym c.is_used.ensures in
    let so_far = c.loop-k.invariant.count in
    let few = c.loop-k.invariant.most in
    elim c.if-is_used.branch [
      | then-is_used w ↦
          let more = count_by_more_yes used places c.loop-k.k 0 lt (is ∙ w.if-is_used.true) in
          let now = w.used-is in
          record { count = omega (arith, more, so_far, now); most = omega (arith, few, now) }
      | else-is_used w ↦
          let more = count_by_more_no used places c.loop-k.k 0 lt (is ∙ w.if-is_used.false) in
          let now = w.used-is in
          record { count = omega (arith, more, so_far, now); most = omega (arith, few, now) }
    ]

pub returns : goal.returns
returns c =
    let places = range_with_len c.args.at c.args.size in
    let n = length-range_with_len c.args.at c.args.size in
    let all : take c.loop-k.k places ≡ places = take_all c.loop-k.k places (omega (arith, n)) in
    c.loop-k.invariant.count
    ∙ ap (λ (l : List ℕ). count_by (used_at c.args.words.now c.args.programs.now) l) all
