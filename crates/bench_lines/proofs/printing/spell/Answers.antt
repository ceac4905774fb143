use Rattle.std.proofs.Common.{◌≡◌, ◌++◌, ◌∙◌, ap, arith, length, List, ℕ}
use Rattle.std.proofs.lemmas.List.{length-set}
use Rattle.hex.specs.Hex.{encode_upper}
use Rattle.bench_lines.specs.declared.printing.TheConstants.{PRINTED_ROOM}
use Rattle.hex.proofs.Pairs.{take-two_writes}
use Rattle.bench_lines.proofs.Digits.{spelled_more, spelled_all}
use Rattle.bench_lines.proofs.printing.spell.Goals as goal

pub loop-i-init : goal.loop-i-init
loop-i-init c =
    let long : length c.args.text.now ≡ PRINTED_ROOM = omega arith in
    record {
      within = omega arith;
      size = length-set _ _ _ ∙ length-set _ _ _ ∙ long;
      so_far = ap (λ (l : List ℕ). l ++ encode_upper c.args.bytes.now)
          (take-two_writes c.args.text.now 0 60 32 (omega (arith, long)));
    }

pub loop-i-preserved : goal.loop-i-preserved
loop-i-preserved c =
    let size = c.loop-i.invariant.size in
    record {
      within = omega (arith, c.loop-i-test.true);
      size = length-set _ _ _ ∙ length-set _ _ _ ∙ size;
      so_far = spelled_more c.loop-i.text c.args.bytes.now _ c.loop-i.i _ _ c.loop-i-test.true (omega (
        arith,
        size,
        c.loop-i-test.true,
        c.requires,
      )) c.digit_of.ensures c.digit_of-in-loop-i.ensures c.loop-i.invariant.so_far;
    }

pub returns-clause-text : goal.returns-clause-text
returns-clause-text c =
    let size = c.loop-i.invariant.size in
    let within = c.loop-i.invariant.within in
    let all : c.loop-i.i ≡ length c.args.bytes.now = omega (arith, within, c.loop-i-test.false) in
    spelled_all c.loop-i.text c.args.bytes.now _ c.loop-i.i all (omega (arith, size, c.requires))
    c.loop-i.invariant.so_far
