use Rattle.std.proofs.Common.{arith, ◌≡◌, ◌+◌, ◌-◌, ◌%◌, ◌/◌, ap₂, ◌<◌, ◌∙◌, ap, sym, subst, List, ℕ, length}
use Rattle.std.proofs.Common.{slice_set}
use Rattle.std.specs.List.{refill}
use Rattle.ef_body.proofs.Adding.{IsAdded, added_none, added_more, added_all, added_digits, digit_of, refilled}
use Rattle.std.proofs.Math.ListN.{length-set}
use Rattle.ef_body.proofs.number.add_number.Goals as goal

pub loop-i-init : goal.loop-i-init
loop-i-init g c = added_none c.args.number.now.items c.args.sent.now

pub loop-i-preserved : goal.loop-i-preserved
loop-i-preserved g c =
    let now = c.loop-i.number.items in
    let total = c.digit-own.result + c.digit-other.result + c.loop-i.carry in
    let size = c.loop-i.invariant.size in
    let value = c.len-size.ensures.value in
    let lt : c.loop-i.i < length c.args.number.now.items = omega (arith, c.loop-i-test.true, value) in
    let own : c.digit-own.result ≡ digit_of now c.loop-i.i =
    c.digit-own.ensures.digit ∙ ap (λ (l : List ℕ). digit_of l c.loop-i.i) c.deref.ensures.0 in
    let sums : total ≡ digit_of now c.loop-i.i + digit_of c.args.sent.now c.loop-i.i + c.loop-i.carry =
    omega (arith, own, c.digit-other.ensures.digit) in
    let more = added_more c.args.number.now.items c.args.sent.now now c.loop-i.i c.loop-i.carry total
    c.loop-i.invariant lt
    sums (omega (arith, own, c.digit-own.ensures.small))
    (omega (arith, c.digit-other.ensures.digit, c.digit-other.ensures.small)) in
    let place : c.len-size.result - 1 - c.loop-i.i ≡ length now - 1 - c.loop-i.i = omega (arith, size, value) in
    let written : slice_set c.deref_mut.result.now (c.len-size.result - 1 - c.loop-i.i) (total % 256)
    ≡ slice_set now (length now - 1 - c.loop-i.i) (total % 256) =
    ap₂ (λ (l : List ℕ) (k : ℕ). slice_set l k (total % 256)) c.deref_mut.ensures.value place in
    let same : refill (length now) now (slice_set c.deref_mut.result.now (c.len-size.result - 1 - c.loop-i.i) (total
    % 256))
    ≡ slice_set now (length now - 1 - c.loop-i.i) (total % 256) =
    ap (refill (length now) now) written
    ∙ refilled now _ (length-set now (length now - 1 - c.loop-i.i) (total % 256)) in
    let family : List ℕ → Type 0 = λ l. IsAdded c.args.number.now.items c.args.sent.now l (c.loop-i.i + 1) (total /
    256) in
    subst family (sym same) more

pub returns-clause-sum : goal.returns-clause-sum
returns-clause-sum g c =
    let all : c.loop-i.i ≡ length c.args.number.now.items = omega (
      arith,
      c.loop-i-test.false,
      c.len-size.ensures.value,
    ) in
    added_all c.args.number.now.items c.args.sent.now c.loop-i.number.items c.loop-i.i c.loop-i.carry
    c.loop-i.invariant all c.requires

pub returns-clause-digits : goal.returns-clause-digits
returns-clause-digits g c =
    let all : c.loop-i.i ≡ length c.args.number.now.items = omega (
      arith,
      c.loop-i-test.false,
      c.len-size.ensures.value,
    ) in
    added_digits c.args.number.now.items c.args.sent.now c.loop-i.number.items c.loop-i.i c.loop-i.carry
    c.loop-i.invariant all
