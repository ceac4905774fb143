use Rattle.std.proofs.Common.{◌≡◌, ◌≢◌, ◌<◌, ◌*◌, ◌/◌, ◌%◌, ◌^◌, ℕ, w8, bit_or}
use Rattle.std.proofs.Common.{length, set, get_or, get_or-set_same, get_or-set_other}
use Rattle.std.proofs.Common.{sym, ◌∙◌, ap, arith, ⊎_elim}
use Rattle.std.specs.Int.{bit_at}
use Rattle.std.proofs.lemmas.Bool.{cases_eq}
use Rattle.std.proofs.lemmas.Nat.Bits.{bit_at_set_same, bit_at_set_other}
use Rattle.tree_check.proofs.walk.mark_end.Goals as goal

pub returns-clause-marks : goal.returns-clause-marks
returns-clause-marks c = λ _.
    let bytes = c.args.ends.now in
    let last = c.args.walked.last in
    let at = c.from-place.result in
    let is : at ≡ last / 8 = c.from-place.ensures in
    let k : ℕ = last % 8 in
    let room = c.requires c.if-walked-eq0.false in
    let inside = let z : at < length bytes = omega (arith, room, is) in z in
    let within = let z : k < 8 = omega arith in z in
    let new : ℕ = bit_or (get_or bytes at 0) (1 * 2 ^ k % 2 ^ 8) in
    record {
      last = λ _. ap (λ j. bit_at (get_or (set bytes at new) j 0) k) (sym is)
          ∙ ap (λ byte. bit_at byte k) (get_or-set_same bytes at new 0 inside)
          ∙ bit_at_set_same w8 (get_or bytes at 0) k within;
      others = λ page apart. ⊎_elim
          (λ (same : page / 8 ≡ at).
          let differ : page % 8 ≢ k = λ e. c.if-walked-eq0.false
          (apart (let z : page ≡ last = omega (arith, same, is, e) in z)) in
          ap (λ byte. bit_at byte (page % 8)) (ap (λ j. get_or (set bytes at new) j 0) same
          ∙ get_or-set_same bytes at new 0 inside)
          ∙ bit_at_set_other w8 (get_or bytes at 0) k within (page % 8) differ
          ∙ ap (λ j. bit_at (get_or bytes j 0) (page % 8)) (sym same))
          (λ (other : page / 8 ≢ at). ap (λ byte. bit_at byte (page % 8)) (get_or-set_other bytes at (page / 8) new 0
          other))
          (cases_eq (page / 8) at);
    }
