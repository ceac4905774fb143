use Rattle.std.proofs.Common.{◌≡◌, ◌<◌, ◌≤◌, ◌-◌, ℕ, zero, suc, List, length, replicate, slice_index, slice_set}
use Rattle.std.proofs.Common.{refl, sym, ◌∙◌, ap, arith, inl, inr, ⊎_elim, get_or-set_same, get_or-set_other}
use Rattle.std.proofs.Math.ListN.{get_or-append, length-set}
use Rattle.std.proofs.lemmas.Bool.{cases_lt}
use Rattle.std.proofs.lemmas.Bool.Decides.{eqb_tells}
use Rattle.std.proofs.lemmas.Grind.{same_number_lists}
use Rattle.std.proofs.lemmas.List.{length-append, length-replicate, get_or-append_right}
use Rattle.file_changes.specs.CreationParts.{padded}
use Rattle.file_changes.proofs.creating.padded.Goals as goal

zeros : (n j : ℕ) → slice_index (replicate n 0) j ≡ 0
zeros zero j = refl
zeros (suc n) zero = refl
zeros (suc n) (suc j) = zeros n j

pads : (all bytes : List ℕ) (n : ℕ) → length all ≡ n → length bytes ≤ n
    → ((j : ℕ) → j < length bytes → slice_index all j ≡ slice_index bytes j)
    → ((j : ℕ) → length bytes ≤ j → slice_index all j ≡ 0) → all ≡ padded n bytes
pads all bytes n size fits done rest =
    let parts = length-append bytes (replicate (n - length bytes) 0) in
    let back = length-replicate {A = ℕ} (n - length bytes) 0 in
    let long : length all ≡ length (padded n bytes) = omega (arith, size, fits, parts, back) in
    same_number_lists all (padded n bytes) long (λ j lt. ⊎_elim
    (λ (front : j < length bytes). done j front ∙ sym (get_or-append bytes (replicate (n - length bytes) 0) 0 j front))
    (λ (from : length bytes ≤ j).
    rest j from
    ∙ sym (get_or-append_right bytes (replicate (n - length bytes) 0) (length bytes) j 0 refl from
    ∙ zeros (n - length bytes) (j - length bytes)))
    (cases_lt j (length bytes)))

pub loop-i-init : goal.loop-i-init
loop-i-init g c = record {
  size = refl;
  done = λ j lt. absurd (omega (arith, lt));
  rest = λ j from. zeros g.row.N j;
}

pub loop-i-preserved : goal.loop-i-preserved
loop-i-preserved g c =
    let all = c.loop-i.all in
    let i = c.loop-i.i in
    let w = slice_index c.args.bytes.now i in
    let inside : i < length all = (
    let size = c.loop-i.invariant.size in
    let long = length-replicate {A = ℕ} g.row.N 0 in
    omega (arith, size, long, c.loop-i-test.true, c.requires)) in
    record {
      size = length-set all i w ∙ c.loop-i.invariant.size;
      done = λ j lt. elim (eqb_tells j i) [
        | inl same ↦ ap (slice_index (slice_set all i w)) same.1 ∙ get_or-set_same all i w 0 inside
            ∙ sym (ap (slice_index c.args.bytes.now) same.1)
        | inr other ↦ get_or-set_other all i j w 0 other.1
            ∙ c.loop-i.invariant.done j (let d = other.1 in omega (arith, lt, d))
      ];
      rest = λ j from. get_or-set_other all i j w 0 (λ is. let z : ⊥ = omega (arith, is, from) in z)
          ∙ c.loop-i.invariant.rest j (omega (arith, from));
    }

pub returns : goal.returns
returns g c =
    let long = length-replicate {A = ℕ} g.row.N 0 in
    let all : c.loop-i.i ≡ length c.args.bytes.now =
    (let end = c.loop-i.auto.i-end in omega (arith, end, c.loop-i-test.false)) in
    pads c.loop-i.all c.args.bytes.now g.row.N (c.loop-i.invariant.size ∙ long) c.requires
    (λ j lt. c.loop-i.invariant.done j (omega (arith, lt, all)))
    (λ j from. c.loop-i.invariant.rest j (omega (arith, from, all)))
