use Rattle.std.proofs.Common.{◌≡◌, ◌+◌, ℕ, slice_index, sym, ap, ◌∙◌, arith}
use Rattle.program_units.proofs.unit_flash.UnitFlashFlash.program.Goals as goal

pub returns-then-are_blank-clause-done : goal.returns-then-are_blank-clause-done
returns-then-are_blank-clause-done g c = record {
  each = λ k lt.
      let z : 0 + k ≡ k = omega arith in
      c.requires.blank.each k lt
      ∙ sym (ap (λ (i : ℕ). slice_index c.args.words.now i) (sym z)
      ∙ (c.are_blank.ensures.blank c.if-are_blank.true).each k lt);
}
