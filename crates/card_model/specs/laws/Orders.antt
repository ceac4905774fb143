-- Paths that are one.
use Rattle.std.specs.Prelude.{◌≡◌, ◌≢◌, Bool, true, false}
use Rattle.std.specs.Ordering.{nat_cmp, eq_by_cmp, is_eq}
use Rattle.std.specs.Cmp.Lexicographic.{slice_cmp, nat_list_cmp_total}
use Rattle.std.specs.FinMap.{slice_cmp-IsAntisymmetric, nat_cmp-IsAntisymmetric}
use Rattle.std.proofs.Common.{refl, sym, ◌∙◌, ap, true≢false, Ordering, Less, Equal}
use Rattle.std.proofs.Common.{Greater}
use Rattle.std.specs.Cmp.{eq_by_cmp_equiv}
use Rattle.card_model.specs.FileTrees.{Path}

-- whether two paths are one
abbrev pub same_path : Path → Path → Bool
same_path p q = eq_by_cmp (slice_cmp nat_cmp) p q

equal_order : (o : Ordering) → is_eq o ≡ true → o ≡ Equal
equal_order Less e = absurd (true≢false (sym e))
equal_order Equal e = refl
equal_order Greater e = absurd (true≢false (sym e))

pub one_of_same : (p q : Path) → same_path p q ≡ true → p ≡ q
one_of_same p q e = slice_cmp-IsAntisymmetric nat_cmp-IsAntisymmetric p q (equal_order (slice_cmp nat_cmp p q) e)

pub same_of_one : (p q : Path) → p ≡ q → same_path p q ≡ true
same_of_one p q e = ap (same_path p) (sym e) ∙ (eq_by_cmp_equiv nat_list_cmp_total).refl p
