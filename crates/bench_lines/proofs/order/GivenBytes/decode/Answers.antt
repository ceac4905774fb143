use Rattle.std.proofs.Common.{sym, arith, inl, inr, ⊎_elim}
use Rattle.bench_lines.proofs.HexLimits.{bytes_in-outside}
use Rattle.bench_lines.proofs.order.GivenBytes.decode.Goals as goal

pub returns-then-size-eq0 : goal.returns-then-size-eq0
returns-then-size-eq0 c =
    sym (bytes_in-outside _ _ (⊎_elim (λ none. inl (omega (arith, none))) (λ many. inr many.1) c.then-size-eq0.either))
