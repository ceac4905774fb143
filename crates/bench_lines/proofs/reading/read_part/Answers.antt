use Rattle.std.proofs.Common.{◌≡◌, ◌≤◌, List, ℕ, Option, Some, None, [], IfSome, length, take}
use Rattle.std.proofs.Common.{length-take, length-take-le, arith, ap, refl, subst, sym, ◌∙◌, rules}
use Rattle.std.specs.Io.{StartsWith}
use Rattle.std.specs.Io.BufRead.{FillKeeps}
use Rattle.std.specs.Io.KnownBytes.{Keeps}
use Rattle.std.proofs.KnownBytes.{Consumes-nil, Consumes-kept}
use Rattle.bench_lines.proofs.PartsTaken.{at_end_of, taken-of, taken-fed}
use Rattle.bench_lines.specs.Scripts.{WhereKnown}
use Rattle.bench_lines.proofs.reading.read_part.Goals as goal

pub returns-then-is_empty-clause-part : goal.returns-then-is_empty-clause-part
returns-then-is_empty-clause-part g c =
    let rested = c.fill_buf.follows.lender-at-none in
    let filled = subst (FillKeeps _ (g.R.Read.remaining rested) (g.R.BufRead.consumable_len rested)) c.in-Ok.is
    c.fill_buf.follows.holds-at-none in
    let none : length c.in-Ok.available.now ≡ 0 = search rules in (
      Consumes-kept _ _ _ [] (Consumes-nil _) filled.0,
      at_end_of _ _ c.in-Ok.available.now c.in-Ok.ensures.end filled.0 none,
      refl,
    )

-- what is shown is there
left-of : (old rested : Option (List ℕ)) (shown : List ℕ) → IfSome old (λ xs. StartsWith xs shown) → Keeps old rested
    → (length shown ≡ 0 → ⊥) → WhereKnown old rested (λ script left. left ≡ [] → ⊥)
left-of None rested shown front kept some = tt
left-of (Some xs) None shown front kept some = absurd kept
left-of (Some xs) (Some ys) shown front kept some = λ none.
    let size = length-take (length shown) xs in
    let all : length (take (length shown) xs) ≡ length shown = ap length front in
    let empty : length xs ≡ 0 = ap length (sym kept ∙ none) in
    some (omega (arith, size, all, empty))

pub returns-then-most-eq0-clause-past : goal.returns-then-most-eq0-clause-past
returns-then-most-eq0-clause-past g c = λ e.
    let rested = c.fill_buf.follows.lender-at-none in
    let filled = subst (FillKeeps _ (g.R.Read.remaining rested) (g.R.BufRead.consumable_len rested)) c.in-Ok.is
    c.fill_buf.follows.holds-at-none in
    (search (rules, arith), left-of _ _ c.in-Ok.available.now c.in-Ok.ensures.front filled.0 (search (rules, arith)))

pub returns-then-is_fed-clause-part : goal.returns-then-is_fed-clause-part
returns-then-is_fed-clause-part g c =
    let size = c.size_in_line-size.result in
    let seen = take c.min.result c.in-Ok.available.now in
    let rested = c.fill_buf.follows.lender-at-none in
    let filled = subst (FillKeeps _ (g.R.Read.remaining rested) (g.R.BufRead.consumable_len rested)) c.in-Ok.is
    c.fill_buf.follows.holds-at-none in
    let whole = c.append.ensures in
    let long : length (take size seen) ≡ size = length-take-le size seen (omega (arith, c.if-is_fed.true)) in (
      take size seen,
      taken-fed _
          (g.R.Read.remaining rested) (g.R.Read.remaining c.consume.new.self) (g.R.BufRead.consumable_len rested)
          c.in-Ok.available.now c.min.result size c.in-Ok.ensures.front c.in-Ok.ensures.end filled.0 filled.1
          c.if-is_fed.true (c.size_in_line-size.ensures.at c.if-is_fed.true) c.consume.ensures.bytes,
      c.size_in_line-size.ensures.before,
      whole,
      omega (arith, long),
    )

pub returns-clause-part : goal.returns-clause-part
returns-clause-part g c =
    let size = c.size_in_line-size.result in
    let seen = take c.min.result c.in-Ok.available.now in
    let rested = c.fill_buf.follows.lender-at-none in
    let filled = subst (FillKeeps _ (g.R.Read.remaining rested) (g.R.BufRead.consumable_len rested)) c.in-Ok.is
    c.fill_buf.follows.holds-at-none in
    let whole = c.append.ensures in
    let within = c.size_in_line-size.ensures.within in
    let some : 1 ≤ size = search (rules, arith) in (
      take size seen,
      taken-of _ (g.R.Read.remaining rested) (g.R.Read.remaining c.consume-2.new.self)
          (g.R.BufRead.consumable_len rested) c.in-Ok.available.now c.min.result size c.in-Ok.ensures.front
          c.in-Ok.ensures.end filled.0 filled.1 within c.consume-2.ensures.bytes,
      c.size_in_line-size.ensures.before,
      whole,
      length-take-le size seen within,
      some,
    )
