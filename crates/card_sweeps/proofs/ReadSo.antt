-- Lines that are read one after another, and where that stops.
use Rattle.std.specs.Prelude.{◌≡◌, ◌≤◌, ◌+◌, ◌-◌, ℕ, suc, List, length, Option, None, Some, Ok, IfSome}
use Rattle.std.proofs.Common.{◌∙◌, ap, refl, subst, arith}
use Rattle.bench_lines.specs.Scripts.{CountsTaken, TakesInto, TakesLine}
use Rattle.bench_lines.specs.declared.reading.LineEnd.TheVariants.{EndOfScript, LineFeed}
use Rattle.bench_lines.specs.declared.reading.TheConstants.{SCRIPT_LIMIT}
use Rattle.card_sweeps.specs.Asking.{Asked, ReadsLines, ReadsWithin, take_line, unasked}
use Rattle.card_sweeps.specs.SweepEndings.{StopsInLine}

-- none yet
pub reads-none : (reader : Option (List ℕ)) (asked : Asked) → asked ≡ unasked → ReadsLines 0 reader reader asked
unfolding ReadsLines
reads-none reader asked is = (refl, is)

-- one more
pub reads-next : (n : ℕ) (old between new : Option (List ℕ)) (before asked : Asked) (line : List ℕ) → 1 ≤ n
    → ReadsLines (n - 1) old between before → TakesLine between new line LineFeed → take_line before line ≡ Ok asked
    → ReadsLines (n + 1 - 1) old new asked
unfolding ReadsLines
reads-next n old between new before asked line some so_far takes is =
    let more : ReadsLines (suc (n - 1)) old new asked = (between, before, line, so_far, takes, is) in
    let same : suc (n - 1) ≡ n + 1 - 1 = omega (arith, some) in
    subst (λ (m : ℕ). ReadsLines m old new asked) same more

-- bytes that were counted: none yet, more of them, and those of a script that isn't too long
pub counts-none : (reader : Option (List ℕ)) → CountsTaken reader reader 0 0
counts-none None = tt
counts-none (Some bytes) = refl

pub counts-more : (old between new : Option (List ℕ)) (a b c : ℕ) → CountsTaken old between a b
    → CountsTaken between new b c → CountsTaken old new a c
counts-more None between new a b c front back = tt
counts-more (Some xs) None new a b c front back = absurd front
counts-more (Some xs) (Some ys) None a b c front back = absurd back
counts-more (Some xs) (Some ys) (Some zs) a b c front back = front ∙ back

counted-within : (old new : Option (List ℕ)) (taken : ℕ) → CountsTaken old new 0 taken → taken ≤ SCRIPT_LIMIT
    → ReadsWithin old new
counted-within None new taken counted most = tt
counted-within (Some xs) None taken counted most = absurd counted
counted-within (Some xs) (Some ys) taken counted most = omega (arith, counted, most)

pub reads-within : (old between new : Option (List ℕ)) (counted taken : ℕ) → CountsTaken old between 0 counted
    → CountsTaken between new counted taken → taken ≤ SCRIPT_LIMIT → ReadsWithin old new
reads-within old between new counted taken front back most =
    counted-within old new taken (counts-more old between new 0 counted taken front back) most

-- the same at the end of the script
pub whole-within : (old between new : Option (List ℕ)) (line : List ℕ) (counted taken : ℕ)
    → CountsTaken old between 0 counted → CountsTaken between new counted taken → TakesLine between new line EndOfScript
    → taken ≤ SCRIPT_LIMIT → IfSome old (λ script. length script ≤ SCRIPT_LIMIT)
whole-within None between new line counted taken front back last most = tt
whole-within (Some xs) None new line counted taken front back last most = absurd front
whole-within (Some xs) (Some ys) None line counted taken front back last most = absurd back
whole-within (Some xs) (Some ys) (Some zs) line counted taken front back last most =
    let none = ap length last.1 in omega (arith, front, back, none, most)

-- reading that stops within a line
pub stops-inside : (n : ℕ) (old between new : Option (List ℕ)) (asked : Asked) (counted taken : ℕ)
    → ReadsLines n old between asked → CountsTaken old between 0 counted → TakesInto between new counted taken
    → taken ≤ SCRIPT_LIMIT → StopsInLine old new
stops-inside n old between new asked counted taken others front into most = record {
  number = n;
  between = between;
  before = asked;
  others = others;
  begun = into.0;
  read = into.1;
  inside = into.2;
  short = into.3;
  within = reads-within old between new counted taken front into.4 most;
}
