use Rattle.std.proofs.Common.{◌≡◌, ◌≤◌, ◌==◌, Err, ◌++◌, ◌+◌, ℕ, false, [], ◌∷◌, sym, ◌∙◌, ap, subst, arith, rules}
use Rattle.std.proofs.Common.{append_assoc, length, length-append}
use Rattle.std.proofs.KnownBytes.{Consumes-kept, Consumes-trans}
use Rattle.std.proofs.lemmas.List.Elements.{All-append}
use Rattle.std.specs.Io.KnownBytes.{Consumes}
use Rattle.std.specs.Str.Lines.{strip_carriage_return}
use Rattle.bench_lines.specs.declared.order.TheConstants.{LINE_LIMIT}
use Rattle.bench_lines.specs.declared.reading.TheConstants.{SCRIPT_LIMIT}
use Rattle.bench_lines.specs.declared.reading.LineFault.TheVariants.{TooMuch}
use Rattle.bench_lines.specs.Scripts.{IsInLine, IsTooLong, TakesPart}
use Rattle.bench_lines.proofs.PartsTaken.{counts_of, left-on}
use Rattle.bench_lines.proofs.reading.read_line.Goals as goal

pub returns-in-Ok-LineFeed-clause-line : goal.returns-in-Ok-LineFeed-clause-line
returns-in-Ok-LineFeed-clause-line g c =
    let line = c.loop.line in
    let first = g.R.Read.remaining c.args.reader.now in
    let new = g.R.Read.remaining c.read_part.new.reader in
    let part = subst (TakesPart (g.R.Read.remaining c.loop.reader) new line c.read_part.new.line)
    c.in-Ok-LineFeed.field-0-is c.in-Ok-LineFeed.ensures.part in (
      line ++ part.0,
      subst (Consumes first new) (sym (append_assoc line part.0 (10 ∷ [])))
          (Consumes-trans _ _ _ line (part.0 ++ 10 ∷ []) c.loop.invariant.so_far part.1),
      All-append (λ (b : ℕ). (b == 10) ≡ false) line part.0 c.loop.invariant.in_line part.2,
      c.drop_carriage_return.ensures ∙ ap strip_carriage_return part.3,
    )

pub returns-in-Err-clause-stopped : goal.returns-in-Err-clause-stopped
returns-in-Err-clause-stopped g c = λ other.
    let line = c.loop.line in
    let first = g.R.Read.remaining c.args.reader.now in
    let now = g.R.Read.remaining c.read_part.new.reader in
    let taken : Consumes first now line = Consumes-kept _ _ _ line c.loop.invariant.so_far c.in-Err.ensures.kept in
    let counted = counts_of first now line c.args.taken.now c.loop.taken taken c.loop.invariant.counted in
    (line, taken, c.loop.invariant.in_line, c.loop.invariant.fits, counted)

pub returns-in-Err-clause-past : goal.returns-in-Err-clause-past
returns-in-Err-clause-past g c = λ e.
    let is : c.in-Err.fault ≡ TooMuch = cc in
    let past = c.in-Err.ensures.past (ap Err is) in
    let none = past.0 in
    (search (rules, arith, none), left-on _ _ _ c.loop.line c.loop.invariant.so_far past.1)

pub loop-preserved : goal.loop-preserved
loop-preserved g c =
    let line = c.loop.line in
    let first = g.R.Read.remaining c.args.reader.now in
    let new = g.R.Read.remaining c.read_part.new.reader in
    let part = subst (TakesPart (g.R.Read.remaining c.loop.reader) new line c.read_part.new.line)
    c.in-Ok-Begun.field-0-is c.in-Ok-Begun.ensures.part in
    let most : c.loop.taken + c.in-Ok-Begun.size ≤ SCRIPT_LIMIT = search (rules, arith) in
    let fits : IsTooLong c.read_part.new.line → ⊥ = search rules in
    let room : length c.read_part.new.line ≤ LINE_LIMIT + 1 = search (rules, arith) in
    let whole : length c.read_part.new.line ≡ length line + length part.0 = ap length part.3
    ∙ length-append line part.0 in
    let bytes = part.4 in
    let some = part.5 in
    let before = c.loop.invariant.size in
    let counted = c.loop.invariant.counted in
    record {
      taken = most;
      size = omega (arith, whole, bytes, some, before);
      room = room;
      in_line = subst IsInLine (sym part.3)
          (All-append (λ (b : ℕ). (b == 10) ≡ false) line part.0 c.loop.invariant.in_line part.2);
      so_far = subst (Consumes first new) (sym part.3)
          (Consumes-trans _ _ _ line part.0 c.loop.invariant.so_far part.1);
      fits = fits;
      counted = omega (arith, whole, bytes, counted);
    }

pub returns-then-is_too_long-clause-too_long : goal.returns-then-is_too_long-clause-too_long
returns-then-is_too_long-clause-too_long g c = λ e.
    let line = c.loop.line in
    let first = g.R.Read.remaining c.args.reader.now in
    let new = g.R.Read.remaining c.read_part.new.reader in
    let part = subst (TakesPart (g.R.Read.remaining c.loop.reader) new line c.read_part.new.line)
    c.in-Ok-Begun.field-0-is c.in-Ok-Begun.ensures.part in
    let taken : Consumes first new (line ++ part.0) = Consumes-trans _ _ _ line part.0 c.loop.invariant.so_far part.1 in
    let whole : IsTooLong c.read_part.new.line = search rules in
    let long : IsTooLong (line ++ part.0) = subst IsTooLong part.3 whole in
    let sum = length-append line part.0 in
    let size = part.4 in
    let before = c.loop.invariant.counted in
    let counted : c.loop.taken + c.in-Ok-Begun.size ≡ c.args.taken.now + length (line ++ part.0) =
    omega (arith, sum, size, before) in (
      line ++ part.0,
      taken,
      All-append (λ (b : ℕ). (b == 10) ≡ false) line part.0 c.loop.invariant.in_line part.2,
      long,
      counts_of first new (line ++ part.0) c.args.taken.now (c.loop.taken + c.in-Ok-Begun.size) taken counted,
    )
