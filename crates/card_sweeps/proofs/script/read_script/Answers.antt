use Rattle.std.proofs.Common.{◌≡◌, ◌∙◌, ◌-◌, Ok, Err, ap, arith, inl, inr, refl, subst, sym}
use Rattle.std.proofs.lemmas.Result.{IfErr-weaker, IfOk-weaker}
use Rattle.bench_lines.specs.Scripts.{TakesLine}
use Rattle.bench_lines.specs.declared.reading.LineFault.TheVariants.{Read, TooLong, TooMuch}
use Rattle.card_sweeps.specs.Asking.{Refuses, asked_of, take_line}
use Rattle.card_sweeps.specs.declared.fault.LineStop.{LineStop}
use Rattle.card_sweeps.specs.declared.fault.SweepFault.{SweepFault}
use Rattle.card_sweeps.specs.SweepEndings.{ReadingStopsBy, StopsAtLine}
use Rattle.card_sweeps.proofs.ReadSo.{counts-more, counts-none, reads-next, reads-none, reads-within, stops-inside}
use Rattle.card_sweeps.proofs.ReadSo.{whole-within}
use Rattle.card_sweeps.proofs.Stopped.{memory-passed}
use Rattle.card_sweeps.proofs.script.read_script.Goals as goal

pub loop-end-init : goal.loop-end-init
loop-end-init g c = record {
  taken = omega arith;
  counted = omega arith;
  turns = omega arith;
  so_far = reads-none _ _ c.in_ok-script.ensures;
  bytes = counts-none _;
}

pub loop-end-preserved : goal.loop-end-preserved
loop-end-preserved g c =
    let first = g.R.Read.remaining c.args.reader.now in
    let old = g.R.Read.remaining c.loop-end.reader in
    let new = g.R.Read.remaining c.read_line.new.reader in
    let line = c.read_line.new.line in
    let takes : take_line (asked_of c.loop-end.script) line ≡ Ok (asked_of c.take_line.new.self) =
    ap (take_line (asked_of c.loop-end.script)) (sym c.as_slice.ensures)
    ∙ rw c.in-Ok-take_line.is at c.take_line.ensures in
    record {
      taken = c.read_line.ensures.taken;
      counted = omega arith;
      turns =
          let fed = c.in-Ok.ensures.fed c.in-LineFeed.is in
          let turns = c.loop-end.invariant.turns in
          omega (arith, fed, turns);
      so_far = reads-next c.loop-end.number first old new _ _ line c.loop-end.invariant.counted
          c.loop-end.invariant.so_far
          (subst (TakesLine old new line) c.in-LineFeed.is c.in-Ok.ensures.line) takes;
      bytes = counts-more first old new 0 _ _ c.loop-end.invariant.bytes c.in-Ok.ensures.counted;
    }

pub returns-in-EndOfScript-clause-read : goal.returns-in-EndOfScript-clause-read
returns-in-EndOfScript-clause-read g c =
    let first = g.R.Read.remaining c.args.reader.now in
    let old = g.R.Read.remaining c.loop-end.reader in
    let new = g.R.Read.remaining c.read_line.new.reader in
    let line = c.read_line.new.line in
    let takes : take_line (asked_of c.loop-end.script) line ≡ Ok (asked_of c.take_line.new.self) =
    ap (take_line (asked_of c.loop-end.script)) (sym c.as_slice.ensures)
    ∙ rw c.in-Ok-take_line.is at c.take_line.ensures in
    let last = subst (TakesLine old new line) c.in-EndOfScript.is c.in-Ok.ensures.line in
    IfOk-weaker c.finished.result _ _
    (λ whole ends. record {
      number = c.loop-end.number - 1;
      between = old;
      before = asked_of c.loop-end.script;
      line = line;
      others = c.loop-end.invariant.so_far;
      last = last;
      takes = takes ∙ ap Ok (sym ends.0);
      whole = ends.1;
      size = whole-within first old new line _ _ c.loop-end.invariant.bytes c.in-Ok.ensures.counted last
          c.read_line.ensures.taken;
    }) c.finished.ensures.whole

pub returns-in-EndOfScript-clause-stopped : goal.returns-in-EndOfScript-clause-stopped
returns-in-EndOfScript-clause-stopped g c =
    let first = g.R.Read.remaining c.args.reader.now in
    let old = g.R.Read.remaining c.loop-end.reader in
    let new = g.R.Read.remaining c.read_line.new.reader in
    let line = c.read_line.new.line in
    let takes : take_line (asked_of c.loop-end.script) line ≡ Ok (asked_of c.take_line.new.self) =
    ap (take_line (asked_of c.loop-end.script)) (sym c.as_slice.ensures)
    ∙ rw c.in-Ok-take_line.is at c.take_line.ensures in
    IfErr-weaker c.finished.result _ _
    (λ fault ends.
    let stops : StopsAtLine c.loop-end.number ends.0 first new = record {
      counted = c.loop-end.invariant.counted;
      between = old;
      before = asked_of c.loop-end.script;
      others = c.loop-end.invariant.so_far;
      bad = inr (inl (record {
        line = line;
        read = subst (TakesLine old new line) c.in-EndOfScript.is c.in-Ok.ensures.line;
        asked = _;
        takes = takes;
        missing = ends.2;
      }));
      within = reads-within first old new _ _ c.loop-end.invariant.bytes c.in-Ok.ensures.counted
          c.read_line.ensures.taken;
    } in
    subst (λ (f : SweepFault). ReadingStopsBy f first new) (sym ends.1) stops) c.finished.ensures.missing

pub returns-in-Err-TooLong-clause-stopped : goal.returns-in-Err-TooLong-clause-stopped
returns-in-Err-TooLong-clause-stopped g c =
    let long = c.in-Err-TooLong.ensures.too_long (ap Err c.in-Err-TooLong.field-0-is) in
    record {
      counted = c.loop-end.invariant.counted;
      between = _;
      before = _;
      others = c.loop-end.invariant.so_far;
      bad = inr (inr (refl, record { begun = long.0; read = long.1; inside = long.2; long = long.3 }));
      within = reads-within _ _ _ _ _ c.loop-end.invariant.bytes long.4 c.read_line.ensures.taken;
    }

-- a fault in a line is not one of the line
read-apart : Read ≡ TooLong → ⊥
read-apart e = cc

much-apart : TooMuch ≡ TooLong → ⊥
much-apart e = cc

pub returns-in-Err-Read-clause-stopped : goal.returns-in-Err-Read-clause-stopped
returns-in-Err-Read-clause-stopped g c =
    stops-inside _ _ _ _ _ _ _ c.loop-end.invariant.so_far c.loop-end.invariant.bytes
    (c.in-Err-Read.ensures.stopped (λ e. read-apart (sym c.in-Err-Read.field-0-is ∙ e))) c.read_line.ensures.taken

pub returns-in-Err-TooMuch-clause-stopped : goal.returns-in-Err-TooMuch-clause-stopped
returns-in-Err-TooMuch-clause-stopped g c =
    stops-inside _ _ _ _ _ _ _ c.loop-end.invariant.so_far c.loop-end.invariant.bytes
    (c.in-Err-TooMuch.ensures.stopped (λ e. much-apart (sym c.in-Err-TooMuch.field-0-is ∙ e))) c.read_line.ensures.taken

pub returns-in-Err-Bad-clause-stopped : goal.returns-in-Err-Bad-clause-stopped
returns-in-Err-Bad-clause-stopped g c =
    let first = g.R.Read.remaining c.args.reader.now in
    let new = g.R.Read.remaining c.read_line.new.reader in
    let line = c.read_line.new.line in
    let none : take_line (asked_of c.loop-end.script) c.as_slice.result.now ≡ Err c.in-Err-Bad.error =
    subst (λ (s : LineStop). Refuses s (take_line (asked_of c.loop-end.script) c.as_slice.result.now))
    c.in-Err-Bad.field-0-is (rw c.in-Err-Bad.is at c.take_line.ensures) in
    let stops : StopsAtLine c.loop-end.number c.in-Err-Bad.error first new = record {
      counted = c.loop-end.invariant.counted;
      between = _;
      before = asked_of c.loop-end.script;
      others = c.loop-end.invariant.so_far;
      bad = inl (record {
        line = line;
        end = c.in-Ok.end;
        read = c.in-Ok.ensures.line;
        refused = ap (take_line (asked_of c.loop-end.script)) (sym c.as_slice.ensures) ∙ none;
      });
      within = reads-within _ _ _ _ _ c.loop-end.invariant.bytes c.in-Ok.ensures.counted c.read_line.ensures.taken;
    } in
    rw c.in-Err-Bad.field-0-is stops

pub returns-in_err-script-clause-stopped : goal.returns-in_err-script-clause-stopped
returns-in_err-script-clause-stopped g c = memory-passed c.from_residual.result _ _ c.from_residual.ensures.1
