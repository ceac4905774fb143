use Rattle.std.proofs.Common.{List, rules, string_bytes, subst, take, ℕ}
use Rattle.std.specs.Io.KnownBytes.{Appends}
use Rattle.sweep_reports.proofs.ReportStopped.{stop-ends, reading-passed}
use Rattle.sweep_reports.proofs.reporting.report.Goals as goal

pub returns-in-Ok-clause-told : goal.returns-in-Ok-clause-told
returns-in-Ok-clause-told g c = record {
  asked = c.in_ok-script.script;
  read = c.in_ok-script.ensures.read;
  text = string_bytes c.in_ok-text.text;
  is_report = c.in_ok-text.ensures;
  written = search rules;
}

pub returns-in_err-script-clause-stopped : goal.returns-in_err-script-clause-stopped
returns-in_err-script-clause-stopped g c =
    reading-passed _ _ c.from_residual.result _ _ _ _ _ _ _ c.from_residual.ensures.1 c.in_err-script.ensures.stopped

pub returns-in_err-text-clause-stopped : goal.returns-in_err-text-clause-stopped
returns-in_err-text-clause-stopped g c =
    stop-ends _ _ c.from_residual-in_err-text.result _ _ _ _ _ _ _ (c.in_ok-script.script, c.in_ok-script.ensures.read)
    c.from_residual-in_err-text.ensures.1

pub returns-clause-stopped : goal.returns-clause-stopped
returns-clause-stopped g c =
    let old = g.W.Write.contents c.args.writer.now in
    let new = g.W.Write.contents c.write_line.new.writer in
    let began = c.in-Err.ensures.began in
    record {
      asked = c.in_ok-script.script;
      read = c.in_ok-script.ensures.read;
      text = string_bytes c.in_ok-text.text;
      is_report = c.in_ok-text.ensures;
      size = began.0;
      begun = subst (λ (t : List ℕ). Appends old new (take began.0 t)) c.as_bytes.ensures.value began.1;
    }
