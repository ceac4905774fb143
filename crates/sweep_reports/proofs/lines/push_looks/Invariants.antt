use Rattle.std.proofs.Common.{◌≡◌, ◌++◌, length, string_bytes}
use Rattle.sweep_reports.specs.Printing.{looks_text}
use Rattle.sweep_reports.proofs.lines.push_looks.Given as goal

abbrev pub invariant-loop-sizes : goal.invariant-loop-sizes
invariant-loop-sizes l = record {
  text_is : string_bytes l.text ++ looks_text l.sizes l.items ≡ string_bytes l.fn.text ++ looks_text l.looks l.trace;
}

abbrev pub decreases-loop-sizes : goal.decreases-loop-sizes
decreases-loop-sizes l = length l.sizes
