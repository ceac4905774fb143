use Rattle.std.proofs.Common.{◌≡◌, ◌++◌, take, string_bytes}
use Rattle.sweep_reports.specs.Printing.{results_text}
use Rattle.sweep_reports.proofs.lines.push_results.Given as goal

abbrev pub invariant-loop-seen : goal.invariant-loop-seen
invariant-loop-seen l =
    string_bytes l.text ≡ string_bytes l.fn.text ++ results_text l.looks l.head (take l.seen-index l.results)
