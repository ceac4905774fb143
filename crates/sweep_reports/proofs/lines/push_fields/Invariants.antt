use Rattle.std.proofs.Common.{◌≡◌, ◌++◌, take, string_bytes}
use Rattle.std.specs.Prelude.{flat_map}
use Rattle.sweep_reports.specs.Printing.{field_text}
use Rattle.sweep_reports.proofs.lines.push_fields.Given as goal

abbrev pub invariant-loop-item : goal.invariant-loop-item
invariant-loop-item l = string_bytes l.text ≡ string_bytes l.fn.text ++ flat_map field_text (take l.item-index l.items)
