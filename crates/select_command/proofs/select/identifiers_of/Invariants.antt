use Rattle.std.proofs.Common.{◌≡◌, take}
use Rattle.apdu_core.specs.ParsedCommands.{identifiers_in}
use Rattle.select_command.proofs.select.identifiers_of.Given as goal

abbrev pub invariant-loop-index : goal.invariant-loop-index
invariant-loop-index l = record { so_far : l.all.items ≡ take l.index (identifiers_in l.path) }
