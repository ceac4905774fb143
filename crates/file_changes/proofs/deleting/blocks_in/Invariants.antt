use Rattle.std.proofs.Common.{◌≡◌, take}
use Rattle.std.specs.List.{sum_by}
use Rattle.file_changes.proofs.deleting.blocks_in.Given as goal

abbrev pub invariant-loop-extent : goal.invariant-loop-extent
invariant-loop-extent l = record { so_far : l.blocks ≡ sum_by (λ x. x.blocks) (take l.extent-index l.extents) }
