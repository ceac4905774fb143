-- The line between the two ends, which may lose or garble a block.
use Rattle.std.specs.Prelude.{ℕ, ◌-◌, ◌==◌, Bool, false, nat_lt, List, Option, None, Some, if◌then◌else◌}
use Rattle.t1_link.specs.Garbled.{last_bit_turned}
use Rattle.card_bench.specs.declared.line.Line.{Line}

-- the line without pending faults
abbrev pub perfect_line : Line
perfect_line = record { lose = None; garble = None }

-- true if a pending fault hits the block after `before` others
abbrev pub is_due : Option ℕ → ℕ → Bool
is_due None before = false
is_due (Some wait) before = wait == before

-- the pending fault after this number of blocks; None: it has hit a block
abbrev pub pending_after : ℕ → Option ℕ → Option ℕ
pending_after blocks None = None
pending_after blocks (Some wait) = if nat_lt wait blocks then None else Some (wait - blocks)

abbrev pub line_after : ℕ → Line → Line
line_after blocks line = record { lose = pending_after blocks line.lose; garble = pending_after blocks line.garble }

-- what arrives of the block after `before` others; a loss takes precedence over garbling
abbrev pub arriving : Line → ℕ → List ℕ → Option (List ℕ)
arriving line before block =
    if is_due line.lose before then None else
    if is_due line.garble before then Some (last_bit_turned block) else
    Some block
