-- The log of a board that a device follows: what it has after a write, and the first write of a run.
use Rattle.std.specs.Prelude.{◌≡◌, ◌+◌, ◌-◌, ◌%◌, ◌^◌, ◌++◌, ◌∷◌, ℕ, List, [], Some, length}
use Rattle.std.specs.Prelude.{drop, map}
use Rattle.std.proofs.Common.{◌∙◌, ap, ap₂, sym}
use Rattle.std.proofs.lemmas.List.{drop-map, length-map, map_push}
use Rattle.circular_buffer.specs.Buffer.{Buffer, buffer, keep_last}
use Rattle.nvm_board.specs.History.{Run, and_run, last_runs}
use Rattle.card_calls.specs.Devices.{run_of, shown_log}
use Rattle.card_calls.specs.declared.write.Write.{Write}
use Rattle.card_calls.specs.declared.write_log.WriteLog.{WriteLog}

-- a log's last items with one more: they are the last of all with one more
pub log_pushed : (log : WriteLog) (write : Write) (count : ℕ) → count ≡ (log.count + 1) % 2 ^ 64
    → (writes : Buffer Write)
    → writes ≡ buffer (keep_last log.writes.capacity (log.writes.items ++ write ∷ [])) log.writes.capacity
    → shown_log (record { writes = writes; count = count }) ≡ and_run (shown_log log) (run_of write)
log_pushed log write count counted writes pushed =
    let all = log.writes.items ++ write ∷ [] in
    let room = log.writes.capacity in
    let runs : map run_of (keep_last room all) ≡ last_runs room (map run_of log.writes.items ++ run_of write ∷ []) =
    sym (drop-map run_of (length all - room) all)
    ∙ ap (λ (n : ℕ). drop (n - room) (map run_of all)) (sym (length-map all run_of))
    ∙ ap (last_runs room) (map_push run_of log.writes.items write) in
    ap (λ (b : Buffer Write). shown_log (record { writes = b; count = count })) pushed
    ∙ ap₂ (λ (rs : List Run) (n : ℕ). Some (record { runs = rs; room = room; count = n })) runs counted
