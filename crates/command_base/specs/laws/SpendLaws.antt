-- What commands cost at most.
use Rattle.std.specs.Prelude.{◌≤◌, ◌+◌, ℕ, List, length, IfOk, Option, Some, None, Result, Ok, Err}
use Rattle.std.proofs.Common.{arith}
use Rattle.card_model.specs.declared.status.Sw.{Sw}
use Rattle.card_model.specs.CommandTable.{asked}
use Rattle.card_model.specs.Requests.{Request, select, read_binary, update_binary, create_file, delete_file}
use Rattle.card_model.specs.Requests.{read_record, update_record, append_record, search_record, increase}
use Rattle.card_model.specs.Requests.{change_life_cycle, terminate_card_usage, verify, change_reference_data}
use Rattle.card_model.specs.Requests.{reset_retry_counter, change_requirement, IsSized}
use Rattle.card_model.specs.laws.RowLaws.{asked-sized}
use Rattle.command_base.specs.declared.spending.TheConstants.{COMMAND_WRITES}
use Rattle.command_base.specs.CommandWrites.{most_writes, shown_writes, writes_asked, writes_of}
use Rattle.command_base.specs.laws.TouchLaws.{few_blocks, few_words}
use Rattle.undo_journal.specs.Spending.{transaction_writes}

few-shown : {T : Type 0} (shown : Option T) (most : ℕ) → most ≤ COMMAND_WRITES
    → shown_writes shown most ≤ COMMAND_WRITES
few-shown None most few = omega arith
few-shown (Some value) most few = few

few-asked : (request : Request) → IsSized request → most_writes request ≤ COMMAND_WRITES
few-asked (select selection returned expected) sized = omega arith
few-asked (read_binary target offset expected) sized = omega arith
few-asked (update_binary target offset bytes) sized =
    let few = few_words offset (length bytes) in let blocks = few_blocks offset (length bytes) in
    let most = sized.1 in omega (arith, few, blocks, most)
few-asked (create_file template) sized = omega arith
few-asked (delete_file subject) sized = omega arith
few-asked (read_record target choice expected) sized = omega arith
few-asked (update_record target choice bytes) sized = omega arith
few-asked (append_record target bytes) sized = omega arith
few-asked (search_record target first direction text expected) sized = omega arith
few-asked (increase sent expected) sized = omega arith
few-asked (change_life_cycle change subject) sized = omega arith
few-asked terminate_card_usage sized = omega arith
few-asked (verify pin shown) sized = few-shown shown (1 + 1) (omega arith)
few-asked (change_reference_data pin shown new) sized = omega arith
few-asked (reset_retry_counter pin values) sized = few-shown values (1 + transaction_writes 4 1) (omega arith)
few-asked (change_requirement change pin shown) sized = omega arith

-- no command costs more than the most
pub few_writes : (command : List ℕ) → writes_of command ≤ COMMAND_WRITES
few_writes command = among (asked command) (asked-sized command)
  where
    among : (wanted : Result Request Sw) → IfOk wanted IsSized → writes_asked wanted ≤ COMMAND_WRITES
    among (Ok request) sized = few-asked request sized
    among (Err status) sized = omega arith
