-- The most device writes of a command, by its request.
use Rattle.std.specs.Prelude.{ℕ, ◌+◌, List, length, Option, Some, None, Result, Ok, Err}
use Rattle.card_model.specs.declared.status.Sw.{Sw}
use Rattle.card_model.specs.CommandTable.{asked}
use Rattle.card_model.specs.Requests.{Request, select, read_binary, update_binary, create_file, delete_file}
use Rattle.card_model.specs.Requests.{read_record, update_record, append_record, search_record, increase}
use Rattle.card_model.specs.Requests.{change_life_cycle, terminate_card_usage, verify, change_reference_data}
use Rattle.card_model.specs.Requests.{reset_retry_counter, change_requirement}
use Rattle.undo_journal.specs.Spending.{transaction_writes}
use Rattle.block_chain.specs.ChainChanges.{touched_blocks, touched_words}

-- a record of at most 255 bytes touches 65 words, and one word of the entry; they are in at most 7 runs
abbrev pub record_writes : ℕ
record_writes = transaction_writes 66 7

-- one word: the first of an entry, or the card's state
abbrev pub life_writes : ℕ
life_writes = transaction_writes 1 1

-- CREATE FILE fills the blocks of the largest file, 547, with one write each. Its transaction sets 11 words of the
-- entry (one run), the link of the last block, and the header's word for the first free block.
abbrev pub creation_writes : ℕ
creation_writes = 547 + transaction_writes 13 3

-- a query of the remaining tries writes nothing
abbrev pub shown_writes : {T : Type 0} → Option T → ℕ → ℕ
shown_writes None most = 0
shown_writes (Some shown) most = most

abbrev pub most_writes : Request → ℕ
most_writes (select selection returned expected) = 0
most_writes (read_binary target offset expected) = 0
most_writes (update_binary target offset bytes) =
    transaction_writes (touched_words offset (length bytes)) (touched_blocks offset (length bytes))
most_writes (create_file template) = creation_writes
most_writes (delete_file subject) = transaction_writes 129 129
most_writes (read_record target choice expected) = 0
most_writes (update_record target choice bytes) = record_writes
most_writes (append_record target bytes) = record_writes
most_writes (search_record target first direction text expected) = 0
most_writes (increase sent expected) = record_writes
most_writes (change_life_cycle change subject) = life_writes
most_writes terminate_card_usage = life_writes
most_writes (verify pin shown) = shown_writes shown (1 + 1)
most_writes (change_reference_data pin shown new) = 1 + transaction_writes 3 2
most_writes (reset_retry_counter pin values) = shown_writes values (1 + transaction_writes 4 1)
most_writes (change_requirement change pin shown) = 1 + transaction_writes 2 2

-- a command that is no valid request makes no write
abbrev pub writes_asked : Result Request Sw → ℕ
writes_asked (Ok request) = most_writes request
writes_asked (Err status) = 0

abbrev pub writes_of : List ℕ → ℕ
writes_of command = writes_asked (asked command)
