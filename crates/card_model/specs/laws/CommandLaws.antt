-- Every command is lawful: the one list of the laws of all commands. Each stands with its group.
use Rattle.card_model.specs.Requests.{Request, select, read_binary, update_binary, create_file, delete_file}
use Rattle.card_model.specs.Requests.{read_record, update_record, append_record, search_record, increase}
use Rattle.card_model.specs.Requests.{change_life_cycle, terminate_card_usage, verify, change_reference_data}
use Rattle.card_model.specs.Requests.{reset_retry_counter, change_requirement}
use Rattle.card_model.specs.laws.BinaryLaws as binaries
use Rattle.card_model.specs.laws.FileLaws as files
use Rattle.card_model.specs.laws.IncreaseLaws as increasing
use Rattle.card_model.specs.laws.Lawful.{Lawful}
use Rattle.card_model.specs.laws.LifeLaws as lives
use Rattle.card_model.specs.laws.PinLaws as pins
use Rattle.card_model.specs.laws.RecordLaws as records

pub lawful : (request : Request) → Lawful request
lawful (select selection returned expected) = files.lawful-select selection returned expected
lawful (read_binary target offset expected) = binaries.lawful-read target offset expected
lawful (update_binary target offset bytes) = binaries.lawful-update target offset bytes
lawful (create_file template) = files.lawful-create template
lawful (delete_file subject) = files.lawful-delete subject
lawful (read_record target choice expected) = records.lawful-read target choice expected
lawful (update_record target choice bytes) = records.lawful-update target choice bytes
lawful (append_record target bytes) = records.lawful-append target bytes
lawful (search_record target first direction text expected) = records.lawful-search target first direction text expected
lawful (increase sent expected) = increasing.lawful-increase sent expected
lawful (change_life_cycle change subject) = lives.lawful-life change subject
lawful terminate_card_usage = lives.lawful-terminate
lawful (verify pin shown) = pins.lawful-verify pin shown
lawful (change_reference_data pin shown new) = pins.lawful-change pin shown new
lawful (reset_retry_counter pin values) = pins.lawful-reset pin values
lawful (change_requirement change pin shown) = pins.lawful-requirement pin change shown
