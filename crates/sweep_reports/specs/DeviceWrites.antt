-- What a device write of a command does to the memory.
use Rattle.std.specs.Prelude.{◌≡◌, ◌≢◌, ◌+◌, ◌++◌, ◌∷◌, [], ℕ, List, Option, Some, None, codes, decimal}
use Rattle.std.specs.Prelude.{nat_eq, nat_lt, if◌then◌else◌}
use Rattle.undo_journal.specs.Undo.{gate, in_journal}
use Rattle.card_sweeps.specs.WrittenRuns.{IsFirstChange}
use Rattle.sweep_reports.specs.declared.device_writes.DeviceWrite.{DeviceWrite}
use Rattle.sweep_reports.specs.declared.device_writes.WriteKind.{WriteKind}
use Rattle.sweep_reports.specs.declared.device_writes.WriteKind.TheVariants.{Gate, Commit, Pairs, Words, Alone, Fill}
use Rattle.sweep_reports.specs.declared.device_writes.WriteKind.TheVariants.{Same}

-- The kind of a write of this many words that doesn't change the gate, by the lowest address that it changes. A device
-- write lies within one page, so all that it changes lies in the journal, or all in data words.
abbrev pub kind_at : ℕ → List ℕ → Option ℕ → WriteKind
kind_at words before None = Same
kind_at words before (Some at) =
    if in_journal at then Pairs else
    if nat_lt 0 (gate before) then Words else
    if nat_eq words 1 then Alone else Fill

-- A write of this many words that doesn't change the gate has the kind of the lowest address that it changes.
pub record IsKindOfChange (words : ℕ) (before after : List ℕ) (kind : WriteKind) : Type 0 where
  pub changed : Option ℕ
  pub first : IsFirstChange before after changed
  pub kind_is : kind ≡ kind_at words before changed

-- The kind of a write of this many words, by the memories before and after it. The commit sets the gate back to 0.
pub record IsWriteKind (words : ℕ) (before after : List ℕ) (kind : WriteKind) : Type 0 where
  pub turns : gate after ≢ gate before → kind ≡ (if nat_eq (gate after) 0 then Commit else Gate)
  pub stays : gate after ≡ gate before → IsKindOfChange words before after kind

abbrev pub kind_name : WriteKind → List ℕ
kind_name Gate = codes "gate"
kind_name Commit = codes "commit"
kind_name Pairs = codes "pairs"
kind_name Words = codes "words"
kind_name Alone = codes "alone"
kind_name Fill = codes "fill"
kind_name Same = codes "same"

-- the line of a write
unfoldable pub write_text : ℕ → DeviceWrite → List ℕ
write_text number it = codes "{\"write\": " ++ (decimal number ++ (codes ", \"words\": " ++ (decimal it.words
    ++ (codes ", \"kind\": \"" ++ (kind_name it.kind ++ codes "\"}\n")))))

-- the lines of these writes; the first has this number
unfoldable pub kinds_text : ℕ → List DeviceWrite → List ℕ
kinds_text number [] = []
kinds_text number (it ∷ later) = write_text number it ++ kinds_text (number + 1) later
