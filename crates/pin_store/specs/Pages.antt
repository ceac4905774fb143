-- The PINs in the words of a memory: each has a page.
use Rattle.std.specs.Prelude.{◌≡◌, ◌⊎◌, ◌<◌, ◌≤◌, ◌+◌, ◌==◌, ℕ, List, ◌++◌, map, length, slice_index}
use Rattle.std.specs.List.{range_with_len}
use Rattle.std.specs.Int.{w32, to_be_bytes}
use Rattle.nvm_board.specs.Facts.{address}
use Rattle.pin_store.specs.declared.layout.TheConstants.{FIRST_PIN_PAGE, PIN_MARK_WORD, PIN_WORDS}
use Rattle.card_model.specs.declared.pins.TheConstants.{PINS}
use Rattle.card_model.specs.declared.limits.TheConstants.{TRIES, UNBLOCKING_TRIES}
use Rattle.card_model.specs.Secrets.{Pin, enabled_pin}
use Rattle.undo_journal.specs.Wiping.{NamesPages}

-- The page of a PIN. PIN 1 has index 0.
abbrev pub pin_page : ℕ → ℕ
pin_page pin = FIRST_PIN_PAGE + pin

-- A word of that page.
abbrev pub pin_word : List ℕ → ℕ → ℕ → ℕ
pin_word m pin place = slice_index m (address (pin_page pin) place)

-- The eight bytes of two words, the most significant byte of each word first.
abbrev pub bytes_of_words : ℕ → ℕ → List ℕ
bytes_of_words first second = to_be_bytes w32 first ++ to_be_bytes w32 second

-- The PIN of a page: tries, unblocking tries, the value in two words, the unblocking value in two, the mark.
unfoldable pub pin_at : List ℕ → ℕ → Pin
pin_at m pin = record {
  value = bytes_of_words (pin_word m pin 2) (pin_word m pin 3);
  tries = pin_word m pin 0;
  unblocking = bytes_of_words (pin_word m pin 4) (pin_word m pin 5);
  unblocking_tries = pin_word m pin 1;
  enabled = pin_word m pin PIN_MARK_WORD == 1;
}

-- All PINs, PIN 1 first.
unfoldable pub pins_of : List ℕ → List Pin
pins_of m = map (pin_at m) (range_with_len 0 PINS)

-- All PINs of a memory whose pages have no marks.
unfoldable pub unmarked_pins_of : List ℕ → List Pin
unmarked_pins_of m = map (λ pin. enabled_pin (pin_at m pin)) (range_with_len 0 PINS)

-- Word `place` of every PIN page is at most `most`.
pub record AreAtMost (most place : ℕ) (m : List ℕ) : Type 0 where
  pub each : (pin : ℕ) → pin < PINS → pin_word m pin place ≤ most

-- A PIN has at most 3 tries left, and at most 10 unblocking tries.
pub record IsPinPage (m : List ℕ) (pin : ℕ) : Type 0 where
  pub tries : pin_word m pin 0 ≤ TRIES
  pub unblocking_tries : pin_word m pin 1 ≤ UNBLOCKING_TRIES

pub record ArePinPages (m : List ℕ) : Type 0 where
  pub each : (pin : ℕ) → pin < PINS → IsPinPage m pin

-- A mark is 1 or 0.
abbrev pub IsMark : List ℕ → ℕ → Type 0
IsMark m pin = pin_word m pin PIN_MARK_WORD ≤ 1

pub record AreMarks (m : List ℕ) : Type 0 where
  pub each : (pin : ℕ) → pin < PINS → IsMark m pin

-- Each PIN is enabled.
pub record AreEnabled (m : List ℕ) : Type 0 where
  pub each : (pin : ℕ) → pin < PINS → pin_word m pin PIN_MARK_WORD ≡ 1

-- The words of the PINs are unchanged, but for their marks.
pub record KeepsSecrets (m after : List ℕ) : Type 0 where
  pub words : (pin place : ℕ) → pin < PINS → place < PIN_MARK_WORD → pin_word after pin place ≡ pin_word m pin place

-- The words that the PINs depend on are unchanged.
pub record KeepsPins (m after : List ℕ) : Type 0 where
  pub words : (pin place : ℕ) → pin < PINS → place < PIN_WORDS → pin_word after pin place ≡ pin_word m pin place

-- The address of a word that the PIN doesn't depend on.
abbrev pub IsApart : ℕ → ℕ → Type 0
IsApart pin k = (k < address (pin_page pin) 0) ⊎ (address (pin_page pin) PIN_WORDS ≤ k)

-- A PIN becomes `now`. No word apart from it changes, and a valid mark stays valid.
pub record SetsPin (m : List ℕ) (pin : ℕ) (now : Pin) (after : List ℕ) : Type 0 where
  pub size : length after ≡ length m
  pub elsewhere : (k : ℕ) → IsApart pin k → slice_index after k ≡ slice_index m k
  pub becomes : pin_at after pin ≡ now
  pub mark : IsMark m pin → IsMark after pin

-- A pair of the journal, whether it counts or not, names a word of a PIN's page.
abbrev pub NamesPins : List ℕ → Type 0
NamesPins m = NamesPages FIRST_PIN_PAGE (FIRST_PIN_PAGE + PINS) m
