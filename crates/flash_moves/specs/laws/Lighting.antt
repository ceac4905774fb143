-- What a call of the flash does to power, as the board tells it.
use Rattle.std.specs.Prelude.{◌≡◌, ◌<◌, ◌≤◌, ◌+◌, ◌*◌, ◌/◌, ◌%◌, ◌^◌, ℕ, zero, suc, false, List, length}
use Rattle.std.specs.Prelude.{Result, Ok, Err}
use Rattle.nvm_board.specs.declared.board.DeviceErr.{DeviceErr}
use Rattle.nvm_board.specs.declared.board.DeviceErr.TheVariants.{PowerLost, Fault}
use Rattle.std.proofs.Common.{refl, sym, ◌∙◌, arith, subst}
use Rattle.std.proofs.lemmas.List.Elements.{All-get_or, All-from_get_or}
use Rattle.nvm_board.specs.Facts.{AreWords}
use Rattle.flash_device.specs.FlashBlocks.{area_size, flash_size}
use Rattle.flash_device.specs.FlashCalls.{FlashState, Lights, StaysLit, Tries}
use Rattle.flash_device.specs.FlashLogs.{find, word_of, slot_of, base_in, turn_of, words_of}
use Rattle.flash_device.specs.laws.Indexing.{base_most, find_most}
use Rattle.flash_area.specs.laws.Words.{length-words, index-words}

-- calls that only read leave the flash as it was
pub state_same : (old new : FlashState) → old.dark ≡ false → StaysLit old new → new.words ≡ old.words
    → new.operations ≡ old.operations → new.erases ≡ old.erases → new.kept ≡ old.kept → new ≡ old
state_same old new was stays words operations erases kept = λ i. record {
  words = words i;
  dark = (stays.lit ∙ sym was) i;
  due = stays.due i;
  faults = stays.faults i;
  operations = operations i;
  erases = erases i;
  kept = kept i;
}

-- the words of the board have 32 bits, since those of the flash do
pub words_fit : (pages slots : ℕ) (m : List ℕ) → length m ≡ flash_size slots → AreWords m
    → AreWords (words_of pages slots m)
words_fit pages slots m size all = All-from_get_or (λ w. w < 2 ^ 32) (words_of pages slots m) 0 (λ i lt.
    let inside : i < 16 * pages = let n = length-words pages slots m in omega (arith, lt, n) in
    let base = base_in slots (turn_of slots m) in
    let low : base ≤ area_size slots = base_most slots (turn_of slots m) in
    let most : find m base slots (i / 16) ≤ slots = find_most m base slots (i / 16) in
    subst (λ (w : ℕ). w < 2 ^ 32) (sym (index-words pages slots m i inside))
    (by_place base low (find m base slots (i / 16)) (i % 16) most (omega arith)))
  where
    by_place : (base : ℕ) → base ≤ area_size slots → (f k : ℕ) → f ≤ slots → k < 16 → word_of m base f k < 2 ^ 32
    by_place base low zero k most lt = omega arith
    by_place base low (suc f) k most lt =
        let inside : slot_of base f + k < length m = omega (arith, low, most, lt, size) in
        All-get_or (λ w. w < 2 ^ 32) m (slot_of base f + k) 0 inside all

-- calls take no fault back
pub tries_faults : {T : Type 0} (least : ℕ) (old new : FlashState) (r : Result T DeviceErr) → Tries least old new r
    → old.faults ≤ new.faults
tries_faults least old new (Ok x) tries = (tries.ok refl).faults
tries_faults least old new (Err PowerLost) tries = (tries.lost refl).faults
tries_faults least old new (Err Fault) tries = (tries.fault refl).0.faults

pub lights_faults : {T : Type 0} (old new : FlashState) (r : Result T DeviceErr) → Lights old new r
    → old.faults ≤ new.faults
lights_faults old new (Ok x) lights = let same = (lights.ok refl).faults in omega (arith, same)
lights_faults old new (Err PowerLost) lights = let same = (lights.lost refl).faults in omega (arith, same)
lights_faults old new (Err Fault) lights = let more = (lights.fault refl).faults in omega (arith, more)

-- one call has one at most
pub lights_once : {T : Type 0} (old new : FlashState) (r : Result T DeviceErr) → Lights old new r
    → new.faults ≤ old.faults + 1
lights_once old new (Ok x) lights = let same = (lights.ok refl).faults in omega (arith, same)
lights_once old new (Err PowerLost) lights = let same = (lights.lost refl).faults in omega (arith, same)
lights_once old new (Err Fault) lights = let more = (lights.fault refl).faults in omega (arith, more)
