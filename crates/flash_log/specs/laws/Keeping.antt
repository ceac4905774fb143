-- Laws of what is still known behind a record that failed.
use Rattle.std.specs.Prelude.{◌≡◌, ◌⊎◌, ◌<◌, ◌≤◌, ◌+◌, ◌*◌, ℕ, Bool, true, false, List, length}
use Rattle.std.proofs.Common.{refl, sym, ⊎_elim, inr, subst, arith}
use Rattle.nvm_board.specs.History.{written}
use Rattle.flash_area.specs.Spares.{IsSpare}
use Rattle.flash_device.specs.FlashBlocks.{area_size, witness_start}
use Rattle.flash_device.specs.FlashCalls.{SameElsewhere}
use Rattle.flash_device.specs.FlashLogs.{base_in, find, words_of}
use Rattle.flash_device.specs.declared.layout.TheConstants.{STEP_PAGES}
use Rattle.flash_moves.specs.declared.place.PageMap.{PageMap}
use Rattle.flash_moves.specs.Paces.{IsInPaceFrom, OwnsOlder, WillKeepPace}
use Rattle.flash_moves.specs.Places.{IsPlaceOf}
use Rattle.flash_moves.specs.laws.Catching.{run_spare}
use Rattle.flash_moves.specs.laws.Losing.{in_pace_from}
use Rattle.flash_moves.specs.laws.Sparing.{home_leaves, spare_same, spare_written}
use Rattle.flash_log.specs.KeptParts.{IsPacedBehind, KeepsPlace, WillPace}
use Rattle.flash_log.specs.laws.Ending.{will_more}

-- Behind a record of a page, whole or torn, the move has come as far: only the copy of that page may be older.
pub torn_spare : {T : Type 0} → (entries : T → List ℕ) → (pages slots sectors : ℕ) → (start : ℕ → ℕ)
    → ((s : ℕ) → start s ≤ start (s + 1)) → start 0 ≡ 0 → start sectors ≡ area_size slots
    → start (2 * sectors) ≡ witness_start slots → 0 < sectors → (m after : List ℕ) → (p : PageMap T)
    → IsPlaceOf entries pages slots sectors start m p
    → SameElsewhere m (base_in slots p.turn) (20 * slots) after
    → ((q : ℕ) → find after (base_in slots p.turn) slots q ≡ 0 → find m (base_in slots p.turn) slots q ≡ 0)
    → (page first : ℕ) → (run : List ℕ) → first + length run ≤ 16 → OwnsOlder page p
    → (o : ℕ) → (page < STEP_PAGES * p.copied → o ≡ page + 1) → (STEP_PAGES * p.copied ≤ page → o ≡ 0)
    → (words_of pages slots after ≡ words_of pages slots m)
    ⊎ (words_of pages slots after ≡ written (words_of pages slots m) (16 * page + first) run)
    → IsSpare pages slots sectors start after (words_of pages slots after) p.turn p.erased p.copied p.behind o
torn_spare entries pages slots sectors start rise zero second third some m after p at elsewhere held page first run fits
    own o copied left = ⊎_elim
    (λ (same : words_of pages slots after ≡ words_of pages slots m).
    subst (λ (l : List ℕ). IsSpare pages slots sectors start after l p.turn p.erased p.copied p.behind o) (sym same)
    (spare_written pages slots sectors start after (words_of pages slots m) (words_of pages slots m) p.turn p.erased
    p.copied p.behind page p.older o own
    (spare_same pages slots sectors start rise zero second third some m after (words_of pages slots m) p.turn p.erased
    p.copied p.behind p.older (home_leaves slots m after p.turn elsewhere) held at.spare)
    (λ q k other few. refl) copied left))
    (λ (done : words_of pages slots after ≡ written (words_of pages slots m) (16 * page + first) run).
    run_spare entries pages slots sectors start rise zero second third some m after p at elsewhere held page first run
    fits own o copied left done)

module _ {T : Type 0} (pages slots sectors : ℕ) (start : ℕ → ℕ) (m : List ℕ) (page : ℕ) (p : PageMap T) where
  -- By what is known the flash is in pace.
  pub kept_in_pace : (extra : ℕ) → KeepsPlace pages slots sectors start m page p
      → IsPacedBehind pages slots sectors extra p → IsInPaceFrom pages slots sectors start m extra p.tried
  kept_in_pace extra keeps paced = let room = paced.room in
      in_pace_from pages slots sectors start m extra p.turn p.erased p.copied p.behind p.older p.tried p.tried
      keeps.turn keeps.spare keeps.free (omega (arith, room)) paced.few (omega arith)

  pub kept_stands : (extra : ℕ) → p.ready ≡ false → KeepsPlace pages slots sectors start m page p
      → IsPacedBehind pages slots sectors extra p → WillKeepPace pages slots sectors start m extra p
  kept_stands extra unready keeps paced = inr (unready, kept_in_pace extra keeps paced)

  -- So it will be in pace, whatever is known.
  pub will_stands : (kept : Bool) → (extra : ℕ) → p.ready ≡ false
      → (kept ≡ true → KeepsPlace pages slots sectors start m page p)
      → WillPace kept pages slots sectors start m extra p → WillKeepPace pages slots sectors start m extra p
  will_stands true extra unready keeps will = kept_stands extra unready (keeps refl) (will.known refl)
  will_stands false extra unready keeps will = will.looks refl

  -- It will be in pace with more slots for losses too.
  pub will_pace_more : (kept : Bool) → (extra more : ℕ) → extra ≤ more
      → WillPace kept pages slots sectors start m extra p → WillPace kept pages slots sectors start m more p
  will_pace_more kept extra more le will = record {
    known = λ e.
        let paced = will.known e in
        let few = paced.few in
        record { room = paced.room; few = omega (arith, few, le) };
    looks = λ e. will_more pages slots sectors start m extra more p le (will.looks e);
  }
