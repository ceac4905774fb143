use Rattle.std.proofs.Common.{◌≡◌, ◌⊎◌, ◌<◌, ◌≤◌, ◌+◌, ◌-◌, ◌*◌, ℕ, false, true}
use Rattle.nvm_board.specs.History.{written}
use Rattle.flash_device.specs.FlashCalls.{KeepsPower}
use Rattle.flash_device.specs.FlashLogs.{turn_of, words_of}
use Rattle.flash_moves.specs.Paces.{extra_of, lead_of, steps_left}
use Rattle.flash_moves.specs.Places.{IsLog, log_value}
use Rattle.flash_log.specs.KeptParts.{KeepsPlace, WillPace}
use Rattle.flash_log.specs.SlotsInTurn.{BeginsBy, MeetsMoreOrPassesFewer, TakesInTurn, WillTake}
use Rattle.flash_log.proofs.tries.try_again.Given as goal

abbrev pub invariant-loop : goal.invariant-loop
invariant-loop g l =
    let slots = g.F.Flash.SLOTS in
    let pages = g.F.Flash.PAGES in
    let sectors = g.F.Flash.SECTORS in
    let start = g.F.Flash.sector_start in
    let old = g.F.Flash.state l.initial.flash in
    let new = g.F.Flash.state l.flash in record {
      lit : new.dark ≡ false;
      steady : KeepsPower old new;
      most : new.faults + 1 ≤ old.faults + l.counter;
      operations : new.operations + 2 * old.faults ≤ old.operations + 2 * new.faults;
      erases : new.erases ≡ old.erases;
      stood : (extra : ℕ) → extra ≤ extra_of pages slots sectors
          → WillPace l.initial.kept pages slots sectors start old.words extra l.initial.place
          → WillPace l.kept pages slots sectors start new.words extra l.place;
      holds : l.kept ≡ true → KeepsPlace pages slots sectors start new.words l.page l.place;
      keeps_on : l.initial.kept ≡ true → (extra k : ℕ) → extra ≤ extra_of pages slots sectors
          → WillPace l.initial.kept pages slots sectors start old.words extra l.initial.place
          → steps_left pages sectors l.initial.place + l.initial.place.tried + k < slots
          → ((old.faults < new.faults) × MeetsMoreOrPassesFewer slots k
          (log_value pages slots sectors old l.initial.place) (log_value pages slots sectors new l.place))
          ⊎ ((l.kept ≡ true)
          × (steps_left pages sectors l.place + l.place.tried + k < slots + (l.counter - 1)));
      stays : l.initial.kept ≡ true → ((l.kept ≡ true)
          × ((steps_left pages sectors l.place ≡ steps_left pages sectors l.initial.place)
          × (l.place.tried ≤ l.initial.place.tried + (l.counter - 1))))
          ⊎ ((slots ≤ steps_left pages sectors l.initial.place + l.place.tried)
          × (slots ≤ steps_left pages sectors l.initial.place + l.initial.place.tried + (l.counter - 1)));
      turns : (n : ℕ) → n + lead_of pages sectors ≤ slots
          → WillTake slots (log_value pages slots sectors old l.initial.place) n
          → TakesInTurn slots n (l.counter - 1) (log_value pages slots sectors old l.initial.place)
          (log_value pages slots sectors new l.place);
      met : old.faults + l.counter ≤ new.faults + 1;
      unready : l.place.ready ≡ false;
      turn : turn_of slots new.words ≡ turn_of slots old.words;
      begun : (extra n : ℕ) → extra ≤ extra_of pages slots sectors
          → WillPace l.initial.kept pages slots sectors start old.words extra l.initial.place
          → BeginsBy slots (log_value pages slots sectors old l.initial.place) n
          → BeginsBy slots (log_value pages slots sectors new l.place) (n + (l.counter - 1));
      log : IsLog g.F.Table.PageTable.entries pages slots sectors start new.words l.place;
      whole : (words_of pages slots new.words ≡ words_of pages slots old.words) ⊎ (words_of pages slots new.words
          ≡ written (words_of pages slots old.words) (16 * l.page + l.first) l.words);
    }
