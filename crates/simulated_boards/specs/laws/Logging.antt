-- The calls of a board in working memory, with the log of what follows it.
use Rattle.std.specs.Prelude.{◌≡◌, ℕ, Bool, true, false, List, Option, Result, length}
use Rattle.std.proofs.Common.{refl, ap, ap₂}
use Rattle.std.proofs.Math.Logic.{⊎_map}
use Rattle.nvm_board.specs.declared.board.DeviceErr.{DeviceErr}
use Rattle.nvm_board.specs.Aims.{AimStays, AimsAtWrite, FallsNext}
use Rattle.nvm_board.specs.BoardCalls.{Compares, TellsWord, Writes}
use Rattle.nvm_board.specs.Facts.{Answered, Facts, GoesDark, IsBoard, IsLostRightly}
use Rattle.nvm_board.specs.History.{Log, and_run, run_in}
use Rattle.simulated_boards.specs.laws.Counts.{cut_is_board}
use Rattle.simulated_boards.specs.Kept.{kept_facts}
use Rattle.simulated_boards.specs.declared.kept_board.KeptBoard.{KeptBoard}

-- a board, with this log in place of its own
abbrev pub with_log : Option Log → Facts → Facts
with_log log f = record f { log = log }

pub kept_is_board : {F : Type 0} (log : F → Option Log) (b : KeptBoard F) → IsBoard (kept_facts log b)
kept_is_board log b = let board = cut_is_board b.cut in record {
  sized = board.sized;
  words_fit = board.words_fit;
  counted = board.counted;
  counts_fit = record {
    faults = board.counts_fit.faults;
    cuts = board.counts_fit.cuts;
    writes = board.counts_fit.writes;
    compares = board.counts_fit.compares;
    matches = board.counts_fit.matches;
  };
  may_go = board.may_go;
}

module _ (before after : Option Log) (old new : Facts) (off_same : old.dark ≡ true → after ≡ before) where
  -- a board without power leaves its log too
  logged_off : old.dark ≡ true → new ≡ old → with_log after new ≡ with_log before old
  logged_off off same = ap₂ with_log (off_same off) same

  answered_logged : {T : Type 0} (result : Result T DeviceErr) → Answered old new result
      → Answered (with_log before old) (with_log after new) result
  answered_logged result told = record {
    ok = λ h. let s = told.ok h in
        record { was_lit = s.was_lit; lit = s.lit; faults = s.faults; cuts = s.cuts; due = s.due };
    lost = λ h. ⊎_map
        (λ (d : GoesDark old new). record
        { was_lit = d.was_lit; dark = d.dark; faults = d.faults; cuts = d.cuts; due = d.due })
        (λ off. (off.0, logged_off off.0 off.1))
        (told.lost h);
    fault = λ h. let f = told.fault h in
        record { was_lit = f.was_lit; lit = f.lit; faults = f.faults; cuts = f.cuts; due = f.due };
  }

  lost_logged : {T : Type 0} (result : Result T DeviceErr) → IsLostRightly old new result
      → IsLostRightly (with_log before old) (with_log after new) result
  unfolding IsLostRightly
  lost_logged result rightly = rightly

  aims_logged : (at : ℕ) (run : List ℕ) → AimsAtWrite at run old new
      → AimsAtWrite at run (with_log before old) (with_log after new)
  aims_logged at run aims = record {
    off = λ off. logged_off off (aims.off off);
    masks = aims.masks;
    cut = ⊎_map (λ same. same)
        (λ (falls : FallsNext at run old new). record {
          dark = falls.dark;
          none = falls.none;
          cut = falls.cut;
          was = falls.was;
          next = falls.next;
          masked = falls.masked;
        })
        aims.cut;
  }

  -- a write whose run is logged, if the board had power
  pub writes_logged : {T : Type 0} (at : ℕ) (run : List ℕ) (result : Result T DeviceErr) → Writes at run old new result
      → (old.dark ≡ false → after ≡ and_run before (run_in new.words at (length run)))
      → Writes at run (with_log before old) (with_log after new) result
  writes_logged at run result wrote log = record {
    done = wrote.done;
    torn = wrote.torn;
    light = answered_logged result wrote.light;
    worn = lost_logged result wrote.worn;
    cut = aims_logged at run wrote.cut;
    counted = wrote.counted;
    counted_err = wrote.counted_err;
    log = log;
    compares = wrote.compares;
    matches = wrote.matches;
  }

module _ (log : Option Log) (old new : Facts) where
  aim_logged : AimStays old new → AimStays (with_log log old) (with_log log new)
  aim_logged stays = record {
    off = λ off. ap (with_log log) (stays.off off);
    masks = stays.masks;
    aim = stays.aim;
    more = stays.more;
    log = refl;
  }

  -- a read, which is not logged
  pub tells_logged : (at : ℕ) (result : Result ℕ DeviceErr) → TellsWord at old new result
      → TellsWord at (with_log log old) (with_log log new) result
  tells_logged at result told = record {
    word = told.word;
    light = answered_logged log log old new (λ off. refl) result told.light;
    worn = lost_logged log log old new (λ off. refl) result told.worn;
    cut = aim_logged told.cut;
    words = told.words;
    writes = told.writes;
    compares = told.compares;
    matches = told.matches;
  }

  -- a comparison, which is not logged
  pub compares_logged : (secret : ℕ) (kept shown : List ℕ) (result : Result Bool DeviceErr)
      → Compares secret kept shown old new result
      → Compares secret kept shown (with_log log old) (with_log log new) result
  compares_logged secret kept shown result told = record {
    equal = told.equal;
    light = answered_logged log log old new (λ off. refl) result told.light;
    worn = lost_logged log log old new (λ off. refl) result told.worn;
    cut = aim_logged told.cut;
    words = told.words;
    writes = told.writes;
    compared = told.compared;
    compared_err = told.compared_err;
    matched = told.matched;
    matched_err = told.matched_err;
  }
