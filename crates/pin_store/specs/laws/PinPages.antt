-- Laws of the PINs in a memory: what they depend on, and what a set of their words makes of them.
use Rattle.nvm_board.specs.laws.Sizes.{memory_same}
use Rattle.std.specs.Prelude.{◌==◌, if◌then◌else◌}
use Rattle.std.proofs.Common.{◌≡◌, ◌⊎◌, ◌<◌, ◌≤◌, ◌+◌, ℕ, Bool, true, false, List, [], ◌∷◌, length}
use Rattle.std.proofs.Common.{slice_index, slice_set, refl, sym, ◌∙◌, ap, subst, inl, inr, arith, lit<}
use Rattle.std.proofs.Math.ListN.{length-set}
use Rattle.nvm_board.specs.Facts.{address, IsMemory}
use Rattle.nvm_board.specs.History.{written}
use Rattle.undo_journal.specs.laws.Torn.{length-written, written-elsewhere, written-inside}
use Rattle.card_model.specs.declared.pins.TheConstants.{PINS}
use Rattle.pin_store.specs.declared.layout.TheConstants.{PIN_MARK_WORD, PIN_WORDS}
use Rattle.card_model.specs.declared.limits.TheConstants.{TRIES, UNBLOCKING_TRIES}
use Rattle.card_model.specs.Secrets.{HasFewTries, owner, is_unblocking, kept, tries_left, with_tries, changed_pin}
use Rattle.card_model.specs.Secrets.{reset_pin, verified_pin, enabled_pin, marked_pin}
use Rattle.pin_store.specs.Pages.{pin_page, pin_word, bytes_of_words, pin_at, IsPinPage}
use Rattle.pin_store.specs.Pages.{IsApart, IsMark, SetsPin}

-- a PIN depends on seven words of its page
pub pin_same : (m after : List ℕ) (pin : ℕ)
    → ((place : ℕ) → place < PIN_WORDS → pin_word after pin place ≡ pin_word m pin place)
    → pin_at after pin ≡ pin_at m pin
unfolding pin_at
pin_same m after pin same =
    let tries : pin_word after pin 0 ≡ pin_word m pin 0 = same 0 (lit< tt) in
    let unblocking_tries : pin_word after pin 1 ≡ pin_word m pin 1 = same 1 (lit< tt) in
    let first : pin_word after pin 2 ≡ pin_word m pin 2 = same 2 (lit< tt) in
    let second : pin_word after pin 3 ≡ pin_word m pin 3 = same 3 (lit< tt) in
    let third : pin_word after pin 4 ≡ pin_word m pin 4 = same 4 (lit< tt) in
    let fourth : pin_word after pin 5 ≡ pin_word m pin 5 = same 5 (lit< tt) in
    let mark : pin_word after pin PIN_MARK_WORD ≡ pin_word m pin PIN_MARK_WORD = same PIN_MARK_WORD (lit< tt) in
    λ i. record {
      value = bytes_of_words (first i) (second i);
      tries = tries i;
      unblocking = bytes_of_words (third i) (fourth i);
      unblocking_tries = unblocking_tries i;
      enabled = mark i == 1;
    }

-- and on six of them but for its mark
pub secrets_same : (m after : List ℕ) (pin : ℕ)
    → ((place : ℕ) → place < PIN_MARK_WORD → pin_word after pin place ≡ pin_word m pin place)
    → enabled_pin (pin_at after pin) ≡ enabled_pin (pin_at m pin)
unfolding pin_at
secrets_same m after pin same =
    let tries : pin_word after pin 0 ≡ pin_word m pin 0 = same 0 (lit< tt) in
    let unblocking_tries : pin_word after pin 1 ≡ pin_word m pin 1 = same 1 (lit< tt) in
    let first : pin_word after pin 2 ≡ pin_word m pin 2 = same 2 (lit< tt) in
    let second : pin_word after pin 3 ≡ pin_word m pin 3 = same 3 (lit< tt) in
    let third : pin_word after pin 4 ≡ pin_word m pin 4 = same 4 (lit< tt) in
    let fourth : pin_word after pin 5 ≡ pin_word m pin 5 = same 5 (lit< tt) in
    λ i. record {
      value = bytes_of_words (first i) (second i);
      tries = tries i;
      unblocking = bytes_of_words (third i) (fourth i);
      unblocking_tries = unblocking_tries i;
      enabled = true;
    }

-- a mark tells whether the PIN is enabled
pub enabled_at : (m : List ℕ) (pin : ℕ) → (pin_word m pin PIN_MARK_WORD == 1) ≡ (pin_at m pin).enabled
unfolding pin_at
enabled_at m pin = refl

-- a PIN that its mark enables
pub marked_enabled : (m : List ℕ) (pin : ℕ) → pin_word m pin PIN_MARK_WORD ≡ 1
    → pin_at m pin ≡ enabled_pin (pin_at m pin)
unfolding pin_at
marked_enabled m pin is =
    let enabled : (pin_word m pin PIN_MARK_WORD == 1) ≡ true = ap (λ (w : ℕ). w == 1) is in
    λ i. record {
      value = bytes_of_words (pin_word m pin 2) (pin_word m pin 3);
      tries = pin_word m pin 0;
      unblocking = bytes_of_words (pin_word m pin 4) (pin_word m pin 5);
      unblocking_tries = pin_word m pin 1;
      enabled = enabled i;
    }

-- where the word of a mark stays, it stays a mark
mark-stays : (m after : List ℕ) (pin : ℕ) → pin_word after pin PIN_MARK_WORD ≡ pin_word m pin PIN_MARK_WORD
    → IsMark m pin → IsMark after pin
mark-stays m after pin same mark = subst (λ (w : ℕ). w ≤ 1) (sym same) mark

-- words of a PIN's page are written: no word apart from the PIN changes
run-apart : (m run : List ℕ) (pin first k : ℕ) → first + length run ≤ PIN_WORDS → IsApart pin k
    → slice_index (written m (address (pin_page pin) first) run) k ≡ slice_index m k
run-apart m run pin first k fits (inl before) =
    let lt : k < address (pin_page pin) first = omega (arith, before) in
    written-elsewhere m run (address (pin_page pin) first) k (inl lt)
run-apart m run pin first k fits (inr past) =
    let le : address (pin_page pin) first + length run ≤ k = omega (arith, fits, past) in
    written-elsewhere m run (address (pin_page pin) first) k (inr le)

-- nor one of its own beside the run
run-beside : (m run : List ℕ) (pin first place : ℕ) → (place < first) ⊎ (first + length run ≤ place)
    → pin_word (written m (address (pin_page pin) first) run) pin place ≡ pin_word m pin place
run-beside m run pin first place (inl before) =
    let lt : address (pin_page pin) place < address (pin_page pin) first = omega (arith, before) in
    written-elsewhere m run (address (pin_page pin) first) (address (pin_page pin) place) (inl lt)
run-beside m run pin first place (inr past) =
    let le : address (pin_page pin) first + length run ≤ address (pin_page pin) place = omega (arith, past) in
    written-elsewhere m run (address (pin_page pin) first) (address (pin_page pin) place) (inr le)

-- those of the run are its words
run-within : (m run : List ℕ) (pin first k : ℕ) → IsMemory m → pin < PINS → first + length run ≤ PIN_WORDS
    → k < length run → pin_word (written m (address (pin_page pin) first) run) pin (first + k) ≡ slice_index run k
run-within m run pin first k sized small fits lt =
    let within : address (pin_page pin) first + length run ≤ length m = omega (arith, sized, small, fits) in
    let place : address (pin_page pin) (first + k) ≡ address (pin_page pin) first + k = omega arith in
    ap (slice_index (written m (address (pin_page pin) first) run)) place
    ∙ written-inside m run (address (pin_page pin) first) k within lt

-- a count of tries is set
tries-set : (unblocking : Bool) (m : List ℕ) (pin n : ℕ) → IsMemory m → pin < PINS
    → pin_at (slice_set m (address (pin_page pin) (if unblocking then 1 else 0)) n) pin ≡ record {
      value = (pin_at m pin).value;
      tries = if unblocking then (pin_at m pin).tries else n;
      unblocking = (pin_at m pin).unblocking;
      unblocking_tries = if unblocking then n else (pin_at m pin).unblocking_tries;
      enabled = (pin_at m pin).enabled;
    }
unfolding pin_at
tries-set true m pin n sized small =
    let run : List ℕ = n ∷ [] in
    let tries = run-beside m run pin 1 0 (inl (lit< tt)) in
    let unblocking_tries = run-within m run pin 1 0 sized small (lit< tt) (lit< tt) in
    let first = run-beside m run pin 1 2 (inr (lit< tt)) in
    let second = run-beside m run pin 1 3 (inr (lit< tt)) in
    let third = run-beside m run pin 1 4 (inr (lit< tt)) in
    let fourth = run-beside m run pin 1 5 (inr (lit< tt)) in
    let mark = run-beside m run pin 1 PIN_MARK_WORD (inr (lit< tt)) in
    λ i. record {
      value = bytes_of_words (first i) (second i);
      tries = tries i;
      unblocking = bytes_of_words (third i) (fourth i);
      unblocking_tries = unblocking_tries i;
      enabled = mark i == 1;
    }
tries-set false m pin n sized small =
    let run : List ℕ = n ∷ [] in
    let tries = run-within m run pin 0 0 sized small (lit< tt) (lit< tt) in
    let unblocking_tries = run-beside m run pin 0 1 (inr (lit< tt)) in
    let first = run-beside m run pin 0 2 (inr (lit< tt)) in
    let second = run-beside m run pin 0 3 (inr (lit< tt)) in
    let third = run-beside m run pin 0 4 (inr (lit< tt)) in
    let fourth = run-beside m run pin 0 5 (inr (lit< tt)) in
    let mark = run-beside m run pin 0 PIN_MARK_WORD (inr (lit< tt)) in
    λ i. record {
      value = bytes_of_words (first i) (second i);
      tries = tries i;
      unblocking = bytes_of_words (third i) (fourth i);
      unblocking_tries = unblocking_tries i;
      enabled = mark i == 1;
    }

-- the word of a secret's tries
tries-at : (unblocking : Bool) (m : List ℕ) (pin : ℕ) → pin_word m pin (if unblocking then 1 else 0)
    ≡ if unblocking then (pin_at m pin).unblocking_tries else (pin_at m pin).tries
unfolding pin_at
tries-at true m pin = refl
tries-at false m pin = refl

pub tries_at : (m : List ℕ) (secret : ℕ) → pin_word m (owner secret) (if is_unblocking secret then 1 else 0)
    ≡ tries_left secret (pin_at m (owner secret))
tries_at m secret = tries-at (is_unblocking secret) m (owner secret)

-- the words of a secret
kept-at : (unblocking : Bool) (m : List ℕ) (pin : ℕ)
    → bytes_of_words (pin_word m pin (if unblocking then 4 else 2)) (pin_word m pin ((if unblocking then 4 else 2) + 1))
    ≡ if unblocking then (pin_at m pin).unblocking else (pin_at m pin).value
unfolding pin_at
kept-at true m pin = refl
kept-at false m pin = refl

pub kept_at : (m : List ℕ) (secret : ℕ)
    → bytes_of_words (pin_word m (owner secret) (if is_unblocking secret then 4 else 2))
    (pin_word m (owner secret) ((if is_unblocking secret then 4 else 2) + 1)) ≡ kept secret (pin_at m (owner secret))
kept_at m secret = kept-at (is_unblocking secret) m (owner secret)

-- the mark stays where a count of tries is set
tries-mark : (unblocking : Bool) (m : List ℕ) (pin n : ℕ)
    → pin_word (slice_set m (address (pin_page pin) (if unblocking then 1 else 0)) n) pin PIN_MARK_WORD
    ≡ pin_word m pin PIN_MARK_WORD
tries-mark true m pin n = run-beside m (n ∷ []) pin 1 PIN_MARK_WORD (inr (lit< tt))
tries-mark false m pin n = run-beside m (n ∷ []) pin 0 PIN_MARK_WORD (inr (lit< tt))

-- a count of tries lies within the words of the PIN
tries-fits : (unblocking : Bool) (n : ℕ) → (if unblocking then 1 else 0) + length (n ∷ []) ≤ PIN_WORDS
tries-fits true n = lit< tt
tries-fits false n = lit< tt

-- the tries of a secret are set
pub sets_tries : (m : List ℕ) (secret n : ℕ) → IsMemory m
    → SetsPin m (owner secret) (with_tries secret n (pin_at m (owner secret)))
    (slice_set m (address (pin_page (owner secret)) (if is_unblocking secret then 1 else 0)) n)
sets_tries m secret n sized =
    let small : owner secret < PINS = omega arith in
    let place : ℕ = if is_unblocking secret then 1 else 0 in
    record {
      size = length-set m (address (pin_page (owner secret)) place) n;
      elsewhere = λ k apart. run-apart m (n ∷ []) (owner secret) place k (tries-fits (is_unblocking secret) n) apart;
      becomes = tries-set (is_unblocking secret) m (owner secret) n sized small;
      mark = mark-stays m (slice_set m (address (pin_page (owner secret)) place) n) (owner secret)
          (tries-mark (is_unblocking secret) m (owner secret) n);
    }

-- the tries of a PIN are all there again
pub sets_verified : (m : List ℕ) (pin : ℕ) → IsMemory m → pin < PINS
    → SetsPin m pin (verified_pin (pin_at m pin)) (slice_set m (address (pin_page pin) 0) TRIES)
sets_verified m pin sized small = record {
  size = length-set m (address (pin_page pin) 0) TRIES;
  elsewhere = λ k apart. run-apart m (TRIES ∷ []) pin 0 k (lit< tt) apart;
  becomes = tries-set false m pin TRIES sized small;
  mark = mark-stays m (slice_set m (address (pin_page pin) 0) TRIES) pin (tries-mark false m pin TRIES);
}

-- tries and value are set, one after the other
pub sets_value : (m new : List ℕ) (pin first second : ℕ) → IsMemory m → pin < PINS
    → bytes_of_words first second ≡ new
    → SetsPin m pin (changed_pin new (pin_at m pin))
    (written (slice_set m (address (pin_page pin) 0) TRIES) (address (pin_page pin) 2) (first ∷ second ∷ []))
unfolding pin_at
sets_value m new pin first second sized small bytes =
    let run : List ℕ = TRIES ∷ [] in
    let value : List ℕ = first ∷ second ∷ [] in
    let between : List ℕ = slice_set m (address (pin_page pin) 0) TRIES in
    let size : length between ≡ length m = length-set m (address (pin_page pin) 0) TRIES in
    let tries = run-beside between value pin 2 0 (inl (lit< tt))
    ∙ run-within m run pin 0 0 sized small (lit< tt) (lit< tt) in
    let unblocking_tries = run-beside between value pin 2 1 (inl (lit< tt))
    ∙ run-beside m run pin 0 1 (inr (lit< tt)) in
    let first_is = run-within between value pin 2 0 (memory_same m between size sized) small (lit< tt) (lit< tt) in
    let second_is = run-within between value pin 2 1 (memory_same m between size sized) small (lit< tt) (lit< tt) in
    let third = run-beside between value pin 2 4 (inr (lit< tt)) ∙ run-beside m run pin 0 4 (inr (lit< tt)) in
    let fourth = run-beside between value pin 2 5 (inr (lit< tt)) ∙ run-beside m run pin 0 5 (inr (lit< tt)) in
    let mark = run-beside between value pin 2 PIN_MARK_WORD (inr (lit< tt))
    ∙ run-beside m run pin 0 PIN_MARK_WORD (inr (lit< tt)) in
    let value_is = (λ i. bytes_of_words (first_is i) (second_is i)) ∙ bytes in
    record {
      size = length-written between value (address (pin_page pin) 2) ∙ size;
      elsewhere = λ k apart. run-apart between value pin 2 k (lit< tt) apart ∙ run-apart m run pin 0 k (lit< tt) apart;
      becomes = λ i. record {
        value = value_is i;
        tries = tries i;
        unblocking = bytes_of_words (third i) (fourth i);
        unblocking_tries = unblocking_tries i;
        enabled = mark i == 1;
      };
      mark = mark-stays m (written between (address (pin_page pin) 2) value) pin mark;
    }

-- tries and mark are set, one after the other
pub sets_mark : (m : List ℕ) (enabled : Bool) (pin : ℕ) → IsMemory m → pin < PINS
    → SetsPin m pin (marked_pin enabled (pin_at m pin))
    (written (slice_set m (address (pin_page pin) 0) TRIES) (address (pin_page pin) PIN_MARK_WORD)
    ((if enabled then 1 else 0) ∷ []))
unfolding pin_at
sets_mark m enabled pin sized small =
    let run : List ℕ = TRIES ∷ [] in
    let word : ℕ = if enabled then 1 else 0 in
    let marks : List ℕ = word ∷ [] in
    let between : List ℕ = slice_set m (address (pin_page pin) 0) TRIES in
    let size : length between ≡ length m = length-set m (address (pin_page pin) 0) TRIES in
    let still : IsMemory between = memory_same m between size sized in
    let before = λ (place : ℕ) (below : place < PIN_MARK_WORD). run-beside between marks pin
    PIN_MARK_WORD place (inl below) in
    let tries = before 0 (lit< tt) ∙ run-within m run pin 0 0 sized small (lit< tt) (lit< tt) in
    let unblocking_tries = before 1 (lit< tt) ∙ run-beside m run pin 0 1 (inr (lit< tt)) in
    let first = before 2 (lit< tt) ∙ run-beside m run pin 0 2 (inr (lit< tt)) in
    let second = before 3 (lit< tt) ∙ run-beside m run pin 0 3 (inr (lit< tt)) in
    let third = before 4 (lit< tt) ∙ run-beside m run pin 0 4 (inr (lit< tt)) in
    let fourth = before 5 (lit< tt) ∙ run-beside m run pin 0 5 (inr (lit< tt)) in
    let mark = run-within between marks pin PIN_MARK_WORD 0 still small (lit< tt) (lit< tt) in
    let enabled_is = ap (λ (w : ℕ). w == 1) mark ∙ mark-tells enabled in
    record {
      size = length-written between marks (address (pin_page pin) PIN_MARK_WORD) ∙ size;
      elsewhere = λ k apart. run-apart between marks pin PIN_MARK_WORD k (lit< tt) apart
          ∙ run-apart m run pin 0 k (lit< tt) apart;
      becomes = λ i. record {
        value = bytes_of_words (first i) (second i);
        tries = tries i;
        unblocking = bytes_of_words (third i) (fourth i);
        unblocking_tries = unblocking_tries i;
        enabled = enabled_is i;
      };
      mark = λ _. subst (λ (w : ℕ). w ≤ 1) (sym mark) (mark-small enabled);
    }
  where
    mark-tells : (enabled : Bool) → ((if enabled then 1 else 0) == 1) ≡ enabled
    mark-tells true = refl
    mark-tells false = refl

    mark-small : (enabled : Bool) → (if enabled then 1 else 0) ≤ 1
    mark-small true = omega arith
    mark-small false = omega arith

-- both counts of tries and the value are set
pub sets_all : (m new : List ℕ) (pin first second : ℕ) → IsMemory m → pin < PINS
    → bytes_of_words first second ≡ new
    → SetsPin m pin (reset_pin new (pin_at m pin))
    (written m (address (pin_page pin) 0) (TRIES ∷ UNBLOCKING_TRIES ∷ first ∷ second ∷ []))
unfolding pin_at
sets_all m new pin first second sized small bytes =
    let run : List ℕ = TRIES ∷ UNBLOCKING_TRIES ∷ first ∷ second ∷ [] in
    let tries = run-within m run pin 0 0 sized small (lit< tt) (lit< tt) in
    let unblocking_tries = run-within m run pin 0 1 sized small (lit< tt) (lit< tt) in
    let first_is = run-within m run pin 0 2 sized small (lit< tt) (lit< tt) in
    let second_is = run-within m run pin 0 3 sized small (lit< tt) (lit< tt) in
    let third = run-beside m run pin 0 4 (inr (lit< tt)) in
    let fourth = run-beside m run pin 0 5 (inr (lit< tt)) in
    let mark = run-beside m run pin 0 PIN_MARK_WORD (inr (lit< tt)) in
    let value_is = (λ i. bytes_of_words (first_is i) (second_is i)) ∙ bytes in
    record {
      size = length-written m run (address (pin_page pin) 0);
      elsewhere = λ k apart. run-apart m run pin 0 k (lit< tt) apart;
      becomes = λ i. record {
        value = value_is i;
        tries = tries i;
        unblocking = bytes_of_words (third i) (fourth i);
        unblocking_tries = unblocking_tries i;
        enabled = mark i == 1;
      };
      mark = mark-stays m (written m (address (pin_page pin) 0) run) pin mark;
    }

-- a page as it may be, and its PIN
pub few_tries : (m : List ℕ) (pin : ℕ) → IsPinPage m pin → HasFewTries (pin_at m pin)
unfolding pin_at
few_tries m pin page = record { tries = page.tries; unblocking_tries = page.unblocking_tries }

pub page_of_few : (m : List ℕ) (pin : ℕ) → HasFewTries (pin_at m pin) → IsPinPage m pin
unfolding pin_at
page_of_few m pin few = record { tries = few.tries; unblocking_tries = few.unblocking_tries }
