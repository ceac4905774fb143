-- What the calls of a charge, and of an end, leave together: reads, a comparison, and then writes that set the PIN.
use Rattle.std.specs.Prelude.{◌-◌, if◌then◌else◌, Bool, true, false, Option, Some, Result, Ok, Err, IsErrAnd}
use Rattle.std.proofs.Common.{◌≡◌, ◌⊎◌, ◌<◌, ◌↔◌, ◌+◌, ℕ, List, refl, sym, ◌∙◌, ap, subst, inl, inr, true≢false, arith}
use Rattle.std.proofs.Math.Logic.{⊎_map}
use Rattle.nvm_board.specs.Aims.{AimStays}
use Rattle.nvm_board.specs.BoardCalls.{CountsMatch}
use Rattle.nvm_board.specs.Facts.{Facts, RisesAt, raised}
use Rattle.nvm_board.specs.laws.Aims.{aims_kept, aims_stay, aims_then}
use Rattle.undo_journal.specs.declared.error.StoreErr.{StoreErr}
use Rattle.undo_journal.specs.StoreCalls.{Changes, Leaves, OnlyReads, UnlessFailed}
use Rattle.undo_journal.specs.Memory.{Memory, IsIdle, IsReady, KeepsWords, Reports, committed}
use Rattle.undo_journal.specs.Commits.{CommitsLast}
use Rattle.undo_journal.specs.laws.LastWrites.{last_then}
use Rattle.undo_journal.specs.laws.Memory.{reports_then}
use Rattle.undo_journal.specs.Spending.{WritesAtMost}
use Rattle.undo_journal.specs.Undo.{gate}
use Rattle.card_model.specs.Secrets.{Pin, kept, owner, tries_left, with_tries}
use Rattle.pin_store.specs.Pages.{pin_at, ArePinPages, SetsPin}
use Rattle.pin_store.specs.Trials.{pin_in, store_failure, Charges, Compared, ComparesOnce, EndsByOutcome}
use Rattle.pin_store.specs.Trials.{IsMatch, IsWrong, SetsByMatch, trial_end_writes}
use Rattle.pin_store.specs.declared.errors.PinErr.{PinErr}
use Rattle.pin_store.specs.declared.errors.PinErr.TheVariants as pin_err
use Rattle.pin_store.specs.declared.errors.Outcome.{Outcome}
use Rattle.pin_store.specs.declared.errors.Outcome.TheVariants.{Matched, Wrong}

-- where what is committed stays, the pages of PINs do
pub pages_stay : (m after : List ℕ) → after ≡ m → ArePinPages m → ArePinPages after
pages_stay m after same pages = subst (λ (l : List ℕ). ArePinPages l) (sym same) pages

-- reads leave the gate
pub gate_kept : (a b : Memory) → OnlyReads a b → gate a.facts.words ≡ 0 → gate b.facts.words ≡ 0
gate_kept a b reads shut = ap gate reads.board.words ∙ shut

-- a failure of the store, handed on as the reason why no try is charged, is told
pub charge_handed : {T : Type 0} (n : ℕ) (a b : Memory) (r : Result T PinErr) (e : StoreErr)
    → IsErrAnd r (λ f. f ≡ pin_err.Store e) → Changes n a b (Some e) → Changes n a b (store_failure r)
charge_handed n a b (Ok v) e is changes = absurd is
charge_handed {T} n a b (Err f) e is changes =
    let refused : PinErr → Result T PinErr = λ f. Err f in
    subst (λ (f : PinErr). Changes n a b (store_failure (refused f))) (sym is) changes

-- a comparison after reads ends with no transaction
pub compare_ends : (a b c : Memory) (told : Option StoreErr) → IsIdle a → OnlyReads a b → KeepsWords b c → Reports b c
    → UnlessFailed told (IsReady c) → c.failed ≡ told → Leaves a c told
compare_ends a b c told idle reads keeps reports ready tells = record {
  reports = reports_then a b c reads.reports reports;
  idle = keeps.taken ∙ reads.keeps.taken ∙ idle;
  ready = ready;
  tells = tells;
}

-- the tries were read, there was one, and one fewer was set
pub charges : (secret left : ℕ) (a b c : Memory) → OnlyReads a b → left ≡ tries_left secret (pin_in a secret) → 0 < left
    → SetsPin (committed b) (owner secret) (with_tries secret (left - 1) (pin_in b secret)) (committed c)
    → Charges secret a c
charges secret left a b c reads told some sets =
    let by_left : ℕ → Type 0 = λ n. SetsPin (committed b) (owner secret) (with_tries secret (n - 1) (pin_in b secret))
    (committed c) in
    let by_words : List ℕ → Type 0 = λ m. SetsPin m (owner secret)
    (with_tries secret (tries_left secret (pin_in a secret) - 1) (pin_at m (owner secret))) (committed c) in
    record {
      left = subst (λ (n : ℕ). 0 < n) told some;
      charged = subst by_words reads.keeps.committed_words (subst by_left told sets);
    }

-- or nothing was
pub charges_or_not : (secret left : ℕ) (a b c : Memory) → OnlyReads a b → left ≡ tries_left secret (pin_in a secret)
    → 0 < left
    → (committed c ≡ committed b)
    ⊎ SetsPin (committed b) (owner secret) (with_tries secret (left - 1) (pin_in b secret)) (committed c)
    → (committed c ≡ committed a) ⊎ Charges secret a c
charges_or_not secret left a b c reads told some either =
    ⊎_map (λ stays. stays ∙ reads.keeps.committed_words) (λ sets. charges secret left a b c reads told some sets) either

-- reads, and no comparison
pub compares_none : (secret : ℕ) (shown : List ℕ) (a b : Memory) → OnlyReads a b → ComparesOnce 0 secret shown a b
compares_none secret shown a b reads = record {
  writes = omega (arith, reads.board.writes);
  more = omega (arith, reads.board.writes);
  cut = aims_kept a.facts b.facts reads.board.words reads.board.cut;
  compares = inl reads.board.compares;
  matches = inl reads.board.matches;
}

-- what was read is what was shown
pub is_match : (secret named : ℕ) (shown bytes : List ℕ) (a b c : Memory) → named ≡ secret → OnlyReads a b
    → bytes ≡ kept named (pin_in a named) → bytes ≡ shown → c.facts.compares ≡ raised b.facts.compares named
    → c.facts.matches ≡ raised b.facts.matches named → IsMatch secret shown a c
is_match secret named shown bytes a b c is reads read same compared matched =
    let family : ℕ → Type 0 = λ s. IsMatch s shown a c in
    subst family is (record {
      right = sym read ∙ same;
      compared = compared ∙ ap (λ (l : List ℕ). raised l named) reads.board.compares;
      matched = matched ∙ ap (λ (l : List ℕ). raised l named) reads.board.matches;
    })

-- a match is counted by what was shown, under whichever name
pub counts_match : (right : Bool) (secret named : ℕ) (shown bytes : List ℕ) (a b c : Memory) → named ≡ secret
    → OnlyReads a b → bytes ≡ kept named (pin_in a named) → (right ≡ true ↔ (bytes ≡ shown))
    → c.facts.compares ≡ raised b.facts.compares named
    → c.facts.matches ≡ (if right then raised b.facts.matches named else b.facts.matches)
    → (c.facts.matches ≡ b.facts.matches) ⊎ IsMatch secret shown a c
counts_match true secret named shown bytes a b c is reads read equal compared matched =
    inr (is_match secret named shown bytes a b c is reads read (equal.0 refl) compared matched)
counts_match false secret named shown bytes a b c is reads read equal compared matched = inl matched

-- so it is where the comparison stopped
pub stops_match : (secret named : ℕ) (shown bytes : List ℕ) (a b c : Memory) → named ≡ secret → OnlyReads a b
    → bytes ≡ kept named (pin_in a named)
    → (c.facts.matches ≡ b.facts.matches) ⊎ CountsMatch named bytes shown b.facts c.facts
    → (c.facts.matches ≡ b.facts.matches) ⊎ IsMatch secret shown a c
stops_match secret named shown bytes a b c is reads read either =
    ⊎_map (λ same. same)
    (λ counted. is_match secret named shown bytes a b c is reads read counted.0 counted.1 counted.2) either

-- a comparison after reads
pub compares_after : (secret named : ℕ) (shown : List ℕ) (a b c : Memory) → named ≡ secret → OnlyReads a b
    → c.facts.words ≡ b.facts.words → c.facts.writes ≡ b.facts.writes → AimStays b.facts c.facts
    → RisesAt b.facts.compares named c.facts.compares
    → (c.facts.matches ≡ b.facts.matches) ⊎ IsMatch secret shown a c → ComparesOnce 0 secret shown a c
compares_after secret named shown a b c is reads words writes cut compared matched = record {
  writes = omega (arith, writes, reads.board.writes);
  more = omega (arith, writes, reads.board.writes);
  cut = aims_kept a.facts c.facts (words ∙ reads.board.words) (aims_stay a.facts b.facts c.facts reads.board.cut cut);
  compares = subst (λ (s : ℕ). RisesAt a.facts.compares s c.facts.compares) is
      (subst (λ (l : List ℕ). RisesAt l named c.facts.compares) reads.board.compares compared);
  matches = ⊎_map (λ same. same ∙ reads.board.matches) (λ match. match) matched;
}

-- or it isn't
pub is_wrong : (secret named left : ℕ) (shown bytes : List ℕ) (a b c : Memory) → named ≡ secret → OnlyReads a b
    → bytes ≡ kept named (pin_in a named) → ¬ (bytes ≡ shown) → left ≡ tries_left named (pin_in a named)
    → c.facts.compares ≡ raised b.facts.compares named → c.facts.matches ≡ b.facts.matches
    → c.facts.writes ≡ b.facts.writes → committed c ≡ committed b → IsWrong secret shown left a c
is_wrong secret named left shown bytes a b c is reads read differs told compared matched writes same =
    let family : ℕ → Type 0 = λ s. IsWrong s shown left a c in
    subst family is (record {
      wrong = λ right. differs (read ∙ right);
      left = told;
      compared = compared ∙ ap (λ (l : List ℕ). raised l named) reads.board.compares;
      matched = matched ∙ reads.board.matches;
      writes = writes ∙ reads.board.writes;
      same = same ∙ reads.keeps.committed_words;
    })

-- what was read is what was shown, or it isn't
pub compared_by : (right : Bool) (secret named left : ℕ) (shown bytes : List ℕ) (a b c : Memory)
    → named ≡ secret → OnlyReads a b → bytes ≡ kept named (pin_in a named) → (right ≡ true ↔ (bytes ≡ shown))
    → left ≡ tries_left named (pin_in a named)
    → c.facts.compares ≡ raised b.facts.compares named
    → c.facts.matches ≡ (if right then raised b.facts.matches named else b.facts.matches)
    → c.facts.writes ≡ b.facts.writes → committed c ≡ committed b
    → Compared secret shown a c (if right then Matched else Wrong left)
compared_by true secret named left shown bytes a b c is reads read equal told counted matched writes same =
    is_match secret named shown bytes a b c is reads read (equal.0 refl) counted matched
compared_by false secret named left shown bytes a b c is reads read equal told counted matched writes same =
    is_wrong secret named left shown bytes a b c is reads read (λ right. true≢false (sym (equal.1 right))) told counted
    matched writes same

-- a match is one for those before the writes that follow it
pub match_then : (n secret : ℕ) (shown : List ℕ) (a b c : Memory) → IsMatch secret shown a b
    → WritesAtMost n b.facts c.facts → IsMatch secret shown a c
match_then n secret shown a b c match rest = record {
  right = match.right;
  compared = rest.compares ∙ match.compared;
  matched = rest.matches ∙ match.matched;
}

-- writes after a comparison
pub compares_then : (n secret : ℕ) (shown : List ℕ) (a b c : Memory) → ComparesOnce 0 secret shown a b
    → WritesAtMost n b.facts c.facts → ComparesOnce n secret shown a c
compares_then n secret shown a b c first rest = record {
  writes = omega (arith, first.writes, rest.writes);
  more = omega (arith, first.more, rest.more);
  cut = aims_then a.facts b.facts c.facts first.cut rest.cut;
  compares = ⊎_map (λ stay. rest.compares ∙ stay) (λ rise. rest.compares ∙ rise) first.compares;
  matches = ⊎_map (λ stay. rest.matches ∙ stay) (λ match. match_then n secret shown a b c match rest) first.matches;
}

-- a comparison without writes is one with at most so many
pub compares_more : (n secret : ℕ) (shown : List ℕ) (a b : Memory) → ComparesOnce 0 secret shown a b
    → ComparesOnce n secret shown a b
compares_more n secret shown a b once = record {
  writes = omega (arith, once.writes);
  more = once.more;
  cut = once.cut;
  compares = once.compares;
  matches = once.matches;
}

-- after a match a PIN is set, that of the secret under whichever name
pub matched_sets : (n secret named : ℕ) (shown : List ℕ) (change : Pin → Pin) (a b c : Memory) → named ≡ secret
    → IsMatch secret shown a b → committed b ≡ committed a → WritesAtMost n b.facts c.facts
    → SetsPin (committed b) (owner named) (change (pin_in b named)) (committed c)
    → SetsByMatch secret shown (change (pin_in a secret)) a c
matched_sets n secret named shown change a b c is matched same rest sets =
    let by_name : ℕ → Type 0 = λ s. SetsPin (committed b) (owner s) (change (pin_at (committed b) (owner s)))
    (committed c) in
    let by_words : List ℕ → Type 0 = λ m. SetsPin m (owner secret) (change (pin_at m (owner secret))) (committed c) in
    record {
      match_counted = match_then n secret shown a b c matched rest;
      sets = subst by_words same (subst by_name is sets);
    }

-- or it stays
pub matched_sets_or_not : (n secret named : ℕ) (shown : List ℕ) (change : Pin → Pin) (a b c : Memory) → named ≡ secret
    → IsMatch secret shown a b → committed b ≡ committed a → WritesAtMost n b.facts c.facts
    → (committed c ≡ committed b) ⊎ SetsPin (committed b) (owner named) (change (pin_in b named)) (committed c)
    → (committed c ≡ committed a) ⊎ SetsByMatch secret shown (change (pin_in a secret)) a c
matched_sets_or_not n secret named shown change a b c is matched same rest either =
    ⊎_map (λ stays. stays ∙ same) (λ sets. matched_sets n secret named shown change a b c is matched same rest sets)
    either

-- what a comparison leaves where it tells of a match
pub match_told : (secret : ℕ) (shown : List ℕ) (a b : Memory) (told : Outcome) → told ≡ Matched
    → Compared secret shown a b told → IsMatch secret shown a b
match_told secret shown a b told is compared = subst (λ (o : Outcome). Compared secret shown a b o) is compared

-- what an end leaves where it tells of a match
pub end_told : (secret : ℕ) (shown : List ℕ) (now : Pin) (a c : Memory) (told : Outcome) → told ≡ Matched
    → SetsByMatch secret shown now a c → EndsByOutcome secret shown now a c told
end_told secret shown now a c told is sets =
    subst (λ (o : Outcome). EndsByOutcome secret shown now a c o) (sym is) sets

-- a mismatch writes nothing, and sets nothing
pub wrong_ends : (secret : ℕ) (shown : List ℕ) (now : Pin) (a b : Memory) (told : Outcome) → (told ≡ Matched → ⊥)
    → Compared secret shown a b told → EndsByOutcome secret shown now a b told
wrong_ends secret shown now a b Matched not compared = absurd (not refl)
wrong_ends secret shown now a b (Wrong left) not compared = compared

-- and makes no device write
pub wrong_counts : (n : ℕ) (told : Outcome) (a b : ℕ) → (told ≡ Matched → ⊥) → b ≡ a → b ≡ a + trial_end_writes n told
wrong_counts n Matched a b not same = absurd (not refl)
wrong_counts n (Wrong left) a b not same = omega (arith, same)

-- after a match the PIN is set
pub match_counts : (n : ℕ) (told : Outcome) (a b c : ℕ) → told ≡ Matched → b ≡ a → c ≡ b + n
    → c ≡ a + trial_end_writes n told
match_counts n Matched a b c is same made = omega (arith, same, made)
match_counts n (Wrong left) a b c is same made = absurd (cc)

-- a comparison, and then writes of which only the last one sets the PIN
pub compares_between : (a b : Memory) (c : Facts) (told : Option StoreErr) → Leaves a b told
    → committed b ≡ committed a → CommitsLast a.facts b.facts → CommitsLast b.facts c → CommitsLast a.facts c
compares_between a b c told leaves same first rest =
    last_then a.facts b.facts c first (record { sound = leaves.reports.sound; words = same }) rest
