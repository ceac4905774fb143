-- Laws of how far a move has come, by what the flash holds.
use Rattle.std.specs.Prelude.{◌≡◌, ◌≢◌, ◌⊎◌, ◌<◌, ◌≤◌, ◌+◌, ◌-◌, ◌*◌, ℕ, Bool, true, false, List, slice_index}
use Rattle.std.specs.Prelude.{nat_eq, if◌then◌else◌}
use Rattle.std.proofs.Common.{refl, sym, ◌∙◌, ap, inl, inr, ⊎_elim, subst, arith, true≢false}
use Rattle.std.proofs.lemmas.Bool.{cases_eq, cases_lt, ne_eqb}
use Rattle.nvm_board.specs.declared.board.TheConstants.{LEAST_PAGES}
use Rattle.flash_device.specs.declared.flash.TheConstants.{BLANK}
use Rattle.flash_device.specs.declared.layout.TheConstants.{STEP_PAGES}
use Rattle.flash_device.specs.FlashBlocks.{area_size, steps_of, witness_start}
use Rattle.flash_device.specs.FlashCalls.{AreFilled}
use Rattle.flash_device.specs.FlashLogs.{base_in, find, is_closed, page_word, turn_of, words_of}
use Rattle.flash_device.specs.PageTables.{AreFree, IsFirstFreeSlot, IsPageTable}
use Rattle.flash_device.specs.laws.Rising.{rises_to}
use Rattle.flash_area.specs.ProgressParts.{AllButOne, HasNoCopies, IsBestCopies, IsBlankCount, IsCopyCount}
use Rattle.flash_area.specs.ProgressParts.{IsFirstUsed, IsPagesEnd, IsSameCount}
use Rattle.flash_area.specs.Spares.{FindsFurthest, HasCopies, IsFurthest, IsSpare, KeepsSteps, MoveBeginsAnew}
use Rattle.flash_area.specs.Spares.{copies_most, spare_in, spare_sector}
use Rattle.flash_area.specs.laws.Erased.{copies_none}
use Rattle.flash_area.specs.laws.Sectors.{spare_end, spare_first}
use Rattle.flash_area.specs.laws.Words.{index-page}

-- a word that is not blank
pub used_here : (m : List ℕ) (from end at : ℕ) → from ≤ at → at < end → AreFilled m from (at - from) BLANK
    → slice_index m at ≢ BLANK → IsFirstUsed m from end at
used_here m from end at least below was used = record {
  least = least;
  within = omega (arith, below);
  blank = was;
  all = λ k le blank. ⊎_elim
      (λ (past : at < k).
      let here : from + (at - from) ≡ at = omega (arith, least) in
      absurd (used (ap (λ (j : ℕ). slice_index m j) (sym here) ∙ blank.each (at - from) (omega (arith, past, least)))))
      (λ (most : k ≤ at). most)
      (cases_lt at k);
}

module _ (start : ℕ → ℕ) (rise : (s : ℕ) → start s ≤ start (s + 1)) where
  -- no more sectors end before an address than up to the first that doesn't
  pub sectors_most : (first n end : ℕ) → end < start (first + n + 1) → (j : ℕ) → start (first + j) ≤ end → j ≤ n
  sectors_most first n end past j within = ⊎_elim
      (λ (more : n < j).
      let up = rises_to start rise (first + n + 1) (first + j) (omega (arith, more)) in
      absurd (omega (arith, up, past, within)))
      (λ (most : j ≤ n). most)
      (cases_lt n j)

-- Steps are counted by the pages that read the same.
module _ (pages slots : ℕ) (m : List ℕ) (from to : ℕ) where
  -- all pages read the same
  pub all_counted : (n copied : ℕ) → pages ≡ STEP_PAGES * steps_of pages → IsSameCount pages slots m from to 0 n
      → n ≡ pages → copied < steps_of pages → STEP_PAGES * copied ≤ n
      → ((c : ℕ) → c < steps_of pages → STEP_PAGES * c ≤ n → c ≤ copied) → IsCopyCount pages slots m from to copied 0
  all_counted n copied whole count is most within all = record {
    most = most;
    few = omega arith;
    same = λ p lt other. count.same p (omega arith) (omega (arith, lt, within));
    all = λ c o lt but. all c lt (omega (arith, lt, is, whole));
    same_older = λ c o more but. inl refl;
  }

  -- one page differs, and then the next
  pub one_counted : (first n copied older : ℕ) → pages ≡ STEP_PAGES * steps_of pages
      → IsSameCount pages slots m from to 0 first → IsSameCount pages slots m from to (first + 1) n
      → first < pages → copied < steps_of pages → STEP_PAGES * copied ≤ n
      → ((c : ℕ) → c < steps_of pages → STEP_PAGES * c ≤ n → c ≤ copied)
      → (first < STEP_PAGES * copied → older ≡ first + 1) → (STEP_PAGES * copied ≤ first → older ≡ 0)
      → IsCopyCount pages slots m from to copied older
  one_counted first n copied older whole before after differs most within all one none = record {
    most = most;
    few = ⊎_elim
        (λ (lt : first < STEP_PAGES * copied). let is = one lt in omega (arith, is, lt))
        (λ (ge : STEP_PAGES * copied ≤ first). let is = none ge in omega (arith, is))
        (cases_lt first (STEP_PAGES * copied));
    same = λ p lt other. ⊎_elim
        (λ (early : p < first). before.same p (omega arith) early)
        (λ (late : first ≤ p).
        let is = one (omega (arith, late, lt)) in
        let past : first + 1 ≤ p = ⊎_elim
        (λ (e : p ≡ first). absurd (other (omega (arith, e, is))))
        (λ (n : p ≢ first). omega (arith, n, late))
        (cases_eq p first) in
        after.same p past (omega (arith, lt, within)))
        (cases_lt p first);
    all = λ c o lt but. all c lt (⊎_elim
        (λ (more : n < STEP_PAGES * c).
        let least = after.least in
        let below : n < pages = omega (arith, more, lt, whole) in
        let x : first + 1 ≢ o → ⊥ = λ (other : first + 1 ≢ o).
        before.differs differs (but first (omega (arith, more, least)) other) in
        let y : n + 1 ≢ o → ⊥ = λ (other : n + 1 ≢ o). after.differs below (but n more other) in
        ⊎_elim
        (λ (e : first + 1 ≡ o). absurd (y (λ f. absurd (omega (arith, e, f, least)))))
        (λ (n : first + 1 ≢ o). absurd (x n))
        (cases_eq (first + 1) o))
        (λ (fits : STEP_PAGES * c ≤ n). fits)
        (cases_lt n (STEP_PAGES * c)));
    same_older = λ c o more but. ⊎_elim
        (λ (lt : first < STEP_PAGES * copied). ⊎_elim
        (λ (e : first + 1 ≡ o). inr (one lt ∙ e))
        (λ (other : first + 1 ≢ o). absurd (before.differs differs (but first (omega (arith, lt, more)) other)))
        (cases_eq (first + 1) o))
        (λ (ge : STEP_PAGES * copied ≤ first). inl (none ge))
        (cases_lt first (STEP_PAGES * copied));
  }

module _ (pages slots sectors : ℕ) (start : ℕ → ℕ) (m : List ℕ) (turn : ℕ) where
  module _ (is : turn ≡ turn_of slots m) where
    -- a word of the board is one of a page in the area in use
    word_is : (p k : ℕ) → p < pages → k < 16
        → slice_index (words_of pages slots m) (16 * p + k) ≡ page_word m (base_in slots turn) slots p k
    word_is p k below lt = index-page pages slots m p k below lt
        ∙ ap (λ (t : ℕ). page_word m (base_in slots t) slots p k) (sym is)

    -- pages that read the same are copies
    pub copies_are : (copied behind older : ℕ)
        → IsCopyCount pages slots m (base_in slots turn) (spare_in slots turn) copied older
        → is_closed m (spare_in slots turn + 20 * slots) ≡ false → AreFree m (spare_in slots turn) behind slots
        → ((p : ℕ) → STEP_PAGES * copied ≤ p → p < pages → find m (base_in slots turn) slots p ≡ 0
        → find m (spare_in slots turn) slots p ≡ 0)
        → HasCopies pages slots m (words_of pages slots m) (base_in slots turn) (spare_in slots turn)
        (STEP_PAGES * copied) behind older
    copies_are copied behind older count opened free left = record {
      opened = opened;
      free = free;
      each = λ p k lt below other few. (count.same p lt other).each k few ∙ sym (word_is p k below few);
      left = left;
    }

    module _ (whole : pages ≡ STEP_PAGES * steps_of pages) (copied older end behind : ℕ) (table other : List ℕ)
        (count : IsCopyCount pages slots m (base_in slots turn) (spare_in slots turn) copied older)
        (home : IsPageTable pages m (base_in slots turn) slots table)
        (index : IsPageTable pages m (spare_in slots turn) slots other) (ends : IsPagesEnd pages table other end)
        (first : IsFirstFreeSlot m (spare_in slots turn) behind slots) where
      -- the copies of a progress read the same
      read_same : (c b o : ℕ) → IsSpare pages slots sectors start m (words_of pages slots m) turn sectors c b o
          → AllButOne slots m (base_in slots turn) (spare_in slots turn) c o
      read_same c b o spare = λ p lt but.
          let most = spare.most in
          let below : p < pages = omega (arith, lt, most, whole) in
          record { each = λ k few. (spare.copies refl).each p k lt below but few ∙ word_is p k below few }

      -- no more steps have copied than there are pages that read the same
      most_copied : (c b o : ℕ) → IsSpare pages slots sectors start m (words_of pages slots m) turn sectors c b o
          → c ≤ copied
      most_copied c b o spare = count.all c o spare.most (read_same c b o spare)

      pub found_best : (extra : ℕ) → turn ≢ 1 → is_closed m (spare_in slots turn + 20 * slots) ≡ false
          → end ≤ STEP_PAGES * copied → AreFree m (spare_in slots turn) behind slots
          → behind ≤ copies_most copied extra
          → IsBestCopies pages slots sectors start m turn extra copied behind older
      found_best extra moves opened ended free few = record {
        spare = record {
          within = omega arith;
          most = count.most;
          idle = λ e. absurd (moves e);
          fresh = λ lt. absurd (omega (arith, lt));
          blank = λ lt. absurd (omega (arith, lt));
          few = count.few;
          copies = λ e. copies_are copied behind older count opened free
              (λ p from below none. sym (index.each p below)
              ∙ ends.none p (omega (arith, from, ended)) below (home.each p below ∙ none));
        };
        few = few;
        best = λ c b o spare. (most_copied c b o spare, first.first b (spare.copies refl).free);
        same_older = λ c b o spare more. count.same_older c o more (read_same c b o spare);
      }

      pub found_none : (extra : ℕ) → (is_closed m (spare_in slots turn + 20 * slots) ≡ true)
          ⊎ ((STEP_PAGES * copied < end) ⊎ (copies_most copied extra < behind))
          → HasNoCopies pages slots sectors start m turn extra
      found_none extra why c b o spare slim =
          let has = spare.copies refl in
          let most = most_copied c b o spare in
          ⊎_elim
          (λ (closed : is_closed m (spare_in slots turn + 20 * slots) ≡ true). true≢false (sym closed ∙ has.opened))
          (λ (w : (STEP_PAGES * copied < end) ⊎ (copies_most copied extra < behind)). ⊎_elim
          (λ (later : STEP_PAGES * copied < end).
          let early = ends.all (STEP_PAGES * c) (λ p from below none. index.each p below
          ∙ has.left p from below (sym (home.each p below) ∙ none)) in
          omega (arith, later, early, most))
          (λ (more : copies_most copied extra < behind).
          let early = first.first b has.free in
          omega (arith, more, early, slim, most))
          w)
          why

  module _ (least : LEAST_PAGES ≤ pages) (first : start 0 ≡ 0) (second : start sectors ≡ area_size slots)
      (third : start (2 * sectors) ≡ witness_start slots) where
    begins : start (spare_sector sectors turn) ≡ spare_in slots turn
    begins = spare_first start slots sectors first second third turn

    -- the sectors that are blank are erased
    pub blank_spare : turn ≢ 1 → (n : ℕ) → IsBlankCount sectors start m (spare_sector sectors turn) n
        → IsSpare pages slots sectors start m (words_of pages slots m) turn n 0 0 0
    blank_spare moves n count =
        let end = start (spare_sector sectors turn + n) in
        let blank : AreFilled m (spare_in slots turn) (end - spare_in slots turn) BLANK =
        subst (λ (b : ℕ). AreFilled m b (end - b) BLANK) begins count.blank in
        record {
          within = count.within;
          most = omega (arith, least);
          idle = λ e. absurd (moves e);
          fresh = λ lt. (refl, refl);
          blank = λ lt. blank;
          few = omega arith;
          copies = λ e.
              let ends = spare_end start slots sectors first second third turn in
              let all : start (spare_sector sectors turn + n) ≡ start (spare_sector sectors turn + sectors) =
              ap (λ (k : ℕ). start (spare_sector sectors turn + k)) e in
              let size : start (spare_sector sectors turn + n) - spare_in slots turn ≡ area_size slots =
              omega (arith, all, ends) in
              copies_none pages slots m (words_of pages slots m) (base_in slots turn) (spare_in slots turn)
              (subst (λ (k : ℕ). AreFilled m (spare_in slots turn) k BLANK) size blank);
        }

    -- a progress without copies has no more sectors than are blank
    pub few_blank : (n e c b o : ℕ) → IsBlankCount sectors start m (spare_sector sectors turn) n → e < sectors
        → IsSpare pages slots sectors start m (words_of pages slots m) turn e c b o → (e ≤ n) × (c ≡ 0)
    few_blank n e c b o count lt spare = (
      count.all e spare.within (subst (λ (b : ℕ). AreFilled m b (start (spare_sector sectors turn + e) - b) BLANK)
          (sym begins) (spare.blank lt)),
      (spare.fresh lt).0,
    )

    no_turn : turn ≢ 1 → ◌≡◌ {A = ℕ} (if nat_eq turn 1 then 1 else 0) 0
    no_turn moves = ap (λ (b : Bool). if b then 1 else 0) (ne_eqb turn 1 moves)

    -- copies keep the pace if no step lost power, or the move can't begin anew
    pub copies_keep : turn ≢ 1 → (n next most copied behind older : ℕ)
        → IsBlankCount sectors start m (spare_sector sectors turn) n
        → IsBestCopies pages slots sectors start m turn most copied behind older
        → (behind ≤ copies_most copied 0) ⊎ (slots < (sectors - n) + steps_of pages + next)
        → KeepsSteps pages slots sectors start m turn next most sectors copied behind
    copies_keep moves n next most copied behind older count best why extra e c b o le spare slim fit =
        let z = no_turn moves in ⊎_elim
        (λ (lt : e < sectors).
        let few = few_blank n e c b o count lt spare in
        let less = few.0 in
        let none = few.1 in
        ⊎_elim
        (λ (lean : behind ≤ copies_most copied 0). (omega (arith, lean), omega (arith, fit, none)))
        (λ (full : slots < (sectors - n) + steps_of pages + next). absurd (omega (arith, full, fit, none, less, z)))
        why)
        (λ (ge : sectors ≤ e).
        let within = spare.within in
        let same : e ≡ sectors = omega (arith, within, ge) in
        let far = best.best c b o
        (subst (λ (s : ℕ). IsSpare pages slots sectors start m (words_of pages slots m) turn s c b o) same spare) in
        let more = far.0 in
        let early = far.1 in
        (omega (arith, early, slim, more), omega (arith, fit, more, within)))
        (cases_lt e sectors)

    -- blank sectors keep it if there are no copies, or the move can begin anew
    pub blank_keep : turn ≢ 1 → (n next most : ℕ) → IsBlankCount sectors start m (spare_sector sectors turn) n
        → HasNoCopies pages slots sectors start m turn most ⊎ ((sectors - n) + steps_of pages + next ≤ slots)
        → KeepsSteps pages slots sectors start m turn next most n 0 0
    blank_keep moves n next most count why extra e c b o le spare slim fit =
        let z = no_turn moves in ⊎_elim
        (λ (none : HasNoCopies pages slots sectors start m turn most). ⊎_elim
        (λ (lt : e < sectors).
        let few = few_blank n e c b o count lt spare in
        let less = few.0 in
        let zero_steps = few.1 in
        (omega arith, omega (arith, fit, less, zero_steps)))
        (λ (ge : sectors ≤ e).
        let within = spare.within in
        let same : e ≡ sectors = omega (arith, within, ge) in
        absurd (none c b o
        (subst (λ (s : ℕ). IsSpare pages slots sectors start m (words_of pages slots m) turn s c b o) same spare)
        (omega (arith, slim, le))))
        (cases_lt e sectors))
        (λ (room : (sectors - n) + steps_of pages + next ≤ slots). (omega arith, omega (arith, room, z)))
        why

    -- a move that has come furthest has the best copies
    copies_first : (most copied behind older e c b o : ℕ)
        → IsBestCopies pages slots sectors start m turn most copied behind older
        → IsFurthest pages slots sectors start m turn most e c b o → (e ≡ sectors) × (c ≡ copied)
    copies_first most copied behind older e c b o best far =
        let least = far.fewest sectors copied behind older best.spare best.few in
        let within = far.spare.within in
        ⊎_elim
        (λ (lt : e < sectors). let none = (far.spare.fresh lt).0 in absurd (omega (arith, least, lt, none)))
        (λ (ge : sectors ≤ e).
        let same : e ≡ sectors = omega (arith, within, ge) in
        let more = (best.best c b o
        (subst (λ (s : ℕ). IsSpare pages slots sectors start m (words_of pages slots m) turn s c b o) same far.spare)).0
        in
        let less = far.spare.most in
        let small = best.spare.most in
        (same, omega (arith, least, more, less, small, within, ge)))
        (cases_lt e sectors)

    -- and the best copies have
    best_first : (most copied behind older : ℕ)
        → IsBestCopies pages slots sectors start m turn most copied behind older
        → IsFurthest pages slots sectors start m turn most sectors copied behind older
    best_first most copied behind older best = record {
      spare = best.spare;
      few = best.few;
      fewest = λ e c b o spare few. ⊎_elim
          (λ (lt : e < sectors). let none = (spare.fresh lt).0 in omega (arith, none))
          (λ (ge : sectors ≤ e).
          let within = spare.within in
          let same : e ≡ sectors = omega (arith, within, ge) in
          let more = (best.best c b o
          (subst (λ (s : ℕ). IsSpare pages slots sectors start m (words_of pages slots m) turn s c b o) same spare)).0
          in
          omega (arith, more, same))
          (cases_lt e sectors);
    }

    -- a move begins anew behind no more sectors than are blank, if copies lost slots or there are none
    anew_blank : (n next most e : ℕ) → IsBlankCount sectors start m (spare_sector sectors turn) n
        → ¬ IsSpare pages slots sectors start m (words_of pages slots m) turn sectors 0 0 0
        → MoveBeginsAnew pages slots sectors start m turn next most e → e ≤ n
    anew_blank n next most e count used anew = ⊎_elim
        (λ (lt : e < sectors). (few_blank n e 0 0 0 count lt anew.can.spare).0)
        (λ (ge : sectors ≤ e).
        let within = anew.can.spare.within in
        let same : e ≡ sectors = omega (arith, within, ge) in
        absurd (used (subst (λ (s : ℕ). IsSpare pages slots sectors start m (words_of pages slots m) turn s 0 0 0) same
        anew.can.spare)))
        (cases_lt e sectors)

    -- copies that lost slots are some
    lost_used : (most copied behind older : ℕ)
        → IsBestCopies pages slots sectors start m turn most copied behind older → copies_most copied 0 < behind
        → ¬ IsSpare pages slots sectors start m (words_of pages slots m) turn sectors 0 0 0
    lost_used most copied behind older best lost spare =
        let none = (best.best 0 0 0 spare).1 in omega (arith, none, lost)

    -- The best copies are found, unless the move begins anew.
    pub copies_furthest : turn ≢ 1 → (n next most copied behind older : ℕ)
        → IsBlankCount sectors start m (spare_sector sectors turn) n
        → IsBestCopies pages slots sectors start m turn most copied behind older
        → (behind ≤ copies_most copied 0) ⊎ (slots < (sectors - n) + steps_of pages + next)
        → FindsFurthest pages slots sectors start m turn next most sectors copied older
    copies_furthest moves n next most copied behind older count best why = record {
      on = λ e c b o on.
          let is = copies_first most copied behind older e c b o best on.furthest in
          let all = is.0 in
          let same = is.1 in (
            omega (arith, all, same),
            best.same_older c b o
                (subst (λ (s : ℕ). IsSpare pages slots sectors start m (words_of pages slots m) turn s c b o) all
                on.furthest.spare) (omega (arith, same)),
          );
      anew = λ e anew.
          let lost = anew.lost sectors copied behind older (best_first most copied behind older best) in
          let less = anew_blank n next most e count (lost_used most copied behind older best lost) anew in
          let fits = anew.can.fits in
          let z = no_turn moves in
          absurd (⊎_elim
          (λ (lean : behind ≤ copies_most copied 0). omega (arith, lean, lost))
          (λ (full : slots < (sectors - n) + steps_of pages + next). omega (arith, full, fits, less, z))
          why);
    }

    pub anew_furthest : turn ≢ 1 → (n next most copied behind older : ℕ)
        → IsBlankCount sectors start m (spare_sector sectors turn) n
        → IsBestCopies pages slots sectors start m turn most copied behind older
        → copies_most copied 0 < behind → (sectors - n) + steps_of pages + next ≤ slots
        → FindsFurthest pages slots sectors start m turn next most n 0 0
    anew_furthest moves n next most copied behind older count best lost fits = record {
      on = λ e c b o on.
          let is = copies_first most copied behind older e c b o best on.furthest in
          let all = is.0 in
          let same = is.1 in
          let spare = subst (λ (s : ℕ). IsSpare pages slots sectors start m (words_of pages slots m) turn s c b o)
          all on.furthest.spare in
          let early = (best.best c b o spare).1 in
          let z = no_turn moves in
          absurd (on.stays (omega (arith, lost, same, early)) n (record {
            spare = blank_spare moves n count;
            fits = omega (arith, fits, z);
          }));
      anew = λ e anew.
          let less = anew_blank n next most e count (lost_used most copied behind older best lost) anew in
          (omega (arith, less), refl);
    }

    -- Without copies it begins behind the sectors that are blank.
    pub blank_furthest : (n next most : ℕ) → IsBlankCount sectors start m (spare_sector sectors turn) n
        → HasNoCopies pages slots sectors start m turn most
        → FindsFurthest pages slots sectors start m turn next most n 0 0
    blank_furthest n next most count none = record {
      on = λ e c b o on. ⊎_elim
          (λ (lt : e < sectors).
          let few = few_blank n e c b o count lt on.furthest.spare in
          let less = few.0 in
          let zero_steps = few.1 in
          (omega (arith, less, zero_steps), inl refl))
          (λ (ge : sectors ≤ e).
          let within = on.furthest.spare.within in
          let same : e ≡ sectors = omega (arith, within, ge) in
          absurd (none c b o
          (subst (λ (s : ℕ). IsSpare pages slots sectors start m (words_of pages slots m) turn s c b o) same
          on.furthest.spare) on.furthest.few))
          (cases_lt e sectors);
      anew = λ e anew.
          let less = anew_blank n next most e count (λ spare. none 0 0 0 spare (omega arith)) anew in
          (omega (arith, less), refl);
    }

  -- In turn 1 no move has begun.
  pub none_furthest : (next most : ℕ) → turn ≡ 1 → 0 < sectors
      → FindsFurthest pages slots sectors start m turn next most 0 0 0
  none_furthest next most one some = record {
    on = λ e c b o on.
        let none = on.furthest.spare.idle one in
        let begun = (on.furthest.spare.fresh (omega (arith, none, some))).0 in
        (omega (arith, none, begun), inl refl);
    anew = λ e anew. let none = anew.can.spare.idle one in (omega (arith, none), refl);
  }
