use Rattle.std.proofs.Common.{◌≡◌, ◌<◌, ◌≤◌, ◌+◌, ℕ, List, refl, sym, ap, subst, inl, inr, ⊎_elim, ◌∙◌, arith, true}
use Rattle.std.proofs.Common.{false, true≢false}
use Rattle.std.proofs.lemmas.Bool.{cases_lt}
use Rattle.flash_device.specs.FlashLogs.{base_in, turn_of, words_of}
use Rattle.flash_device.specs.PageTables.{IsPageTable, AreFree, IsFirstFreeSlot}
use Rattle.flash_moves.specs.Paces.{IsInPaceFrom, KeepsPace, extra_of, lead_of}
use Rattle.flash_moves.specs.Rings.{IsRing}
use Rattle.flash_area.specs.Spares.{FindsFurthest, IsSpare, KeepsSteps}
use Rattle.flash_device.specs.laws.Indexing.{free_later}
use Rattle.flash_moves.specs.laws.Pacing.{free_known, fresh_is, fresh_stands, paced_found, steps_most, tried_within}
use Rattle.flash_log.specs.laws.Beginning.{next_found, next_lost}
use Rattle.flash_log.proofs.steps.find_pages.Goals as goal

pub returns-clause-log : goal.returns-clause-log
returns-clause-log g c =
    let slots = g.F.Flash.SLOTS in
    let pages = g.F.Flash.PAGES in
    let entries = g.F.Table.PageTable.entries in
    let m = (g.F.Flash.state c.args.flash.now).words in
    let mid = (g.F.Flash.state c.find_turn.new.flash).words in
    let after = (g.F.Flash.state c.progress_at.new.flash).words in
    let turn = c.in_ok-turn.turn in
    let same : after ≡ mid = c.progress_at.ensures.words ∙ c.scan.ensures.words in
    let old : after ≡ m = same ∙ c.find_turn.ensures.words in
    let index : IsPageTable pages after (base_in slots turn) slots (entries c.scan.new.table) =
    subst (λ (b : ℕ). IsPageTable pages after b slots (entries c.scan.new.table)) (c.home.ensures.is slots)
    (subst (λ (l : List ℕ). IsPageTable pages l (base_in slots c.home.result) slots (entries c.scan.new.table))
    (sym same) c.in_ok-first.ensures.index) in
    let free : AreFree after (base_in slots turn) c.in_ok-first.first slots =
    subst (λ (b : ℕ). AreFree after b c.in_ok-first.first slots) (c.home.ensures.is slots)
    (subst (λ (l : List ℕ). AreFree l (base_in slots c.home.result) c.in_ok-first.first slots) (sym same)
    c.in_ok-first.ensures.free) in
    record {
      ring = subst (IsRing slots) (sym old) c.requires.log.ring;
      passed =
          let within = tried_within pages slots g.F.Flash.SECTORS c.args.place.now c.requires.log.passed in
          let most = c.later-next.ensures.most in
          ⊎_elim
          (λ (le : c.args.place.now.tried ≤ c.later-next.result). omega (arith, le, most))
          (λ (e : c.later-next.result ≡ slots). omega (arith, e, within))
          c.later-next.ensures.passed;
      known = λ _. record {
        turn = c.in_ok-turn.ensures.turn ∙ sym (ap (turn_of slots) old);
        small = c.in_ok-turn.ensures.small;
        index = index;
        free = free_later after (base_in slots turn) c.in_ok-first.first c.later-next.result slots free
            c.later-next.ensures.least c.later-next.ensures.most;
        spare = let progress = c.in_ok-progress.progress in
            subst (λ (l : List ℕ). IsSpare pages slots g.F.Flash.SECTORS g.F.Flash.sector_start l
            (words_of pages slots l) turn progress.erased progress.copied progress.behind progress.older)
            (sym c.progress_at.ensures.words)
            c.in_ok-progress.ensures.spare;
      };
    }

pub returns-then-place-clause-found : goal.returns-then-place-clause-found
returns-then-place-clause-found g c = λ unready none. absurd (true≢false (sym c.if-place.true ∙ unready))

pub returns-clause-found : goal.returns-clause-found
returns-clause-found g c = λ unready none.
    let slots = g.F.Flash.SLOTS in
    let m = (g.F.Flash.state c.args.flash.now).words in
    let mid = (g.F.Flash.state c.find_turn.new.flash).words in
    let old : mid ≡ m = c.find_turn.ensures.words in
    let base : base_in slots c.home.result ≡ base_in slots (turn_of slots m) =
    c.home.ensures.is slots ∙ ap (λ (t : ℕ). base_in slots t) c.in_ok-turn.ensures.turn in
    let first : IsFirstFreeSlot m (base_in slots (turn_of slots m)) c.in_ok-first.first slots =
    subst (λ (b : ℕ). IsFirstFreeSlot m b c.in_ok-first.first slots) base
    (subst (λ (l : List ℕ). IsFirstFreeSlot l (base_in slots c.home.result) c.in_ok-first.first slots) old
    c.in_ok-first.ensures.first) in
    let next = c.later-next.ensures.none (omega (arith, none)) in
    record { all = λ s are. let least = first.first s are in omega (arith, least, next) }

pub returns-then-place-clause-next : goal.returns-then-place-clause-next
returns-then-place-clause-next g c = λ unready. absurd (true≢false (sym c.if-place.true ∙ unready))

pub returns-clause-next : goal.returns-clause-next
returns-clause-next g c = λ unready n below is.
    let slots = g.F.Flash.SLOTS in
    let m = (g.F.Flash.state c.args.flash.now).words in
    let tried = c.args.place.now.tried in
    let next = c.later-next.result in
    let base : base_in slots c.home.result ≡ base_in slots (turn_of slots m) =
    c.home.ensures.is slots ∙ ap (λ (t : ℕ). base_in slots t) c.in_ok-turn.ensures.turn in
    let first : IsFirstFreeSlot m (base_in slots (turn_of slots m)) c.in_ok-first.first slots =
    subst (λ (b : ℕ). IsFirstFreeSlot m b c.in_ok-first.first slots) base
    (subst (λ (l : List ℕ). IsFirstFreeSlot l (base_in slots c.home.result) c.in_ok-first.first slots)
    c.find_turn.ensures.words c.in_ok-first.ensures.first) in
    let free : AreFree m (base_in slots (turn_of slots m)) c.in_ok-first.first slots =
    subst (λ (b : ℕ). AreFree m b c.in_ok-first.first slots) base
    (subst (λ (l : List ℕ). AreFree l (base_in slots c.home.result) c.in_ok-first.first slots)
    c.find_turn.ensures.words c.in_ok-first.ensures.free) in
    let found = first.first n is.free in
    let passed = is.passed in
    let least : next ≤ n = ⊎_elim
    (λ (lt : c.in_ok-first.first < tried).
    let same = c.later-next.ensures.is (omega (arith, passed, below)) (omega (arith, lt)) in
    omega (arith, same, passed))
    (λ (le : tried ≤ c.in_ok-first.first). let same = c.later-next.ensures.none le in omega (arith, same, found))
    (cases_lt c.in_ok-first.first tried) in
    let after : tried ≤ next = ⊎_elim
    (λ (le : tried ≤ next). le)
    (λ (e : next ≡ slots). omega (arith, e, passed, below))
    c.later-next.ensures.passed in
    let most = is.first next (free_later m (base_in slots (turn_of slots m)) c.in_ok-first.first next slots free
    c.later-next.ensures.least c.later-next.ensures.most) after in
    omega (arith, least, most)

pub returns-then-place-clause-looks : goal.returns-then-place-clause-looks
returns-then-place-clause-looks g c = λ fresh. inl fresh

pub returns-in_err-turn-clause-looks : goal.returns-in_err-turn-clause-looks
returns-in_err-turn-clause-looks g c = λ fresh. inl fresh

pub returns-in_err-first-clause-looks : goal.returns-in_err-first-clause-looks
returns-in_err-first-clause-looks g c = λ fresh. inl fresh

pub returns-clause-looks : goal.returns-clause-looks
returns-clause-looks g c = λ fresh.
    let is = fresh_is g.F.Flash.PAGES g.F.Flash.SLOTS g.F.Flash.SECTORS c.args.place.now fresh in
    inr (returns-clause-found g c is.0 is.1)

pub returns-then-place-clause-begun : goal.returns-then-place-clause-begun
returns-then-place-clause-begun g c = λ unready some. absurd (true≢false (sym c.if-place.true ∙ unready))

pub returns-clause-begun : goal.returns-clause-begun
returns-clause-begun g c = λ unready some.
    let slots = g.F.Flash.SLOTS in
    let lead = lead_of g.F.Flash.PAGES g.F.Flash.SECTORS in
    let next = c.later-next.result in
    ⊎_elim
    (λ (far : next + lead < slots).
    let none = c.in_ok-progress.ensures.idle far in
    let copied = none.0 in
    let behind = none.1 in absurd (omega (arith, copied, behind, some)))
    (λ (near : slots ≤ next + lead). near)
    (cases_lt (next + lead) slots)

pub returns-then-place-clause-paced : goal.returns-then-place-clause-paced
returns-then-place-clause-paced g c = λ extra unready far. absurd (true≢false (sym c.if-place.true ∙ unready))

pub returns-clause-paced : goal.returns-clause-paced
returns-clause-paced g c = λ extra unready far.
    let progress = c.in_ok-progress.progress in
    let none = c.in_ok-progress.ensures.idle (omega (arith, far)) in
    let copied = none.0 in
    let behind = none.1 in
    let most = steps_most g.F.Flash.PAGES g.F.Flash.SLOTS g.F.Flash.SECTORS
    (record c.args.place.now { turn = c.in_ok-turn.turn; erased = progress.erased; copied = progress.copied }) in
    record {
      ready = refl;
      room = omega (arith, far, most);
      few = omega (arith, behind);
      goes_on = λ some. absurd (omega (arith, some, copied, behind));
      passed = ⊎_elim
          (λ (le : c.args.place.now.tried ≤ c.later-next.result). le)
          (λ (e : c.later-next.result ≡ g.F.Flash.SLOTS). absurd (omega (arith, e, far)))
          c.later-next.ensures.passed;
    }

pub returns-in_err-turn-clause-paced : goal.returns-in_err-turn-clause-paced
returns-in_err-turn-clause-paced g c = λ extra unready far.
    let known = free_known g.F.Flash.PAGES g.F.Flash.SLOTS g.F.Flash.SECTORS c.args.place.now
    (lead_of g.F.Flash.PAGES g.F.Flash.SECTORS) far in
    absurd (true≢false (sym known.0 ∙ unready))

pub returns-in_err-first-clause-paced : goal.returns-in_err-first-clause-paced
returns-in_err-first-clause-paced g c = λ extra unready far.
    let known = free_known g.F.Flash.PAGES g.F.Flash.SLOTS g.F.Flash.SECTORS c.args.place.now
    (lead_of g.F.Flash.PAGES g.F.Flash.SECTORS) far in
    absurd (true≢false (sym known.0 ∙ unready))

pub returns-in_err-progress-clause-paced : goal.returns-in_err-progress-clause-paced
returns-in_err-progress-clause-paced g c = λ extra unready far.
    let known = free_known g.F.Flash.PAGES g.F.Flash.SLOTS g.F.Flash.SECTORS c.args.place.now
    (lead_of g.F.Flash.PAGES g.F.Flash.SECTORS) far in
    absurd (true≢false (sym known.0 ∙ unready))

pub returns-in_err-progress-clause-looks : goal.returns-in_err-progress-clause-looks
returns-in_err-progress-clause-looks g c = λ fresh. inl fresh

pub returns-then-place-clause-stands : goal.returns-then-place-clause-stands
returns-then-place-clause-stands g c = λ extra fits stands. stands

pub returns-then-place-clause-in_pace : goal.returns-then-place-clause-in_pace
returns-then-place-clause-in_pace g c = λ extra fits. ⊎_elim
    (λ (pace : KeepsPace g.F.Flash.PAGES g.F.Flash.SLOTS g.F.Flash.SECTORS extra c.args.place.now). pace)
    (λ (z : (c.args.place.now.ready ≡ false) × IsInPaceFrom g.F.Flash.PAGES g.F.Flash.SLOTS g.F.Flash.SECTORS
    g.F.Flash.sector_start (g.F.Flash.state c.args.flash.now).words extra c.args.place.now.tried).
    absurd (true≢false (sym c.if-place.true ∙ z.0)))

pub returns-in_err-turn-clause-stands : goal.returns-in_err-turn-clause-stands
returns-in_err-turn-clause-stands g c = λ extra fits. fresh_stands g.F.Flash.PAGES g.F.Flash.SLOTS g.F.Flash.SECTORS
    extra g.F.Flash.sector_start (g.F.Flash.state c.args.flash.now).words
    (g.F.Flash.state c.find_turn.new.flash).words
    c.args.place.now c.args.place.now c.find_turn.ensures.words c.if-place.false c.if-place.false refl

pub returns-in_err-first-clause-stands : goal.returns-in_err-first-clause-stands
returns-in_err-first-clause-stands g c = λ extra fits. fresh_stands g.F.Flash.PAGES g.F.Flash.SLOTS g.F.Flash.SECTORS
    extra g.F.Flash.sector_start (g.F.Flash.state c.args.flash.now).words (g.F.Flash.state c.scan.new.flash).words
    c.args.place.now (record c.args.place.now { table = c.scan.new.table })
    (c.scan.ensures.words ∙ c.find_turn.ensures.words) c.if-place.false c.if-place.false refl

pub returns-in_err-progress-clause-stands : goal.returns-in_err-progress-clause-stands
returns-in_err-progress-clause-stands g c = λ extra fits. fresh_stands g.F.Flash.PAGES g.F.Flash.SLOTS
    g.F.Flash.SECTORS extra g.F.Flash.sector_start (g.F.Flash.state c.args.flash.now).words
    (g.F.Flash.state c.progress_at.new.flash).words
    c.args.place.now (record c.args.place.now { table = c.scan.new.table })
    (c.progress_at.ensures.words ∙ c.scan.ensures.words ∙ c.find_turn.ensures.words) c.if-place.false
    c.if-place.false refl

pub returns-clause-in_pace : goal.returns-clause-in_pace
returns-clause-in_pace g c = λ extra fits. ⊎_elim
    (λ (pace : KeepsPace g.F.Flash.PAGES g.F.Flash.SLOTS g.F.Flash.SECTORS extra c.args.place.now).
    absurd (true≢false (sym pace.ready ∙ c.if-place.false)))
    (λ (z : (c.args.place.now.ready ≡ false) × IsInPaceFrom g.F.Flash.PAGES g.F.Flash.SLOTS g.F.Flash.SECTORS
    g.F.Flash.sector_start (g.F.Flash.state c.args.flash.now).words extra c.args.place.now.tried).
    let slots = g.F.Flash.SLOTS in
    let pages = g.F.Flash.PAGES in
    let sectors = g.F.Flash.SECTORS in
    let start = g.F.Flash.sector_start in
    let m = (g.F.Flash.state c.args.flash.now).words in
    let turn = c.in_ok-turn.turn in
    let progress = c.in_ok-progress.progress in
    let tried = c.args.place.now.tried in
    let next = c.later-next.result in
    let is = z.1.pace in
    let words : (g.F.Flash.state c.scan.new.flash).words ≡ m = c.scan.ensures.words ∙ c.find_turn.ensures.words in
    let base : base_in slots c.home.result ≡ base_in slots (turn_of slots m) =
    c.home.ensures.is slots ∙ ap (λ (t : ℕ). base_in slots t) c.in_ok-turn.ensures.turn in
    let first : IsFirstFreeSlot m (base_in slots (turn_of slots m)) c.in_ok-first.first slots =
    subst (λ (b : ℕ). IsFirstFreeSlot m b c.in_ok-first.first slots) base
    (subst (λ (l : List ℕ). IsFirstFreeSlot l (base_in slots c.home.result) c.in_ok-first.first slots)
    c.find_turn.ensures.words c.in_ok-first.ensures.first) in
    let found = first.first is.next is.free in
    let within = is.free.within in
    let passed = z.1.passed in
    let least : next ≤ is.next = ⊎_elim
    (λ (lt : c.in_ok-first.first < tried).
    let same = c.later-next.ensures.is (omega (arith, passed, within)) (omega (arith, lt)) in
    omega (arith, same, passed))
    (λ (le : tried ≤ c.in_ok-first.first). let same = c.later-next.ensures.none le in omega (arith, same, found))
    (cases_lt c.in_ok-first.first tried) in
    let after : tried ≤ next = ⊎_elim
    (λ (le : tried ≤ next). le)
    (λ (e : next ≡ slots). omega (arith, e, passed, within))
    c.later-next.ensures.passed in
    paced_found pages slots sectors extra start m _ refl c.in_ok-turn.ensures.turn
    (returns-clause-begun g c c.if-place.false)
    (subst (λ (l : List ℕ). KeepsSteps pages slots sectors start l turn next (extra_of pages slots sectors)
    progress.erased progress.copied progress.behind) words c.in_ok-progress.ensures.keeps)
    fits after is least)

pub returns-clause-stands : goal.returns-clause-stands
returns-clause-stands g c = λ extra fits stands. inl (returns-clause-in_pace g c extra fits stands)

pub returns-then-place-clause-furthest : goal.returns-then-place-clause-furthest
returns-then-place-clause-furthest g c = λ unready. absurd (true≢false (sym c.if-place.true ∙ unready))

pub returns-clause-furthest : goal.returns-clause-furthest
returns-clause-furthest g c = λ unready due.
    let progress = c.in_ok-progress.progress in
    subst (λ (l : List ℕ). FindsFurthest g.F.Flash.PAGES g.F.Flash.SLOTS g.F.Flash.SECTORS g.F.Flash.sector_start l
    c.in_ok-turn.turn c.later-next.result (extra_of g.F.Flash.PAGES g.F.Flash.SLOTS g.F.Flash.SECTORS) progress.erased
    progress.copied progress.older) (c.scan.ensures.words ∙ c.find_turn.ensures.words)
    (c.in_ok-progress.ensures.furthest due)

pub returns-then-place-clause-is_next : goal.returns-then-place-clause-is_next
returns-then-place-clause-is_next g c = λ unready. absurd (true≢false (sym c.if-place.true ∙ unready))

pub returns-clause-is_next : goal.returns-clause-is_next
returns-clause-is_next g c = λ unready within.
    let slots = g.F.Flash.SLOTS in
    let m = (g.F.Flash.state c.args.flash.now).words in
    let tried = c.args.place.now.tried in
    let next = c.later-next.result in
    let base : base_in slots c.home.result ≡ base_in slots (turn_of slots m) =
    c.home.ensures.is slots ∙ ap (λ (t : ℕ). base_in slots t) c.in_ok-turn.ensures.turn in
    let first : IsFirstFreeSlot m (base_in slots (turn_of slots m)) c.in_ok-first.first slots =
    subst (λ (b : ℕ). IsFirstFreeSlot m b c.in_ok-first.first slots) base
    (subst (λ (l : List ℕ). IsFirstFreeSlot l (base_in slots c.home.result) c.in_ok-first.first slots)
    c.find_turn.ensures.words c.in_ok-first.ensures.first) in
    let free : AreFree m (base_in slots (turn_of slots m)) c.in_ok-first.first slots =
    subst (λ (b : ℕ). AreFree m b c.in_ok-first.first slots) base
    (subst (λ (l : List ℕ). AreFree l (base_in slots c.home.result) c.in_ok-first.first slots)
    c.find_turn.ensures.words c.in_ok-first.ensures.free) in
    record {
      free = free_later m (base_in slots (turn_of slots m)) c.in_ok-first.first next slots free
          c.later-next.ensures.least c.later-next.ensures.most;
      passed = ⊎_elim
          (λ (le : tried ≤ next). le)
          (λ (e : next ≡ slots). omega (arith, e, within))
          c.later-next.ensures.passed;
      first = λ s are passed. ⊎_elim
          (λ (lt : c.in_ok-first.first < tried).
          let same = c.later-next.ensures.is within (omega (arith, lt)) in omega (arith, same, passed))
          (λ (le : tried ≤ c.in_ok-first.first).
          let same = c.later-next.ensures.none le in
          let least = first.first s are in
          omega (arith, same, least))
          (cases_lt c.in_ok-first.first tried);
    }

pub returns-then-place-clause-same_next : goal.returns-then-place-clause-same_next
returns-then-place-clause-same_next g c = λ n. (λ next. next, λ next. next)

pub returns-in_err-turn-clause-same_next : goal.returns-in_err-turn-clause-same_next
returns-in_err-turn-clause-same_next g c = next_lost g.F.Flash.PAGES g.F.Flash.SLOTS g.F.Flash.SECTORS
    (g.F.Flash.state c.args.flash.now) (g.F.Flash.state c.find_turn.new.flash) c.args.place.now c.args.place.now
    c.if-place.false c.if-place.false refl c.find_turn.ensures.words

pub returns-in_err-first-clause-same_next : goal.returns-in_err-first-clause-same_next
returns-in_err-first-clause-same_next g c = next_lost g.F.Flash.PAGES g.F.Flash.SLOTS g.F.Flash.SECTORS
    (g.F.Flash.state c.args.flash.now) (g.F.Flash.state c.scan.new.flash) c.args.place.now
    (record c.args.place.now { table = c.scan.new.table }) c.if-place.false c.if-place.false refl
    (c.scan.ensures.words ∙ c.find_turn.ensures.words)

pub returns-in_err-progress-clause-same_next : goal.returns-in_err-progress-clause-same_next
returns-in_err-progress-clause-same_next g c = next_lost g.F.Flash.PAGES g.F.Flash.SLOTS g.F.Flash.SECTORS
    (g.F.Flash.state c.args.flash.now) (g.F.Flash.state c.progress_at.new.flash) c.args.place.now
    (record c.args.place.now { table = c.scan.new.table }) c.if-place.false c.if-place.false refl
    (c.progress_at.ensures.words ∙ c.scan.ensures.words ∙ c.find_turn.ensures.words)

pub returns-clause-same_next : goal.returns-clause-same_next
returns-clause-same_next g c =
    let slots = g.F.Flash.SLOTS in
    let pages = g.F.Flash.PAGES in
    let sectors = g.F.Flash.SECTORS in
    let p = c.args.place.now in
    let progress = c.in_ok-progress.progress in
    next_found pages slots sectors (g.F.Flash.state c.args.flash.now) (g.F.Flash.state c.progress_at.new.flash) p
    (record p {
      ready = true;
      table = c.scan.new.table;
      turn = c.in_ok-turn.turn;
      next = c.later-next.result;
      erased = progress.erased;
      copied = progress.copied;
      behind = progress.behind;
      older = progress.older;
    }) c.if-place.false refl (c.progress_at.ensures.words ∙ c.scan.ensures.words ∙ c.find_turn.ensures.words)
    (returns-clause-is_next g c c.if-place.false (tried_within pages slots sectors p c.requires.log.passed))
