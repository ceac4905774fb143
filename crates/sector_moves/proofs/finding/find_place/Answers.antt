use Rattle.std.proofs.Common.{◌≡◌, ◌≤◌, ◌+◌, ℕ, List, ap, subst, ◌∙◌, max, min, arith}
use Rattle.std.proofs.Math.Nat.{max-le, min-le_left}
use Rattle.flash_device.specs.FlashLogs.{base_in, turn_of}
use Rattle.flash_device.specs.PageTables.{AreFree, IsFirstFreeSlot, IsPageTable}
use Rattle.sector_moves.specs.SectorSpares.{IsSectorSpare, sector_steps}
use Rattle.sector_moves.specs.laws.Stepping.{found_keeps, free_behind}
use Rattle.sector_moves.proofs.finding.find_place.Goals as goal

pub returns-clause-place : goal.returns-clause-place
returns-clause-place g c =
    let slots = g.F.Flash.SLOTS in
    let pages = g.F.Flash.PAGES in
    let entries = g.F.Table.PageTable.entries in
    let m = (g.F.Flash.state c.args.flash.now).words in
    let turn = c.in_ok-turn.turn in
    let first = c.in_ok-first.first in
    let tried = c.args.place.now.tried in
    let taken = c.in_ok-taken.taken in
    let mid = (g.F.Flash.state c.find_turn.new.flash).words in
    let same : mid ≡ m = c.find_turn.ensures.words in
    let both : (g.F.Flash.state c.scan.new.flash).words ≡ m = ◌∙◌ {b = mid} c.scan.ensures.words same in
    let base = c.home.ensures.is slots in
    let next : c.max-next.result ≡ max first (min tried slots) =
    ◌∙◌ {b = max first c.min.result} c.max-next.ensures
    (ap (max first) (◌∙◌ {b = min tried c.SLOTS.result} c.min.ensures (ap (min tried) c.SLOTS.ensures))) in
    let index : IsPageTable pages m (base_in slots turn) slots (entries c.scan.new.table) =
    subst (λ (b : ℕ). IsPageTable pages m b slots (entries c.scan.new.table)) base
    (subst (λ (l : List ℕ). IsPageTable pages l (base_in slots c.home.result) slots (entries c.scan.new.table)) same
    c.in_ok-first.ensures.index) in
    let free : AreFree m (base_in slots turn) first slots =
    subst (λ (b : ℕ). AreFree m b first slots) base
    (subst (λ (l : List ℕ). AreFree l (base_in slots c.home.result) first slots) same c.in_ok-first.ensures.free) in
    record {
      turn = c.in_ok-turn.ensures.turn;
      small = c.in_ok-turn.ensures.small;
      index = index;
      free = free_behind m (base_in slots turn) first tried slots c.max-next.result next free;
      spare = subst (λ (l : List ℕ). IsSectorSpare pages slots g.F.Flash.SECTORS g.F.Flash.sector_start l turn
          taken.erased taken.copied taken.older) both c.in_ok-taken.ensures.spare;
      goes_on = c.in_ok-taken.ensures.idle;
    }

pub returns-clause-keeps : goal.returns-clause-keeps
returns-clause-keeps g c =
    let slots = g.F.Flash.SLOTS in
    let pages = g.F.Flash.PAGES in
    let sectors = g.F.Flash.SECTORS in
    let start = g.F.Flash.sector_start in
    let m = (g.F.Flash.state c.args.flash.now).words in
    let turn = c.in_ok-turn.turn in
    let first = c.in_ok-first.first in
    let tried = c.args.place.now.tried in
    let taken = c.in_ok-taken.taken in
    let mid = (g.F.Flash.state c.find_turn.new.flash).words in
    let same : mid ≡ m = c.find_turn.ensures.words in
    let both : (g.F.Flash.state c.scan.new.flash).words ≡ m = ◌∙◌ {b = mid} c.scan.ensures.words same in
    let least : IsFirstFreeSlot m (base_in slots turn) first slots =
    subst (λ (b : ℕ). IsFirstFreeSlot m b first slots) (c.home.ensures.is slots)
    (subst (λ (l : List ℕ). IsFirstFreeSlot l (base_in slots c.home.result) first slots) same
    c.in_ok-first.ensures.first) in
    let next : c.max-next.result ≡ max first (min tried slots) =
    ◌∙◌ {b = max first c.min.result} c.max-next.ensures
    (ap (max first) (◌∙◌ {b = min tried c.SLOTS.result} c.min.ensures (ap (min tried) c.SLOTS.ensures))) in
    let place = record c.args.place.now {
      table = c.scan.new.table;
      turn = turn;
      next = c.max-next.result;
      erased = taken.erased;
      copied = taken.copied;
      older = taken.older;
    } in
    let entries = g.F.Table.PageTable.entries in
    found_keeps pages slots sectors start entries m place first (returns-clause-place g c) least next
    (subst (λ (l : List ℕ). (e n o : ℕ) → IsSectorSpare pages slots sectors start l turn e n o
    → sector_steps pages sectors turn e n + c.max-next.result ≤ slots
    → sector_steps pages sectors turn taken.erased taken.copied + c.max-next.result ≤ slots) both
    c.in_ok-taken.ensures.room)

pub returns-clause-found : goal.returns-clause-found
returns-clause-found g c = λ none.
    let slots = g.F.Flash.SLOTS in
    let m = (g.F.Flash.state c.args.flash.now).words in
    let same : (g.F.Flash.state c.find_turn.new.flash).words ≡ m = c.find_turn.ensures.words in
    let first = c.in_ok-first.first in
    let tried = c.args.place.now.tried in
    let base : base_in slots c.home.result ≡ base_in slots (turn_of slots m) =
    c.home.ensures.is slots ∙ ap (base_in slots) c.in_ok-turn.ensures.turn in
    let found : IsFirstFreeSlot m (base_in slots (turn_of slots m)) first slots =
    subst (λ (b : ℕ). IsFirstFreeSlot m b first slots) base
    (subst (λ (l : List ℕ). IsFirstFreeSlot l (base_in slots c.home.result) first slots) same
    c.in_ok-first.ensures.first) in
    let least : min tried c.SLOTS.result ≤ tried = min-le_left tried c.SLOTS.result in
    let few : c.min.result ≤ 0 = omega (arith, c.min.ensures, least, none) in
    let most : max first c.min.result ≤ first = max-le (omega arith) (omega (arith, few)) in
    let next : c.max-next.result ≤ first = omega (arith, c.max-next.ensures, most) in
    record { all = λ s are. let from = found.first s are in omega (arith, from, next) }

pub returns-clause-first : goal.returns-clause-first
returns-clause-first g c = λ s are from.
    let slots = g.F.Flash.SLOTS in
    let m = (g.F.Flash.state c.args.flash.now).words in
    let turn = c.in_ok-turn.turn in
    let first = c.in_ok-first.first in
    let tried = c.args.place.now.tried in
    let same : (g.F.Flash.state c.find_turn.new.flash).words ≡ m = c.find_turn.ensures.words in
    let least : IsFirstFreeSlot m (base_in slots turn) first slots =
    subst (λ (b : ℕ). IsFirstFreeSlot m b first slots) (c.home.ensures.is slots)
    (subst (λ (l : List ℕ). IsFirstFreeSlot l (base_in slots c.home.result) first slots) same
    c.in_ok-first.ensures.first) in
    let here : first ≤ s = least.first s are in
    let few : min tried c.SLOTS.result ≤ tried = min-le_left tried c.SLOTS.result in
    let most : max first c.min.result ≤ s = max-le here (omega (arith, c.min.ensures, few, from)) in
    omega (arith, c.max-next.ensures, most)
