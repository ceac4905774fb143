use Rattle.std.proofs.Common.{◌*◌, ◌≡◌, ◌⊎◌, ◌<◌, ◌≤◌, ◌+◌, ap, ⊎_elim, refl, sym, ◌∙◌, inl, inr, arith}
use Rattle.std.proofs.Common.{true≢false}
use Rattle.flash_device.specs.FlashLogs.{base_in, turn_of, words_of}
use Rattle.flash_area.specs.laws.Copying.{SameArea, area_found, area_free}
use Rattle.flash_moves.specs.laws.Moving.{Passes, Stays, same_held, whole_area, zero_passes, zero_stays}
use Rattle.flash_moves.specs.laws.Turns.{zero_marks}
use Rattle.flash_device.specs.laws.Marks.{closed_same}
use Rattle.flash_device.specs.FlashBlocks.{area_size}
use Rattle.flash_moves.specs.laws.Lighting.{lights_faults}
use Rattle.flash_moves.specs.laws.Losing.{free_by_area, free_by_turn}
use Rattle.flash_moves.specs.Paces.{KeepsFree, KeepsRoom}
use Rattle.flash_moves.specs.Rings.{IsRing}
use Rattle.flash_moves.proofs.turns.move_to_b.Given.{Over}
use Rattle.flash_moves.proofs.turns.move_to_b.Goals.{After-close}
use Rattle.flash_moves.proofs.turns.move_to_b.Goals as goal

pub returns-in_err-next-clause-words : goal.returns-in_err-next-clause-words
returns-in_err-next-clause-words g c =
    let slots = g.F.Flash.SLOTS in
    let pages = g.F.Flash.PAGES in
    let m = (g.F.Flash.state c.args.flash.now).words in
    let mid = (g.F.Flash.state c.erase_and_copy.new.flash).words in
    let stays : Stays pages slots m mid = zero_stays pages slots m mid c.requires.ring c.requires.turn
    c.erase_and_copy.ensures.elsewhere in
    stays.words

pub returns-in_err-next-clause-ring : goal.returns-in_err-next-clause-ring
returns-in_err-next-clause-ring g c =
    let slots = g.F.Flash.SLOTS in
    let pages = g.F.Flash.PAGES in
    let m = (g.F.Flash.state c.args.flash.now).words in
    let mid = (g.F.Flash.state c.erase_and_copy.new.flash).words in
    let stays : Stays pages slots m mid = zero_stays pages slots m mid c.requires.ring c.requires.turn
    c.erase_and_copy.ensures.elsewhere in
    stays.ring

-- the words are the same, whether the block is closed or not
close_words : (g : Over) (c : After-close g)
    → words_of g.F.Flash.PAGES g.F.Flash.SLOTS (g.F.Flash.state c.close.new.flash).words
    ≡ words_of g.F.Flash.PAGES g.F.Flash.SLOTS (g.F.Flash.state c.args.flash.now).words
close_words g c =
    let slots = g.F.Flash.SLOTS in
    let pages = g.F.Flash.PAGES in
    let m = (g.F.Flash.state c.args.flash.now).words in
    let mid = (g.F.Flash.state c.erase_and_copy.new.flash).words in
    let after = (g.F.Flash.state c.close.new.flash).words in
    let passes : Passes pages slots m after 0 1 =
    zero_passes pages slots m mid after c.requires.ring c.requires.turn c.erase_and_copy.ensures.elsewhere
    c.in_ok-next.ensures.open
    c.close.ensures.elsewhere c.in_ok-next.ensures.pages in
    passes.words

pub returns-in_err-close-clause-words : goal.returns-in_err-close-clause-words
returns-in_err-close-clause-words g c = close_words g (goal.at.returns-in_err-close-clause-words g c).After-close

-- the marks still give a turn
close_ring : (g : Over) (c : After-close g) → IsRing g.F.Flash.SLOTS (g.F.Flash.state c.close.new.flash).words
close_ring g c =
    let slots = g.F.Flash.SLOTS in
    let pages = g.F.Flash.PAGES in
    let m = (g.F.Flash.state c.args.flash.now).words in
    let mid = (g.F.Flash.state c.erase_and_copy.new.flash).words in
    let after = (g.F.Flash.state c.close.new.flash).words in
    let passes : Passes pages slots m after 0 1 =
    zero_passes pages slots m mid after c.requires.ring c.requires.turn c.erase_and_copy.ensures.elsewhere
    c.in_ok-next.ensures.open
    c.close.ensures.elsewhere c.in_ok-next.ensures.pages in
    passes.ring

pub returns-in_err-close-clause-ring : goal.returns-in_err-close-clause-ring
returns-in_err-close-clause-ring g c = close_ring g (goal.at.returns-in_err-close-clause-ring g c).After-close

pub returns-clause-words : goal.returns-clause-words
returns-clause-words g c = close_words g (goal.at.returns-clause-words g c).After-close

pub returns-clause-ring : goal.returns-clause-ring
returns-clause-ring g c = close_ring g (goal.at.returns-clause-ring g c).After-close

pub returns-clause-done : goal.returns-clause-done
returns-clause-done g c =
    let slots = g.F.Flash.SLOTS in
    let pages = g.F.Flash.PAGES in
    let m = (g.F.Flash.state c.args.flash.now).words in
    let mid = (g.F.Flash.state c.erase_and_copy.new.flash).words in
    let after = (g.F.Flash.state c.close.new.flash).words in
    let passes : Passes pages slots m after 0 1 =
    zero_passes pages slots m mid after c.requires.ring c.requires.turn c.erase_and_copy.ensures.elsewhere
    c.in_ok-next.ensures.open
    c.close.ensures.elsewhere c.in_ok-next.ensures.pages in
    ⊎_elim (λ (old : turn_of slots after ≡ 0). absurd
    (true≢false (sym c.in_ok-close.ensures.done ∙ (zero_marks slots after
    passes.ring old).0)))
    (λ (new : turn_of slots after ≡ 1). new) passes.turn

pub returns-clause-index : goal.returns-clause-index
returns-clause-index g c =
    let slots = g.F.Flash.SLOTS in
    let mid = (g.F.Flash.state c.erase_and_copy.new.flash).words in
    let after = (g.F.Flash.state c.close.new.flash).words in
    let same : SameArea slots mid after (area_size slots) =
    record {
      each = λ k low high. let x : (20 * slots) + 2 ≤ k = omega (arith, low) in
          c.close.ensures.elsewhere.same k (inr x);
    } in
    record {
      each = λ p lt. c.in_ok-next.ensures.index.each p lt
          ∙ sym (area_found slots mid after (area_size slots) same p);
    }

pub returns-clause-free : goal.returns-clause-free
returns-clause-free g c =
    let slots = g.F.Flash.SLOTS in
    let mid = (g.F.Flash.state c.erase_and_copy.new.flash).words in
    let after = (g.F.Flash.state c.close.new.flash).words in
    let same : SameArea slots mid after (area_size slots) =
    record {
      each = λ k low high. let x : (20 * slots) + 2 ≤ k = omega (arith, low) in
          c.close.ensures.elsewhere.same k (inr x);
    } in
    area_free slots mid after (area_size slots) same c.in_ok-next.next c.in_ok-next.ensures.free

pub close-requires-clause-opened : goal.close-requires-clause-opened
close-requires-clause-opened g c =
    let slots = g.F.Flash.SLOTS in
    let m = (g.F.Flash.state c.args.flash.now).words in
    let mid = (g.F.Flash.state c.erase_and_copy.new.flash).words in
    let before : (20 * slots) + 2 ≤ (area_size slots) = omega arith in
    closed_same m mid (20 * slots) (area_size slots) (area_size slots) c.erase_and_copy.ensures.elsewhere (inl before)
    ∙ (zero_marks slots m c.requires.ring
    c.requires.turn).0

pub returns-clause-have : goal.returns-clause-have
returns-clause-have g c = λ none.
    let slots = g.F.Flash.SLOTS in
    let pages = g.F.Flash.PAGES in
    let mid = (g.F.Flash.state c.erase_and_copy.new.flash).words in
    let after = (g.F.Flash.state c.close.new.flash).words in
    let closed = (c.in_ok-close.ensures.light.ok refl).faults in
    let same : SameArea slots mid after (area_size slots) =
    record {
      each = λ k low high. let x : (20 * slots) + 2 ≤ k = omega (arith, low) in
          c.close.ensures.elsewhere.same k (inr x);
    } in
    same_held pages slots mid after (area_size slots) c.in_ok-next.next same
    (c.in_ok-next.ensures.have (sym closed ∙ none))

pub returns-in_err-next-clause-keeps_free : goal.returns-in_err-next-clause-keeps_free
returns-in_err-next-clause-keeps_free g c = λ n far.
    let slots = g.F.Flash.SLOTS in
    let pages = g.F.Flash.PAGES in
    let m = (g.F.Flash.state c.args.flash.now).words in
    let mid = (g.F.Flash.state c.erase_and_copy.new.flash).words in
    let stays : Stays pages slots m mid = zero_stays pages slots m mid c.requires.ring c.requires.turn
    c.erase_and_copy.ensures.elsewhere in
    free_by_area pages slots m mid 0 n (ap (base_in slots) c.requires.turn)
    (ap (base_in slots) (stays.turn ∙ c.requires.turn))
    (whole_area pages slots m mid 0 1 refl c.erase_and_copy.ensures.elsewhere)

-- the area in use is free behind its pages
close_free : (g : Over) (c : After-close g)
    → KeepsFree g.F.Flash.PAGES g.F.Flash.SLOTS (g.F.Flash.state c.args.flash.now) (g.F.Flash.state c.close.new.flash)
close_free g c = λ n far.
    let slots = g.F.Flash.SLOTS in
    let pages = g.F.Flash.PAGES in
    let m = (g.F.Flash.state c.args.flash.now).words in
    let mid = (g.F.Flash.state c.erase_and_copy.new.flash).words in
    let after = (g.F.Flash.state c.close.new.flash).words in
    let passes : Passes pages slots m after 0 1 =
    zero_passes pages slots m mid after c.requires.ring c.requires.turn c.erase_and_copy.ensures.elsewhere
    c.in_ok-next.ensures.open
    c.close.ensures.elsewhere c.in_ok-next.ensures.pages in
    let turns : (base_in slots (turn_of slots after) ≡ 0) ⊎ (base_in slots (turn_of slots after) ≡ area_size slots) =
    ⊎_elim (λ (e : turn_of slots after ≡ 0). inl (ap (base_in slots) e))
    (λ (e : turn_of slots after ≡ 1). inr (ap (base_in slots) e)) passes.turn in
    let here : SameArea slots m after 0 = record {
      each = λ k low high.
          let x : k < 20 * slots = omega (arith, high) in let y : k < area_size slots = omega (arith, high) in
          c.close.ensures.elsewhere.same k (inl x) ∙ c.erase_and_copy.ensures.elsewhere.same k (inl y);
    } in
    let there : SameArea slots mid after (area_size slots) = record {
      each = λ k low high. let x : (20 * slots) + 2 ≤ k = omega (arith, low) in
          c.close.ensures.elsewhere.same k (inr x);
    } in
    let more = lights_faults (g.F.Flash.state c.erase_and_copy.new.flash) (g.F.Flash.state c.close.new.flash)
    c.close.result c.close.ensures.light in
    let few = c.in_ok-next.ensures.passes in
    free_by_turn pages slots m after 0 (area_size slots) c.in_ok-next.next n
    (ap (base_in slots) c.requires.turn) turns here
    (area_free slots mid after (area_size slots) there c.in_ok-next.next c.in_ok-next.ensures.free)
    (omega (arith, few, more, far))

pub returns-in_err-close-clause-keeps_free : goal.returns-in_err-close-clause-keeps_free
returns-in_err-close-clause-keeps_free g c =
    close_free g (goal.at.returns-in_err-close-clause-keeps_free g c).After-close

pub returns-clause-keeps_free : goal.returns-clause-keeps_free
returns-clause-keeps_free g c = close_free g (goal.at.returns-clause-keeps_free g c).After-close

pub returns-in_err-next-clause-keeps_room : goal.returns-in_err-next-clause-keeps_room
returns-in_err-next-clause-keeps_room g c = λ n far.
    let slots = g.F.Flash.SLOTS in
    let pages = g.F.Flash.PAGES in
    let m = (g.F.Flash.state c.args.flash.now).words in
    let mid = (g.F.Flash.state c.erase_and_copy.new.flash).words in
    let stays : Stays pages slots m mid = zero_stays pages slots m mid c.requires.ring c.requires.turn
    c.erase_and_copy.ensures.elsewhere in
    free_by_area pages slots m mid 0 n (ap (base_in slots) c.requires.turn)
    (ap (base_in slots) (stays.turn ∙ c.requires.turn))
    (whole_area pages slots m mid 0 1 refl c.erase_and_copy.ensures.elsewhere)

-- the same however often the flash fails
close_room : (g : Over) (c : After-close g)
    → KeepsRoom g.F.Flash.PAGES g.F.Flash.SLOTS (g.F.Flash.state c.args.flash.now).words
    (g.F.Flash.state c.close.new.flash).words
close_room g c = λ n far.
    let slots = g.F.Flash.SLOTS in
    let pages = g.F.Flash.PAGES in
    let m = (g.F.Flash.state c.args.flash.now).words in
    let mid = (g.F.Flash.state c.erase_and_copy.new.flash).words in
    let after = (g.F.Flash.state c.close.new.flash).words in
    let passes : Passes pages slots m after 0 1 =
    zero_passes pages slots m mid after c.requires.ring c.requires.turn c.erase_and_copy.ensures.elsewhere
    c.in_ok-next.ensures.open
    c.close.ensures.elsewhere c.in_ok-next.ensures.pages in
    let turns : (base_in slots (turn_of slots after) ≡ 0) ⊎ (base_in slots (turn_of slots after) ≡ area_size slots) =
    ⊎_elim (λ (e : turn_of slots after ≡ 0). inl (ap (base_in slots) e))
    (λ (e : turn_of slots after ≡ 1). inr (ap (base_in slots) e)) passes.turn in
    let here : SameArea slots m after 0 = record {
      each = λ k low high.
          let x : k < 20 * slots = omega (arith, high) in let y : k < area_size slots = omega (arith, high) in
          c.close.ensures.elsewhere.same k (inl x) ∙ c.erase_and_copy.ensures.elsewhere.same k (inl y);
    } in
    let there : SameArea slots mid after (area_size slots) = record {
      each = λ k low high. let x : (20 * slots) + 2 ≤ k = omega (arith, low) in
          c.close.ensures.elsewhere.same k (inr x);
    } in
    let few = c.in_ok-next.ensures.room in
    free_by_turn pages slots m after 0 (area_size slots) c.in_ok-next.next n
    (ap (base_in slots) c.requires.turn) turns here
    (area_free slots mid after (area_size slots) there c.in_ok-next.next c.in_ok-next.ensures.free)
    (omega (arith, few, far))

pub returns-in_err-close-clause-keeps_room : goal.returns-in_err-close-clause-keeps_room
returns-in_err-close-clause-keeps_room g c =
    close_room g (goal.at.returns-in_err-close-clause-keeps_room g c).After-close

pub returns-clause-keeps_room : goal.returns-clause-keeps_room
returns-clause-keeps_room g c = close_room g (goal.at.returns-clause-keeps_room g c).After-close
