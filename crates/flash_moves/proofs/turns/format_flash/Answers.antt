use Rattle.std.proofs.Common.{◌≡◌, ◌≤◌, ◌+◌, ◌-◌, ℕ, slice_index, sym, ap, subst, ◌∙◌, arith}
use Rattle.std.specs.Prelude.{nat_eq, if◌then◌else◌}
use Rattle.flash_device.specs.laws.Marks.{blank_open}
use Rattle.flash_moves.specs.laws.Moving.{formatted_free, formatted_ring, formatted_turn, formatted_words}
use Rattle.flash_moves.specs.laws.Sparing.{spare_none}
use Rattle.flash_device.specs.FlashBlocks.{steps_of, witness_start}
use Rattle.flash_device.specs.FlashLogs.{base_in, turn_of, words_of}
use Rattle.flash_device.specs.PageTables.{AreFree}
use Rattle.flash_moves.proofs.turns.format_flash.Goals as goal

pub close-requires-clause-opened : goal.close-requires-clause-opened
close-requires-clause-opened g c =
    let slots = g.F.Flash.SLOTS in
    let m = (g.F.Flash.state c.erase_flash.new.flash).words in
    let all = c.in_ok-erase_flash.ensures.done in
    let at = witness_start slots in
    let here : at ≡ 0 + at = omega arith in
    let next : at + 1 ≡ 0 + (at + 1) = omega arith in
    blank_open m at (ap (λ (k : ℕ). slice_index m k) here ∙ all.each at (omega arith))
    (ap (λ (k : ℕ). slice_index m k) next ∙ all.each (at + 1) (omega arith))

pub returns-clause-ring : goal.returns-clause-ring
returns-clause-ring g c =
    let slots = g.F.Flash.SLOTS in
    let pages = g.F.Flash.PAGES in
    formatted_ring pages slots (g.F.Flash.state c.erase_flash.new.flash).words (g.F.Flash.state c.close.new.flash).words
    c.in_ok-erase_flash.ensures.done c.in_ok-close.ensures.done c.close.ensures.elsewhere

pub returns-clause-blank : goal.returns-clause-blank
returns-clause-blank g c =
    let slots = g.F.Flash.SLOTS in
    let pages = g.F.Flash.PAGES in
    formatted_words pages slots (g.F.Flash.state c.erase_flash.new.flash).words
    (g.F.Flash.state c.close.new.flash).words c.in_ok-erase_flash.ensures.done c.in_ok-close.ensures.done
    c.close.ensures.elsewhere

pub returns-clause-free : goal.returns-clause-free
returns-clause-free g c =
    let slots = g.F.Flash.SLOTS in
    let pages = g.F.Flash.PAGES in
    let blank = (g.F.Flash.state c.erase_flash.new.flash).words in
    let m = (g.F.Flash.state c.close.new.flash).words in
    let turn = formatted_turn pages slots blank m c.in_ok-erase_flash.ensures.done c.in_ok-close.ensures.done
    c.close.ensures.elsewhere in
    subst (λ (t : ℕ). AreFree m (base_in slots t) 0 slots) (sym turn)
    (formatted_free pages slots blank m c.in_ok-erase_flash.ensures.done c.in_ok-close.ensures.done
    c.close.ensures.elsewhere)

pub returns-clause-in_pace : goal.returns-clause-in_pace
returns-clause-in_pace g c = λ extra roomy.
    let slots = g.F.Flash.SLOTS in
    let pages = g.F.Flash.PAGES in
    let sectors = g.F.Flash.SECTORS in
    let fit = g.met.F.Flash.sectors_fit in
    let blank = (g.F.Flash.state c.erase_flash.new.flash).words in
    let m = (g.F.Flash.state c.close.new.flash).words in
    let turn = formatted_turn pages slots blank m c.in_ok-erase_flash.ensures.done c.in_ok-close.ensures.done
    c.close.ensures.elsewhere in
    record {
      erased = 0;
      copied = 0;
      behind = 0;
      older = 0;
      next = 0;
      spare = spare_none pages slots sectors g.F.Flash.sector_start g.met.F.Flash.sectors_rise fit.0 fit.1 fit.2 fit.4
          g.met.F.Flash.pages_fit.0 m (words_of pages slots m) (turn_of slots m);
      free = subst (λ (t : ℕ). AreFree m (base_in slots t) 0 slots) (sym turn)
          (formatted_free pages slots blank m c.in_ok-erase_flash.ensures.done c.in_ok-close.ensures.done
          c.close.ensures.elsewhere);
      room = subst (λ (t : ℕ). (if nat_eq t 1 then 1 else 0) + (sectors - 0) + (steps_of pages - 0) + 0 ≤ slots)
          (sym turn) (omega (arith, roomy));
      few = omega arith;
    }
