use Rattle.std.proofs.Common.{◌≡◌, ◌+◌, ◌∙◌, ℕ, suc, List, slice_index, sym, ap, arith, true≢false}
use Rattle.std.proofs.lemmas.Bool.{eq-eqb}
use Rattle.flash_device.specs.FlashLogs.{base_in, slot_of}
use Rattle.flash_log.specs.laws.Renewing.{held_number}
use Rattle.flash_log.proofs.renewal.is_clean.Goals as goal
use Rattle.flash_log.proofs.renewal.is_clean.Goals.{then-number-from-via-then-number-from}
use Rattle.flash_log.proofs.renewal.is_clean.Goals.{then-number-from-via-else-number-from+then-unused-ne0}

pub returns-then-number-from-clause-unclean : goal.returns-then-number-from-clause-unclean
returns-then-number-from-clause-unclean g c = λ e held.
    let slots = g.F.Flash.SLOTS in
    let pages = g.F.Flash.PAGES in
    let m = (g.F.Flash.state c.args.flash.now).words in
    let base = base_in slots c.args.area in
    let at = c.slot_at-at.ensures.is in
    let number : c.in_ok-number.number ≡ slice_index m (slot_of base c.args.slot + 16) =
    c.in_ok-number.ensures.word ∙ ap (λ (l : List ℕ). slice_index l (c.slot_at-at.result + 16)) c.is_blank.ensures.words
    ∙ ap (λ (k : ℕ). slice_index m (k + 16)) at in
    let is : c.in_ok-number.number ≡ held.page = number ∙ held_number pages slots m base c.args.slot held in
    let count = c.from.ensures in
    let below = held.below in
    elim c.then-number-from.branch [
      | then-number-from-via-then-number-from w ↦
          let far = w.if-number-from.true in absurd (omega (arith, far, count, is, below))
      | then-number-from-via-else-number-from+then-unused-ne0 w ↦
          let unused : c.in_ok-unused.unused ≡ slice_index m (slot_of base c.args.slot + 17) =
          c.in_ok-unused.ensures.word ∙ ap (λ (l : List ℕ). slice_index l (c.slot_at-at.result + 17))
          (c.read.ensures.words ∙ c.is_blank.ensures.words) ∙ ap (λ (k : ℕ). slice_index m (k + 17)) at in
          absurd (w.if-unused-ne0.true (unused ∙ held.unused))
    ]

pub returns-clause-unclean : goal.returns-clause-unclean
returns-clause-unclean g c = λ e held.
    let slots = g.F.Flash.SLOTS in
    let pages = g.F.Flash.PAGES in
    let m = (g.F.Flash.state c.args.flash.now).words in
    let base = base_in slots c.args.area in
    let at = c.slot_at-at.ensures.is in
    let number : c.in_ok-number.number ≡ slice_index m (slot_of base c.args.slot + 16) =
    c.in_ok-number.ensures.word ∙ ap (λ (l : List ℕ). slice_index l (c.slot_at-at.result + 16)) c.is_blank.ensures.words
    ∙ ap (λ (k : ℕ). slice_index m (k + 16)) at in
    let is : c.in_ok-number.number ≡ held.page = number ∙ held_number pages slots m base c.args.slot held in
    let table = g.F.Table.PageTable.entries c.args.table.now in
    let entry : c.entry.result ≡ c.args.slot + 1 =
    let one : suc c.args.slot ≡ c.args.slot + 1 = omega arith in
    c.entry.ensures ∙ ap (λ (k : ℕ). slice_index table k) is ∙ c.requires.index.each held.page held.below ∙ held.found
    ∙ one in
    true≢false (sym (eq-eqb _ _ entry) ∙ e)
