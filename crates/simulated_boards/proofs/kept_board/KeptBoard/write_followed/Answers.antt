use Rattle.std.proofs.Common.{◌≡◌, ◌+◌, ◌*◌, ℕ, false, length, refl, sym, ap, subst, arith, true≢false, ◌∙◌}
use Rattle.nvm_board.specs.BoardCalls.{Writes}
use Rattle.nvm_board.specs.Facts.{address}
use Rattle.nvm_board.specs.History.{and_run, run_in}
use Rattle.nvm_board.specs.laws.Sizes.{page_within}
use Rattle.nvm_board.specs.laws.Torn.{length-Torn}
use Rattle.simulated_boards.specs.Cut.{cut_facts}
use Rattle.simulated_boards.specs.declared.cut_board.CutBoard.{CutBoard}
use Rattle.simulated_boards.specs.laws.Counts.{cut_is_board}
use Rattle.simulated_boards.specs.Kept.{kept_log}
use Rattle.simulated_boards.specs.laws.Logging.{with_log, writes_logged}
use Rattle.simulated_boards.proofs.kept_board.KeptBoard.write_followed.Goals as goal

-- a write changes no number of words, so its run lies in the memory after it too
pub hand_on-requires-clause-within : goal.hand_on-requires-clause-within
hand_on-requires-clause-within g c =
    let old = c.args.self.now.cut in
    let page = page_within (cut_facts old).words c.args.page (cut_is_board old).sized c.requires.page in
    let run = c.requires.run in
    let size = length-Torn _ _ _ _ c.write-result.ensures.writes.torn in
    let pages = c.from-2.ensures in
    let first = c.from-3.ensures in
    let before = ap (λ (n : ℕ). n * c.from-2.result) c.from.ensures in
    omega (arith, page, run, size, before, pages, first)

pub returns-then-is_dark-clause-writes : goal.returns-then-is_dark-clause-writes
returns-then-is_dark-clause-writes g c =
    let b = c.args.self.now in
    let kept = kept_log g.F.Follower.log b in
    let at = address c.args.page c.args.first in
    writes_logged kept kept (cut_facts b.cut) (cut_facts c.write.new.self) (λ off. refl) at c.args.words.now
    c.write.result c.write.ensures.writes
    (λ lit. absurd (true≢false (sym c.if-is_dark.true ∙ c.is_dark.ensures ∙ lit)))

pub returns-clause-writes : goal.returns-clause-writes
returns-clause-writes g c =
    let b = c.args.self.now in
    let before = kept_log g.F.Follower.log b in
    let after = kept_log g.F.Follower.log c.hand_on.new.self in
    let old = cut_facts b.cut in
    let new = cut_facts c.write-result.new.self in
    let at = address c.args.page c.args.first in
    let run = c.args.words.now in
    let lit : old.dark ≡ false = sym c.is_dark.ensures ∙ c.if-is_dark.false in
    let place : c.from.result * c.from-2.result + c.from-3.result ≡ at =
    let pages = c.from-2.ensures in
    let first = c.from-3.ensures in
    let words = ap (λ (n : ℕ). n * c.from-2.result) c.from.ensures in
    omega (arith, words, pages, first) in
    subst
    (λ (cut : CutBoard). Writes at run (with_log before old) (with_log after (cut_facts cut)) c.write-result.result)
    (sym c.hand_on.ensures.cut)
    (writes_logged before after old new (λ off. absurd (true≢false (sym off ∙ lit))) at run c.write-result.result
    c.write-result.ensures.writes (λ on. c.hand_on.ensures.logged
    ∙ ap (λ (k : ℕ). and_run before (run_in new.words k (length run))) place))
