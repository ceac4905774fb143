use Rattle.std.proofs.Common.{◌≡◌, ◌≤◌, ◌+◌, ◌∙◌, List, ℕ, length, subst, arith, rules}
use Rattle.nvm_board.specs.Facts.{address}
use Rattle.nvm_board.specs.laws.Sizes.{least_words}
use Rattle.undo_journal.specs.ClearingParts.{AreClearedWords}
use Rattle.undo_journal.proofs.PairPages.{changes_earlier, clear_written}
use Rattle.undo_journal.proofs.wiping.clear_page.Goals as goal

pub returns-in_err-write-clause-changes : goal.returns-in_err-write-clause-changes
returns-in_err-write-clause-changes g c =
    let m = (g.B.Board.facts c.args.board.now).words in
    let mid = (g.B.Board.facts c.cleared_words.new.board).words in
    let after = (g.B.Board.facts c.write.new.self).words in
    let run = c.in_ok-words.words in
    let page = c.args.page in
    let high = c.requires.page.1 in
    let least = least_words mid (g.met.B.Board.is_board c.cleared_words.new.board).sized in
    let cleared : AreClearedWords page m run =
    subst (λ (x : List ℕ). AreClearedWords page x run) c.is_clear.ensures.reads.words c.in_ok-words.ensures.words in
    let size : length run ≡ 16 = search rules in
    let fits : address page 0 + length run ≤ length mid = omega (arith, high, least, size) in
    let same : mid ≡ m = c.cleared_words.ensures.reads.words ∙ c.is_clear.ensures.reads.words in
    changes_earlier m mid run after page same size fits cleared c.write.ensures.torn

pub returns-clause-changes : goal.returns-clause-changes
returns-clause-changes g c =
    let m = (g.B.Board.facts c.args.board.now).words in
    let mid = (g.B.Board.facts c.cleared_words.new.board).words in
    let after = (g.B.Board.facts c.write.new.self).words in
    let run = c.in_ok-words.words in
    let page = c.args.page in
    let high = c.requires.page.1 in
    let least = least_words mid (g.met.B.Board.is_board c.cleared_words.new.board).sized in
    let cleared : AreClearedWords page m run =
    subst (λ (x : List ℕ). AreClearedWords page x run) c.is_clear.ensures.reads.words c.in_ok-words.ensures.words in
    let size : length run ≡ 16 = search rules in
    let fits : address page 0 + length run ≤ length mid = omega (arith, high, least, size) in
    let same : mid ≡ m = c.cleared_words.ensures.reads.words ∙ c.is_clear.ensures.reads.words in
    changes_earlier m mid run after page same size fits cleared c.write.ensures.torn

pub returns-clause-clear : goal.returns-clause-clear
returns-clause-clear g c =
    let m = (g.B.Board.facts c.args.board.now).words in
    let mid = (g.B.Board.facts c.cleared_words.new.board).words in
    let after = (g.B.Board.facts c.write.new.self).words in
    let run = c.in_ok-words.words in
    let page = c.args.page in
    let high = c.requires.page.1 in
    let least = least_words mid (g.met.B.Board.is_board c.cleared_words.new.board).sized in
    let cleared : AreClearedWords page m run =
    subst (λ (x : List ℕ). AreClearedWords page x run) c.is_clear.ensures.reads.words c.in_ok-words.ensures.words in
    let size : length run ≡ 16 = search rules in
    let fits : address page 0 + length run ≤ length mid = omega (arith, high, least, size) in
    clear_written m mid run after page size fits cleared c.in_ok-write.ensures.done
