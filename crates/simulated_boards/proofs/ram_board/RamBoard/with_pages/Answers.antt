use Rattle.std.proofs.Common.{◌≡◌, ◌≤◌, ◌<◌, ◌*◌, ◌^◌, ℕ, List, length, replicate, refl, ap, sym, subst, ◌∙◌, arith}
use Rattle.std.proofs.Math.ListN.{length-replicate}
use Rattle.std.proofs.lemmas.List.Elements.{All-replicate}
use Rattle.nvm_board.specs.declared.board.TheConstants.{PAGE_WORDS, SECRETS, COUNT_END}
use Rattle.nvm_board.specs.Facts.{Facts, AreWords, new_board}
use Rattle.simulated_boards.proofs.ram_board.RamBoard.with_pages.Goals as goal

-- the new words
words_are : (words : List ℕ) (a b pages : ℕ) → a ≡ PAGE_WORDS → b ≡ pages → words ≡ replicate (a * b) 0
    → words ≡ replicate (PAGE_WORDS * pages) 0
words_are words a b pages first second same =
    same ∙ ap (λ n. replicate {A = ℕ} (n * b) 0) first ∙ ap (λ n. replicate {A = ℕ} (PAGE_WORDS * n) 0) second

pub invariant_of-result : goal.invariant_of-result
invariant_of-result c =
    let same = words_are _ _ _ _ c.from.ensures c.from-2.ensures
    (c.in_ok-vec.ensures.items_if_clones_equal (λ y zero_copy. zero_copy)) in
    let zero_fits : 0 < 2 ^ 32 = omega arith in
    let spare : 0 ≤ COUNT_END = omega arith in
    let unspent : 0 < COUNT_END = omega arith in
    record {
      sized = ap (λ (l : List ℕ). length l) same ∙ length-replicate {A = ℕ} _ 0;
      least = c.requires.least;
      most = c.requires.most;
      words_fit = subst (λ (l : List ℕ). AreWords l) (sym same) (All-replicate (λ w. w < 2 ^ 32) _ 0 zero_fits);
      compares_counted = refl;
      matches_counted = refl;
      cuts_fit = spare;
      writes_fit = spare;
      compares_fit = All-replicate (λ n. n ≤ COUNT_END) SECRETS 0 spare;
      matches_fit = All-replicate (λ n. n ≤ COUNT_END) SECRETS 0 spare;
      may_go = λ lit. unspent;
    }

pub returns : goal.returns
returns c =
    let with_words : List ℕ → Facts = λ l. record (new_board c.args.pages) { words = l } in
    ap with_words (words_are _ _ _ _ c.from.ensures c.from-2.ensures
    (c.in_ok-vec.ensures.items_if_clones_equal (λ y zero_copy. zero_copy)))
