use Rattle.std.proofs.Common.{◌≡◌, ◌<◌, ◌≤◌, ◌+◌, ◌*◌, ◌∙◌, ℕ, List, Err, length, refl, inr, rules, ⊎_elim, arith}
use Rattle.std.specs.Prelude.{replicate}
use Rattle.std.proofs.Math.Logic.{⊎_map}
use Rattle.std.proofs.lemmas.List.{get_or-replicate}
use Rattle.nvm_board.specs.Facts.{Answered, address}
use Rattle.nvm_board.specs.laws.Sizes.{least_words}
use Rattle.undo_journal.specs.declared.layout.TheConstants.{JOURNAL, JOURNAL_END}
use Rattle.undo_journal.proofs.PairChanges.{answered_since, changes_page, data_same, gate_same, steady_then}
use Rattle.undo_journal.proofs.PairChanges.{wiped_more}
use Rattle.undo_journal.proofs.wiping.wipe_pairs.Goals as goal

abbrev zeros : List ℕ
zeros = replicate 16 0

pub returns-in_err-write-clause-data : goal.returns-in_err-write-clause-data
returns-in_err-write-clause-data g c =
    let m = (g.B.Board.facts c.args.board.now).words in
    let mid = (g.B.Board.facts c.loop-page.board).words in
    let after = (g.B.Board.facts c.write.new.self).words in
    let page = c.loop-page.page in
    let least = c.loop-page.invariant.least in
    let lt : page < 128 = omega (arith, c.loop-page-test.true) in
    let low : JOURNAL ≤ address page 0 = omega (arith, least) in
    let high : address page 0 + length zeros ≤ JOURNAL_END = omega (arith, lt) in
    data_same m after (changes_page m mid after zeros (address page 0) low high c.loop-page.invariant.others
    c.write.ensures.torn) c.requires

pub returns-in_err-write-clause-shut : goal.returns-in_err-write-clause-shut
returns-in_err-write-clause-shut g c =
    let m = (g.B.Board.facts c.args.board.now).words in
    let mid = (g.B.Board.facts c.loop-page.board).words in
    let after = (g.B.Board.facts c.write.new.self).words in
    let page = c.loop-page.page in
    let least = c.loop-page.invariant.least in
    let lt : page < 128 = omega (arith, c.loop-page-test.true) in
    let low : JOURNAL ≤ address page 0 = omega (arith, least) in
    let high : address page 0 + length zeros ≤ JOURNAL_END = omega (arith, lt) in
    gate_same m after (changes_page m mid after zeros (address page 0) low high c.loop-page.invariant.others
    c.write.ensures.torn) ∙ c.requires

pub returns-in_err-write-clause-writes : goal.returns-in_err-write-clause-writes
returns-in_err-write-clause-writes g c =
    let old = g.B.Board.facts c.loop-page.board in
    let new = g.B.Board.facts c.write.new.self in
    let was = c.loop-page.invariant.writes in
    let lt = c.loop-page-test.true in
    ⊎_elim
    (λ (same : new.writes ≡ old.writes). omega (arith, same, was, lt))
    (λ (more : new.writes ≡ old.writes + 1). omega (arith, more, was, lt))
    c.in_err-write.ensures.counted_err

pub loop-page-preserved : goal.loop-page-preserved
loop-page-preserved g c =
    let m = (g.B.Board.facts c.args.board.now).words in
    let mid = (g.B.Board.facts c.loop-page.board).words in
    let after = (g.B.Board.facts c.write.new.self).words in
    let page = c.loop-page.page in
    let was = c.loop-page.invariant in
    let least = was.least in
    let writes = was.writes in
    let counted = c.in_ok-write.ensures.counted in
    let lt : page < 128 = omega (arith, c.loop-page-test.true) in
    let low : JOURNAL ≤ address page 0 = omega (arith, least) in
    let high : address page 0 + length zeros ≤ JOURNAL_END = omega (arith, lt) in
    let words = least_words mid (g.met.B.Board.is_board c.loop-page.board).sized in
    let fits : address page 0 + length zeros ≤ length mid = omega (arith, lt, words) in
    record {
      others = changes_page m mid after zeros (address page 0) low high was.others c.write.ensures.torn;
      wiped = λ k from below.
          let before : k < address page 0 + length zeros = omega (arith, below) in
          wiped_more mid after zeros (address page 0) fits (λ j few. get_or-replicate 16 j 0 0 few)
          c.in_ok-write.ensures.done
          (λ i first past. was.wiped i first (let x : i < 16 * page = omega (arith, past) in x)) k from before;
      steady = inr (steady_then (g.B.Board.facts c.args.board.now) (g.B.Board.facts c.loop-page.board)
          (g.B.Board.facts c.write.new.self) (⊎_map (λ s. s.1) (λ s. s) was.steady)
          (c.in_ok-write.ensures.light.ok refl));
      least = omega (arith, least);
      compares = c.write.ensures.compares ∙ was.compares;
      matches = c.write.ensures.matches ∙ was.matches;
      writes = omega (arith, writes, counted);
    }

pub returns-clause-data : goal.returns-clause-data
returns-clause-data g c =
    let m = (g.B.Board.facts c.args.board.now).words in
    let after = (g.B.Board.facts c.loop-page.board).words in
    data_same m after c.loop-page.invariant.others c.requires

pub returns-in_err-write-clause-light : goal.returns-in_err-write-clause-light
returns-in_err-write-clause-light g c =
    let old = g.B.Board.facts c.args.board.now in
    let mid = g.B.Board.facts c.loop-page.board in
    let new = g.B.Board.facts c.write.new.self in
    let e = c.in_err-write.field-0.0 in
    let h : Answered {T = Unit {0}} old new (Err e) =
    answered_since (Unit {0}) old mid new e (⊎_map (λ s. s.1) (λ s. s) c.loop-page.invariant.steady)
    c.in_err-write.ensures.light in
    search (rules, h)

pub returns-clause-light : goal.returns-clause-light
returns-clause-light g c = ⊎_elim
    (λ same. let least = same.0 in let past = c.loop-page-test.false in absurd (omega (arith, least, past)))
    (λ steady. record { ok = λ h. steady; lost = λ h. absurd cc; fault = λ h. absurd cc })
    c.loop-page.invariant.steady
