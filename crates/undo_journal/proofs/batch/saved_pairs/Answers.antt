use Rattle.std.proofs.Common.{◌≡◌, ◌<◌, ◌+◌, ◌++◌, ◌∷◌, [], ℕ, List, length, drop, get_or, slice_index, sym, ◌∙◌, ap}
use Rattle.std.proofs.Common.{ap₂, arith, refl, append_assoc, append-nil, subst}
use Rattle.std.proofs.lemmas.List.{drop_all, drop_more}
use Rattle.nvm_board.specs.laws.Aims.{aims_stay}
use Rattle.nvm_board.specs.laws.SteadyCalls.{answered_ok}
use Rattle.undo_journal.specs.declared.batch.Waiting.{Waiting}
use Rattle.undo_journal.specs.Batches.{AreSets}
use Rattle.undo_journal.specs.JournalParts.{pair_words}
use Rattle.undo_journal.specs.laws.Exits.{none_ok}
use Rattle.undo_journal.specs.laws.Calls.{boards_same}
use Rattle.undo_journal.proofs.Telling.{answered_after, answered_err, steady_same}
use Rattle.undo_journal.proofs.Telling.{steady_then}
use Rattle.undo_journal.proofs.Waits.{sets-lower}
use Rattle.undo_journal.proofs.batch.saved_pairs.Goals as goal

sets-next : (size : ℕ) (s : Waiting) (rest ps : List Waiting) → ps ≡ s ∷ rest → AreSets size 0 ps → AreSets size 0 rest
sets-next size s rest ps e h =
    let there : AreSets size 0 (s ∷ rest) = subst (λ (l : List Waiting). AreSets size 0 l) e h in
    sets-lower size 0 (s.at + 1) rest (omega arith) there.1

pub loop-set-preserved : goal.loop-set-preserved
loop-set-preserved g c =
    let ps = c.args.sets.now in
    let i = c.loop-set.set-index in
    let d : Waiting = record { at = 0; word = 0 } in
    let s = get_or ps i d in
    let m = (g.B.Board.facts c.args.board.now).words in
    let kept = c.loop-set.invariant in
    let lt : i < length ps = omega (arith, c.loop-set-test.true) in
    let next : drop i ps ≡ s ∷ drop (i + 1) ps = drop_more ps i d lt in
    let read = c.in_ok-earlier.ensures in
    let word : c.in_ok-earlier.earlier ≡ slice_index m s.at = read.word
    ∙ ap (λ (l : List ℕ). slice_index l s.at) kept.reads.words in
    let pushed : c.push-in-loop-set.new.self.items ≡ c.loop-set.words.items ++ s.at ∷ slice_index m s.at ∷ [] =
    c.push-in-loop-set.ensures.items
    ∙ ap₂ (λ (l : List ℕ) (w : ℕ). l ++ w ∷ []) c.push.ensures.items word
    ∙ append_assoc c.loop-set.words.items (c.from.result ∷ []) (slice_index m s.at ∷ [])
    ∙ ap (λ (a : ℕ). c.loop-set.words.items ++ a ∷ slice_index m s.at ∷ []) c.from.ensures in
    record {
      steady = steady_then _ _ _ kept.steady (read.light.ok refl);
      reads = record {
        cut = aims_stay _ _ _ kept.reads.cut read.cut;
        words = read.words ∙ kept.reads.words;
        writes = read.writes ∙ kept.reads.writes;
        compares = read.compares ∙ kept.reads.compares;
        matches = read.matches ∙ kept.reads.matches;
      };
      sets = sets-next (length m) s (drop (i + 1) ps) (drop i ps) next kept.sets;
      count = omega (arith, c.push-in-loop-set.ensures.len, c.push.ensures.len, kept.count);
      so_far = ap (λ (l : List ℕ). l ++ pair_words m (drop (i + 1) ps)) pushed
          ∙ append_assoc c.loop-set.words.items (s.at ∷ slice_index m s.at ∷ []) (pair_words m (drop (i + 1) ps))
          ∙ ap (λ (l : List Waiting). c.loop-set.words.items ++ pair_words m l) (sym next)
          ∙ kept.so_far;
    }

pub returns-in_err-earlier-clause-words : goal.returns-in_err-earlier-clause-words
returns-in_err-earlier-clause-words g c = none_ok _ _ _ c.from_residual.ensures.1

pub returns-in_err-earlier-clause-light : goal.returns-in_err-earlier-clause-light
returns-in_err-earlier-clause-light g c =
    answered_err _ _ _ _ c.from_residual.ensures.1
    (answered_after _ _ _ _ c.loop-set.invariant.steady c.in_err-earlier.ensures.light)

pub returns-in_err-earlier-clause-reads : goal.returns-in_err-earlier-clause-reads
returns-in_err-earlier-clause-reads g c =
    let kept = c.loop-set.invariant.reads in
    let read = c.in_err-earlier.ensures in
    record {
      cut = aims_stay _ _ _ kept.cut read.cut;
      words = read.words ∙ kept.words;
      writes = read.writes ∙ kept.writes;
      compares = read.compares ∙ kept.compares;
      matches = read.matches ∙ kept.matches;
    }

pub returns-clause-light : goal.returns-clause-light
returns-clause-light g c = answered_ok _ _ _ c.loop-set.invariant.steady

pub returns-clause-reads : goal.returns-clause-reads
returns-clause-reads g c = c.loop-set.invariant.reads

pub loop-set-init : goal.loop-set-init
loop-set-init g c =
    let m = (g.B.Board.facts c.args.board.now).words in
    let empty = c.new-words.ensures in
    record {
      steady = steady_same _ c.requires.lit;
      reads = boards_same _;
      sets = c.requires.sets;
      count = ap (λ (l : List ℕ). length l) empty;
      so_far = ap (λ (l : List ℕ). l ++ pair_words m c.args.sets.now) empty;
    }

pub read-requires : goal.read-requires
read-requires g c =
    let ps = c.args.sets.now in
    let i = c.loop-set.set-index in
    let d : Waiting = record { at = 0; word = 0 } in
    let size = length (g.B.Board.facts c.args.board.now).words in
    let kept = c.loop-set.invariant in
    let next : drop i ps ≡ get_or ps i d ∷ drop (i + 1) ps = drop_more ps i d c.loop-set-test.true in
    let there : AreSets size 0 (get_or ps i d ∷ drop (i + 1) ps) =
    subst (λ (l : List Waiting). AreSets size 0 l) next kept.sets in
    omega (arith, there.0.within, ap (λ (l : List ℕ). length l) kept.reads.words)

pub push-requires : goal.push-requires
push-requires g c = omega (arith, c.loop-set.invariant.count, c.loop-set-test.true, c.requires.few)

pub push-requires-in-loop-set : goal.push-requires-in-loop-set
push-requires-in-loop-set g c =
    omega (arith, c.push.ensures.len, c.loop-set.invariant.count, c.loop-set-test.true, c.requires.few)

pub returns-clause-words : goal.returns-clause-words
returns-clause-words g c =
    let m = (g.B.Board.facts c.args.board.now).words in
    let words = c.loop-set.words.items in
    let rest = drop_all c.loop-set.set-index c.args.sets.now c.loop-set-test.false in
    sym (append-nil words) ∙ ap (λ (l : List Waiting). words ++ pair_words m l) (sym rest)
    ∙ c.loop-set.invariant.so_far
