use Rattle.std.proofs.Common.{◌≡◌, ◌+◌, ◌*◌, ℕ, List, length, refl, inl, ap, ◌∙◌, arith, slice_index, slice_set}
use Rattle.std.proofs.Math.Logic.{⊎_map}
use Rattle.std.proofs.lemmas.Result.{on_ok_weaker}
use Rattle.undo_journal.specs.declared.layout.TheConstants.{JOURNAL}
use Rattle.undo_journal.specs.Undo.{pair_at}
use Rattle.nvm_board.specs.laws.Aims.{aims_kept, aims_stay, aims_then}
use Rattle.undo_journal.specs.laws.Exits.{none_ok}
use Rattle.undo_journal.specs.laws.LastWrites.{last_after, last_none}
use Rattle.undo_journal.proofs.Telling.{answered_err, answered_after, read_keeps, steady_then}
use Rattle.nvm_board.specs.laws.Sizes.{least_words}
use Rattle.undo_journal.proofs.journal.put_back.Goals as goal

-- what is written is the pair's earlier word, at its address
pair-put : (m near nearer : List ℕ) (i number at earlier : ℕ) → number ≡ JOURNAL + 2 * i → near ≡ m → nearer ≡ near
    → at ≡ slice_index m number → earlier ≡ slice_index near (number + 1)
    → slice_set nearer at earlier ≡ slice_set m (pair_at m i).address (pair_at m i).earlier
pair-put m near nearer i number at earlier place first second address word = cc

pub returns-in_err-at : goal.returns-in_err-at
returns-in_err-at g c =
    let told = c.in_err-at.ensures in
    record {
      done = none_ok _ _ _ c.from_residual.ensures.1;
      torn = inl told.words;
      light = answered_err _ _ _ _ c.from_residual.ensures.1 told.light;
      counted = none_ok _ _ _ c.from_residual.ensures.1;
      writes = record {
        writes = omega (arith, told.writes);
        more = omega (arith, told.writes);
        cut = aims_kept _ _ told.words told.cut;
        compares = told.compares;
        matches = told.matches;
      };
      between = last_none _ _ (read_keeps _ _ _ _ told);
    }

pub returns-in_err-earlier : goal.returns-in_err-earlier
returns-in_err-earlier g c =
    let first = c.in_ok-at.ensures in
    let second = c.in_err-earlier.ensures in
    record {
      done = none_ok _ _ _ c.from_residual-in_err-earlier.ensures.1;
      torn = inl (second.words ∙ first.words);
      light = answered_err _ _ _ _ c.from_residual-in_err-earlier.ensures.1
          (answered_after _ _ _ _ (first.light.ok refl) second.light);
      counted = none_ok _ _ _ c.from_residual-in_err-earlier.ensures.1;
      writes = record {
        writes = omega (arith, second.writes, first.writes);
        more = omega (arith, second.writes, first.writes);
        cut = aims_kept _ _ (second.words ∙ first.words) (aims_stay _ _ _ first.cut second.cut);
        compares = second.compares ∙ first.compares;
        matches = second.matches ∙ first.matches;
      };
      between = last_after _ _ _ (read_keeps _ _ _ _ first) (last_none _ _ (read_keeps _ _ _ _ second));
    }

pub returns : goal.returns
returns g c =
    let first = c.in_ok-at.ensures in
    let second = c.in_ok-earlier.ensures in
    let told = c.write_word.ensures in
    let put = pair-put _ _ _ c.args.i _ _ _ c.pair_address-pair.ensures first.words second.words first.word second.word
    in
    record {
      done = on_ok_weaker c.write_word.result (λ done. done ∙ put) told.done;
      torn = ⊎_map (λ old. old ∙ second.words ∙ first.words) (λ new. new ∙ put) told.torn;
      light = answered_after _ _ _ _ (steady_then _ _ _ (first.light.ok refl) (second.light.ok refl)) told.light;
      counted = on_ok_weaker c.write_word.result (λ one. omega (arith, one, second.writes, first.writes)) told.counted;
      writes = record {
        writes = omega (arith, told.writes.writes, second.writes, first.writes);
        more = omega (arith, told.writes.more, second.writes, first.writes);
        cut = aims_then _ _ _ (aims_kept _ _ (second.words ∙ first.words) (aims_stay _ _ _ first.cut second.cut))
            told.writes.cut;
        compares = told.writes.compares ∙ second.compares ∙ first.compares;
        matches = told.writes.matches ∙ second.matches ∙ first.matches;
      };
      between = last_after _ _ _ (read_keeps _ _ _ _ first)
          (last_after _ _ _ (read_keeps _ _ _ _ second) told.between);
    }

pub pair_address-pair-requires : goal.pair_address-pair-requires
pair_address-pair-requires g c = c.requires.inside

pub read-requires : goal.read-requires
read-requires g c =
    let memory = (g.met.B.Board.is_board c.args.board.now).sized in
    omega (arith, c.pair_address-pair.ensures, c.requires.inside, least_words _ memory)

pub overflow_add-pair : goal.overflow_add-pair
overflow_add-pair g c = omega (arith, c.pair_address-pair.ensures, c.requires.inside)

pub read-requires-2 : goal.read-requires-2
read-requires-2 g c =
    let memory = (g.met.B.Board.is_board c.read.new.self).sized in
    omega (arith, c.pair_address-pair.ensures, c.requires.inside, least_words _ memory)

pub overflow_cast-at : goal.overflow_cast-at
overflow_cast-at g c =
    let place : c.in_ok-at.at ≡ (pair_at (g.B.Board.facts c.args.board.now).words c.args.i).address =
    c.in_ok-at.ensures.word
    ∙ ap (λ (n : ℕ). slice_index (g.B.Board.facts c.args.board.now).words n) c.pair_address-pair.ensures in
    let memory = (g.met.B.Board.is_board c.args.board.now).sized in
    omega (arith, place, c.requires.place.1, memory.whole, memory.most)

pub write_word-requires : goal.write_word-requires
write_word-requires g c =
    let place : c.in_ok-at.at ≡ (pair_at (g.B.Board.facts c.args.board.now).words c.args.i).address =
    c.in_ok-at.ensures.word
    ∙ ap (λ (n : ℕ). slice_index (g.B.Board.facts c.args.board.now).words n) c.pair_address-pair.ensures in
    let same = c.in_ok-earlier.ensures.words ∙ c.in_ok-at.ensures.words in
    omega (arith, place, c.requires.place.1, ap (λ (l : List ℕ). length l) same)
