use Rattle.std.proofs.Common.{refl, ◌∙◌, arith}
use Rattle.nvm_board.specs.laws.Sizes.{least_words}
use Rattle.undo_journal.specs.laws.Calls.{boards_then, boards_same}
use Rattle.undo_journal.proofs.Telling.{answered_err, answered_after, read_keeps, steady_same}
use Rattle.undo_journal.proofs.Telling.{steady_then}
use Rattle.nvm_board.specs.laws.Aims.{aims_stay}
use Rattle.nvm_board.specs.laws.SteadyCalls.{answered_ok}
use Rattle.undo_journal.specs.laws.Exits.{none_ok}
use Rattle.undo_journal.proofs.journal.names_data_words.Goals as goal

pub returns-in_err-at-clause-light : goal.returns-in_err-at-clause-light
returns-in_err-at-clause-light g c =
    answered_err _ _ _ _ c.from_residual.ensures.1
    (answered_after _ _ _ _ c.loop-i.invariant.steady c.in_err-at.ensures.light)

pub returns-then-not-is_data_address-clause-light : goal.returns-then-not-is_data_address-clause-light
returns-then-not-is_data_address-clause-light g c =
    answered_ok _ _ _ (steady_then _ _ _ c.loop-i.invariant.steady (c.in_ok-at.ensures.light.ok refl))

pub returns-clause-light : goal.returns-clause-light
returns-clause-light g c = answered_ok _ _ _ c.loop-i.invariant.steady

pub returns-in_err-at-clause-named : goal.returns-in_err-at-clause-named
returns-in_err-at-clause-named g c = none_ok _ _ _ c.from_residual.ensures.1

pub returns-clause-reads : goal.returns-clause-reads
returns-clause-reads g c = c.loop-i.invariant.reads

pub returns-in_err-at-clause-reads : goal.returns-in_err-at-clause-reads
returns-in_err-at-clause-reads g c =
    let kept = c.loop-i.invariant.reads in
    let read = c.in_err-at.ensures in
    record {
      cut = aims_stay _ _ _ kept.cut read.cut;
      words = read.words ∙ kept.words;
      writes = read.writes ∙ kept.writes;
      compares = read.compares ∙ kept.compares;
      matches = read.matches ∙ kept.matches;
    }

pub loop-i-init : goal.loop-i-init
loop-i-init g c = record {
  steady = steady_same _ c.requires.lit;
  reads = boards_same _;
  named = λ k lt. absurd (omega (arith, lt));
}

pub pair_address-requires : goal.pair_address-requires
pair_address-requires g c = omega arith

pub read-requires : goal.read-requires
read-requires g c =
    let memory = (g.met.B.Board.is_board c.loop-i.board).sized in
    omega (arith, c.pair_address.ensures, c.loop-i-test.true, c.requires.room, least_words _ memory)

pub is_data_address-requires : goal.is_data_address-requires
is_data_address-requires g c =
    let memory = (g.met.B.Board.is_board c.args.board.now).sized in
    omega (arith, c.word_count-words.ensures, least_words _ memory)

pub returns-then-not-is_data_address-clause-reads : goal.returns-then-not-is_data_address-clause-reads
returns-then-not-is_data_address-clause-reads g c =
    boards_then _ _ _ c.loop-i.invariant.reads (read_keeps _ _ _ _ c.read.ensures)
