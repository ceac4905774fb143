use Rattle.std.proofs.Common.{◌≡◌, ◌≤◌, true, false, refl, sym, arith}
use Rattle.undo_journal.specs.declared.layout.TheConstants.{PAIRS}
use Rattle.undo_journal.proofs.Saving.{sound-named, named-sound}
use Rattle.undo_journal.proofs.Telling.{answered_err, answered_after, read_keeps, steady_then}
use Rattle.nvm_board.specs.laws.Sizes.{least_words}
use Rattle.nvm_board.specs.laws.SteadyCalls.{answered_ok}
use Rattle.undo_journal.specs.laws.Calls.{boards_then}
use Rattle.undo_journal.specs.laws.Exits.{none_ok}
use Rattle.undo_journal.proofs.journal.sound_pairs.Goals as goal

pub returns-then-sound-clause-sound : goal.returns-then-sound-clause-sound
returns-then-sound-clause-sound g c =
    let read = c.in_ok-count.ensures in
    let room : c.in_ok-count.count ≤ PAIRS = omega arith in
    let named = c.in_ok-sound.ensures.named.0 c.if-sound.true in
    (sound-named _ _ c.in_ok-count.count read.words read.word room named, sym read.word)

pub returns-else-sound-clause-sound : goal.returns-else-sound-clause-sound
returns-else-sound-clause-sound g c =
    λ sound.
    let read = c.in_ok-count.ensures in
    let good : c.in_ok-sound.sound ≡ true =
    c.in_ok-sound.ensures.named.1 (named-sound _ _ c.in_ok-count.count read.words read.word sound) in
    let bad : c.in_ok-sound.sound ≡ false = c.if-sound.false in
    cc

pub returns-in_err-count-clause-light : goal.returns-in_err-count-clause-light
returns-in_err-count-clause-light g c =
    answered_err _ _ _ _ c.from_residual.ensures.1 c.in_err-count.ensures.light

pub returns-in_err-sound-clause-light : goal.returns-in_err-sound-clause-light
returns-in_err-sound-clause-light g c =
    answered_err _ _ _ _ c.from_residual-in_err-sound.ensures.1
    (answered_after _ _ _ _ (c.in_ok-count.ensures.light.ok refl) c.in_err-sound.ensures.light)

pub returns-then-count-from-clause-light : goal.returns-then-count-from-clause-light
returns-then-count-from-clause-light g c =
    answered_ok _ _ _ (c.in_ok-count.ensures.light.ok refl)

pub returns-then-sound-clause-light : goal.returns-then-sound-clause-light
returns-then-sound-clause-light g c =
    answered_ok _ _ _ (steady_then _ _ _ (c.in_ok-count.ensures.light.ok refl) (c.in_ok-sound.ensures.light.ok refl))

pub returns-else-sound-clause-light : goal.returns-else-sound-clause-light
returns-else-sound-clause-light g c =
    answered_ok _ _ _ (steady_then _ _ _ (c.in_ok-count.ensures.light.ok refl) (c.in_ok-sound.ensures.light.ok refl))

pub returns-in_err-count-clause-sound : goal.returns-in_err-count-clause-sound
returns-in_err-count-clause-sound g c = none_ok _ _ _ c.from_residual.ensures.1

pub returns-in_err-sound-clause-sound : goal.returns-in_err-sound-clause-sound
returns-in_err-sound-clause-sound g c = none_ok _ _ _ c.from_residual-in_err-sound.ensures.1

pub read-requires : goal.read-requires
read-requires g c =
    omega (arith, least_words _ (g.met.B.Board.is_board c.args.board.now).sized)

pub returns-in_err-count-clause-reads : goal.returns-in_err-count-clause-reads
returns-in_err-count-clause-reads g c = read_keeps _ _ _ _ c.read.ensures

pub returns-then-count-from-clause-reads : goal.returns-then-count-from-clause-reads
returns-then-count-from-clause-reads g c = read_keeps _ _ _ _ c.read.ensures

pub returns-in_err-sound-clause-reads : goal.returns-in_err-sound-clause-reads
returns-in_err-sound-clause-reads g c =
    boards_then _ _ _ (read_keeps _ _ _ _ c.read.ensures) c.names_data_words.ensures.reads

pub returns-then-sound-clause-reads : goal.returns-then-sound-clause-reads
returns-then-sound-clause-reads g c =
    boards_then _ _ _ (read_keeps _ _ _ _ c.read.ensures) c.names_data_words.ensures.reads

pub returns-else-sound-clause-reads : goal.returns-else-sound-clause-reads
returns-else-sound-clause-reads g c =
    boards_then _ _ _ (read_keeps _ _ _ _ c.read.ensures) c.names_data_words.ensures.reads

pub returns-then-count-from-clause-sound : goal.returns-then-count-from-clause-sound
returns-then-count-from-clause-sound g c = λ sound.
    let more = sound.room in let word = c.in_ok-count.ensures.word in omega (arith, more, word)

pub overflow_cast-count : goal.overflow_cast-count
overflow_cast-count g c = omega arith

pub names_data_words-requires-clause-lit : goal.names_data_words-requires-clause-lit
names_data_words-requires-clause-lit g c = (c.in_ok-count.ensures.light.ok refl).lit

pub names_data_words-requires-clause-room : goal.names_data_words-requires-clause-room
names_data_words-requires-clause-room g c = omega arith
