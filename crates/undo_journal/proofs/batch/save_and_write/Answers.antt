use Rattle.std.proofs.Common.{◌+◌, ◌*◌, ℕ, List, length, inl, inr, sym, ◌∙◌, ap, arith, refl, subst}
use Rattle.std.proofs.Math.ListN.{length-set}
use Rattle.nvm_board.specs.laws.Torn.{length-written}
use Rattle.undo_journal.specs.Batches.{AreSets, runs_from}
use Rattle.std.proofs.lemmas.Result.{on_ok_weaker}
use Rattle.undo_journal.proofs.Pairs.{length-pair_words}
use Rattle.undo_journal.proofs.Saving.{pairs-torn, pairs-sound, gate-torn, gate-sound, gate-committed}
use Rattle.undo_journal.proofs.Saving.{named-raised, current-raised}
use Rattle.undo_journal.specs.laws.Joining.{writes-some}
use Rattle.std.specs.Prelude.{◌≤◌}
use Rattle.nvm_board.specs.Facts.{IsMemory}
use Rattle.std.proofs.Common.{◌<◌, ◌≡◌, ⊎_elim, get_or-set_same, slice_set}
use Rattle.undo_journal.specs.Undo.{gate, data_words, undo, IsSound}
use Rattle.undo_journal.specs.laws.Calls.{keeping_spends, spends_after, within_more}
use Rattle.undo_journal.specs.laws.Exits.{none_ok}
use Rattle.undo_journal.specs.laws.LastWrites.{last_after, last_none, last_then}
use Rattle.undo_journal.specs.laws.Memory.{writes_then}
use Rattle.undo_journal.proofs.Telling.{answered_after, answered_err, steady_then}
use Rattle.nvm_board.specs.laws.Sizes.{least_words}
use Rattle.undo_journal.specs.declared.layout.TheConstants.{GATE, JOURNAL, JOURNAL_END}
use Rattle.undo_journal.proofs.batch.save_and_write.Given.{Over}
use Rattle.undo_journal.proofs.batch.save_and_write.Goals as goal

-- the journal lies in the memory
journal_within : (m : List ℕ) → IsMemory m → JOURNAL_END ≤ length m
journal_within m memory = omega (arith, least_words m memory)

pub write_pairs-requires-clause-some : goal.write_pairs-requires-clause-some
write_pairs-requires-clause-some g c =
    let m = (g.B.Board.facts c.args.board.now).words in
    let run = ap (λ (l : List ℕ). length l) (c.deref.ensures.0 ∙ c.in_ok-pairs.ensures.words) in
    omega (arith, run, length-pair_words m c.args.sets.now, c.requires.some)

pub returns-in_err-write_pairs-clause-kept : goal.returns-in_err-write_pairs-clause-kept
returns-in_err-write_pairs-clause-kept g c =
    let r = c.requires in
    sym (pairs-torn _ _ _ c.args.sets.now
    _ c.in_ok-pairs.ensures.reads.words (c.deref.ensures.0 ∙ c.in_ok-pairs.ensures.words) r.sound r.counts r.room r.sets
    (journal_within _ (g.met.B.Board.is_board _).sized) _ c.in_err-write_pairs.ensures.torn).committed

pub returns-in_err-write_pairs-clause-sound : goal.returns-in_err-write_pairs-clause-sound
returns-in_err-write_pairs-clause-sound g c =
    let r = c.requires in
    pairs-sound _
    _ _ c.args.sets.now _ c.in_ok-pairs.ensures.reads.words (c.deref.ensures.0 ∙ c.in_ok-pairs.ensures.words)
    r.sound r.counts r.room r.sets (journal_within _ (g.met.B.Board.is_board _).sized) _
    c.in_err-write_pairs.ensures.torn

pub returns-in_err-write_gate-clause-kept : goal.returns-in_err-write_gate-clause-kept
returns-in_err-write_gate-clause-kept g c =
    let r = c.requires in
    gate-torn _ _ _ c.args.sets.now
    _ c.in_ok-pairs.ensures.reads.words (c.deref.ensures.0 ∙ c.in_ok-pairs.ensures.words) r.sound r.counts r.room r.sets
    (journal_within _ (g.met.B.Board.is_board _).sized) _ c.in_ok-write_pairs.ensures.done _
    c.in_err-write_gate.ensures.torn

pub returns-in_err-write_gate-clause-sound : goal.returns-in_err-write_gate-clause-sound
returns-in_err-write_gate-clause-sound g c =
    let r = c.requires in
    gate-sound _ _ _ c.args.sets.now
    _ c.in_ok-pairs.ensures.reads.words (c.deref.ensures.0 ∙ c.in_ok-pairs.ensures.words) r.sound r.counts r.room r.sets
    (journal_within _ (g.met.B.Board.is_board _).sized) _ c.in_ok-write_pairs.ensures.done _
    c.in_err-write_gate.ensures.torn

pub returns-in_err-write_pairs-clause-turned : goal.returns-in_err-write_pairs-clause-turned
returns-in_err-write_pairs-clause-turned g c =
    let r = c.requires in
    let same = (pairs-torn _ _ _ c.args.sets.now
    _ c.in_ok-pairs.ensures.reads.words (c.deref.ensures.0 ∙ c.in_ok-pairs.ensures.words) r.sound r.counts r.room r.sets
    (journal_within _ (g.met.B.Board.is_board _).sized) _ c.in_err-write_pairs.ensures.torn).gates in
    let counts = r.counts in
    let one = c.in_err-write_pairs.ensures.writes.writes in
    let none = c.in_ok-pairs.ensures.reads.writes in
    λ shut. (omega (arith, shut, same, counts), omega (arith, one, none))

pub returns-in_err-write_gate-clause-turned : goal.returns-in_err-write_gate-clause-turned
returns-in_err-write_gate-clause-turned g c =
    let r = c.requires in
    let p = (g.B.Board.facts c.write_pairs.new.board).words in
    let n = (g.B.Board.facts c.write_gate.new.board).words in
    let same = (pairs-torn _ _ _ c.args.sets.now
    _ c.in_ok-pairs.ensures.reads.words (c.deref.ensures.0 ∙ c.in_ok-pairs.ensures.words) r.sound r.counts r.room r.sets
    (journal_within _ (g.met.B.Board.is_board _).sized) _ c.in_ok-write_pairs.ensures.torn).gates in
    let counts = r.counts in
    let some = r.some in
    let board = g.met.B.Board.is_board c.write_pairs.new.board in
    let within : GATE < length p = omega (arith, least_words _ board.sized) in
    let two = c.in_err-write_gate.ensures.writes.writes in
    let one = c.in_ok-write_pairs.ensures.counted in
    let none = c.in_ok-pairs.ensures.reads.writes in
    λ shut. ⊎_elim
    (λ (old : n ≡ p). let is = ap gate old in (omega (arith, shut, is, same, counts), omega (arith, two, one, none)))
    (λ (new : n ≡ slice_set p GATE (c.args.used + length c.args.sets.now)).
    let is : gate n ≡ c.args.used + length c.args.sets.now = ap gate new ∙ get_or-set_same p GATE _ 0 within in
    absurd (omega (arith, shut, is, some)))
    c.in_err-write_gate.ensures.torn

pub write_words-requires-clause-sound : goal.write_words-requires-clause-sound
write_words-requires-clause-sound g c =
    let r = c.requires in
    gate-sound _ _ _ c.args.sets.now _ c.in_ok-pairs.ensures.reads.words (c.deref.ensures.0
    ∙ c.in_ok-pairs.ensures.words) r.sound r.counts r.room r.sets (journal_within _ (g.met.B.Board.is_board _).sized) _
    c.in_ok-write_pairs.ensures.done _ (inr c.in_ok-write_gate.ensures.done)

pub write_words-requires-clause-named : goal.write_words-requires-clause-named
write_words-requires-clause-named g c =
    let r = c.requires in
    named-raised _ _ _ c.args.sets.now
    _ c.in_ok-pairs.ensures.reads.words (c.deref.ensures.0 ∙ c.in_ok-pairs.ensures.words) r.sound r.counts r.room r.sets
    (journal_within _ (g.met.B.Board.is_board _).sized) _ c.in_ok-write_pairs.ensures.done _
    c.in_ok-write_gate.ensures.done

pub returns-clause-kept : goal.returns-clause-kept
returns-clause-kept g c =
    let r = c.requires in
    c.write_words.ensures.kept
    ∙ gate-torn _ _ _ c.args.sets.now _ c.in_ok-pairs.ensures.reads.words (c.deref.ensures.0
    ∙ c.in_ok-pairs.ensures.words) r.sound r.counts r.room r.sets (journal_within _ (g.met.B.Board.is_board _).sized) _
    c.in_ok-write_pairs.ensures.done _ (inr c.in_ok-write_gate.ensures.done)

pub returns-clause-done : goal.returns-clause-done
returns-clause-done g c =
    let r = c.requires in
    on_ok_weaker c.write_words.result
    (λ done. current-raised _ _ _ c.args.sets.now _ c.in_ok-pairs.ensures.reads.words
    (c.deref.ensures.0 ∙ c.in_ok-pairs.ensures.words) r.sound r.counts r.room r.sets
    (journal_within _ (g.met.B.Board.is_board _).sized) _ c.in_ok-write_pairs.ensures.done _
    c.in_ok-write_gate.ensures.done
    _ done) c.write_words.ensures.done

pub returns-clause-counted : goal.returns-clause-counted
returns-clause-counted g c =
    let some = writes-some c.args.sets.now c.requires.some in
    on_ok_weaker c.write_words.result (λ runs.
    omega (
      arith,
      runs,
      some,
      c.in_ok-write_gate.ensures.counted,
      c.in_ok-write_pairs.ensures.counted,
      c.in_ok-pairs.ensures.reads.writes,
    )) c.write_words.ensures.counted

pub write_words-requires-clause-sets : goal.write_words-requires-clause-sets
write_words-requires-clause-sets g c =
    let m = (g.B.Board.facts c.args.board.now).words in
    let count : List ℕ → ℕ = λ l. length l in
    let read = (g.B.Board.facts c.saved_pairs.new.board).words in
    let paired = (g.B.Board.facts c.write_pairs.new.board).words in
    let size : length (g.B.Board.facts c.write_gate.new.board).words ≡ length m =
    ap count c.in_ok-write_gate.ensures.done ∙ length-set paired GATE _ ∙ ap count c.in_ok-write_pairs.ensures.done
    ∙ length-written read c.deref.result.now (JOURNAL + 2 * c.args.used) ∙ ap count c.in_ok-pairs.ensures.reads.words in
    subst (λ (n : ℕ). AreSets n 0 c.args.sets.now) (sym size) c.requires.sets

pub returns-in_err-pairs-clause-done : goal.returns-in_err-pairs-clause-done
returns-in_err-pairs-clause-done g c = none_ok _ _ _ c.from_residual.ensures.1

pub returns-in_err-pairs-clause-counts : goal.returns-in_err-pairs-clause-counts
returns-in_err-pairs-clause-counts g c = none_ok _ _ _ c.from_residual.ensures.1

pub returns-in_err-pairs-clause-counted : goal.returns-in_err-pairs-clause-counted
returns-in_err-pairs-clause-counted g c = none_ok _ _ _ c.from_residual.ensures.1

pub returns-in_err-pairs-clause-kept : goal.returns-in_err-pairs-clause-kept
returns-in_err-pairs-clause-kept g c =
    ap (λ (m : List ℕ). data_words (undo m)) c.in_err-pairs.ensures.reads.words

pub returns-in_err-pairs-clause-sound : goal.returns-in_err-pairs-clause-sound
returns-in_err-pairs-clause-sound g c = subst IsSound (sym c.in_err-pairs.ensures.reads.words) c.requires.sound

pub returns-in_err-pairs-clause-light : goal.returns-in_err-pairs-clause-light
returns-in_err-pairs-clause-light g c =
    answered_err _ _ _ _ c.from_residual.ensures.1 c.in_err-pairs.ensures.light

pub returns-in_err-pairs-clause-writes : goal.returns-in_err-pairs-clause-writes
returns-in_err-pairs-clause-writes g c = keeping_spends _ _ _ c.in_err-pairs.ensures.reads

pub returns-in_err-write_pairs-clause-done : goal.returns-in_err-write_pairs-clause-done
returns-in_err-write_pairs-clause-done g c = none_ok _ _ _ c.from_residual-in_err-write_pairs.ensures.1

pub returns-in_err-write_pairs-clause-counts : goal.returns-in_err-write_pairs-clause-counts
returns-in_err-write_pairs-clause-counts g c = none_ok _ _ _ c.from_residual-in_err-write_pairs.ensures.1

pub returns-in_err-write_pairs-clause-counted : goal.returns-in_err-write_pairs-clause-counted
returns-in_err-write_pairs-clause-counted g c = none_ok _ _ _ c.from_residual-in_err-write_pairs.ensures.1

pub returns-in_err-write_pairs-clause-light : goal.returns-in_err-write_pairs-clause-light
returns-in_err-write_pairs-clause-light g c =
    answered_err _ _ _ _ c.from_residual-in_err-write_pairs.ensures.1
    (answered_after _ _ _ _ (c.in_ok-pairs.ensures.light.ok refl) c.in_err-write_pairs.ensures.light)

pub returns-in_err-write_pairs-clause-writes : goal.returns-in_err-write_pairs-clause-writes
returns-in_err-write_pairs-clause-writes g c =
    let all = writes-some c.args.sets.now c.requires.some in
    within_more 1 _ _ _ (omega (arith, all))
    (spends_after 1 _ _ _ c.in_ok-pairs.ensures.reads c.in_err-write_pairs.ensures.writes)

pub returns-in_err-write_gate-clause-done : goal.returns-in_err-write_gate-clause-done
returns-in_err-write_gate-clause-done g c = none_ok _ _ _ c.from_residual-in_err-write_gate.ensures.1

pub returns-in_err-write_gate-clause-counts : goal.returns-in_err-write_gate-clause-counts
returns-in_err-write_gate-clause-counts g c = none_ok _ _ _ c.from_residual-in_err-write_gate.ensures.1

pub returns-in_err-write_gate-clause-counted : goal.returns-in_err-write_gate-clause-counted
returns-in_err-write_gate-clause-counted g c = none_ok _ _ _ c.from_residual-in_err-write_gate.ensures.1

pub returns-in_err-write_gate-clause-light : goal.returns-in_err-write_gate-clause-light
returns-in_err-write_gate-clause-light g c =
    answered_err _ _ _ _ c.from_residual-in_err-write_gate.ensures.1
    (answered_after _ _ _ _
    (steady_then _ _ _ (c.in_ok-pairs.ensures.light.ok refl) (c.in_ok-write_pairs.ensures.light.ok refl))
    c.in_err-write_gate.ensures.light)

pub returns-in_err-write_gate-clause-writes : goal.returns-in_err-write_gate-clause-writes
returns-in_err-write_gate-clause-writes g c =
    let all = writes-some c.args.sets.now c.requires.some in
    within_more 2 _ _ _ (omega (arith, all))
    (spends_after 2 _ _ _ c.in_ok-pairs.ensures.reads
    (writes_then 1 1 _ _ _ c.in_ok-write_pairs.ensures.writes c.in_err-write_gate.ensures.writes))

pub returns-clause-sound : goal.returns-clause-sound
returns-clause-sound g c = c.write_words.ensures.sound

pub returns-clause-light : goal.returns-clause-light
returns-clause-light g c =
    answered_after _ _ _ _
    (steady_then _ _ _
    (steady_then _ _ _ (c.in_ok-pairs.ensures.light.ok refl) (c.in_ok-write_pairs.ensures.light.ok refl))
    (c.in_ok-write_gate.ensures.light.ok refl))
    c.write_words.ensures.light

pub returns-clause-writes : goal.returns-clause-writes
returns-clause-writes g c =
    let all = writes-some c.args.sets.now c.requires.some in
    within_more (2 + runs_from 0 c.args.sets.now) _ _ _ (omega (arith, all))
    (spends_after (2 + runs_from 0 c.args.sets.now) _ _ _ c.in_ok-pairs.ensures.reads
    (writes_then 2 _ _ _ _
    (writes_then 1 1 _ _ _ c.in_ok-write_pairs.ensures.writes c.in_ok-write_gate.ensures.writes)
    c.write_words.ensures.writes))

pub saved_pairs-requires-clause-lit : goal.saved_pairs-requires-clause-lit
saved_pairs-requires-clause-lit g c = c.requires.lit

pub saved_pairs-requires-clause-few : goal.saved_pairs-requires-clause-few
saved_pairs-requires-clause-few g c = c.requires.few

pub saved_pairs-requires-clause-sets : goal.saved_pairs-requires-clause-sets
saved_pairs-requires-clause-sets g c = c.requires.sets

pub write_pairs-requires-clause-whole : goal.write_pairs-requires-clause-whole
write_pairs-requires-clause-whole g c = c.requires.whole

pub write_pairs-requires-clause-few : goal.write_pairs-requires-clause-few
write_pairs-requires-clause-few g c =
    let m = (g.B.Board.facts c.args.board.now).words in
    let run = ap (λ (l : List ℕ). length l) (c.deref.ensures.0 ∙ c.in_ok-pairs.ensures.words) in
    omega (arith, run, length-pair_words m c.args.sets.now, c.requires.few)

pub write_pairs-requires-clause-room : goal.write_pairs-requires-clause-room
write_pairs-requires-clause-room g c =
    let m = (g.B.Board.facts c.args.board.now).words in
    let run = ap (λ (l : List ℕ). length l) (c.deref.ensures.0 ∙ c.in_ok-pairs.ensures.words) in
    omega (arith, run, length-pair_words m c.args.sets.now, c.requires.room)

pub write_words-requires-clause-few : goal.write_words-requires-clause-few
write_words-requires-clause-few g c = c.requires.few

pub write_words-requires-clause-lit : goal.write_words-requires-clause-lit
write_words-requires-clause-lit g c = (c.in_ok-write_gate.ensures.light.ok refl).lit

pub returns-in_err-pairs-clause-turned : goal.returns-in_err-pairs-clause-turned
returns-in_err-pairs-clause-turned g c =
    let kept = c.in_err-pairs.ensures.reads in
    λ shut. (sym c.requires.counts ∙ sym (ap gate kept.words) ∙ shut, omega (arith, kept.writes))

-- the gate counts the new pairs too
gate_raised : (g : Over) (c : goal.After-write_words g)
    → gate (g.B.Board.facts c.write_words.new.board).words ≡ c.args.used + length c.args.sets.now
gate_raised g c =
    let paired = (g.B.Board.facts c.write_pairs.new.board).words in
    let board = g.met.B.Board.is_board c.write_pairs.new.board in
    let within : GATE < length paired = omega (arith, least_words _ board.sized) in
    c.write_words.ensures.counts ∙ ap gate c.in_ok-write_gate.ensures.done ∙ get_or-set_same paired GATE _ 0 within

pub returns-clause-counts : goal.returns-clause-counts
returns-clause-counts g c = on_ok_weaker c.write_words.result (λ done. gate_raised g c) c.write_words.ensures.done

pub returns-clause-turned : goal.returns-clause-turned
returns-clause-turned g c =
    let some = c.requires.some in
    let raised = gate_raised g c in
    λ shut. absurd (omega (arith, shut, raised, some))

pub returns-in_err-pairs-clause-between : goal.returns-in_err-pairs-clause-between
returns-in_err-pairs-clause-between g c = last_none _ _ c.in_err-pairs.ensures.reads

pub returns-in_err-write_pairs-clause-between : goal.returns-in_err-write_pairs-clause-between
returns-in_err-write_pairs-clause-between g c =
    last_after _ _ _ c.in_ok-pairs.ensures.reads c.in_err-write_pairs.ensures.between

pub returns-in_err-write_gate-clause-between : goal.returns-in_err-write_gate-clause-between
returns-in_err-write_gate-clause-between g c =
    let r = c.requires in
    let paired = gate-committed _ _ _ c.args.sets.now _ c.in_ok-pairs.ensures.reads.words (c.deref.ensures.0
    ∙ c.in_ok-pairs.ensures.words) r.sound r.counts r.room r.sets (journal_within _ (g.met.B.Board.is_board _).sized) _
    c.in_ok-write_pairs.ensures.done _ (inl refl) in
    last_then _ _ _ (last_after _ _ _ c.in_ok-pairs.ensures.reads c.in_ok-write_pairs.ensures.between) paired
    c.in_err-write_gate.ensures.between

pub returns-clause-between : goal.returns-clause-between
returns-clause-between g c =
    let r = c.requires in
    let committed = gate-committed _ _ _ c.args.sets.now _ c.in_ok-pairs.ensures.reads.words (c.deref.ensures.0
    ∙ c.in_ok-pairs.ensures.words) r.sound r.counts r.room r.sets (journal_within _ (g.met.B.Board.is_board _).sized) _
    c.in_ok-write_pairs.ensures.done in
    last_then _ _ _
    (last_then _ _ _ (last_after _ _ _ c.in_ok-pairs.ensures.reads c.in_ok-write_pairs.ensures.between)
    (committed _ (inl refl)) c.in_ok-write_gate.ensures.between)
    (committed _ (inr c.in_ok-write_gate.ensures.done)) c.write_words.ensures.between
