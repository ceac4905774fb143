use Rattle.std.proofs.Common.{◌+◌, ◌<◌, ℕ, List, length, slice_set, inl, inr, refl, sym, ◌∙◌, ap, subst, arith}
use Rattle.std.proofs.Math.Logic.{⊎_elim}
use Rattle.std.proofs.lemmas.Result.{on_ok_weaker}
use Rattle.undo_journal.specs.declared.layout.TheConstants.{GATE}
use Rattle.undo_journal.specs.Undo.{gate, undo, data_words, IsSound}
use Rattle.undo_journal.proofs.Saving.{committed-shut, gate-shut}
use Rattle.undo_journal.proofs.Lasting.{gate-commits, commit-sound, set-back}
use Rattle.undo_journal.specs.Batches.{batch_writes}
use Rattle.undo_journal.specs.laws.Calls.{within_more}
use Rattle.undo_journal.specs.laws.Memory.{writes_then}
use Rattle.undo_journal.specs.BatchParts.{working}
use Rattle.undo_journal.proofs.Costing.{commit-none, commit-some, batch-within}
use Rattle.nvm_board.specs.laws.Sizes.{least_words}
use Rattle.nvm_board.specs.laws.SteadyCalls.{answered_ok}
use Rattle.undo_journal.specs.laws.Exits.{none_ok}
use Rattle.undo_journal.specs.laws.LastWrites.{last_then}
use Rattle.undo_journal.proofs.Telling.{answered_after, answered_err}
use Rattle.undo_journal.proofs.batch.finish.Goals as goal

pub returns-then-batch-eq0-clause-done : goal.returns-then-batch-eq0-clause-done
returns-then-batch-eq0-clause-done g c =
    committed-shut _ (c.in_ok-flush.ensures.counts ∙ c.if-batch-eq0.true) ∙ c.in_ok-flush.ensures.done

pub returns-clause-any_exit : goal.returns-clause-any_exit
returns-clause-any_exit g c =
    let flushed = (g.B.Board.facts c.flush.new.board).words in
    let memory = (g.met.B.Board.is_board c.flush.new.board).sized in
    let within : GATE < length flushed = omega (arith, least_words _ memory) in
    ⊎_elim
    (λ old. inl (ap (λ (l : List ℕ). data_words (undo l)) old ∙ c.in_ok-flush.ensures.kept))
    (λ new. inr (
      gate-commits flushed _ within new ∙ c.in_ok-flush.ensures.done,
      record {
        shut = ap gate new ∙ gate-shut flushed within;
        pairs = gate flushed;
        sound = subst IsSound (sym (ap (λ (l : List ℕ). slice_set l GATE (gate flushed)) new
            ∙ set-back flushed GATE 0 within)) c.in_ok-flush.ensures.sound;
        former = ap (λ (l : List ℕ). data_words (undo (slice_set l GATE (gate flushed)))) new
            ∙ ap (λ (l : List ℕ). data_words (undo l)) (set-back flushed GATE 0 within) ∙ c.in_ok-flush.ensures.kept;
      },
    ))
    c.write_gate.ensures.torn

pub returns-in_err-flush-clause-turned : goal.returns-in_err-flush-clause-turned
returns-in_err-flush-clause-turned g c = λ shut. inr (c.in_err-flush.ensures.turned shut)

pub returns-then-batch-eq0-clause-turned : goal.returns-then-batch-eq0-clause-turned
returns-then-batch-eq0-clause-turned g c = λ shut.
    inl (committed-shut _ (c.in_ok-flush.ensures.counts ∙ c.if-batch-eq0.true) ∙ c.in_ok-flush.ensures.done)

pub returns-clause-turned : goal.returns-clause-turned
returns-clause-turned g c =
    let flushed = (g.B.Board.facts c.flush.new.board).words in
    let memory = (g.met.B.Board.is_board c.flush.new.board).sized in
    let within : GATE < length flushed = omega (arith, least_words _ memory) in
    let counts = c.in_ok-flush.ensures.counts in
    let some = c.if-batch-eq0.false in
    λ shut. ⊎_elim
    (λ old. let is = ap gate old in absurd (omega (arith, shut, is, counts, some)))
    (λ new. inl (gate-commits flushed _ within new ∙ c.in_ok-flush.ensures.done))
    c.write_gate.ensures.torn

pub returns-clause-done : goal.returns-clause-done
returns-clause-done g c =
    let flushed = (g.B.Board.facts c.flush.new.board).words in
    let memory = (g.met.B.Board.is_board c.flush.new.board).sized in
    let within : GATE < length flushed = omega (arith, least_words _ memory) in
    on_ok_weaker c.write_gate.result (λ new. gate-commits flushed _ within new ∙ c.in_ok-flush.ensures.done)
    c.write_gate.ensures.done

pub returns-clause-sound : goal.returns-clause-sound
returns-clause-sound g c =
    let flushed = (g.B.Board.facts c.flush.new.board).words in
    let memory = (g.met.B.Board.is_board c.flush.new.board).sized in
    let within : GATE < length flushed = omega (arith, least_words _ memory) in
    commit-sound flushed _ within c.in_ok-flush.ensures.sound c.write_gate.ensures.torn

pub returns-then-batch-eq0-clause-counted : goal.returns-then-batch-eq0-clause-counted
returns-then-batch-eq0-clause-counted g c =
    commit-none (working (g.B.Board.facts c.args.board.now) c.args.batch.now) _ _ c.in_ok-flush.ensures.used
    c.if-batch-eq0.true c.in_ok-flush.ensures.counted

pub returns-clause-counted : goal.returns-clause-counted
returns-clause-counted g c =
    on_ok_weaker c.write_gate.result (λ one.
    commit-some (working (g.B.Board.facts c.args.board.now) c.args.batch.now) _ _ c.in_ok-flush.ensures.used
    c.if-batch-eq0.false (one ∙ ap (λ (n : ℕ). n + 1) c.in_ok-flush.ensures.counted)) c.write_gate.ensures.counted

pub returns-clause-last : goal.returns-clause-last
returns-clause-last g c =
    let before = working (g.B.Board.facts c.args.board.now) c.args.batch.now in
    let all = commit-some before _ (before.facts.writes + batch_writes before.waiting + 1) c.in_ok-flush.ensures.used
    c.if-batch-eq0.false refl in
    inr (omega (arith, all, c.in_ok-flush.ensures.counted, c.write_gate.ensures.writes.more))

pub returns-clause-writes : goal.returns-clause-writes
returns-clause-writes g c =
    let before = working (g.B.Board.facts c.args.board.now) c.args.batch.now in
    let all = commit-some before _ (before.facts.writes + batch_writes before.waiting + 1) c.in_ok-flush.ensures.used
    c.if-batch-eq0.false refl in
    within_more (batch_writes before.waiting + 1) _ _ _ (omega (arith, all))
    (writes_then (batch_writes before.waiting) 1 _ _ _ c.in_ok-flush.ensures.writes c.write_gate.ensures.writes)

pub returns-in_err-flush-clause-any_exit : goal.returns-in_err-flush-clause-any_exit
returns-in_err-flush-clause-any_exit g c = inl c.in_err-flush.ensures.kept

pub returns-in_err-flush-clause-last : goal.returns-in_err-flush-clause-last
returns-in_err-flush-clause-last g c = inl c.in_err-flush.ensures.kept

pub returns-in_err-flush-clause-done : goal.returns-in_err-flush-clause-done
returns-in_err-flush-clause-done g c = none_ok _ _ _ c.from_residual.ensures.1

pub returns-in_err-flush-clause-shut : goal.returns-in_err-flush-clause-shut
returns-in_err-flush-clause-shut g c = none_ok _ _ _ c.from_residual.ensures.1

pub returns-in_err-flush-clause-counted : goal.returns-in_err-flush-clause-counted
returns-in_err-flush-clause-counted g c = none_ok _ _ _ c.from_residual.ensures.1

pub returns-in_err-flush-clause-sound : goal.returns-in_err-flush-clause-sound
returns-in_err-flush-clause-sound g c = c.in_err-flush.ensures.sound

pub returns-in_err-flush-clause-light : goal.returns-in_err-flush-clause-light
returns-in_err-flush-clause-light g c = answered_err _ _ _ _ c.from_residual.ensures.1 c.in_err-flush.ensures.light

pub returns-then-batch-eq0-clause-any_exit : goal.returns-then-batch-eq0-clause-any_exit
returns-then-batch-eq0-clause-any_exit g c = inl c.in_ok-flush.ensures.kept

pub returns-then-batch-eq0-clause-last : goal.returns-then-batch-eq0-clause-last
returns-then-batch-eq0-clause-last g c = inl c.in_ok-flush.ensures.kept

pub returns-then-batch-eq0-clause-sound : goal.returns-then-batch-eq0-clause-sound
returns-then-batch-eq0-clause-sound g c = c.in_ok-flush.ensures.sound

pub returns-then-batch-eq0-clause-shut : goal.returns-then-batch-eq0-clause-shut
returns-then-batch-eq0-clause-shut g c = c.in_ok-flush.ensures.counts ∙ c.if-batch-eq0.true

pub returns-then-batch-eq0-clause-light : goal.returns-then-batch-eq0-clause-light
returns-then-batch-eq0-clause-light g c = answered_ok _ _ _ (c.in_ok-flush.ensures.light.ok refl)

pub returns-clause-light : goal.returns-clause-light
returns-clause-light g c =
    answered_after _ _ _ _ (c.in_ok-flush.ensures.light.ok refl) c.write_gate.ensures.light

pub returns-clause-shut : goal.returns-clause-shut
returns-clause-shut g c =
    let flushed = (g.B.Board.facts c.flush.new.board).words in
    let memory = (g.met.B.Board.is_board c.flush.new.board).sized in
    let within : GATE < length flushed = omega (arith, least_words _ memory) in
    on_ok_weaker c.write_gate.result (λ new. ap gate new ∙ gate-shut flushed within) c.write_gate.ensures.done

pub flush-requires-clause-sound : goal.flush-requires-clause-sound
flush-requires-clause-sound g c = c.requires.held.sound

pub flush-requires-clause-counts : goal.flush-requires-clause-counts
flush-requires-clause-counts g c = c.requires.held.counts

pub flush-requires-clause-lit : goal.flush-requires-clause-lit
flush-requires-clause-lit g c = c.requires.held.lit

pub flush-requires-clause-whole : goal.flush-requires-clause-whole
flush-requires-clause-whole g c = c.requires.held.whole

pub flush-requires-clause-sets : goal.flush-requires-clause-sets
flush-requires-clause-sets g c = c.requires.held.sets

pub flush-requires-clause-few : goal.flush-requires-clause-few
flush-requires-clause-few g c = omega (arith, c.requires.held.few)

pub flush-requires-clause-room : goal.flush-requires-clause-room
flush-requires-clause-room g c = c.requires.held.fits

pub returns-in_err-flush-clause-writes : goal.returns-in_err-flush-clause-writes
returns-in_err-flush-clause-writes g c =
    within_more _ _ _ _ (batch-within (working (g.B.Board.facts c.args.board.now) c.args.batch.now))
    c.in_err-flush.ensures.writes

pub returns-then-batch-eq0-clause-writes : goal.returns-then-batch-eq0-clause-writes
returns-then-batch-eq0-clause-writes g c =
    within_more _ _ _ _ (batch-within (working (g.B.Board.facts c.args.board.now) c.args.batch.now))
    c.in_ok-flush.ensures.writes

pub returns-in_err-flush-clause-between : goal.returns-in_err-flush-clause-between
returns-in_err-flush-clause-between g c = c.in_err-flush.ensures.between

pub returns-then-batch-eq0-clause-between : goal.returns-then-batch-eq0-clause-between
returns-then-batch-eq0-clause-between g c = c.in_ok-flush.ensures.between

pub returns-clause-between : goal.returns-clause-between
returns-clause-between g c =
    let flushed = c.in_ok-flush.ensures in
    last_then _ _ _ flushed.between (record { sound = λ _. flushed.sound; words = flushed.kept })
    c.write_gate.ensures.between
