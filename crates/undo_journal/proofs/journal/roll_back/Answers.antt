use Rattle.nvm_board.specs.laws.Sizes.{least_words}
use Rattle.std.proofs.Common.{◌≡◌, ◌-◌, ◌<◌, suc, true, arith, sym, ap, ◌∙◌, refl, length, subst, ℕ}
use Rattle.nvm_board.specs.laws.Aims.{aims_same, aims_then}
use Rattle.nvm_board.specs.laws.SteadyCalls.{answered_ok}
use Rattle.undo_journal.specs.declared.layout.TheConstants.{GATE}
use Rattle.undo_journal.specs.Undo.{data_words, gate}
use Rattle.undo_journal.specs.laws.Undo.{undo_shut}
use Rattle.undo_journal.proofs.Restore.{put_back_from, put_back-none, turn-place, turn-done, turn-kept, turn-sound}
use Rattle.undo_journal.proofs.Restore.{end-done, end-kept, end-sound, rollback_some}
use Rattle.undo_journal.specs.Spending.{rollback_writes, WritesAtMost}
use Rattle.undo_journal.specs.laws.Exits.{none_ok}
use Rattle.undo_journal.specs.laws.LastWrites.{committed_same, last_same, last_then}
use Rattle.undo_journal.specs.laws.Transactions.{stays_spends}
use Rattle.undo_journal.proofs.Telling.{answered_err, answered_after, steady_same}
use Rattle.std.proofs.lemmas.Result.{on_ok_weaker}
use Rattle.undo_journal.proofs.journal.roll_back.Goals as goal

pub returns-then-count-eq0-clause-done : goal.returns-then-count-eq0-clause-done
returns-then-count-eq0-clause-done g c =
    let m = (g.B.Board.facts c.args.board.now).words in
    sym (undo_shut m (c.requires.counts ∙ c.if-count-eq0.true))

pub loop-left-init : goal.loop-left-init
loop-left-init g c =
    let m = (g.B.Board.facts c.args.board.now).words in
    record {
      within = omega arith;
      steady = record { was_lit = c.requires.lit; lit = c.requires.lit; faults = refl; cuts = refl; due = refl };
      so_far = sym (ap (λ (i : ℕ). put_back_from m i) (sym c.requires.counts) ∙ put_back-none m c.requires.sound);
      committed = committed_same m;
      writes = omega arith;
      more = omega arith;
      cut = aims_same _;
      compares = refl;
      matches = refl;
      between = last_same _;
    }

pub put_back-requires-clause-place : goal.put_back-requires-clause-place
put_back-requires-clause-place g c =
    let m = (g.B.Board.facts c.args.board.now).words in
    let lt : c.loop-left.left - 1 < gate m = omega (arith, c.requires.counts, c.loop-left.invariant.within) in
    turn-place m _ c.requires.sound c.loop-left.left c.loop-left.invariant.so_far (c.loop-left.left - 1) lt

pub loop-left-preserved : goal.loop-left-preserved
loop-left-preserved g c =
    let m = (g.B.Board.facts c.args.board.now).words in
    let kept = c.loop-left.invariant in
    let light = c.in_ok-put_back.ensures.light.ok (refl {a = true}) in
    let cost = c.in_ok-put_back.ensures.writes in
    let lt : c.loop-left.left - 1 < gate m = omega (arith, c.requires.counts, kept.within) in
    let next : c.loop-left.left ≡ suc (c.loop-left.left - 1) = omega arith in
    record {
      within = omega arith;
      steady = record {
        was_lit = kept.steady.was_lit;
        lit = light.lit;
        faults = light.faults ∙ kept.steady.faults;
        cuts = light.cuts ∙ kept.steady.cuts;
        due = light.due ∙ kept.steady.due;
      };
      so_far = turn-done m _ c.requires.sound c.loop-left.left kept.so_far (c.loop-left.left - 1) _ next lt
          c.in_ok-put_back.ensures.done;
      committed = record {
        sound = λ _. turn-sound m _ c.requires.sound c.loop-left.left kept.so_far (c.loop-left.left - 1) _ next lt
            c.in_ok-put_back.ensures.torn;
        words = ap data_words (turn-kept m _ c.requires.sound c.loop-left.left kept.so_far (c.loop-left.left - 1) _ next
            lt c.in_ok-put_back.ensures.torn);
      };
      writes = omega (arith, c.in_ok-put_back.ensures.counted, kept.writes);
      more = omega (arith, cost.more, kept.more);
      cut = aims_then _ _ _ kept.cut cost.cut;
      compares = cost.compares ∙ kept.compares;
      matches = cost.matches ∙ kept.matches;
      between = last_then _ _ _ kept.between kept.committed c.in_ok-put_back.ensures.between;
    }

pub returns-in_err-put_back-clause-kept : goal.returns-in_err-put_back-clause-kept
returns-in_err-put_back-clause-kept g c =
    let m = (g.B.Board.facts c.args.board.now).words in
    let lt : c.loop-left.left - 1 < gate m = omega (arith, c.requires.counts, c.loop-left.invariant.within) in
    let next : c.loop-left.left ≡ suc (c.loop-left.left - 1) = omega arith in
    turn-kept m _ c.requires.sound c.loop-left.left c.loop-left.invariant.so_far (c.loop-left.left - 1) _ next lt
    c.in_err-put_back.ensures.torn

pub returns-clause-kept : goal.returns-clause-kept
returns-clause-kept g c =
    let m = (g.B.Board.facts c.args.board.now).words in
    let within : GATE < length m = omega (arith, least_words _ (g.met.B.Board.is_board c.args.board.now).sized) in
    let none : c.loop-left.left ≡ 0 = omega arith in
    end-kept m _ c.requires.sound c.loop-left.left c.loop-left.invariant.so_far _ within none
    c.write_gate.ensures.torn

pub returns-clause-done : goal.returns-clause-done
returns-clause-done g c =
    let m = (g.B.Board.facts c.args.board.now).words in
    let within : GATE < length m = omega (arith, least_words _ (g.met.B.Board.is_board c.args.board.now).sized) in
    let none : c.loop-left.left ≡ 0 = omega arith in
    on_ok_weaker c.write_gate.result
    (λ done.
    end-done m _ c.requires.sound c.loop-left.left c.loop-left.invariant.so_far _ within none done)
    c.write_gate.ensures.done

pub returns-in_err-put_back-clause-sound : goal.returns-in_err-put_back-clause-sound
returns-in_err-put_back-clause-sound g c =
    let m = (g.B.Board.facts c.args.board.now).words in
    let lt : c.loop-left.left - 1 < gate m = omega (arith, c.requires.counts, c.loop-left.invariant.within) in
    let next : c.loop-left.left ≡ suc (c.loop-left.left - 1) = omega arith in
    turn-sound m _ c.requires.sound c.loop-left.left c.loop-left.invariant.so_far (c.loop-left.left - 1) _ next lt
    c.in_err-put_back.ensures.torn

pub returns-clause-sound : goal.returns-clause-sound
returns-clause-sound g c =
    let m = (g.B.Board.facts c.args.board.now).words in
    let within : GATE < length m = omega (arith, least_words _ (g.met.B.Board.is_board c.args.board.now).sized) in
    let none : c.loop-left.left ≡ 0 = omega arith in
    end-sound m _ c.requires.sound c.loop-left.left c.loop-left.invariant.so_far _ within none
    c.write_gate.ensures.torn

pub returns-in_err-put_back-clause-light : goal.returns-in_err-put_back-clause-light
returns-in_err-put_back-clause-light g c =
    answered_err _ _ _ _ c.from_residual.ensures.1
    (answered_after _ _ _ _ c.loop-left.invariant.steady c.in_err-put_back.ensures.light)

pub returns-clause-light : goal.returns-clause-light
returns-clause-light g c =
    answered_after _ _ _ _ c.loop-left.invariant.steady c.write_gate.ensures.light

pub returns-clause-counted : goal.returns-clause-counted
returns-clause-counted g c =
    let all = rollback_some c.args.count c.if-count-eq0.false in
    on_ok_weaker c.write_gate.result (λ one. omega (arith, one, all, c.loop-left.invariant.writes))
    c.write_gate.ensures.counted

pub returns-in_err-put_back-clause-writes : goal.returns-in_err-put_back-clause-writes
returns-in_err-put_back-clause-writes g c =
    let all = rollback_some c.args.count c.if-count-eq0.false in
    let kept = c.loop-left.invariant in
    let cost = c.put_back.ensures.writes in
    record {
      writes = omega (arith, all, kept.writes, cost.writes);
      more = omega (arith, kept.more, cost.more);
      cut = aims_then _ _ _ kept.cut cost.cut;
      compares = cost.compares ∙ kept.compares;
      matches = cost.matches ∙ kept.matches;
    }

pub returns-clause-writes : goal.returns-clause-writes
returns-clause-writes g c =
    let all = rollback_some c.args.count c.if-count-eq0.false in
    let kept = c.loop-left.invariant in
    let cost = c.write_gate.ensures.writes in
    record {
      writes = omega (arith, all, kept.writes, cost.writes);
      more = omega (arith, kept.more, cost.more);
      cut = aims_then _ _ _ kept.cut cost.cut;
      compares = cost.compares ∙ kept.compares;
      matches = cost.matches ∙ kept.matches;
    }

pub returns-then-count-eq0-clause-kept : goal.returns-then-count-eq0-clause-kept
returns-then-count-eq0-clause-kept g c = refl

pub returns-then-count-eq0-clause-sound : goal.returns-then-count-eq0-clause-sound
returns-then-count-eq0-clause-sound g c = c.requires.sound

pub returns-then-count-eq0-clause-light : goal.returns-then-count-eq0-clause-light
returns-then-count-eq0-clause-light g c = answered_ok _ _ _ (steady_same _ c.requires.lit)

pub returns-then-count-eq0-clause-none : goal.returns-then-count-eq0-clause-none
returns-then-count-eq0-clause-none g c = λ _. refl

pub returns-then-count-eq0-clause-counted : goal.returns-then-count-eq0-clause-counted
returns-then-count-eq0-clause-counted g c = omega (arith, ap rollback_writes c.if-count-eq0.true)

pub returns-then-count-eq0-clause-writes : goal.returns-then-count-eq0-clause-writes
returns-then-count-eq0-clause-writes g c =
    let facts = g.B.Board.facts c.args.board.now in
    subst (λ (n : ℕ). WritesAtMost (rollback_writes n) facts facts) (sym c.if-count-eq0.true)
    (stays_spends facts facts refl)

pub put_back-requires-clause-inside : goal.put_back-requires-clause-inside
put_back-requires-clause-inside g c =
    omega (arith, c.requires.counts, c.requires.sound.room, c.loop-left.invariant.within)

pub returns-in_err-put_back-clause-done : goal.returns-in_err-put_back-clause-done
returns-in_err-put_back-clause-done g c = none_ok _ _ _ c.from_residual.ensures.1

pub returns-in_err-put_back-clause-counted : goal.returns-in_err-put_back-clause-counted
returns-in_err-put_back-clause-counted g c = none_ok _ _ _ c.from_residual.ensures.1

pub returns-in_err-put_back-clause-none : goal.returns-in_err-put_back-clause-none
returns-in_err-put_back-clause-none g c = λ zero. absurd (omega (arith, c.if-count-eq0.false, zero))

pub returns-clause-none : goal.returns-clause-none
returns-clause-none g c = λ zero. absurd (omega (arith, c.if-count-eq0.false, zero))

pub returns-then-count-eq0-clause-between : goal.returns-then-count-eq0-clause-between
returns-then-count-eq0-clause-between g c = last_same _

pub returns-in_err-put_back-clause-between : goal.returns-in_err-put_back-clause-between
returns-in_err-put_back-clause-between g c =
    let kept = c.loop-left.invariant in
    last_then _ _ _ kept.between kept.committed c.in_err-put_back.ensures.between

pub returns-clause-between : goal.returns-clause-between
returns-clause-between g c =
    let kept = c.loop-left.invariant in
    last_then _ _ _ kept.between kept.committed c.write_gate.ensures.between
