use Rattle.std.proofs.Common.{Bool, true, ◌==◌, ◌≡◌, ◌+◌, ◌∙◌, ℕ, List, length, inl, inr, sym, refl, ap, subst}
use Rattle.std.proofs.Common.{arith, IsSome}
use Rattle.std.proofs.lemmas.Result.{on_ok_weaker}
use Rattle.nvm_board.specs.laws.Aims.{aims_same}
use Rattle.nvm_board.specs.laws.SteadyCalls.{answered_ok}
use Rattle.undo_journal.specs.declared.batch.Waiting.{Waiting}
use Rattle.undo_journal.specs.Undo.{data_words}
use Rattle.undo_journal.specs.Batches.{overlay, look_up, batch_writes, AreSets, with_set}
use Rattle.undo_journal.proofs.Waits.{sets-joined, joined-length, sets-ascend}
use Rattle.undo_journal.proofs.Costing.{join-costs, join-goes_on, join-current, join-waits, below-full, full-length}
use Rattle.undo_journal.proofs.Standing.{held-emptied}
use Rattle.std.specs.Prelude.{if◌then◌else◌}
use Rattle.undo_journal.specs.declared.batch.TheConstants.{BATCH}
use Rattle.undo_journal.specs.Memory.{set_writes}
use Rattle.undo_journal.specs.Spending.{WritesAtMost}
use Rattle.undo_journal.specs.BatchParts.{working}
use Rattle.undo_journal.specs.laws.Calls.{within_more}
use Rattle.undo_journal.specs.laws.LastWrites.{last_same}
use Rattle.undo_journal.specs.laws.Transactions.{stays_spends}
use Rattle.undo_journal.proofs.Telling.{steady_same}
use Rattle.undo_journal.proofs.batch.add.Goals as goal

pub join-requires-clause-sorted : goal.join-requires-clause-sorted
join-requires-clause-sorted g c = sets-ascend _ 0 c.args.batch.now.waiting.items c.requires.held.sets

pub flush-requires-clause-sets : goal.flush-requires-clause-sets
flush-requires-clause-sets g c =
    let size = length (g.B.Board.facts c.args.board.now).words in
    subst (λ (l : List Waiting). AreSets size 0 l) (sym c.join.ensures)
    (sets-joined size c.args.new _ 0 c.requires.held.sets (record {
      from = omega arith;
      outside = c.requires.place.0;
      within = c.requires.place.1;
      fits = omega arith;
    }))

pub returns-then-is_full-clause-done : goal.returns-then-is_full-clause-done
returns-then-is_full-clause-done g c =
    let after = (g.B.Board.facts c.flush.new.board).words in
    on_ok_weaker c.flush.result (λ done.
    ap (λ (l : List Waiting). data_words (overlay l after)) c.flush.ensures.empty ∙ done
    ∙ ap (λ (l : List Waiting). data_words (overlay l (g.B.Board.facts c.args.board.now).words)) c.join.ensures
    ∙ join-current _ c.args.new c.args.batch.now.used c.requires.held.whole _ _ c.requires.held.sets c.requires.place)
    c.flush.ensures.done

pub returns-then-is_full-clause-taken : goal.returns-then-is_full-clause-taken
returns-then-is_full-clause-taken g c =
    let more = joined-length c.args.new c.args.batch.now.waiting.items in
    omega (
      arith,
      c.flush.ensures.used,
      ap (λ (l : List Waiting). length l) c.flush.ensures.empty,
      ap (λ (l : List Waiting). length l) c.join.ensures,
      more,
    )

pub returns-then-is_full-clause-runs : goal.returns-then-is_full-clause-runs
returns-then-is_full-clause-runs g c =
    let costs = join-costs _ c.args.new c.args.batch.now.used c.requires.held.whole _
    c.requires.held.sets c.requires.held.few in
    let wrote = c.flush.ensures.writes in
    let used = c.flush.ensures.used ∙ ap (λ (l : List Waiting). c.args.batch.now.used + length l) c.join.ensures in
    let none = ap (λ (l : List Waiting). length l) c.flush.ensures.empty in
    let nothing = ap batch_writes c.flush.ensures.empty in
    let batch = ap batch_writes c.join.ensures in
    record {
      writes = omega (arith, costs, wrote.writes, used, none, nothing, batch);
      more = wrote.more;
      cut = wrote.cut;
      compares = wrote.compares;
      matches = wrote.matches;
    }

pub returns-then-is_full-clause-goes_on : goal.returns-then-is_full-clause-goes_on
returns-then-is_full-clause-goes_on g c = λ goes.
    let costs = join-goes_on _ c.args.new c.args.batch.now.used c.requires.held.whole _ c.requires.held.sets
    c.requires.held.few goes.0 goes.1 in
    let wrote = c.flush.ensures.writes in
    let used = c.flush.ensures.used ∙ ap (λ (l : List Waiting). c.args.batch.now.used + length l) c.join.ensures in
    let none = ap (λ (l : List Waiting). length l) c.flush.ensures.empty in
    let nothing = ap batch_writes c.flush.ensures.empty in
    let batch = ap batch_writes c.join.ensures in
    record {
      writes = omega (arith, costs, wrote.writes, used, none, nothing, batch);
      more = wrote.more;
      cut = wrote.cut;
      compares = wrote.compares;
      matches = wrote.matches;
    }

pub returns-clause-done : goal.returns-clause-done
returns-clause-done g c =
    ap (λ (l : List Waiting). data_words (overlay l (g.B.Board.facts c.args.board.now).words)) c.join.ensures
    ∙ join-current _ c.args.new c.args.batch.now.used c.requires.held.whole _ _ c.requires.held.sets c.requires.place

pub returns-clause-held : goal.returns-clause-held
returns-clause-held g c =
    let held = c.requires.held in
    let words = length (g.B.Board.facts c.args.board.now).words in
    let size = ap (λ (l : List Waiting). length l) c.join.ensures in
    let more = joined-length c.args.new c.args.batch.now.waiting.items in
    record {
      sound = held.sound;
      counts = held.counts;
      lit = held.lit;
      whole = held.whole;
      few = below-full (length c.join.new.sets.items) (sym c.is_full.ensures.value ∙ c.if-is_full.false)
          (omega (arith, size, more, held.few));
      fits = omega (arith, size, more, c.requires.room);
      sets = subst (λ (l : List Waiting). AreSets words 0 l) (sym c.join.ensures)
          (sets-joined words c.args.new _ 0 held.sets (record {
            from = omega arith;
            outside = c.requires.place.0;
            within = c.requires.place.1;
            fits = omega arith;
          }));
    }

pub returns-clause-taken : goal.returns-clause-taken
returns-clause-taken g c =
    let more = joined-length c.args.new c.args.batch.now.waiting.items in
    omega (arith, ap (λ (l : List Waiting). length l) c.join.ensures, more)

pub returns-clause-runs : goal.returns-clause-runs
returns-clause-runs g c =
    let costs = join-costs _ c.args.new c.args.batch.now.used c.requires.held.whole _
    c.requires.held.sets c.requires.held.few in
    let size = ap (λ (l : List Waiting). length l) c.join.ensures in
    let batch = ap batch_writes c.join.ensures in
    record {
      writes = omega (arith, costs, size, batch);
      more = omega arith;
      cut = aims_same (g.B.Board.facts c.args.board.now);
      compares = refl;
      matches = refl;
    }

pub returns-clause-goes_on : goal.returns-clause-goes_on
returns-clause-goes_on g c = λ goes.
    let costs = join-goes_on _ c.args.new c.args.batch.now.used c.requires.held.whole _ c.requires.held.sets
    c.requires.held.few goes.0 goes.1 in
    let size = ap (λ (l : List Waiting). length l) c.join.ensures in
    let batch = ap batch_writes c.join.ensures in
    record {
      writes = omega (arith, costs, size, batch);
      more = omega arith;
      cut = aims_same (g.B.Board.facts c.args.board.now);
      compares = refl;
      matches = refl;
    }

pub returns-clause-next : goal.returns-clause-next
returns-clause-next g c =
    inr (subst (λ (l : List Waiting). IsSome (look_up c.args.new.at l)) (sym c.join.ensures)
    (join-waits c.args.new c.args.batch.now.waiting.items))

pub returns-then-is_full-clause-joins : goal.returns-then-is_full-clause-joins
returns-then-is_full-clause-joins g c =
    let before = c.args.batch.now in
    let sets : c.join.new.sets.items ≡ with_set c.args.new before.waiting.items = c.join.ensures in
    on_ok_weaker c.flush.result (λ counted. inr (record {
      full = ap (λ (l : List Waiting). length l) (sym sets)
          ∙ full-length _ (sym c.is_full.ensures.value ∙ c.if-is_full.true);
      waiting = c.flush.ensures.empty;
      used = c.flush.ensures.used
          ∙ ap (λ (n : ℕ). before.used + n) (full-length _ (sym c.is_full.ensures.value ∙ c.if-is_full.true));
      writes = counted ∙ ap (λ (l : List Waiting). (g.B.Board.facts c.args.board.now).writes + batch_writes l) sets;
    })) c.flush.ensures.counted

pub returns-clause-joins : goal.returns-clause-joins
returns-clause-joins g c =
    let size = ap (λ (l : List Waiting). length l) c.join.ensures in
    let more = joined-length c.args.new c.args.batch.now.waiting.items in
    inl (record {
      few = (let lt = below-full (length c.join.new.sets.items) (sym c.is_full.ensures.value ∙ c.if-is_full.false)
          (omega (arith, size, more, c.requires.held.few)) in omega (arith, lt, size));
      waiting = c.join.ensures;
      used = refl;
      facts = refl;
    })

pub returns-then-is_full-clause-spends : goal.returns-then-is_full-clause-spends
returns-then-is_full-clause-spends g c =
    let before = working (g.B.Board.facts c.args.board.now) c.args.batch.now in
    let sets = with_set c.args.new c.args.batch.now.waiting.items in
    let full : (length sets == BATCH) ≡ true =
    ap (λ (l : List Waiting). length l == BATCH) (sym c.join.ensures)
    ∙ (sym c.is_full.ensures.value ∙ c.if-is_full.true) in
    let cost : set_writes c.args.new before ≡ batch_writes c.join.new.sets.items =
    ap (λ (b : Bool). if b then batch_writes sets else 0) full ∙ ap batch_writes (sym c.join.ensures) in
    subst (λ (n : ℕ). WritesAtMost n (g.B.Board.facts c.args.board.now) (g.B.Board.facts c.flush.new.board)) (sym cost)
    c.flush.ensures.writes

pub returns-clause-spends : goal.returns-clause-spends
returns-clause-spends g c =
    let facts = g.B.Board.facts c.args.board.now in
    within_more 0 _ facts facts (omega arith) (stays_spends facts facts refl)

pub join-requires-clause-room : goal.join-requires-clause-room
join-requires-clause-room g c = c.requires.held.few

pub flush-requires-clause-lit : goal.flush-requires-clause-lit
flush-requires-clause-lit g c = c.requires.held.lit

pub flush-requires-clause-sound : goal.flush-requires-clause-sound
flush-requires-clause-sound g c = c.requires.held.sound

pub flush-requires-clause-counts : goal.flush-requires-clause-counts
flush-requires-clause-counts g c = c.requires.held.counts

pub flush-requires-clause-whole : goal.flush-requires-clause-whole
flush-requires-clause-whole g c = c.requires.held.whole

pub flush-requires-clause-few : goal.flush-requires-clause-few
flush-requires-clause-few g c = c.is_full.ensures.fits

pub flush-requires-clause-room : goal.flush-requires-clause-room
flush-requires-clause-room g c =
    let size = ap (λ (l : List Waiting). length l) c.join.ensures in
    let more = joined-length c.args.new c.args.batch.now.waiting.items in
    omega (arith, size, more, c.requires.room)

pub returns-then-is_full-clause-kept : goal.returns-then-is_full-clause-kept
returns-then-is_full-clause-kept g c = c.flush.ensures.kept

pub returns-then-is_full-clause-sound : goal.returns-then-is_full-clause-sound
returns-then-is_full-clause-sound g c = c.flush.ensures.sound

pub returns-then-is_full-clause-light : goal.returns-then-is_full-clause-light
returns-then-is_full-clause-light g c = c.flush.ensures.light

pub returns-then-is_full-clause-held : goal.returns-then-is_full-clause-held
returns-then-is_full-clause-held g c =
    let full = full-length _ (sym c.is_full.ensures.value ∙ c.if-is_full.true) in
    let size = ap (λ (l : List Waiting). length l) c.join.ensures in
    let more = joined-length c.args.new c.args.batch.now.waiting.items in
    let used = c.flush.ensures.used in
    held-emptied _ _ _ _ _ c.flush.ensures.light c.flush.ensures.sound c.flush.ensures.counts
    (omega (arith, c.requires.held.whole, used, full)) (omega (arith, used, size, more, c.requires.room))
    c.flush.ensures.empty

pub returns-then-is_full-clause-next : goal.returns-then-is_full-clause-next
returns-then-is_full-clause-next g c =
    let full = full-length _ (sym c.is_full.ensures.value ∙ c.if-is_full.true) in
    on_ok_weaker c.flush.result (λ counts. inl (c.flush.ensures.empty, omega (arith, c.flush.ensures.used, full)))
    c.flush.ensures.counts

pub returns-clause-kept : goal.returns-clause-kept
returns-clause-kept g c = refl

pub returns-clause-sound : goal.returns-clause-sound
returns-clause-sound g c = c.requires.held.sound

pub returns-clause-light : goal.returns-clause-light
returns-clause-light g c = answered_ok _ _ _ (steady_same _ c.requires.held.lit)

pub returns-then-is_full-clause-rises : goal.returns-then-is_full-clause-rises
returns-then-is_full-clause-rises g c = λ shut.
    let flush = c.flush.ensures in
    let early = flush.turned shut in
    let full = full-length _ (sym c.is_full.ensures.value ∙ c.if-is_full.true) in (
      omega (arith, c.requires.held.counts, early.0),
      early.1,
      on_ok_weaker c.flush.result (λ counts. absurd (omega (arith, shut, counts, flush.used, full))) flush.counts,
    )

pub returns-clause-rises : goal.returns-clause-rises
returns-clause-rises g c = λ shut. (shut, omega arith, omega arith)

pub returns-then-is_full-clause-between : goal.returns-then-is_full-clause-between
returns-then-is_full-clause-between g c = c.flush.ensures.between

pub returns-clause-between : goal.returns-clause-between
returns-clause-between g c = last_same _
