-- Blocks that pass one after another.
use Rattle.std.specs.Prelude.{◌≡◌, ◌<◌, ◌-◌, ℕ, zero, suc, List, Option, Result, Some, Ok, Err, refl}
use Rattle.std.proofs.Common.{arith, inl, inr, subst, sym}
use Rattle.t1_link.specs.ReaderTable.{Reader}
use Rattle.bench_turns.specs.BenchStates.{BenchState}
use Rattle.card_bench.specs.Exchanges.{Arrives, CardTakes, Ends, Exchanges}
use Rattle.card_bench.specs.Exchanges.{Passes, NextBlock, toward_card}
use Rattle.card_bench.specs.Exchanges.{Ended}
use Rattle.card_bench.specs.Exchanges.{link_lost}
use Rattle.card_bench.specs.declared.line.Line.{Line}
use Rattle.card_bench.specs.Lines.{arriving, line_after}

-- However the exchange goes on from here, with so many blocks left, so it goes from where it began.
pub record HasPassed (limit : ℕ) (first : Ends) (way : NextBlock) (left : ℕ) (here : Ends)
    (next : NextBlock) : Type 0 where
  pub continues : (new : Ends) (ending : Ended) → Exchanges left here next new ending
      → Exchanges limit first way new ending

pub begins : (limit : ℕ) (first : Ends) (way : NextBlock) (left : ℕ) → left ≡ limit
    → HasPassed limit first way left first way
begins limit first way left e =
    record { continues = λ new ending run. subst (λ (n : ℕ). Exchanges n first way new ending) e run }

-- the exchange ends with the next block
last : (left : ℕ) (here : Ends) (next : NextBlock) (new : Ends) (ending : Ended) → Passes here next new (Err ending)
    → Exchanges (suc left) here next new ending
unfolding Exchanges
last left here next new ending passes = inl passes

more : (left : ℕ) (here between : Ends) (next following : NextBlock) (new : Ends) (ending : Ended)
    → Passes here next between (Ok following)
    → Exchanges left between following new ending → Exchanges (suc left) here next new ending
unfolding Exchanges
more left here between next following new ending passes run = inr (between, following, passes, run)

none : (here : Ends) (next : NextBlock) → Exchanges zero here next here link_lost
unfolding Exchanges
none here next = (refl, refl)

module _ (limit : ℕ) (first : Ends) (way : NextBlock) (left : ℕ) (here : Ends) (next : NextBlock)
    (past : HasPassed limit first way left here next) where
  pub ends : (new : Ends) (ending : Ended) → 0 < left → Passes here next new (Err ending)
      → Exchanges limit first way new ending
  ends new ending some passes =
      let one : suc (left - 1) ≡ left = omega (arith, some) in
      past.continues new ending
      (subst (λ (n : ℕ). Exchanges n here next new ending) one (last (left - 1) here next new ending passes))

  pub goes_on : (between : Ends) (following : NextBlock) (fewer : ℕ) → suc fewer ≡ left
      → Passes here next between (Ok following) → HasPassed limit first way fewer between following
  goes_on between following fewer one passes = record {
    continues = λ new ending run. past.continues new ending
        (subst (λ (n : ℕ). Exchanges n here next new ending) one
        (more fewer here between next following new ending passes run));
  }

  pub gives_up : left ≡ 0 → Exchanges limit first way here link_lost
  gives_up e =
      past.continues here link_lost (subst (λ (n : ℕ). Exchanges n here next here link_lost) (sym e) (none here next))

-- a block arrives at the card's end: it replies, or power is lost there
pub takes_there : (bench after : BenchState) (reader : Reader) (old new : Line) (block got : List ℕ)
    (follows : Result NextBlock Ended) → new ≡ line_after 1 old → arriving old 0 block ≡ Some got
    → CardTakes bench got after follows
    → Passes (record { bench = bench; reader = reader; line = old }) (toward_card block)
    (record { bench = after; reader = reader; line = new }) follows
takes_there bench after reader old new block got follows line came takes = record {
  block = line;
  arrives = subst (λ (o : Option (List ℕ)). Arrives (record { bench = bench; reader = reader; line = old })
      (toward_card block) o (record { bench = after; reader = reader; line = new }) follows) (sym came) (refl, takes);
}
