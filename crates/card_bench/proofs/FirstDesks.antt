-- The first desk of a script: power off, no reader, no pending faults.
use Rattle.std.specs.Prelude.{◌≡◌, true, false, Option, None, refl}
use Rattle.std.proofs.Common.{subst, sym, ap, ◌∙◌}
use Rattle.nvm_board.specs.Aims.{due_of}
use Rattle.nvm_board.specs.Facts.{Facts}
use Rattle.card_start.specs.declared.memory_format.MemoryFormat.TheVariants.{Two}
use Rattle.card_start.specs.Factory.{IsFactory, factory_card}
use Rattle.command_base.specs.Finding.{Finds}
use Rattle.bench_turns.specs.BenchStates.{BenchState, off, bench_card, bench_facts, IsOff}
use Rattle.t1_link.specs.ReaderTable.{Reader}
use Rattle.bench_turns.specs.NewlyWritten.{IsJustWritten}
use Rattle.card_bench.specs.declared.line.Line.{Line}
use Rattle.card_bench.specs.Exchanges.{Desk}
use Rattle.card_bench.specs.Lines.{perfect_line}
use Rattle.bench_turns.specs.Plays.{IsGood}
use Rattle.card_bench.specs.Prints.{IsFirstDesk, desk_of}

-- the desk with the factory's board
pub first_desk : (d : Desk) (f : Facts) → d.bench ≡ off (record f { dark = true }) → d.reader ≡ None
    → d.line ≡ perfect_line → Finds f.words (factory_card 896) → IsFactory Two f.words → IsJustWritten f
    → f.faults ≡ 0 → f.due ≡ due_of f.pending → IsFirstDesk d
first_desk d f bench reader line finds words counts faults due = record {
  power = subst IsOff (sym bench) refl;
  good = subst IsGood (sym bench) (record { has_card = finds.has_card; faults = faults; due = due; well = tt });
  card = subst (λ (b : BenchState). bench_card b ≡ factory_card 896) (sym bench) finds.card;
  words = subst (λ (b : BenchState). IsFactory Two (bench_facts b).words) (sym bench) words;
  counts = subst (λ (b : BenchState). IsJustWritten (record (bench_facts b) { dark = false })) (sym bench) (record {
    lit = refl;
    due = counts.due;
    faults = counts.faults;
    cuts = counts.cuts;
    writes = counts.writes;
    compares = counts.compares;
    matches = counts.matches;
  });
  reader = reader;
  line = line;
}

-- a desk is told by its three parts
pub desk_is : (d : Desk) (f : Facts) → d.bench ≡ off (record f { dark = true }) → d.reader ≡ None
    → d.line ≡ perfect_line → d ≡ desk_of f
desk_is d f bench reader line =
    ap (λ (b : BenchState). with_parts b d.reader d.line) bench
    ∙ ap (λ (r : Option Reader). with_parts (off (record f { dark = true })) r d.line) reader
    ∙ ap (λ (l : Line). with_parts (off (record f { dark = true })) None l) line
  where
    with_parts : BenchState → Option Reader → Line → Desk
    with_parts bench reader line = record { bench = bench; reader = reader; line = line }
