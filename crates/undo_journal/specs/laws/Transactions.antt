-- Laws of a transaction that is begun on a ready store: `a` is the store before it, `b` as it is begun, `t` after the
-- work, `c` as its end leaves it, and `x` the store afterwards. What it leaves by its end stands in `Endings`.
use Rattle.std.proofs.Common.{◌≡◌, ℕ, List, refl, sym, ◌∙◌, ap, subst, arith}
use Rattle.std.proofs.Math.Logic.{⊎_map}
use Rattle.nvm_board.specs.Facts.{Facts}
use Rattle.nvm_board.specs.laws.Aims.{aims_same}
use Rattle.undo_journal.specs.Commits.{CommitsByGate, TurnsGate, TurnsTo}
use Rattle.undo_journal.specs.Memory.{Memory, committed, current, IsReady}
use Rattle.undo_journal.specs.Spending.{WritesAtMost}
use Rattle.undo_journal.specs.StoreCalls.{OnlyReads}

-- it begins with the words that are committed
pub begun : (a b : Memory) → b ≡ a → IsReady a → committed a ≡ current b
begun a b same ready = ready.same ∙ sym (ap (λ (m : Memory). current m) same)

-- what is committed stays
pub stays : (a b t c x : Memory) → b ≡ a → x ≡ c → committed t ≡ committed b → committed c ≡ committed t
    → committed x ≡ committed a
stays a b t c x same last kept still =
    ap (λ (m : Memory). committed m) last ∙ still ∙ kept ∙ ap (λ (m : Memory). committed m) same

-- reads before it, and after it
pub by_gate_after : (a b c : Memory) → committed b ≡ committed a → CommitsByGate b c → CommitsByGate a c
by_gate_after a b c same exit =
    ⊎_map (λ still. still ∙ same) (λ turned. subst (λ (l : List ℕ). TurnsGate l c) same turned) exit

-- a board that stays costs nothing
pub stays_spends : (f g : Facts) → g ≡ f → WritesAtMost 0 f g
stays_spends f g same =
    subst (λ (h : Facts). WritesAtMost 0 f h) (sym same) (record {
      writes = omega arith;
      more = omega arith;
      cut = aims_same f;
      compares = refl;
      matches = refl;
    })

-- reads alone make no commit
pub reads_turn : (becomes : List ℕ → Type 0) (a b : Memory) → OnlyReads a b → TurnsTo becomes a b
reads_turn becomes a b reads = λ shut more. absurd (omega (arith, reads.board.writes, more))

-- what is true of the words once the gate has turned, after reads and in other words
pub turns_after : (becomes is : List ℕ → Type 0) (a b c : Memory) → OnlyReads a b
    → (becomes (committed c) → is (committed c)) → TurnsTo becomes b c → TurnsTo is a c
turns_after becomes is a b c reads weaker turned = λ shut more.
    weaker (turned shut (omega (arith, reads.board.writes, more)))
