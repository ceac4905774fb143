-- The card that a run of a sweep shows.
use Rattle.std.specs.Prelude.{◌≡◌, ℕ, zero, suc, List}
use Rattle.std.proofs.Common.{refl, sym, ◌∙◌, ap, subst}
use Rattle.nvm_board.specs.Facts.{Facts}
use Rattle.bench_turns.specs.declared.turn.Turn.{Turn}
use Rattle.bench_turns.specs.declared.turn.Item.{Item}
use Rattle.bench_turns.specs.declared.turn.Item.TheVariants.{Atr, Quiet, Mute, Dark, Reply}
use Rattle.bench_turns.specs.BenchStates.{BenchState, off, on, switched_off, bench_card, IsArmed}
use Rattle.command_base.specs.Finding.{found}
use Rattle.core.specs.Borrow.{Bor}
use Rattle.bench_turns.specs.declared.turn.Turn.TheVariants.{Block}
use Rattle.bench_turns.specs.Turns.{GoodTurn, TurnsOn}
use Rattle.card_sweeps.specs.Tallies.{Finding}
use Rattle.card_sweeps.specs.Sweeps.{CutsStart, CutsStarts, GivenByRun, IsStageOf, off_with}
use Rattle.card_sweeps.proofs.SweepLemmas.{runs-none}

-- an arm leaves the card
card-armed : (number mask : ℕ) (old new : BenchState) → IsArmed number mask old new → bench_card new ≡ bench_card old
card-armed number mask (off facts) new arm = ap bench_card arm.same
card-armed number mask (on powered) new arm = ap bench_card arm.same

-- so does a start that is cut
card-start : (number mask : ℕ) (board left : Facts) → CutsStart number mask board left
    → found left.words ≡ found board.words
card-start number mask board left cut =
    ap (λ (f : Facts). found f.words) cut.left_is ∙ cut.cut.one.1.card
    ∙ card-armed number mask cut.prepared cut.armed cut.arm
    ∙ ap bench_card (runs-none (off_with board) cut.trace cut.prepared cut.before)

-- so do starts that are cut
card-starts : (n : ℕ) (board left : Facts) → CutsStarts n board left → found left.words ≡ found board.words
unfolding CutsStarts
card-starts zero board left same = ap (λ (f : Facts). found f.words) same
card-starts (suc n) board left cuts = card-starts n cuts.2 left cuts.4 ∙ card-start cuts.0 cuts.1 board cuts.2 cuts.3

-- so does power off
card-off : (old : BenchState) → bench_card (switched_off old) ≡ bench_card old
card-off (off facts) = refl
card-off (on powered) = refl

-- so does a start that isn't cut
card-on : (old new : BenchState) (item : Item) → TurnsOn old item new → bench_card new ≡ bench_card old
card-on old new Atr turned = turned.1.card
card-on old new Quiet turned = absurd turned
card-on old new Mute turned = ap bench_card turned.0 ∙ card-off old
card-on old new Dark turned = turned.1.card
card-on old new (Reply block) turned = absurd turned

-- where power is lost in a block, the card is a stage of its command
stage-cut : (old new : BenchState) (command : Bor (List ℕ)) → GoodTurn old (Block command) Dark new
    → IsStageOf old command.now (bench_card new)
stage-cut (off facts) new command cut = absurd cut.one
stage-cut (on powered) new command cut = cut.one.stage

-- the card that a run shows is a stage of the command that was cut
pub stage-shown : (board : Facts) (prepare : List Turn) (command : Bor (List ℕ))
    (probe : List Turn) (depth : ℕ) (given : Finding)
    → (s : GivenByRun (record { board = board; prepare = prepare; turn = Block command }) probe depth given)
    → IsStageOf s.cut.armed command.now (bench_card s.rest.end.started)
stage-shown board prepare command probe depth given s =
    let same : bench_card s.rest.end.started ≡ bench_card s.cut.last =
    card-on (off_with s.rest.left) s.rest.end.started s.rest.end.item s.rest.end.start.one
    ∙ card-starts s.rest.starts s.left s.rest.left s.rest.cut ∙ ap (λ (f : Facts). found f.words) s.cut.left_is in
    subst (λ card. IsStageOf s.cut.armed command.now card) (sym same)
    (stage-cut s.cut.armed s.cut.last command s.cut.cut)
