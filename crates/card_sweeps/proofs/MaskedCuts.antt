-- The memory that a cut leaves, by its mask.
use Rattle.std.specs.Prelude.{◌≡◌, ◌<◌, ◌≤◌, ◌+◌, ◌-◌, ◌==◌, ◌++◌, ℕ, Bool, true, false, List, [], ◌∷◌, length}
use Rattle.std.specs.Prelude.{Option, None, Some, if◌then◌else◌, option_map, slice_index}
use Rattle.std.proofs.Common.{◌∙◌, ap, arith, inl, inr, length-append, refl, subst, sym}
use Rattle.std.proofs.lemmas.Bool.{cases_lt}
use Rattle.std.proofs.lemmas.Grind.{same_number_lists}
use Rattle.std.proofs.lemmas.List.{get_or_append_left}
use Rattle.nvm_board.specs.declared.board.Arm.{Arm}
use Rattle.nvm_board.specs.declared.board.TheConstants.{PAGE_WORDS}
use Rattle.nvm_board.specs.Aims.{Aim, FitPages, aim}
use Rattle.nvm_board.specs.Facts.{Facts}
use Rattle.nvm_board.specs.History.{Run, replayed}
use Rattle.nvm_board.specs.Torn.{IsTornBy}
use Rattle.bench_turns.specs.declared.turn.Turn.{Turn}
use Rattle.bench_turns.specs.declared.turn.Item.{Item}
use Rattle.bench_turns.specs.BenchStates.{BenchState, bench_facts}
use Rattle.bench_turns.specs.Turns.{Runs}
use Rattle.card_sweeps.specs.Sweeps.{CutsTurn, LeavesTorn, SweptTurn, off_with}
use Rattle.card_sweeps.proofs.SparedLemmas.{armed-is, set-aim}

-- turns don't change what the masks of a board mean
runs-masks : (old : BenchState) (turns : List Turn) (trace : List Item) (new : BenchState) → Runs old turns trace new
    → (bench_facts new).masks ≡ (bench_facts old).masks
unfolding Runs
runs-masks old [] [] new run = ap (λ (b : BenchState). (bench_facts b).masks) run
runs-masks old [] (item ∷ trace) new run = absurd run
runs-masks old (turn ∷ turns) [] new run = absurd run
runs-masks old (turn ∷ turns) (item ∷ trace) new run =
    runs-masks run.0 turns trace new run.2 ∙ run.1.counts.masks

-- where nothing is set, nothing is to fall
unset-aim : (f : Facts) → f.pending ≡ None → aim f ≡ None
unset-aim f none = ap (λ (o : Option Arm). aim (record f { pending = o })) none ∙ by_due (f.due == 0)
  where
    by_due : (due : Bool) → if◌then◌else◌ {A = Option Aim} due None None ≡ None
    by_due true = refl
    by_due false = refl

-- the first ones of runs within pages are
pages-before : (whole rest : List Run) → FitPages (whole ++ rest) → FitPages whole
pages-before whole rest all = λ k d lt.
    let size = length-append whole rest in
    subst (λ (r : Run). length r.words ≤ PAGE_WORDS) (get_or_append_left whole rest d k lt)
    (all k d (omega (arith, size, lt)))

pub leaves-torn : (number mask : ℕ) (swept : SweptTurn) (left : Facts) → (c : CutsTurn number mask swept left)
    → swept.board.masks ≡ true → LeavesTorn number mask (bench_facts c.prepared).words left.words
leaves-torn number mask swept left c masked =
    let a = bench_facts c.armed in
    let z = bench_facts c.last in
    let arm : Arm = record { whole_writes = number - 1; mask = mask } in
    let is = armed-is number mask c.prepared c.armed c.arm in
    let masks : a.masks ≡ true = ap (λ (f : Facts). f.masks) is
    ∙ runs-masks (off_with swept.board) swept.prepare c.trace c.prepared c.before ∙ masked in
    let was = set-aim a arm c.good.due (ap (λ (f : Facts). f.pending) is) in
    let none : z.pending ≡ None = sym (ap (λ (f : Facts). f.pending) c.left_is) ∙ c.fired in
    let aimed : Aim = record { write = a.writes + (number - 1) + 1; mask = mask } in
    let torn = c.cut.counts.torn masks aimed was (unset-aim z none) in
    let words : a.words ≡ (bench_facts c.prepared).words = ap (λ (f : Facts). f.words) is in
    record {
      whole = torn.earlier;
      few =
          let before = torn.before in
          let cuts = c.cut.counts.cuts in
          let fine = c.good.faults in
          let fine_left = c.good_left.faults in
          omega (arith, before, cuts, fine, fine_left);
      pages = pages-before torn.earlier _ (subst FitPages torn.all c.cut.counts.pages);
      at = torn.at;
      run = torn.run;
      torn =
          let before = replayed (bench_facts c.prepared).words torn.earlier in
          subst (λ (l : List ℕ). IsTornBy mask before torn.at torn.run l) (sym (ap (λ (f : Facts). f.words) c.left_is))
          (subst (λ (m : List ℕ). IsTornBy mask (replayed m torn.earlier) torn.at torn.run z.words) words torn.torn);
    }

-- with mask 0 no word is new
torn-by-none : (m : List ℕ) (at : ℕ) (run left : List ℕ) → IsTornBy 0 m at run left → left ≡ m
torn-by-none m at run left torn = same_number_lists left m torn.size (λ k lt. elim (cases_lt k at) [
  | inl before ↦ torn.elsewhere k (inl before)
  | inr from ↦ elim (cases_lt k (at + length run)) [
    | inr past ↦ torn.elsewhere k (inr past)
    | inl inside ↦
        let place : at + (k - at) ≡ k = omega (arith, from) in
        let near : k - at < length run = omega (arith, from, inside) in
        subst (λ (j : ℕ). slice_index left j ≡ slice_index m j) place (torn.others (k - at) near (λ set. set refl))
  ]
])

pub leaves-none : (number : ℕ) (before left : List ℕ) → (torn : LeavesTorn number 0 before left)
    → left ≡ replayed before torn.whole
leaves-none number before left t = torn-by-none (replayed before t.whole) t.at t.run left t.torn
