-- The first write of an order, from the log of a second card's board.
use Rattle.std.specs.Prelude.{◌≡◌, ◌≤◌, ◌⊎◌, ◌∷◌, ℕ, List, [], Option, None, Some, IfSome, length}
use Rattle.std.specs.Prelude.{is_some, option_map, true, false}
use Rattle.std.proofs.Common.{◌∙◌, ap, arith, inl, inr, refl, subst, sym}
use Rattle.std.proofs.lemmas.Bool.{true≢false}
use Rattle.nvm_board.specs.Facts.{Facts}
use Rattle.nvm_board.specs.History.{Log, Run, and_runs, replayed}
use Rattle.bench_lines.specs.Orders.{Order, Cut}
use Rattle.bench_lines.specs.Printouts.{Print}
use Rattle.bench_turns.specs.BenchStates.{BenchState, bench_facts}
use Rattle.bench_turns.specs.Plays.{IsGood}
use Rattle.card_bench.specs.Charges.{CutsNext, MayCompare, twin_desk}
use Rattle.card_bench.specs.Exchanges.{Desk}
use Rattle.card_bench.specs.Performing.{Performs}
use Rattle.card_bench.specs.declared.charge.TheConstants.{ALL_WORDS}
use Rattle.card_bench.proofs.ChargeLaws.{facts-with, ran_to_first, twin_facts}
use Rattle.card_calls.specs.Devices.{TellsNext, logs_none, run_of}
use Rattle.card_calls.specs.FirstWrites.{HasNoCharge, RunsAhead, TellsFirst, runs_of, with_first}
use Rattle.card_calls.specs.SessionStates.{SessionState, session_facts}
use Rattle.card_calls.specs.declared.device.TheConstants.{TWIN_WRITES}
use Rattle.card_calls.specs.declared.write.Write.{Write}
use Rattle.card_calls.specs.declared.write_log.NextWrite.TheVariants as next
use Rattle.card_calls.proofs.OneWrite.{armed_next, performed_once}

abbrev some-of : {X : Type 0} → X → Option X → X
some-of d None = d
some-of d (Some x) = x

-- the write of a log of one is the one that was made, and that of an empty log is none
tells-made : (runs : List Run) (told : Option Write) → length runs ≤ 1
    → (told ≡ None → TellsNext (and_runs (logs_none TWIN_WRITES) runs) 0 next.Nothing
    ⊎ TellsNext (and_runs (logs_none TWIN_WRITES) runs) 0 next.Lost)
    → IfSome told (λ w. TellsNext (and_runs (logs_none TWIN_WRITES) runs) 0 (next.Write w))
    → runs ≡ runs_of (option_map run_of told)
tells-made [] None few none one = refl
tells-made [] (Some w) few none one = absurd (omega (arith, one.1))
tells-made (run ∷ []) None few none one = elim (none refl) [
  | inl all ↦ absurd (omega (arith, all))
  | inr lost ↦ absurd (omega (arith, lost))
]
tells-made (run ∷ []) (Some w) few none one = ap (λ (r : Run). r ∷ []) (ap (some-of run) one.2)
tells-made (run ∷ more ∷ runs) told few none one = absurd (omega (arith, few))

-- and these words are in the memory then
made-words : (words : List ℕ) (first : Option Run) → replayed words (runs_of first) ≡ with_first words first
made-words words None = refl
made-words words (Some run) = refl

module _ (order : Order) (was : SessionState) (armed left : Desk) (quiet prints : Print)
    (cut : Performs (Cut 1 ALL_WORDS) (twin_desk was.desk (logs_none TWIN_WRITES)) armed quiet)
    (run : Performs order armed left prints) (good : IsGood left.bench) (may : MayCompare order)
    (lit : IsGood armed.bench) (masks : (session_facts was).masks ≡ true) where
  -- what the board's log tells
  pub tells_first : (f : Facts) → f ≡ bench_facts left.bench → (told : Option Write)
      → (told ≡ None → TellsNext f.log 0 next.Nothing ⊎ TellsNext f.log 0 next.Lost)
      → IfSome told (λ w. TellsNext f.log 0 (next.Write w)) → RunsAhead order was told
  unfolding ran_to_first
  tells_first f same told none one =
      let twin = twin_desk was.desk (logs_none TWIN_WRITES) in
      let at = armed_next ALL_WORDS twin.bench armed.bench cut.armed lit
      (ap (λ (g : Facts). g.masks) (twin_facts was.desk (logs_none TWIN_WRITES)) ∙ masks) in
      let once = performed_once order armed left prints may at run in
      let words : (bench_facts armed.bench).words ≡ (session_facts was).words =
      ap (λ (b : BenchState). (bench_facts b).words) cut.armed.same
      ∙ ap (λ (g : Facts). g.words) (facts-with twin.bench _)
      ∙ ap (λ (g : Facts). g.words) (twin_facts was.desk (logs_none TWIN_WRITES)) in
      let begun : (bench_facts armed.bench).log ≡ logs_none TWIN_WRITES =
      ap (λ (b : BenchState). (bench_facts b).log) cut.armed.same
      ∙ ap (λ (g : Facts). g.log) (facts-with twin.bench _)
      ∙ ap (λ (g : Facts). g.log) (twin_facts was.desk (logs_none TWIN_WRITES)) in
      let made : (bench_facts left.bench).log ≡ and_runs (logs_none TWIN_WRITES) once.wrote.runs =
      once.wrote.log ∙ ap (λ (l : Option Log). and_runs l once.wrote.runs) begun in
      let log : f.log ≡ and_runs (logs_none TWIN_WRITES) once.wrote.runs = ap (λ (g : Facts). g.log) same ∙ made in
      let tells = tells-made once.wrote.runs told once.one
      (subst (λ (l : Option Log). told ≡ None → TellsNext l 0 next.Nothing ⊎ TellsNext l 0 next.Lost) log none)
      (subst (λ (l : Option Log). IfSome told (λ w. TellsNext l 0 (next.Write w))) log one) in (
        ran_to_first order was.desk (logs_none TWIN_WRITES) armed left quiet prints cut run good _
            (once.wrote.words ∙ ap (λ (l : List ℕ). replayed l once.wrote.runs) words
            ∙ ap (replayed (session_facts was).words) tells
            ∙ made-words (session_facts was).words (option_map run_of told)),
        made ∙ ap (and_runs (logs_none TWIN_WRITES)) tells,
      )

-- a first write that was told, and announced
pub tells_announced : (order : Order) (was now : SessionState) (first : Option Write) → RunsAhead order was first
    → now ≡ record was { announced = Some (record { order = order; first = option_map run_of first }) }
    → TellsFirst order was now first
tells_announced order was now None told is = inr (record { told = told; now_is = is })
tells_announced order was now (Some w) told is = record { told = told; now_is = is }

-- an order without a charge
pub tells_none : (order : Order) (was : SessionState) → HasNoCharge order was → TellsFirst order was was None
tells_none order was none = inl (none, refl)

-- an order has a charge
pub charge_there : (order : Order) (was : SessionState) → MayCompare order → is_some (session_facts was).log ≡ true
    → was.behind ≡ false → ¬ CutsNext (session_facts was).pending → ¬ HasNoCharge order was
charge_there order was may some up uncut (inl never) = never may
charge_there order was may some up uncut (inr (inl none)) = true≢false (sym some ∙ none)
charge_there order was may some up uncut (inr (inr (inl behind))) = true≢false (sym behind ∙ up)
charge_there order was may some up uncut (inr (inr (inr cuts))) = uncut cuts
