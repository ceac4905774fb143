use Rattle.std.proofs.Common.{◌≡◌, refl, subst, sym, true≢false}
use Rattle.std.proofs.lemmas.Result.{IfErr-weaker, IfOk-at_ok, on_ok_weaker}
use Rattle.nvm_board.specs.Facts.{Facts}
use Rattle.simulated_boards.specs.Cut.{cut_facts}
use Rattle.command_base.specs.Finding.{HasCard}
use Rattle.card_bench.specs.Prints.{IsFirstDesk, desk_of}
use Rattle.card_bench.proofs.FirstDesks.{first_desk}
use Rattle.card_bench.proofs.script.run.Goals as goal

pub run_on-requires : goal.run_on-requires
run_on-requires g c =
    let facts = cut_facts c.in-Ok.board in
    let same : c.unwrap-board.result ≡ facts =
    IfOk-at_ok (λ (f : Facts). f ≡ facts) c.unwrap-board.ensures c.new.ensures.facts in
    subst (λ (f : Facts). HasCard f.words) (sym same) c.in-Ok.ensures.card.has_card

pub returns-clause-done : goal.returns-clause-done
returns-clause-done g c =
    let facts = cut_facts c.in-Ok.board in
    let same : c.unwrap-board.result ≡ facts =
    IfOk-at_ok (λ (f : Facts). f ≡ facts) c.unwrap-board.ensures c.new.ensures.facts in
    let begins : IsFirstDesk (desk_of c.unwrap-board.result) = subst (λ (f : Facts). IsFirstDesk (desk_of f)) (sym same)
    (first_desk _ facts refl refl refl c.in-Ok.ensures.card c.in-Ok.ensures.words c.in-Ok.ensures.counts refl refl) in
    on_ok_weaker c.run_on.result (λ done. (desk_of c.unwrap-board.result, begins, done)) c.run_on.ensures.done

pub returns-clause-stopped : goal.returns-clause-stopped
returns-clause-stopped g c =
    let facts = cut_facts c.in-Ok.board in
    let same : c.unwrap-board.result ≡ facts =
    IfOk-at_ok (λ (f : Facts). f ≡ facts) c.unwrap-board.ensures c.new.ensures.facts in
    let begins : IsFirstDesk (desk_of c.unwrap-board.result) = subst (λ (f : Facts). IsFirstDesk (desk_of f)) (sym same)
    (first_desk _ facts refl refl refl c.in-Ok.ensures.card c.in-Ok.ensures.words c.in-Ok.ensures.counts refl refl) in
    λ other. IfErr-weaker c.run_on.result _ _ (λ fault stops. (desk_of c.unwrap-board.result, begins, stops))
    c.run_on.ensures.stopped

pub returns-clause-kept : goal.returns-clause-kept
returns-clause-kept g c = λ unkept. true≢false (c.run_on.ensures.behind unkept).1
