use Rattle.std.proofs.Common.{◌≢◌, ◌∙◌, List, ℕ, Some, Err, refl, rules, subst, ap}
use Rattle.bench_lines.specs.declared.fault.RunFault.TheVariants.{Unkept}
use Rattle.nvm_board.specs.Facts.{Facts}
use Rattle.simulated_boards.specs.Cut.{cut_facts}
use Rattle.card_bench.specs.Prints.{IsFirstDesk, desk_of}
use Rattle.card_bench.specs.ScriptEndings.{IsRunToEnd, RunStopsBy}
use Rattle.card_bench.proofs.FirstDesks.{first_desk}
use Rattle.card_calls.specs.ScriptCalls.{FollowsInC}
use Rattle.soffitfennel.proofs.bench.printed.Goals as goal

pub returns-in-Ok-run_on : goal.returns-in-Ok-run_on
returns-in-Ok-run_on c =
    let facts = cut_facts c.in-Ok.board in
    let begins : IsFirstDesk (desk_of facts) =
    first_desk _ facts refl refl refl c.in-Ok.ensures.card c.in-Ok.ensures.words c.in-Ok.ensures.counts refl refl in
    let text = Some c.run_on.new.writer.items in
    let done = subst (λ (f : Facts). IsRunToEnd FollowsInC (desk_of f) c.args.script.now
    (Some c.new-text.result.items) text) (c.in-Ok-new.ensures.facts ∙ c.unfollowed.ensures)
    c.in-Ok-run_on.ensures.done in (
      desk_of facts,
      begins,
      subst (λ (l : List ℕ). IsRunToEnd FollowsInC (desk_of facts) c.args.script.now (Some l) text)
          c.new-text.ensures.items done,
    )

pub returns-in-Err : goal.returns-in-Err
returns-in-Err c =
    let facts = cut_facts c.in-Ok.board in
    let begins : IsFirstDesk (desk_of facts) =
    first_desk _ facts refl refl refl c.in-Ok.ensures.card c.in-Ok.ensures.words c.in-Ok.ensures.counts refl refl in
    let text = Some c.run_on.new.writer.items in
    let left = Some c.run_on.new.reader.now in
    let stopped = subst (λ (f : Facts). RunStopsBy FollowsInC (desk_of f) c.in-Err.fault (Some c.args.script.now) left
    (Some c.new-text.result.items) text) (c.in-Ok-new.ensures.facts ∙ c.unfollowed.ensures) c.in-Err.ensures.stopped in
    let apart : c.in-Err.fault ≢ Unkept = search rules in (
      apart,
      λ memory. absurd (c.in-Err.ensures.memory (ap Err memory)),
      λ other. (
        desk_of facts,
        left,
        begins,
        subst (λ (l : List ℕ). RunStopsBy FollowsInC (desk_of facts) c.in-Err.fault (Some c.args.script.now) left
            (Some l) text) c.new-text.ensures.items stopped,
      ),
    )
