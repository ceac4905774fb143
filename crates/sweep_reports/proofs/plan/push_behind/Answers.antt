use Rattle.std.proofs.Common.{◌≢◌, ◌++◌, ◌∙◌, List, ap, refl, string_bytes, sym, true≢false}
use Rattle.card_sweeps.specs.declared.tally.Seen.{Seen}
use Rattle.card_sweeps.specs.declared.tally.SweepEnd.TheVariants.{Differs}
use Rattle.sweep_reports.specs.Printing.{results_text}
use Rattle.sweep_reports.proofs.plan.push_behind.Goals as goal
use Rattle.sweep_reports.proofs.plan.push_behind.Goals.{in-Differs, in_default}

pub returns : goal.returns
returns g c = λ card.
    let found = c.in_ok-found.found in
    let fits : found.end ≢ Differs = elim c.match-matches.branch [
      | in-Differs w ↦ λ is. true≢false (sym w.matches-is ∙ c.if-matches.false)
      | in_default w ↦ λ is. w.in_default.not-Differs is
    ] in
    record {
      more = results_text c.args.plan.now.looks.now c.args.head.now found.seen.items;
      holds = record {
        end = found.end;
        fits = fits;
        runs = found.runs;
        seen = found.seen.items;
        tally = record { sum = found.sum; given = found.given; different = found.different };
        given = c.in_ok-found.ensures.runs card;
        all = c.in_ok-found.ensures.complete card;
        text_is = refl;
      };
      all = c.in_ok-push_results.ensures ∙ ap (λ (l : List Seen). string_bytes c.args.text.now
          ++ results_text c.args.plan.now.looks.now c.args.head.now l)
          c.deref.ensures.value;
    }
