use Rattle.std.proofs.Common.{◌∙◌, [], append-nil, refl, sym, true≢false}
use Rattle.sweep_reports.specs.DeviceWrites.{kinds_text}
use Rattle.sweep_reports.proofs.Put.{on-ok}
use Rattle.sweep_reports.proofs.plan.push_first_part.Goals as goal

pub returns : goal.returns
returns g c = on-ok c.push_kinds.result _ _
    (λ written. record {
      more = kinds_text 1 c.args.all.now;
      holds = record {
        first = λ _. refl;
        later = λ others. absurd (others (c.is_first.ensures.0 c.if-not-is_first.false));
      };
      all = written;
    })
    c.push_kinds.ensures

pub returns-then-not-is_first : goal.returns-then-not-is_first
returns-then-not-is_first g c = record {
  more = [];
  holds = record {
    first = λ is. absurd (true≢false (sym (c.is_first.ensures.1 is) ∙ c.if-not-is_first.true));
    later = λ _. refl;
  };
  all = sym (append-nil _);
}
