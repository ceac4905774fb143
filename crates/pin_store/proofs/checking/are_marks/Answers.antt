use Rattle.std.proofs.lemmas.Result.{IfOk-weaker}
use Rattle.pin_store.proofs.checking.are_marks.Goals as goal

pub returns : goal.returns
returns g c = record {
  told = IfOk-weaker c.are_at_most.result _ _ (λ few told. (
    λ yes. let all = told.0 yes in record { each = all.each },
    λ marks. told.1 (record { each = marks.each }),
  )) c.are_at_most.ensures.told;
  store = c.are_at_most.ensures.store;
}
