use Rattle.std.specs.Prelude.{◌<◌, ℕ, List, get_or, length, take}
use Rattle.std.proofs.Common.{arith, subst, sym}
use Rattle.std.proofs.lemmas.List.{take_more}
use Rattle.std.proofs.lemmas.List.Elements.{All-push}
use Rattle.card_model.specs.Requests.{AreBytes}
use Rattle.card_calls.proofs.of_bytes.are_bytes.Goals as goal

pub loop-i-preserved : goal.loop-i-preserved
loop-i-preserved c =
    let given = c.args.given.now in
    let within : c.loop-i.i < length given = omega arith in
    let byte : get_or given c.loop-i.i 0 < 256 = omega arith in
    record {
      all = subst (λ (bytes : List ℕ). AreBytes bytes) (sym (take_more given c.loop-i.i 0 within))
          (All-push (λ (b : ℕ). b < 256) (take c.loop-i.i given) (get_or given c.loop-i.i 0)
          c.loop-i.invariant.all byte);
    }
