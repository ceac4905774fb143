use Rattle.std.proofs.Common.{◌≡◌, ◌≢◌, ◌<◌, length, Some, sym, subst, All, List, get_or, arith}
use Rattle.std.proofs.lemmas.Bool.{false≢true}
use Rattle.std.proofs.lemmas.List.{take_all}
use Rattle.std.proofs.lemmas.List.Elements.{All-more}
use Rattle.std.specs.List.{slice_get}
use Rattle.std.proofs.lemmas.Option.{slice_get-get_or}
use Rattle.card_sweeps.specs.declared.tally.Seen.{Seen}
use Rattle.card_sweeps.specs.Tallies.{finding}
use Rattle.card_sweeps.proofs.tally.Sweep.place_of.Goals as goal

pub returns-then-is_same-clause-same : goal.returns-then-is_same-clause-same
returns-then-is_same-clause-same c =
    let items = c.args.self.now.seen.items in
    let within : c.loop-i.i < length items =
    omega (arith, c.loop-i-test.true, c.len-i-end.ensures, c.args.self.now.seen.ok.0) in
    let At : Seen → Type 0 = λ s. slice_get items c.loop-i.i ≡ Some s in
    record {
      here = c.index.result.now;
      there = subst At (sym c.index.ensures) (slice_get-get_or items c.loop-i.i c.index.result.now within);
      same = c.is_same.ensures.0 c.if-is_same.true;
    }

pub loop-i-preserved : goal.loop-i-preserved
loop-i-preserved c =
    let items = c.args.self.now.seen.items in
    let Other : Seen → Type 0 = λ s. finding s ≢ record { trace = c.args.trace.now; free = c.args.free } in
    let other : Other c.index.result.now = λ same. false≢true (rw c.if-is_same.false at (c.is_same.ensures.1 same)) in
    let here : Other (get_or items c.loop-i.i c.index.result.now) = subst Other c.index.ensures other in
    let within : c.loop-i.i < length items =
    omega (arith, c.loop-i-test.true, c.len-i-end.ensures, c.args.self.now.seen.ok.0) in
    record { so_far = All-more Other items c.loop-i.i c.index.result.now within c.loop-i.invariant.so_far here }

pub returns-clause-new : goal.returns-clause-new
returns-clause-new c =
    let items = c.args.self.now.seen.items in
    let Others : List Seen → Type 0 = All (λ s. finding s ≢ record { trace = c.args.trace.now; free = c.args.free }) in
    subst Others (take_all c.loop-i.i items
    (omega (arith, c.loop-i-test.false, c.len-i-end.ensures, c.args.self.now.seen.ok.0))) c.loop-i.invariant.so_far
