use Rattle.std.specs.Prelude.{◌≡◌, ◌↔◌, ◌+◌, Bool, true, false, IsTrue, is_some, option_map}
use Rattle.std.proofs.Common.{◌∙◌, ap, refl, subst}
use Rattle.std.proofs.lemmas.Bool.{false≢true}
use Rattle.nvm_board.specs.Facts.{Facts}
use Rattle.bench_turns.specs.BenchStates.{BenchState, IsOn, off, on}
use Rattle.card_bench.specs.declared.line.Line.{Line}
use Rattle.card_calls.specs.FirstWrites.{announcement}
use Rattle.card_calls.specs.SessionStates.{SessionState, session_facts}
use Rattle.card_calls.specs.Telling.{bit_of, is_on, state_bits}
use Rattle.soffitfennel.proofs.session.Session.state.Goals as goal

-- power is on, or it isn't
on-so : (is : Bool) (bench : BenchState) → (IsTrue is ↔ IsOn bench) → is ≡ is_on bench
on-so true (off facts) so = absurd (so.0 refl)
on-so true (on powered) so = refl
on-so false (off facts) so = refl
on-so false (on powered) so = absurd (false≢true (so.1 tt))

pub returns : goal.returns
returns c =
    let inside = c.self.inside in
    let was : SessionState = record {
      desk = inside.desk.desk;
      behind = inside.behind;
      stored = inside.stored;
      announced = option_map announcement inside.announced;
      device = inside.device;
    } in
    let power : c.bit.result ≡ bit_of (is_on was.desk.bench) 1 =
    c.bit.ensures ∙ ap (λ (b : Bool). bit_of b 1) (on-so c.is_on.result was.desk.bench c.is_on.ensures) in
    let device : c.bit-2.result ≡ bit_of (is_some (session_facts was).log) 2 =
    c.bit-2.ensures ∙ ap (λ (b : Bool). bit_of b 2)
    (c.has_device.ensures ∙ ap (λ (f : Facts). is_some f.log) c.board.ensures) in
    let cut : c.bit-3.result ≡ bit_of (is_some (session_facts was).pending) 4 =
    c.bit-3.ensures ∙ ap (λ (b : Bool). bit_of b 4)
    (c.pending.ensures ∙ ap (λ (f : Facts). is_some f.pending) c.board-2.ensures) in
    let lost : c.bit-4.result ≡ bit_of (is_some was.desk.line.lose) 8 =
    c.bit-4.ensures ∙ ap (λ (b : Bool). bit_of b 8)
    (c.loses.ensures ∙ ap (λ (l : Line). is_some l.lose) c.line-line.ensures) in
    let garbled : c.bit-5.result ≡ bit_of (is_some was.desk.line.garble) 16 =
    c.bit-5.ensures ∙ ap (λ (b : Bool). bit_of b 16)
    (c.garbles.ensures ∙ ap (λ (l : Line). is_some l.garble) c.line-line.ensures) in
    let behind : c.bit-6.result ≡ bit_of was.behind 32 = c.bit-6.ensures in
    subst (λ (s : SessionState).
    c.bit.result + c.bit-2.result + c.bit-3.result + c.bit-4.result + c.bit-5.result + c.bit-6.result
    ≡ state_bits s) c.self.view_is
    (λ i. power i + device i + cut i + lost i + garbled i + behind i)
