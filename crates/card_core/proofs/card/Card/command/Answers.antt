use Rattle.std.proofs.Common.{refl, ◌≡◌, ◌⊎◌, ◌+◌, ◌≤◌, inl, OnOk, OnErr, sym, ◌∙◌, ap, subst, arith, length}
use Rattle.nvm_board.specs.laws.Aims.{aim_same, aims_same}
use Rattle.undo_journal.specs.Spending.{Advances, KeepsBoard}
use Rattle.card_model.specs.CommandTable.{asked}
use Rattle.card_start.specs.declared.state.CardState.{CardState}
use Rattle.card_start.specs.declared.state.CardState.TheVariants.{Working, Failed, Dark}
use Rattle.command_base.specs.declared.spending.TheConstants.{COMMAND_WRITES}
use Rattle.command_base.specs.Comparing.{ComparesAsked}
use Rattle.command_base.specs.Finding.{HasCard}
use Rattle.card_start.specs.Running.{card_found, CommandFails, CommandIsCut, Running, Steps}
use Rattle.card_model.specs.Sessions.{Session}
use Rattle.command_base.specs.CommandWrites.{writes_asked, writes_of}
use Rattle.card_model.specs.Steps.{ChangesNothing, IsStage}
use Rattle.command_base.specs.CommitWords.{StandsAsked, TurnsAsked}
use Rattle.command_base.specs.Working.{card_in, table_in}
use Rattle.card_core.specs.ShownSessions.{session_while}
use Rattle.command_base.specs.laws.SpendLaws.{few_writes}
use Rattle.card_core.proofs.Commanding.{after, still-compares, still-stage, ended-done, ended-kept, ended-lost}
use Rattle.card_core.proofs.Commanding.{ended-unlit, Ends}
use Rattle.card_core.proofs.card.Card.command.Given.{Over}
use Rattle.card_core.proofs.card.Card.command.Goals.{After-end_command}
use Rattle.ef_contents.specs.laws.Updates.{touched_most}
use Rattle.card_core.proofs.card.Card.command.Goals as goal

-- the end of the command, as the call told it
ends : (g : Over) (c : After-end_command g) → Ends c.run_command-carried.result c.self.inside.state
    c.end_command.new.state c.run_command-carried.new.answer.items c.end_command.new.answer.items c.end_command.result
ends g c = record {
  done = c.end_command.ensures.done;
  failed = c.end_command.ensures.failed;
  lost = c.end_command.ensures.lost;
}

there : (g : Over) (c : After-end_command g) → HasCard c.run_command-carried.new.parts.store.facts.words
there g c =
    let carries = c.run_command-carried.ensures.carries in
    record { journal = carries.reports.sound c.self.invariant.0.journal; words = inl carries.card }

pub end_command-requires : goal.end_command-requires
end_command-requires g c = c.run_command-carried.ensures.carries.room

pub returns-clause-has_card : goal.returns-clause-has_card
returns-clause-has_card g c = there g c

pub returns-clause-stage : goal.returns-clause-stage
returns-clause-stage g c =
    let new = card_in c.run_command-carried.new.parts.store in
    let inside = c.self.inside in
    let session = sym (ap (λ (state : CardState). session_while state (table_in inside.parts.store)
    inside.parts.current)
    c.in-Working.is) in
    subst (λ (r : Running). IsStage (card_found r) r.session c.args.command.now new) c.self.view_is
    (subst (λ (s : Session). IsStage (card_in inside.parts.store) s c.args.command.now new) session
    c.run_command-carried.ensures.carries.stage)

pub returns-clause-idle : goal.returns-clause-idle
returns-clause-idle g c =
    let new = c.run_command-carried.new.parts.store.facts in
    let inside = c.self.inside in
    let session = sym (ap (λ (state : CardState). session_while state (table_in inside.parts.store)
    inside.parts.current)
    c.in-Working.is) in
    subst (λ (r : Running). ChangesNothing (card_found r) r.session c.args.command.now → KeepsBoard r.facts new)
    c.self.view_is
    (subst (λ (s : Session). ChangesNothing (card_in inside.parts.store) s c.args.command.now
    → KeepsBoard inside.parts.store.facts new)
    session (λ nothing. (c.run_command-carried.ensures.carries.idle nothing).board))

pub returns-clause-done : goal.returns-clause-done
returns-clause-done g c =
    let inside = c.self.inside in
    let new = c.run_command-carried.new.parts.store in
    let y = c.run_command-carried.new.parts.current in
    let bytes = c.args.command.now in
    let said = c.end_command.new.answer.items in
    let ready = (c.self.invariant.1 c.in-Working.is).kept.ready in
    let leaves = after inside.parts.store new inside.parts.current y bytes c.run_command-carried.new.answer.items said
    ready
    inside.state c.end_command.new.state c.in-Working.is c.end_command.result in
    subst (λ (r : Running). OnOk c.end_command.result (r.state ≡ Working → Steps r bytes leaves said
    ⊎ CommandFails r leaves said)) c.self.view_is
    (ended-done inside.parts.store new inside.parts.current y bytes c.run_command-carried.new.answer.items
    said ready inside.state c.end_command.new.state c.in-Working.is c.end_command.result c.run_command-carried.result
    c.run_command-carried.ensures.carries (ends g c))

pub returns-clause-lost : goal.returns-clause-lost
returns-clause-lost g c =
    let inside = c.self.inside in
    let new = c.run_command-carried.new.parts.store in
    let y = c.run_command-carried.new.parts.current in
    let bytes = c.args.command.now in
    let said = c.end_command.new.answer.items in
    let ready = (c.self.invariant.1 c.in-Working.is).kept.ready in
    let leaves = after inside.parts.store new inside.parts.current y bytes c.run_command-carried.new.answer.items said
    ready
    inside.state c.end_command.new.state c.in-Working.is c.end_command.result in
    subst (λ (r : Running). OnErr c.end_command.result (r.state ≡ Working → CommandIsCut r leaves said)) c.self.view_is
    (ended-lost inside.parts.store new inside.parts.current y bytes c.run_command-carried.new.answer.items
    said ready inside.state c.end_command.new.state c.in-Working.is c.end_command.result c.run_command-carried.result
    c.run_command-carried.ensures.carries (ends g c))

pub returns-clause-unlit : goal.returns-clause-unlit
returns-clause-unlit g c =
    let inside = c.self.inside in
    ended-unlit inside.parts.store c.run_command-carried.new.parts.store inside.parts.current
    c.run_command-carried.new.parts.current c.args.command.now
    c.run_command-carried.new.answer.items c.end_command.new.answer.items (c.self.invariant.1
    c.in-Working.is).kept.ready
    inside.state c.end_command.new.state c.in-Working.is c.end_command.result c.run_command-carried.result
    c.run_command-carried.ensures.carries (ends g c)

pub invariant_of-self : goal.invariant_of-self
invariant_of-self g c =
    let inside = c.self.inside in
    let kept = ended-kept inside.parts.store c.run_command-carried.new.parts.store
    inside.parts.current c.run_command-carried.new.parts.current c.args.command.now
    c.run_command-carried.new.answer.items
    c.end_command.new.answer.items (c.self.invariant.1 c.in-Working.is).kept.ready inside.state c.end_command.new.state
    c.in-Working.is c.end_command.result
    c.run_command-carried.result c.run_command-carried.ensures.carries (ends g c) c.run_command-carried.new.parts.free
    c.run_command-carried.ensures.space c.run_command-carried.new.parts.index c.run_command-carried.ensures.index in
    (there g c, λ works. let k = kept.0 works in record { kept = k.0; space = k.1; index = k.2 }, kept.1)

pub returns-clause-failed : goal.returns-clause-failed
returns-clause-failed g c = λ is.
    let never : Working ≡ Failed = sym c.in-Working.is ∙ (ap (λ (r : Running). r.state) c.self.view_is ∙ is) in cc

pub returns-clause-dark : goal.returns-clause-dark
returns-clause-dark g c = λ is.
    let never : Working ≡ Dark = sym c.in-Working.is ∙ (ap (λ (r : Running). r.state) c.self.view_is ∙ is) in cc

pub returns-clause-writes : goal.returns-clause-writes
returns-clause-writes g c =
    let writes = c.run_command-carried.ensures.carries.writes in
    let few = few_writes c.args.command.now in
    subst (λ (r : Running). c.run_command-carried.new.parts.store.facts.writes ≤ r.facts.writes + COMMAND_WRITES)
    c.self.view_is (omega (arith, writes, few))

pub returns-clause-counted : goal.returns-clause-counted
returns-clause-counted g c =
    subst (λ (r : Running). c.run_command-carried.new.parts.store.facts.writes
    ≤ r.facts.writes + writes_of c.args.command.now) c.self.view_is c.run_command-carried.ensures.carries.writes

pub returns-clause-compares : goal.returns-clause-compares
returns-clause-compares g c =
    let new = c.run_command-carried.new.parts.store in
    subst (λ (r : Running). ComparesAsked (asked c.args.command.now) (card_found r) r.facts (card_in new) new.facts)
    c.self.view_is c.run_command-carried.ensures.carries.compares

pub returns-in-Failed-clause-has_card : goal.returns-in-Failed-clause-has_card
returns-in-Failed-clause-has_card g c =
    subst (λ (r : Running). HasCard r.facts.words) c.self.view_is c.self.invariant.0

pub returns-in-Failed-clause-stage : goal.returns-in-Failed-clause-stage
returns-in-Failed-clause-stage g c = still-stage c.args.self.now c.args.command.now

pub returns-in-Failed-clause-idle : goal.returns-in-Failed-clause-idle
returns-in-Failed-clause-idle g c =
    λ nothing. record { cut = aim_same _; words = refl; writes = refl; compares = refl; matches = refl }

pub returns-in-Failed-clause-writes : goal.returns-in-Failed-clause-writes
returns-in-Failed-clause-writes g c = omega arith

pub returns-in-Failed-clause-counted : goal.returns-in-Failed-clause-counted
returns-in-Failed-clause-counted g c = omega arith

pub returns-in-Failed-clause-compares : goal.returns-in-Failed-clause-compares
returns-in-Failed-clause-compares g c = still-compares c.args.self.now c.args.command.now

pub returns-in-Dark-clause-has_card : goal.returns-in-Dark-clause-has_card
returns-in-Dark-clause-has_card g c =
    subst (λ (r : Running). HasCard r.facts.words) c.self.view_is c.self.invariant.0

pub returns-in-Dark-clause-stage : goal.returns-in-Dark-clause-stage
returns-in-Dark-clause-stage g c = still-stage c.args.self.now c.args.command.now

pub returns-in-Dark-clause-idle : goal.returns-in-Dark-clause-idle
returns-in-Dark-clause-idle g c =
    λ nothing. record { cut = aim_same _; words = refl; writes = refl; compares = refl; matches = refl }

pub returns-in-Dark-clause-writes : goal.returns-in-Dark-clause-writes
returns-in-Dark-clause-writes g c = omega arith

pub returns-in-Dark-clause-counted : goal.returns-in-Dark-clause-counted
returns-in-Dark-clause-counted g c = omega arith

pub returns-in-Dark-clause-compares : goal.returns-in-Dark-clause-compares
returns-in-Dark-clause-compares g c = still-compares c.args.self.now c.args.command.now

pub returns-clause-stands : goal.returns-clause-stands
returns-clause-stands g c = λ works.
    let new = c.run_command-carried.new.parts.store.facts.words in
    let inside = c.self.inside in
    let session = sym (ap (λ (state : CardState). session_while state (table_in inside.parts.store)
    inside.parts.current)
    c.in-Working.is) in
    subst (λ (r : Running). StandsAsked (card_found r) r.session (asked c.args.command.now) new) c.self.view_is
    (subst (λ (s : Session). StandsAsked (card_in inside.parts.store) s (asked c.args.command.now) new) session
    (c.run_command-carried.ensures.carries.stands (c.self.invariant.1 c.in-Working.is).kept.ready.shut))

pub returns-clause-advances : goal.returns-clause-advances
returns-clause-advances g c =
    subst (λ (r : Running). Advances r.facts c.run_command-carried.new.parts.store.facts) c.self.view_is
    c.run_command-carried.ensures.carries.advances

pub returns-in-Failed-clause-advances : goal.returns-in-Failed-clause-advances
returns-in-Failed-clause-advances g c = record { more = omega arith; cut = aims_same _ }

pub returns-in-Dark-clause-advances : goal.returns-in-Dark-clause-advances
returns-in-Dark-clause-advances g c = record { more = omega arith; cut = aims_same _ }

pub returns-in-Failed-clause-stands : goal.returns-in-Failed-clause-stands
returns-in-Failed-clause-stands g c = λ works.
    let never : Working ≡ Failed = sym works
    ∙ (ap (λ (r : Running). r.state) (sym c.self.view_is) ∙ c.in-Failed.is) in cc

pub returns-in-Dark-clause-stands : goal.returns-in-Dark-clause-stands
returns-in-Dark-clause-stands g c = λ works.
    let never : Working ≡ Dark = sym works ∙ (ap (λ (r : Running). r.state) (sym c.self.view_is) ∙ c.in-Dark.is) in cc

pub returns-clause-updated : goal.returns-clause-updated
returns-clause-updated g c = λ target offset bytes is.
    let counted = returns-clause-counted g c in
    let asks = ap writes_asked is in
    let few = touched_most offset (length bytes) in
    omega (arith, counted, asks, few)

pub returns-in-Failed-clause-updated : goal.returns-in-Failed-clause-updated
returns-in-Failed-clause-updated g c = λ target offset bytes is. omega arith

pub returns-in-Dark-clause-updated : goal.returns-in-Dark-clause-updated
returns-in-Dark-clause-updated g c = λ target offset bytes is. omega arith

pub returns-clause-turned : goal.returns-clause-turned
returns-clause-turned g c = λ works.
    let new = c.run_command-carried.new.parts.store.facts in
    let inside = c.self.inside in
    let session = sym (ap (λ (state : CardState). session_while state (table_in inside.parts.store)
    inside.parts.current)
    c.in-Working.is) in
    subst (λ (r : Running). TurnsAsked (card_found r) r.session (asked c.args.command.now) r.facts new) c.self.view_is
    (subst (λ (s : Session). TurnsAsked (card_in inside.parts.store) s (asked c.args.command.now)
    inside.parts.store.facts new) session c.run_command-carried.ensures.carries.turned)

pub returns-in-Failed-clause-turned : goal.returns-in-Failed-clause-turned
returns-in-Failed-clause-turned g c = λ works.
    let never : Working ≡ Failed = sym works
    ∙ (ap (λ (r : Running). r.state) (sym c.self.view_is) ∙ c.in-Failed.is) in cc

pub returns-in-Dark-clause-turned : goal.returns-in-Dark-clause-turned
returns-in-Dark-clause-turned g c = λ works.
    let never : Working ≡ Dark = sym works ∙ (ap (λ (r : Running). r.state) (sym c.self.view_is) ∙ c.in-Dark.is) in cc
