-- What a command leaves of a card that works, by how it was carried out.
use Rattle.std.proofs.Common.{◌≡◌, ◌⊎◌, true, true≢false, List, ℕ, [], Result, Ok, Err, IsOk, IsErr, IfOk, OnOk}
use Rattle.std.proofs.Common.{OnErr, refl, sym, ◌∙◌, ap, subst, inl, inr}
use Rattle.std.specs.Result.{IsErrOf}
use Rattle.std.proofs.Common.{arith}
use Rattle.card_model.specs.CommandTable.{asked}
use Rattle.file_tree.specs.Indexes.{IsIndex}
use Rattle.file_tree.specs.declared.index.Index.{Index}
use Rattle.command_base.specs.Comparing.{ComparesAsked}
use Rattle.command_base.specs.Counting.{CountsAnswered}
use Rattle.card_model.specs.Steps.{IsStage, carried_out}
use Rattle.command_base.specs.laws.CompareLaws.{asked-none}
use Rattle.card_model.specs.declared.status.Sw.{Sw}
use Rattle.undo_journal.specs.declared.error.StoreErr.{StoreErr}
use Rattle.undo_journal.specs.declared.error.StoreErr.TheVariants.{PowerLost, Fault}
use Rattle.undo_journal.specs.Memory.{Memory, IsReady}
use Rattle.undo_journal.specs.laws.Exits.{ok_anyway, err_anyway}
use Rattle.card_model.specs.declared.space.FreeSpace.{FreeSpace}
use Rattle.card_start.specs.declared.state.CardState.{CardState}
use Rattle.card_start.specs.declared.state.CardState.TheVariants.{Working, Failed, Dark}
use Rattle.command_base.specs.declared.current.Current.{Current}
use Rattle.card_start.specs.declared.faults.PowerLost.{PowerLost as Lost}
use Rattle.card_model.specs.Behaviours.{answer_bytes, Outcome, outcome}
use Rattle.card_start.specs.Running.{card_found, memory_failure, CommandFails, CommandIsCut, Running, Steps}
use Rattle.command_base.specs.Served.{ExecutesBytes}
use Rattle.card_model.specs.Sessions.{Session}
use Rattle.command_base.specs.Working.{card_in, session_in, space_in, table_in, IsKept}
use Rattle.card_core.specs.ShownSessions.{session_while}

-- a fact of a result, where it is one or isn't
no-ok : {T E : Type 0} (r : Result T E) (P : Type 0) → IsErr r → OnOk r P
no-ok (Ok x) P is = absurd (true≢false (sym is))
no-ok (Err e) P is = tt

no-err : {T E : Type 0} (r : Result T E) (P : Type 0) → IsOk r → OnErr r P
no-err (Ok x) P is = tt
no-err (Err e) P is = absurd (true≢false (sym is))

-- how a command ends, by how it was carried out
pub record Ends (carried : Result Sw StoreErr) (was now : CardState) (text said : List ℕ) (result : Result (Unit {0})
    Lost)
    : Type 0 where
  pub done : IfOk carried (λ status. IsOk result × (now ≡ was)
      × (said ≡ answer_bytes (record { text = text; status = status })))
  pub failed : IsErrOf carried Fault → IsOk result × (now ≡ Failed) × (said ≡ memory_failure)
  pub lost : IsErrOf carried PowerLost → IsErr result × (now ≡ Dark) × (said ≡ [])

module _ (old new : Memory) (x y : Current) (command text said : List ℕ) (ready : IsReady old) (was now : CardState)
    (working : was ≡ Working) (result : Result (Unit {0}) Lost) where
  abbrev pub before : Running
  before = record { facts = old.facts; session = session_while was (table_in old) x; state = was }

  abbrev pub after : Running
  after = record { facts = new.facts; session = session_while now (table_in new) y; state = now }

  done-in : (status : Sw) → ExecutesBytes command old x new y text (Ok status)
      → Ends (Ok status) was now text said result
      → Steps before command after said
  done-in status carries ends =
      let light = (carries.reports.works carries.tells).1 in
      let session : before.session ≡ session_in old x =
      ap (λ (state : CardState). session_while state (table_in old) x) working in
      let step : carried_out (card_in old) before.session command ≡ outcome (card_in new) (session_in new y) text
      status =
      ap (λ (s : Session). carried_out (card_in old) s command) session ∙ carries.step in
      let state = ends.done.1 ∙ working in
      record {
        power = record {
          was_lit = ready.usable.lit;
          lit = light.dark ∙ ready.usable.lit;
          faults = light.faults;
          cuts = light.cuts;
          due = light.due;
        };
        state = state;
        card = sym (ap (λ (o : Outcome). o.card) step);
        session = ap (λ (s : CardState). session_while s (table_in new) y) state ∙ sym (ap (λ (o : Outcome).
            o.session) step);
        answered = ends.done.2 ∙ sym (ap (λ (o : Outcome). answer_bytes o.response) step);
        counted = subst (λ (s : Session). CountsAnswered (asked command) (card_in old) s old.facts new.facts)
            (sym session) carries.counted;
      }

  fails-in : ExecutesBytes command old x new y text (Err Fault) → Ends (Err Fault) was now text said result
      → CommandFails before after said
  fails-in carries ends =
      let ended = ends.failed refl in
      record {
        power = carries.reports.fails Fault ready.usable.works carries.tells;
        state = ended.1;
        session = ap (λ (s : CardState). session_while s (table_in new) y) ended.1;
        answered = ended.2;
      }

  cut-in : ExecutesBytes command old x new y text (Err PowerLost) → Ends (Err PowerLost) was now text said result
      → CommandIsCut before after said
  cut-in carries ends =
      let ended = ends.lost refl in
      record {
        power = carries.reports.fails PowerLost ready.usable.works carries.tells;
        state = ended.1;
        session = ap (λ (s : CardState). session_while s (table_in new) y) ended.1;
        answered = ended.2;
      }

  pub ended-done : (carried : Result Sw StoreErr) → ExecutesBytes command old x new y text carried
      → Ends carried was now text said result
      → OnOk result (was ≡ Working → Steps before command after said ⊎ CommandFails before after said)
  ended-done (Ok status) carries ends = ok_anyway _ result (λ works. inl (done-in status carries ends))
  ended-done (Err Fault) carries ends = ok_anyway _ result (λ works. inr (fails-in carries ends))
  ended-done (Err PowerLost) carries ends = no-ok result _ (ends.lost refl).0

  pub ended-lost : (carried : Result Sw StoreErr) → ExecutesBytes command old x new y text carried
      → Ends carried was now text said result → OnErr result (was ≡ Working → CommandIsCut before after said)
  ended-lost (Ok status) carries ends = no-err result _ ends.done.0
  ended-lost (Err Fault) carries ends = no-err result _ (ends.failed refl).0
  ended-lost (Err PowerLost) carries ends = err_anyway _ result (λ works. cut-in carries ends)

  pub ended-unlit : (carried : Result Sw StoreErr) → ExecutesBytes command old x new y text carried
      → Ends carried was now text said result → OnErr result (new.facts.dark ≡ true)
  ended-unlit (Ok status) carries ends = no-err result _ ends.done.0
  ended-unlit (Err Fault) carries ends = no-err result _ (ends.failed refl).0
  ended-unlit (Err PowerLost) carries ends = err_anyway _ result (cut-in carries ends).power.dark

  -- the card is one again, and is kept where it works
  pub ended-kept : (carried : Result Sw StoreErr) → ExecutesBytes command old x new y text carried
      → Ends carried was now text said result → (free : FreeSpace) → OnOk carried (free ≡ space_in new)
      → (index : Index) → OnOk carried (IsIndex (table_in new) index)
      → (now ≡ Working → IsKept new y × (free ≡ space_in new) × IsIndex (table_in new) index)
      × (now ≡ Dark → new.facts.dark ≡ true)
  ended-kept (Ok status) carries ends free space index indexed = (
    λ works. (carries.kept, space, indexed),
    λ dark. let never : Dark ≡ Working = sym dark ∙ (ends.done.1 ∙ working) in cc,
  )
  ended-kept (Err Fault) carries ends free space index indexed = (
    λ works. let never : Working ≡ Failed = sym works ∙ (ends.failed refl).1 in cc,
    λ dark. let never : Dark ≡ Failed = sym dark ∙ (ends.failed refl).1 in cc,
  )
  ended-kept (Err PowerLost) carries ends free space index indexed = (
    λ works. let never : Working ≡ Dark = sym works ∙ (ends.lost refl).1 in cc,
    λ dark. (cut-in carries ends).power.dark,
  )

-- a card that carries nothing out stays, and nothing of it is spent
module _ (r : Running) (command : List ℕ) where
  pub still-stage : IsStage (card_found r) r.session command (card_found r)
  still-stage = (0, (omega arith), refl)

  pub still-compares : ComparesAsked (asked command) (card_found r) r.facts (card_found r) r.facts
  still-compares = asked-none (asked command) (card_found r) r.facts (card_found r) r.facts refl refl
