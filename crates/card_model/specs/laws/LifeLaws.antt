-- Commands on life cycles: proper cards stay proper.
use Rattle.std.specs.Prelude.{◌≡◌, ◌<◌, ◌==◌, true, [], ◌∷◌, None}
use Rattle.std.proofs.Common.{arith, refl, lit<}
use Rattle.std.proofs.lemmas.Bool.{not-false}
use Rattle.card_model.specs.declared.access_mode.AccessBit.{AccessBit}
use Rattle.card_model.specs.declared.life_cycle.LifeCycle.{LifeCycle}
use Rattle.card_model.specs.declared.status.TheConstants.Sw.{DONE}
use Rattle.card_model.specs.LifeCycle.{life_cycle_byte}
use Rattle.card_model.specs.Rule.{allows}
use Rattle.card_model.specs.declared.requests.Subject.{Subject}
use Rattle.card_model.specs.declared.requests.Subject.TheVariants as subjects
use Rattle.card_model.specs.declared.requests.LifeCycleChange.{LifeCycleChange}
use Rattle.card_model.specs.Requests.{IsStatusWord, change_life_cycle, terminate_card_usage}
use Rattle.card_model.specs.FileLives.{life_at, with_life}
use Rattle.card_model.specs.Cards.{Card, File, Path, file_at, identifier, IsProper}
use Rattle.card_model.specs.Guards.{allowed, disabled_of}
use Rattle.card_model.specs.LifeCycleCommands.{card_terminated, change_bit, change_refusals, changed_life, changed_path}
use Rattle.card_model.specs.LifeCycleCommands.{life_changed, changed_card, no_subject, on_change_life_cycle}
use Rattle.card_model.specs.LifeCycleCommands.{on_terminate_card_usage, with_life_at}
use Rattle.card_model.specs.Behaviours.{refused_by}
use Rattle.card_model.specs.Sessions.{Session, marks_of}
use Rattle.card_model.specs.laws.Lawful.{Lawful, Untouched, lawful-unshown, same-none, same-one}
use Rattle.card_model.specs.laws.ProperLaws.{IsFine, either-if, proper-file_at, proper-insert, short-status}
use Rattle.card_model.specs.laws.ProperLaws.{there-identifier, unrefused-each}

-- a state of a life cycle tells nothing that an answer is long by
proper-with_life_at : (c : Card) (path : Path) (life : LifeCycle) → identifier path < 65536 → IsProper c
    → IsProper (with_life_at c path life)
proper-with_life_at c path life small proper =
    let was = proper-file_at c path proper in
    proper-insert c path (with_life (file_at c.tree path) life) small proper
    (record { rule = was.rule; rule_size = was.rule_size; kind = was.kind })

module _ (c : Card) (s : Session) (proper : IsProper c) where
  -- where a rule allows something there is a file, whose identifier is two bytes
  allowed-identifier : (path : Path) (bit : AccessBit) → allowed c s path bit ≡ true → identifier path < 65536
  allowed-identifier path bit is =
      there-identifier c path
      (λ (file : File). allows file.rule bit file.life (marks_of s.verified) (disabled_of c)) proper refl is

  pub fine-life_changed : (change : LifeCycleChange) (subject : Subject)
      → refused_by (change_refusals c s change subject) ≡ None → IsFine (life_changed c s change subject)
  fine-life_changed change subject unrefused =
      let path = changed_path c s change subject in
      -- there is one; its state allows it; it is of the kind; its rule allows it
      let known = unrefused-each (change_refusals c s change subject) unrefused in
      let may = not-false (allowed c s path (change_bit change)) known.1.1.1.0 in
      record {
        card = proper-with_life_at c path (changed_life c s change subject)
            (allowed-identifier path (change_bit change) may) proper;
        response = short-status DONE (lit< tt);
      }

  pub fine-card_terminated : IsFine (card_terminated c s)
  fine-card_terminated = record {
    card = record { files = proper.files; identifiers = proper.identifiers; pins = proper.pins };
    response = short-status DONE (lit< tt);
  }

-- the laws of both
subject-word : (subject : Subject) → IsStatusWord (no_subject subject)
subject-word subjects.Current = lit< tt
subject-word (subjects.Identifier id) = lit< tt

pub lawful-life : (change : LifeCycleChange) (subject : Subject) → Lawful (change_life_cycle change subject)
lawful-life change subject =
    lawful-unshown (change_life_cycle change subject) (on_change_life_cycle change subject) refl
    (λ c s. (subject-word subject, (lit< tt, (lit< tt, (lit< tt, tt)))))
    (λ c s proper small unrefused. fine-life_changed c s proper change subject unrefused)
    (λ c s. refl) (λ c s. either-if (Untouched c) (life_cycle_byte (changed_life c s change subject)
    == life_cycle_byte (life_at c.tree (changed_path c s change subject))) [] (changed_card c s change subject ∷ [])
    (same-none c) (same-one c (changed_card c s change subject) refl refl))

pub lawful-terminate : Lawful terminate_card_usage
lawful-terminate =
    lawful-unshown terminate_card_usage on_terminate_card_usage refl (λ c s. (lit< tt, tt))
    (λ c s proper small unrefused. fine-card_terminated c s proper) (λ c s. refl)
    (λ c s. same-one c _ refl refl)
