-- One step of the tree machine, and the cards after its commits (ISO/IEC 7816-4, clause 11).
use Rattle.card_model.specs.Requests.{Request, select, read_binary, update_binary, create_file, delete_file}
use Rattle.card_model.specs.Requests.{read_record, update_record, append_record, search_record, increase}
use Rattle.card_model.specs.Requests.{change_life_cycle, terminate_card_usage, verify, change_reference_data}
use Rattle.card_model.specs.Requests.{reset_retry_counter, change_requirement}
use Rattle.card_model.specs.Behaviours.{Behaviour, Refusals, refused_by, unless_refused, Attempt, tries_commits}
use Rattle.card_model.specs.Behaviours.{value_commits}
use Rattle.card_model.specs.BinaryCommands.{on_read_binary, on_update_binary}
use Rattle.card_model.specs.FileCommands.{on_create_file, on_delete_file}
use Rattle.card_model.specs.RecordCommands.{on_increase, on_append_record, on_read_record, on_search_record}
use Rattle.card_model.specs.RecordCommands.{on_update_record}
use Rattle.card_model.specs.LifeCycleCommands.{on_change_life_cycle, on_terminate_card_usage}
use Rattle.card_model.specs.PinCommands.{on_change_reference_data, on_change_requirement, on_reset_retry_counter}
use Rattle.card_model.specs.PinCommands.{on_verify}
use Rattle.card_model.specs.SelectCommand.{on_select}
use Rattle.std.specs.Prelude.{List, ℕ, Result, Ok, Err, if◌then◌else◌, ◌≡◌, [], ◌∷◌, Contains, Option, Some, None, ◌-◌}
use Rattle.std.specs.Prelude.{◌≢◌, Bool, true, false}
use Rattle.card_model.specs.declared.status.Sw.{Sw}
use Rattle.card_model.specs.declared.status.TheConstants.Sw.{CONDITIONS_NOT_SATISFIED}
use Rattle.card_model.specs.CommandTable.{asked}
use Rattle.card_model.specs.Cards.{Card}
use Rattle.card_model.specs.Sessions.{Session}
pub use Rattle.card_model.specs.Behaviours.{Response, answer_bytes, Outcome, refused}

-- The behaviour of each command. Each one is defined in the file of its command.

abbrev pub behaviour_of : Request → Behaviour
behaviour_of (select selection returned expected) = on_select selection returned expected
behaviour_of (read_binary target offset expected) = on_read_binary target offset expected
behaviour_of (update_binary target offset bytes) = on_update_binary target offset bytes
behaviour_of (create_file template) = on_create_file template
behaviour_of (delete_file subject) = on_delete_file subject
behaviour_of (read_record target choice expected) = on_read_record target choice expected
behaviour_of (update_record target choice bytes) = on_update_record target choice bytes
behaviour_of (append_record target bytes) = on_append_record target bytes
behaviour_of (search_record target first direction text expected) =
    on_search_record target first direction text expected
behaviour_of (increase sent expected) = on_increase sent expected
behaviour_of (change_life_cycle change subject) = on_change_life_cycle change subject
behaviour_of terminate_card_usage = on_terminate_card_usage
behaviour_of (verify pin shown) = on_verify pin shown
behaviour_of (change_reference_data pin shown new) = on_change_reference_data pin shown new
behaviour_of (reset_retry_counter pin values) = on_reset_retry_counter pin values
behaviour_of (change_requirement change pin shown) = on_change_requirement change pin shown

-- One step of the tree machine: a command on a card in a session (ISO/IEC 7816-4, clause 11).

-- The refusals of a request.
unfoldable pub refusals_of : Card → Session → Request → Refusals
refusals_of c s request = (behaviour_of request).refusals c s

-- The effect of a request that isn't refused.
unfoldable pub effect : Card → Session → Request → Outcome
effect c s request = (behaviour_of request).effect c s

-- One step of a card in use: the first refusal in the order, or else the effect.
unfoldable pub served : Card → Session → Request → Outcome
served c s request = unless_refused c s (refused_by (refusals_of c s request)) (effect c s request)

-- One step. A card after TERMINATE CARD USAGE refuses each request before any other check.
unfoldable pub step : Card → Session → Request → Outcome
step c s request = if c.in_use then served c s request else refused c s CONDITIONS_NOT_SATISFIED

-- The outcome of parsed bytes: a parse error refuses the command, a request is a step.
abbrev pub outcome_of : Card → Session → Result Request Sw → Outcome
outcome_of c s (Ok request) = step c s request
outcome_of c s (Err status) = refused c s status

abbrev pub carried_out : Card → Session → List ℕ → Outcome
carried_out c s command = outcome_of c s (asked command)

-- The cards after each commit of a command: power loss or a fault leaves one of them.

-- The card after each commit of a request that isn't refused, in order.
unfoldable pub commits : Card → Session → Request → List Card
commits c s request = (behaviour_of request).commits c s

-- A refusal commits nothing.
abbrev pub commits_unless : Option Sw → List Card → List Card
commits_unless None cards = cards
commits_unless (Some status) cards = []

-- A card after TERMINATE CARD USAGE commits nothing either.
abbrev pub commits_served : Card → Session → Request → List Card
commits_served c s request = commits_unless (refused_by (refusals_of c s request)) (commits c s request)

abbrev pub commits_asked : Card → Session → Result Request Sw → List Card
commits_asked c s (Ok request) = if c.in_use then commits_served c s request else []
commits_asked c s (Err status) = []

-- The stages of a command, in order: the card before it, then the card after each commit.
abbrev pub stages : Card → Session → List ℕ → List Card
stages c s command = c ∷ commits_asked c s (asked command)

-- A card is one of the stages.
abbrev pub IsStage : Card → Session → List ℕ → Card → Type 0
IsStage c s command d = Contains (stages c s command) d

-- The command changes nothing that lasts: it is refused, or only reads.
abbrev pub ChangesNothing : Card → Session → List ℕ → Type 0
ChangesNothing c s command = stages c s command ≡ c ∷ []

-- The secret that a request presents.

-- The attempt that a request makes, if any.
abbrev pub attempt_of : Request → Option Attempt
attempt_of request = (behaviour_of request).shown

-- The commits of a request, split into those that a single word makes and those of the journal gate.

-- The last card of the list, or `c` if the list is empty.
abbrev pub last_of : Card → List Card → Card
last_of c [] = c
last_of c (d ∷ cards) = last_of d cards

-- The commits that a single word makes: those of the tries word. `commits_gated` has the other ones.
abbrev pub commits_alone : Card → Option Attempt → List Card
commits_alone c None = []
commits_alone c (Some a) = tries_commits c a

abbrev pub commits_gated : Card → Option Attempt → List Card → List Card
commits_gated c None cards = cards
commits_gated c (Some a) cards = value_commits c a

abbrev pub alone_served : Card → Session → Request → List Card
alone_served c s request = commits_unless (refused_by (refusals_of c s request)) (commits_alone c (attempt_of request))

abbrev pub gated_served : Card → Session → Request → List Card
gated_served c s request =
    commits_unless (refused_by (refusals_of c s request)) (commits_gated c (attempt_of request) (commits c s request))

-- A request that is under way.

-- A request that isn't refused and has commits, at any exit. The card is the one before it, or after one of its
-- commits.
pub record IsDoing (c : Card) (s : Session) (request : Request) (d : Card) : Type 0 where
  pub unrefused : refused_by (refusals_of c s request) ≡ None
  pub lasts : commits c s request ≢ []
  pub card : Contains (c ∷ commits c s request) d

-- Only CREATE FILE and DELETE FILE change which files exist.
abbrev pub moves_files : Request → Bool
moves_files (create_file template) = true
moves_files (delete_file subject) = true
moves_files request = false
