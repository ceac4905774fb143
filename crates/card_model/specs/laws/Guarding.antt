-- What refuses a command on contents by its file, and then by further limits;
-- and what a refusal, or none, makes of a step.
use Rattle.std.proofs.Common.{◌≡◌, Bool, true, false, not, List, [], ◌∷◌, Option, Some, None, is_none, unwrap_or}
use Rattle.std.proofs.Common.{if◌then◌else◌, refl, ◌∙◌, ap}
use Rattle.std.specs.FinMap.{get}
use Rattle.card_model.specs.declared.access_mode.AccessBit.{AccessBit}
use Rattle.card_model.specs.declared.status.Sw.{Sw}
use Rattle.card_model.specs.declared.status.TheConstants.Sw.{ACCESS_DENIED, CONDITIONS_NOT_SATISFIED, WRONG_STRUCTURE}
use Rattle.card_model.specs.declared.requests.Target.{Target}
use Rattle.card_model.specs.Requests.{Request}
use Rattle.card_model.specs.FileLives.{is_barred}
use Rattle.card_model.specs.Cards.{Card, File, Kind, Path, file_at, no_file}
use Rattle.card_model.specs.Guards.{file_refusals, missing, target_kind, target_path, with_limits, allowed}
use Rattle.card_model.specs.Behaviours.{Refusal, first_applying, refused, refused_by, unless_refused}
use Rattle.card_model.specs.Reaching.{target_of}
use Rattle.card_model.specs.Sessions.{Session}
use Rattle.card_model.specs.Steps.{effect, refusals_of, served}

-- the step of a card in use, by what refuses the request
module _ (c : Card) (s : Session) (request : Request) where
  pub served-refused : (status : Sw) → refused_by (refusals_of c s request) ≡ Some status
      → served c s request ≡ refused c s status
  unfolding served
  served-refused status is = ap (λ (refusal : Option Sw). unless_refused c s refusal (effect c s request)) is

  pub served-done : refused_by (refusals_of c s request) ≡ None → served c s request ≡ effect c s request
  unfolding served
  served-done none = ap (λ (refusal : Option Sw). unless_refused c s refusal (effect c s request)) none

-- the first of four refusals, else the rest: none is named, it is barred, its structure is wrong,
-- its rule doesn't allow it
abbrev pub verdict : Target → Bool → Bool → Bool → Bool → Option Sw → Option Sw
verdict target none barred fit permitted rest =
    if none then Some (missing target) else
    if barred then Some CONDITIONS_NOT_SATISFIED else
    if not fit then Some WRONG_STRUCTURE else
    if not permitted then Some ACCESS_DENIED else rest

-- where one of the four applies, the rest says nothing
by_four : (target : Target) (none barred fit permitted : Bool) (status : Sw) (rest : Option Sw)
    → verdict target none barred fit permitted None ≡ Some status
    → verdict target none barred fit permitted rest ≡ Some status
by_four target true barred fit permitted status rest is = is
by_four target false true fit permitted status rest is = is
by_four target false false false permitted status rest is = is
by_four target false false true false status rest is = is
by_four target false false true true status rest is = cc

-- and where none does, the rest decides
by_none : (target : Target) (none barred fit permitted : Bool) (rest : Option Sw)
    → verdict target none barred fit permitted None ≡ None
    → verdict target none barred fit permitted rest ≡ rest
by_none target true barred fit permitted rest is = cc
by_none target false true fit permitted rest is = cc
by_none target false false false permitted rest is = cc
by_none target false false true false rest is = cc
by_none target false false true true rest is = refl

-- the same of five, a limit behind the four
by_five : (target : Target) (none barred fit permitted applies : Bool) (first status : Sw) (rest : Option Sw)
    → verdict target none barred fit permitted (if applies then Some first else None) ≡ Some status
    → verdict target none barred fit permitted (if applies then Some first else rest) ≡ Some status
by_five target true barred fit permitted applies first status rest is = is
by_five target false true fit permitted applies first status rest is = is
by_five target false false false permitted applies first status rest is = is
by_five target false false true false applies first status rest is = is
by_five target false false true true true first status rest is = is
by_five target false false true true false first status rest is = cc

module _ (c : Card) (s : Session) (target : Target) (fitting : Kind → Bool) (bit : AccessBit) where
  -- a refusal by the file or by a limit stands before all further limits
  pub guarded-first : (limit : Refusal) (status : Sw)
      → refused_by (with_limits (file_refusals c s target fitting bit) (limit ∷ [])) ≡ Some status
      → (limits : List Refusal)
      → refused_by (with_limits (file_refusals c s target fitting bit) (limit ∷ limits)) ≡ Some status
  guarded-first limit status is limits =
      by_five target (is_none (target_of c.tree s target)) (is_barred c.tree (target_path c s target))
      (fitting (target_kind c s target)) (allowed c s (target_path c s target) bit) limit.applies limit.status status
      (first_applying limits) is

  -- a refusal by the file stands before all limits
  pub guarded-refused : (status : Sw) → refused_by (file_refusals c s target fitting bit) ≡ Some status
      → (limits : List Refusal)
      → refused_by (with_limits (file_refusals c s target fitting bit) limits) ≡ Some status
  guarded-refused status is limits =
      by_four target (is_none (target_of c.tree s target)) (is_barred c.tree (target_path c s target))
      (fitting (target_kind c s target)) (allowed c s (target_path c s target) bit) status (first_applying limits) is

  -- where the file refuses nothing, the limits decide
  pub guarded-free : refused_by (file_refusals c s target fitting bit) ≡ None → (limits : List Refusal)
      → refused_by (with_limits (file_refusals c s target fitting bit) limits) ≡ first_applying limits
  guarded-free none limits =
      by_none target (is_none (target_of c.tree s target)) (is_barred c.tree (target_path c s target))
      (fitting (target_kind c s target)) (allowed c s (target_path c s target) bit) (first_applying limits) none

  -- a file is named
  module _ (path : Path) (file : File) (place : target_of c.tree s target ≡ Some path)
      (there : get c.tree path ≡ Some file) where
    pub named-path : target_path c s target ≡ path
    named-path = ap (λ (found : Option Path). unwrap_or found []) place

    pub named-kind : target_kind c s target ≡ file.kind
    named-kind = ap (λ (p : Path). (file_at c.tree p).kind) named-path
        ∙ ap (λ (found : Option File). (unwrap_or found no_file).kind) there

    pub guarded-named : refused_by (file_refusals c s target fitting bit)
        ≡ verdict target false (is_barred c.tree path) (fitting file.kind) (allowed c s path bit) None
    guarded-named = λ i. verdict target (is_none (place i)) (is_barred c.tree (named-path i)) (fitting (named-kind i))
        (allowed c s (named-path i) bit) None
