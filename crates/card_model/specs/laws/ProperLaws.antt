-- What laws of single commands share: proper cards with another file, short answers,
-- and what an unrefused request tells.
use Rattle.std.specs.Prelude.{◌≡◌, ◌<◌, ◌≤◌, ℕ, zero, suc, Bool, true, false, List, [], ◌∷◌, All}
use Rattle.std.specs.Prelude.{length, slice_index_or, Option, Some, None, unwrap_or, if◌then◌else◌, cond, is_some}
use Rattle.std.proofs.Common.{arith, ap, subst, sym, ◌∙◌, refl, true≢false}
use Rattle.std.proofs.lemmas.List.Elements.{All-nil, All-head, All-tail}
use Rattle.std.specs.Ordering.{nat_cmp, eq_by_cmp}
use Rattle.std.specs.Cmp.Lexicographic.{slice_cmp, nat_list_cmp_total}
use Rattle.std.specs.FinMap.{get, insert, get-insert}
use Rattle.card_model.specs.declared.status.Sw.{Sw}
use Rattle.card_model.specs.laws.Orders.{one_of_same}
use Rattle.card_model.specs.Requests.{AreBytes, IsStatusWord}
use Rattle.card_model.specs.Cards.{Card, File, Path, file_at, identifier, no_file, IsProper, IsProperFile}
use Rattle.card_model.specs.Behaviours.{Outcome, Refusal, Refusals, Response, first_applying, in_order, only_status}
use Rattle.card_model.specs.Behaviours.{refused_by}

-- a refusal is none no more
some-none : {status : Sw} → Some status ≡ None → ⊥
some-none is = true≢false (ap (λ (o : Option Sw). is_some o) is)

-- a choice between two that hold is one that holds
pub either-if : {X : Type 0} (P : X → Type 0) (test : Bool) (one other : X) → P one → P other
    → P (if test then one else other)
either-if P true one other y n = y
either-if P false one other y n = n

-- what holds of all, and of what stands for none
pub at-or : {X : Type 0} (P : X → Type 0) (xs : List X) (i : ℕ) (none : X) → P none → All P xs
    → P (slice_index_or xs i none)
at-or P [] i none default all = default
at-or P (x ∷ xs) zero none default all = All-head P x xs all
at-or P (x ∷ xs) (suc i) none default all = at-or P xs i none default (All-tail P x xs all)

-- none of these applies
abbrev pub NoneApplies : List Refusal → Type 0
NoneApplies [] = Unit {0}
NoneApplies (refusal ∷ refusals) = (refusal.applies ≡ false) × NoneApplies refusals

passed : (test : Bool) (status : Sw) (rest : Option Sw) → (if test then Some status else rest) ≡ None
    → (test ≡ false) × (rest ≡ None)
passed true status rest is = absurd (some-none is)
passed false status rest is = (refl, is)

none-applying : (refusals : List Refusal) → first_applying refusals ≡ None → NoneApplies refusals
none-applying [] is = tt
none-applying (refusal ∷ refusals) is =
    let both = passed refusal.applies refusal.status (first_applying refusals) is in
    (both.0, none-applying refusals both.1)

-- a request that isn't refused: each of what may refuse it doesn't apply
pub unrefused-each : (refusals : Refusals) → refused_by refusals ≡ None → NoneApplies (in_order refusals)
unrefused-each refusals is = none-applying (in_order refusals) is

-- data of at most 256 bytes, and a status word of two
pub record IsShort (response : Response) : Type 0 where
  pub size : length response.text ≤ 256
  pub bytes : AreBytes response.text
  pub status : IsStatusWord response.status

-- what a step of a proper card makes
pub record IsFine (outcome : Outcome) : Type 0 where
  pub card : IsProper outcome.card
  pub response : IsShort outcome.response

pub no_bytes : AreBytes []
no_bytes = All-nil (λ number. number < 256)

pub short-status : (status : Sw) → IsStatusWord status → IsShort (only_status status)
short-status status word = record { size = omega arith; bytes = no_bytes; status = word }

-- the file at a path, or one that stands for none
pub proper-file_at : (c : Card) (path : Path) → IsProper c → IsProperFile (file_at c.tree path)
proper-file_at c path proper = among (get c.tree path) refl
  where
    among : (found : Option File) → get c.tree path ≡ found → IsProperFile (unwrap_or found no_file)
    among None is = record { rule = no_bytes; rule_size = omega arith; kind = tt }
    among (Some file) is = proper.files path file is

-- where the file at a path is other than one that stands for none, there is one, and its identifier is two bytes
pub there-identifier : (c : Card) (path : Path) (test : File → Bool) → IsProper c → test no_file ≡ false
    → test (file_at c.tree path) ≡ true → identifier path < 65536
there-identifier c path test proper never is = among (get c.tree path) refl is
  where
    among : (found : Option File) → get c.tree path ≡ found → test (unwrap_or found no_file) ≡ true
        → identifier path < 65536
    among None at is = absurd (true≢false (sym is ∙ never))
    among (Some file) at is = proper.identifiers path file at

-- a file in place of another
pub proper-insert : (c : Card) (path : Path) (file : File) → identifier path < 65536 → IsProper c → IsProperFile file
    → IsProper (record c { tree = insert c.tree path file })
proper-insert c path file small proper fine = record {
  files = λ q found is. chosen (eq_by_cmp (slice_cmp nat_cmp) q path) q found
      (sym (get-insert nat_list_cmp_total c.tree path file q) ∙ is);
  identifiers = λ q found is. named (eq_by_cmp (slice_cmp nat_cmp) q path) q refl found
      (sym (get-insert nat_list_cmp_total c.tree path file q) ∙ is);
  pins = proper.pins;
}
  where
    named : (test : Bool) (q : Path) → eq_by_cmp (slice_cmp nat_cmp) q path ≡ test → (found : File)
        → cond test (Some file) (get c.tree q) ≡ Some found → identifier q < 65536
    named true q same found is = subst (λ (p : Path). identifier p < 65536) (sym (one_of_same q path same)) small
    named false q same found is = proper.identifiers q found is

    chosen : (test : Bool) (q : Path) (found : File) → cond test (Some file) (get c.tree q) ≡ Some found
        → IsProperFile found
    chosen true q found is = subst (λ (some : Option File). IsProperFile (unwrap_or some no_file)) is fine
    chosen false q found is = proper.files q found is
