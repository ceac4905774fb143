-- A request whose commits leave the files alone takes no space, and gives none back.
use Rattle.std.proofs.Common.{◌≡◌, Bool, true, false, List, [], ℕ, ◌∷◌, Option, None, Some, Result, OnOk, if◌then◌else◌}
use Rattle.std.proofs.Common.{refl, sym, ◌∙◌, ⊎_elim}
use Rattle.std.proofs.lemmas.List.Elements.{All-contains, All-from_recursion}
use Rattle.std.specs.List.{AllByRecursion}
use Rattle.card_model.specs.declared.status.Sw.{Sw}
use Rattle.undo_journal.specs.declared.error.StoreErr.{StoreErr}
use Rattle.undo_journal.specs.StoreCalls.{OnlyReads}
use Rattle.undo_journal.specs.Memory.{Memory}
use Rattle.undo_journal.specs.laws.Exits.{ok_anyway}
use Rattle.card_model.specs.declared.space.FreeSpace.{FreeSpace}
use Rattle.card_model.specs.Requests.{Request}
use Rattle.command_base.specs.declared.current.Current.{Current}
use Rattle.card_model.specs.Cards.{Card, card_space}
use Rattle.card_model.specs.Behaviours.{attempt_commits, charged_card, is_right, settled_card, Attempt}
use Rattle.card_model.specs.PinCommands.{pin_commits}
use Rattle.card_model.specs.Steps.{IsDoing, commits}
use Rattle.command_base.specs.Served.{Executes}
use Rattle.command_base.specs.Working.{card_in, session_in, space_in}
use Rattle.command_base.specs.laws.SpaceKept.{space-same}

-- each of these cards has the files of a card
abbrev pub HaveFilesOf : Card → List Card → Type 0
HaveFilesOf c cards = AllByRecursion (λ (d : Card). card_space d ≡ card_space c) cards

pub space_left : (request : Request) (old : Memory) (x : Current) (new : Memory) (y : Current) (text : List ℕ)
    (result : Result Sw StoreErr) (free : FreeSpace) → Executes request old x new y text result
    → HaveFilesOf (card_in old) (commits (card_in old) (session_in old x) request) → free ≡ space_in old
    → OnOk result (free ≡ space_in new)
space_left request old x new y text result free serves all counted =
    let c = card_in old in
    let stages : List Card = c ∷ commits c (session_in old x) request in
    let every : HaveFilesOf c stages = (refl, all) in
    let same : space_in new ≡ space_in old = ⊎_elim
    (λ (reads : OnlyReads old new). space-same old new reads.keeps.committed_words)
    (λ (doing : IsDoing c (session_in old x) request (card_in new)).
    All-contains (λ (d : Card). card_space d ≡ card_space c) stages (card_in new)
    (All-from_recursion (λ (d : Card). card_space d ≡ card_space c) stages every) doing.card) serves.stage in
    ok_anyway _ result (counted ∙ sym same)

-- as those of an attempt on a PIN do
pub attempt-files : (c : Card) (a : Attempt) → HaveFilesOf c (attempt_commits c a)
attempt-files c a = by_right (is_right c a)
  where
    by_right : (right : Bool) → HaveFilesOf c (charged_card c a ∷ (if right then settled_card c a ∷ [] else []))
    by_right true = (refl, (refl, tt))
    by_right false = (refl, tt)

pub pin-files : (c : Card) (attempt : Option Attempt) → HaveFilesOf c (pin_commits c attempt)
pin-files c None = tt
pin-files c (Some a) = attempt-files c a
