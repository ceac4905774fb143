use Rattle.std.proofs.Common.{◌≡◌, ◌<◌, None, [], ◌∷◌, length, slice_index, ℕ, List, subst, refl, sym, ap, ◌∙◌, arith}
use Rattle.undo_journal.specs.Undo.{gate, IsDataAddress, IsSound}
use Rattle.undo_journal.specs.laws.Undo.{data_words-outside}
use Rattle.undo_journal.specs.Memory.{Memory, current, taken}
use Rattle.undo_journal.proofs.Standing.{board-place, held-kept}
use Rattle.undo_journal.specs.declared.batch.Waiting.{Waiting}
use Rattle.undo_journal.specs.Batches.{overlay, look_up}
use Rattle.undo_journal.specs.laws.Memory.{length-overlay}
use Rattle.undo_journal.specs.laws.Exits.{ok_anyway}
use Rattle.undo_journal.proofs.Waits.{look_up-none}
use Rattle.undo_journal.proofs.Noted.{if_ok, noted_tells, noted-true, noted-ready, noted-reads}
use Rattle.undo_journal.proofs.store.Store.read_committed.Goals as goal

-- a list of no length
nothing : (sets : List Waiting) → length sets ≡ 0 → sets ≡ []
nothing [] none = refl
nothing (set ∷ sets) none = absurd (omega (arith, none))

pub read-told-requires : goal.read-told-requires
read-told-requires g c =
    let words = (g.B.Board.facts c.self.inside.board).words in
    let place : IsDataAddress words c.args.at =
    board-place c.args.self.now words c.args.at (ap (λ (m : Memory). m.facts.words) c.self.view_is)
    (subst (λ (l : List ℕ). IsDataAddress l c.args.at) c.requires.ready.same c.requires.place) in
    place.1

pub invariant_of-self : goal.invariant_of-self
invariant_of-self g c =
    let kept = c.read-told.ensures in
    let works = c.requires.ready.usable.works in
    let held = c.self.invariant.works (ap (λ (m : Memory). m.failed) c.self.view_is ∙ works) in
    noted-true _ _ _ c.self.view_is c.self.invariant works _ _ c.noted.ensures.answer c.noted.ensures.failed kept.light
    (subst (λ (l : List ℕ). IsSound l) (sym kept.words) held.sound) (ok_anyway _ _ (ap gate kept.words ∙ held.counts))
    (ok_anyway _ _ (held-kept _ _ _ _ c.read-told.ensures.words held))

pub returns-clause-word : goal.returns-clause-word
returns-clause-word g c =
    let words = (g.B.Board.facts c.self.inside.board).words in
    let place : IsDataAddress words c.args.at =
    board-place c.args.self.now words c.args.at (ap (λ (m : Memory). m.facts.words) c.self.view_is)
    (subst (λ (l : List ℕ). IsDataAddress l c.args.at) c.requires.ready.same c.requires.place) in
    let sets = c.self.inside.batch.waiting.items in
    let unused = ap taken c.self.view_is ∙ c.requires.ready.idle in
    let none : look_up c.args.at sets ≡ None =
    ap (λ (l : List Waiting). look_up c.args.at l) (nothing sets (omega (arith, unused))) in
    let within : c.args.at < length (overlay sets words) = omega (arith, length-overlay sets words, place.1) in
    let there : slice_index words c.args.at ≡ slice_index (current c.args.self.now) c.args.at =
    sym (data_words-outside (overlay sets words) c.args.at within place.0 ∙ look_up-none c.args.at sets words none)
    ∙ ap (λ (m : Memory). slice_index (current m) c.args.at) c.self.view_is in
    if_ok _ _ c.noted.ensures.answer _ _
    (λ w word. word ∙ there ∙ ap (λ (l : List ℕ). slice_index l c.args.at) (sym c.requires.ready.same))
    c.read-told.ensures.word

pub returns-clause-store : goal.returns-clause-store
returns-clause-store g c =
    let kept = c.read-told.ensures in
    let works = c.requires.ready.usable.works in
    let held = c.self.invariant.works (ap (λ (m : Memory). m.failed) c.self.view_is ∙ works) in
    let unused = ap taken c.self.view_is ∙ c.requires.ready.idle in
    let none : c.self.inside.batch.used ≡ 0 = omega (arith, unused) in
    record {
      only = noted-reads _ _ _ c.self.view_is c.self.invariant works _ _ c.noted.ensures.answer
          c.noted.ensures.failed kept.light
          (record {
            cut = kept.cut;
            words = kept.words;
            writes = kept.writes;
            compares = kept.compares;
            matches = kept.matches;
          })
          refl refl;
      ready = noted-ready _ _ _ c.self.view_is c.self.invariant works _ _ c.noted.ensures.answer c.noted.ensures.failed
          kept.light (g.met.B.Board.is_board _).sized (g.met.B.Board.is_board _).words_fit
          (ok_anyway _ _ (ap gate kept.words ∙ held.counts ∙ none)) unused;
      tells = noted_tells _ _ _ (ap (λ (m : Memory). m.failed) c.self.view_is ∙ works) c.noted.ensures.failed;
    }
