use Rattle.std.proofs.Common.{ℕ, List, Option, subst, sym, ◌∙◌, true≢false}
use Rattle.undo_journal.specs.Memory.{committed}
use Rattle.undo_journal.specs.laws.Calls.{reads_then}
use Rattle.undo_journal.specs.laws.Exits.{none_ok}
use Rattle.undo_journal.specs.laws.Told.{reads_handed, reads_on}
use Rattle.tree_check.specs.Surveys.{TellsTree}
use Rattle.card_model.specs.declared.space.FreeSpace.{FreeSpace}
use Rattle.card_start.specs.declared.memory_format.MemoryFormat.{MemoryFormat}
use Rattle.card_start.specs.StartParts.{HoldsPins, TellsHeader}
use Rattle.card_start.proofs.Entries.{card_told, no_header, no_pins, no_tree}
use Rattle.card_start.proofs.check.find_card.Goals as goal

pub returns-in_err-format : goal.returns-in_err-format
returns-in_err-format g c = record {
  told = none_ok _ _ _ c.from_residual.ensures.1;
  store = reads_handed _ _ _ _ c.from_residual.ensures.1 c.in_err-format.ensures.store;
}

pub returns-in_default : goal.returns-in_default
returns-in_default g c = record {
  told = let m = committed c.args.store.now in
      no_header m (subst (λ (o : Option MemoryFormat). TellsHeader m o) c.in_default.is c.in_ok-format.ensures.told);
  store = c.in_ok-format.ensures.store;
}

pub returns-in_err-has_pins : goal.returns-in_err-has_pins
returns-in_err-has_pins g c = record {
  told = none_ok _ _ _ c.from_residual-in_err-has_pins.ensures.1;
  store = reads_handed _ _ _ _ c.from_residual-in_err-has_pins.ensures.1
      (reads_on _ _ _ _ c.find_format.ensures.store.only c.in_err-has_pins.ensures.store);
}

pub returns-then-not-branch : goal.returns-then-not-branch
returns-then-not-branch g c = record {
  told = let m = committed c.args.store.now in
      let first = c.find_format.ensures.store.only.keeps.committed_words in
      let header = subst (λ (o : Option MemoryFormat). TellsHeader m o) c.in-Some.is c.in_ok-format.ensures.told in
      no_pins m c.in-Some.format header
      (λ holds. true≢false (sym (c.in_ok-has_pins.ensures.told.1
      (subst (λ (l : List ℕ). HoldsPins c.in-Some.format l) (sym first) holds)) ∙ c.if-not-branch.true));
  store = reads_on _ _ _ _ c.find_format.ensures.store.only c.in_ok-has_pins.ensures.store;
}

pub returns-in_err-free : goal.returns-in_err-free
returns-in_err-free g c = record {
  told = none_ok _ _ _ c.from_residual-in_err-free.ensures.1;
  store = reads_handed _ _ _ _ c.from_residual-in_err-free.ensures.1
      (reads_on _ _ _ _ (reads_then _ _ _ c.find_format.ensures.store.only c.has_pins.ensures.store.only)
      c.in_err-free.ensures.store);
}

pub returns-in_default-2 : goal.returns-in_default-2
returns-in_default-2 g c = record {
  told = let m = committed c.args.store.now in
      let second = c.has_pins.ensures.store.only.keeps.committed_words
      ∙ c.find_format.ensures.store.only.keeps.committed_words in
      let files = c.survey_tree.new.index in
      no_tree m (subst (λ (o : Option FreeSpace). TellsTree m files o) c.in_default-2.is
      (subst (λ (l : List ℕ). TellsTree l files c.in_ok-free.field-0) second c.in_ok-free.ensures.tree));
  store = reads_on _ _ _ _ (reads_then _ _ _ c.find_format.ensures.store.only c.has_pins.ensures.store.only)
      c.in_ok-free.ensures.store;
}

pub returns : goal.returns
returns g c = record {
  told = let m = committed c.args.store.now in
      let first = c.find_format.ensures.store.only.keeps.committed_words in
      let second = c.has_pins.ensures.store.only.keeps.committed_words ∙ first in
      let header = subst (λ (o : Option MemoryFormat). TellsHeader m o) c.in-Some.is c.in_ok-format.ensures.told in
      let pins = subst (λ (l : List ℕ). HoldsPins c.in-Some.format l) first
      (c.in_ok-has_pins.ensures.told.0 c.if-not-branch.false) in
      let files = c.survey_tree.new.index in
      let tree = subst (λ (o : Option FreeSpace). TellsTree m files o) c.in-Some-2.is
      (subst (λ (l : List ℕ). TellsTree l files c.in_ok-free.field-0) second c.in_ok-free.ensures.tree) in
      (card_told m c.in-Some.format header pins tree.0, tree.1, tree.2);
  store = reads_on _ _ _ _ (reads_then _ _ _ c.find_format.ensures.store.only c.has_pins.ensures.store.only)
      c.in_ok-free.ensures.store;
}
