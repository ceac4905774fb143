use Rattle.std.proofs.Common.{◌≡◌, ℕ, List, [], length, Option, None, Some, Ok, IfSome, option_map, subst, sym, ◌∙◌}
use Rattle.std.proofs.Common.{ap, arith, rules}
use Rattle.undo_journal.specs.Memory.{committed}
use Rattle.undo_journal.specs.laws.Calls.{reads_then}
use Rattle.undo_journal.specs.laws.Told.{reads_on}
use Rattle.card_model.specs.declared.status.Sw.{Sw}
use Rattle.card_model.specs.declared.status.TheConstants.Sw.{FILE_NOT_FOUND}
use Rattle.file_tree.specs.declared.entry.EntryHead.{EntryHead}
use Rattle.file_tree.specs.Entries.{head_of, state_told}
use Rattle.file_tree.specs.Table.{table, entry_in, path_of, IsUsed}
use Rattle.file_tree.specs.laws.Nodes.{used_small}
use Rattle.card_model.specs.Requests.{select}
use Rattle.apdu_core.specs.ParsedCommands.{selection_of}
use Rattle.command_base.specs.declared.current.Current.{Current}
use Rattle.card_model.specs.SelectCommand.{selection_status}
use Rattle.command_base.specs.Served.{Executes}
use Rattle.command_base.specs.Standing.{card_of}
use Rattle.command_base.specs.Working.{session_of, IsCurrent}
use Rattle.command_base.specs.CurrentFiles.{current_by}
use Rattle.command_base.specs.TemplateParts.{data_in, IsToldEntry}
use Rattle.card_model.specs.Behaviours.{outcome}
use Rattle.card_model.specs.Guards.{IsGiven}
use Rattle.command_base.specs.laws.Entries.{current-entry, select-entry, select-entry-less}
use Rattle.card_model.specs.laws.SelectSteps.{select-missed}
use Rattle.command_base.specs.laws.Executes.{answered, declined, halted, handed}
use Rattle.command_base.specs.laws.Stopping.{reply-failed}
use Rattle.command_base.specs.laws.Told.{told-entry}
use Rattle.select_command.proofs.select.select_file.Goals as goal

pub returns-in_default : goal.returns-in_default
returns-in_default g c =
    let old = c.args.store.now in
    let x = c.args.current.now in
    let m = committed old in
    let t = table m in
    let s = session_of t x in
    let request = select (selection_of c.args.selector) c.args.returned c.args.expected in
    subst (λ (l : List ℕ). Executes request old x c.find_selected.new.store x l (Ok FILE_NOT_FOUND))
    (sym c.clear.ensures) (declined request old x c.find_selected.new.store (λ _. tt) c.requires.card.kept.card
    FILE_NOT_FOUND c.find_selected.ensures.found.store.only
    c.in_ok-e.ensures.found.store.ready c.requires.card.kept.current
    (select-missed (card_of m) s (selection_of c.args.selector) c.args.returned c.args.expected
    (c.in_ok-e.ensures.found.told ∙ ap (λ (o : Option ℕ). option_map (path_of t) o) c.in_default.is)))

pub returns-in_err-e : goal.returns-in_err-e
returns-in_err-e g c =
    let none : length c.clear.new.self.items ≡ 0 = ap (λ (l : List ℕ). length l) c.clear.ensures in
    handed (select (selection_of c.args.selector) c.args.returned c.args.expected) c.args.store.now c.args.current.now
    c.find_selected.new.store c.requires.card.kept.card c.args.current.now c.clear.new.self.items _
    c.in_err-e.field-0.0
    (reply-failed _ _ c.from_residual.ensures.1) c.in_err-e.ensures.found.store (omega (arith, none))

pub returns-in_err-head : goal.returns-in_err-head
returns-in_err-head g c =
    let none : length c.clear.new.self.items ≡ 0 = ap (λ (l : List ℕ). length l) c.clear.ensures in
    handed (select (selection_of c.args.selector) c.args.returned c.args.expected) c.args.store.now c.args.current.now
    c.read_entry_head.new.store c.requires.card.kept.card c.args.current.now
    c.clear.new.self.items _ c.in_err-head.field-0.0 (reply-failed _ _ c.from_residual-in_err-head.ensures.1)
    (reads_on _ _ _ _ c.find_selected.ensures.found.store.only c.in_err-head.ensures.store) (omega (arith, none))

pub returns-in_err-give_data : goal.returns-in_err-give_data
returns-in_err-give_data g c =
    let old = c.args.store.now in
    let m = committed old in
    let t = table m in
    let e = c.in-Some.e in
    let x = c.args.current.now in
    let expected = c.args.expected in
    let returned = c.args.returned in
    let request = select (selection_of c.args.selector) returned expected in
    let reads = reads_then old c.find_selected.new.store c.read_entry_head.new.store
    c.find_selected.ensures.found.store.only
    c.read_entry_head.ensures.store.only in
    let same = c.read_entry_head.ensures.store.only.keeps.committed_words
    ∙ c.find_selected.ensures.found.store.only.keeps.committed_words in
    let used = subst (λ (o : Option ℕ). IfSome o (IsUsed t)) c.in-Some.is c.in_ok-e.ensures.used in
    let place = c.in_ok-e.ensures.found.told ∙ ap (λ (o : Option ℕ). option_map (path_of t) o) c.in-Some.is in
    let text = c.give_data.new.answer.items in
    halted request old x c.give_data.new.store (λ _. tt) c.requires.card.kept.card c.requires.card.kept.current text
    c.in_err-give_data.ensures.nothing _ _ c.from_residual-in_err-give_data.ensures.1
    (reads_on _ _ _ _ reads c.in_err-give_data.ensures.data.store) _
    (λ status refused.
    let given = subst (λ (l : List ℕ). IsGiven expected (data_in returned (entry_in (table l) e)) text
    (Some status)) same refused in
    select-entry-less m c.requires.card.kept.card e used c.requires.card.kept.ready.usable.committed_size x
    (selection_of c.args.selector) returned expected place given.0
    ∙ ap (λ (sw : Sw). outcome (card_of m) (session_of t x) [] sw) (sym given.2)) c.in_err-give_data.ensures.data.told

pub returns : goal.returns
returns g c =
    let old = c.args.store.now in
    let m = committed old in
    let t = table m in
    let e = c.in-Some.e in
    let x = c.args.current.now in
    let expected = c.args.expected in
    let returned = c.args.returned in
    let request = select (selection_of c.args.selector) returned expected in
    let reads = reads_then old c.read_entry_head.new.store c.give_data.new.store
    (reads_then old c.find_selected.new.store c.read_entry_head.new.store c.find_selected.ensures.found.store.only
    c.read_entry_head.ensures.store.only) c.give_data.ensures.data.store.only in
    let same = c.read_entry_head.ensures.store.only.keeps.committed_words
    ∙ c.find_selected.ensures.found.store.only.keeps.committed_words in
    let used = subst (λ (o : Option ℕ). IfSome o (IsUsed t)) c.in-Some.is c.in_ok-e.ensures.used in
    let place = c.in_ok-e.ensures.found.told ∙ ap (λ (o : Option ℕ). option_map (path_of t) o) c.in-Some.is in
    let text = c.give_data.new.answer.items in
    let given = subst (λ (l : List ℕ). IsGiven expected (data_in returned (entry_in (table l) e)) text None) same
    c.in_ok-give_data.ensures.data.told in
    let head = c.in_ok-head.ensures.head
    ∙ ap (λ (l : List ℕ). head_of (entry_in (table l) e))
    c.find_selected.ensures.found.store.only.keeps.committed_words in
    let current = sym (c.at_head.ensures ∙ ap (λ (h : EntryHead). current_by x e h.kind h.parent) head) in
    let status = sym (c.status_of_selection.ensures ∙ ap selection_status c.life_cycle.ensures
    ∙ ap (λ (h : EntryHead). selection_status (state_told h.life)) head) in
    answered request old x c.give_data.new.store (λ _. tt) c.requires.card.kept.card c.at_head.result text
    c.status_of_selection.result
    reads c.in_ok-give_data.ensures.data.store.ready
    (subst (λ (y : Current). IsCurrent t y)
    current (current-entry m c.requires.card.kept.card e used x c.requires.card.kept.current.marks)) given.2
    (select-entry m
    c.requires.card.kept.card e used c.requires.card.kept.ready.usable.committed_size x (selection_of c.args.selector)
    returned expected place given.0
    ∙ (λ i. outcome (card_of m) (session_of t (current i)) (sym given.1 i) (status i)))

pub give_data-requires : goal.give_data-requires
give_data-requires g c = record {
  entry = record {
    ready = c.in_ok-head.ensures.store.ready;
    within = let m = committed c.args.store.now in
        used_small m c.in-Some.e (subst (λ (o : Option ℕ). IfSome o (IsUsed (table m))) c.in-Some.is
        c.in_ok-e.ensures.used);
    told = let m = committed c.args.store.now in
        let e = c.in-Some.e in
        let used = subst (λ (o : Option ℕ). IfSome o (IsUsed (table m))) c.in-Some.is c.in_ok-e.ensures.used in
        let same = c.read_entry_head.ensures.store.only.keeps.committed_words
        ∙ c.find_selected.ensures.found.store.only.keeps.committed_words in
        subst (λ (l : List ℕ). IsToldEntry (entry_in (table l) e)) (sym same)
        (told-entry m c.requires.card.kept.ready.usable.committed_size c.requires.card.kept.card e used);
  };
}

pub read_entry_head-requires : goal.read_entry_head-requires
read_entry_head-requires g c = record {
  ready = search rules;
  within = let m = committed c.args.store.now in
      used_small m c.in-Some.e (subst (λ (o : Option ℕ). IfSome o (IsUsed (table m))) c.in-Some.is
      c.in_ok-e.ensures.used);
}
