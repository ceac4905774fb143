use Rattle.std.proofs.Common.{rules, ◌≡◌, ◌+◌, ℕ, List, length, sym, ◌∙◌, ap, subst, arith}
use Rattle.std.proofs.lemmas.Result.{on_ok_weaker}
use Rattle.nvm_board.specs.Facts.{address}
use Rattle.nvm_board.specs.History.{written}
use Rattle.undo_journal.specs.Memory.{current}
use Rattle.undo_journal.specs.laws.Calls.{runs_in_page}
use Rattle.undo_journal.specs.Lent.{memory_of}
use Rattle.file_tree.specs.declared.layout.TheConstants.{FIRST_ENTRY_PAGE}
use Rattle.file_changes.specs.CreationParts.{WritesEntry}
use Rattle.file_changes.specs.laws.EntryWords.{written_entry}
use Rattle.file_changes.proofs.writing.write_entry.Goals as goal

pub returns-clause-done : goal.returns-clause-done
returns-clause-done g c =
    let m = current (memory_of c.args.txn.now) in
    let ws = c.words_of_entry-words.result in
    let long : length ws ≡ 11 = search rules in
    let at : c.entry_address.result ≡ address (FIRST_ENTRY_PAGE + c.args.e) 0 = c.entry_address.ensures in
    let family : List ℕ → Type 0 = λ l. WritesEntry m c.args.e c.args.entry l in
    on_ok_weaker c.set_run.result
    (λ (done : current (memory_of c.set_run.new.self) ≡ written m c.entry_address.result ws).
    subst family (sym (done ∙ ap (λ (k : ℕ). written m k ws) at))
    (written_entry m ws c.args.e c.args.entry c.requires.room.ready.current_size c.requires.entry.within long
    c.words_of_entry-words.ensures c.requires.entry.used)) c.set_run.ensures.done

pub returns-clause-runs : goal.returns-clause-runs
returns-clause-runs g c =
    let long : length c.words_of_entry-words.result ≡ 11 = search rules in
    runs_in_page (FIRST_ENTRY_PAGE + c.args.e) 0 c.entry_address.result (length c.words_of_entry-words.result) _ _
    c.entry_address.ensures (omega (arith, long)) c.set_run.ensures.runs
