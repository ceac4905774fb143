use Rattle.std.proofs.Common.{◌≡◌, ◌≤◌, ℕ, true, false, [], sym, ◌∙◌, ap, arith}
use Rattle.card_model.specs.declared.status.TheConstants.Sw.{ACCESS_DENIED}
use Rattle.undo_journal.specs.Memory.{committed}
use Rattle.undo_journal.specs.laws.Calls.{reads_then}
use Rattle.undo_journal.specs.laws.Told.{reads_on}
use Rattle.file_tree.specs.Table.{table, entry_in}
use Rattle.command_base.specs.laws.Readings.{entry_still, kept_still, used_still}
use Rattle.card_model.specs.Requests.{terminate_card_usage}
use Rattle.file_commands.proofs.Ending.{end-made, end-refused, end-torn, master-allows}
use Rattle.command_base.specs.laws.Executes.{declined, handed}
use Rattle.command_base.specs.laws.Stopping.{reply-failed}
use Rattle.file_commands.proofs.life_cycles.terminate_card_usage.Goals as goal

-- an answer without data fits, and an entry of a dedicated file is not free
none_fit : 0 ≤ 256
none_fit = omega arith

no_dedicated : (kind : ℕ) → kind ≡ 0 → kind ≡ 1 → ⊥
no_dedicated kind none is = omega (arith, none, is)

pub returns-in_err-allows : goal.returns-in_err-allows
returns-in_err-allows g c =
    handed terminate_card_usage c.args.store.now c.args.current.now c.allows.new.store c.requires.kept.card
    c.args.current.now [] _ _ (reply-failed _ _ c.from_residual-in_err-allows.ensures.1)
    (reads_on _ _ _ _ c.read_entry.ensures.store.only c.in_err-allows.ensures.store) none_fit

pub returns-then-not-branch : goal.returns-then-not-branch
returns-then-not-branch g c =
    let old = c.args.store.now in
    let m = committed old in
    let x = c.args.current.now in
    let both = reads_then _ _ _ c.read_entry.ensures.store.only c.allows.ensures.store.only in
    let denied : c.in_ok-allows.field-0 ≡ false = c.if-not-branch.true in
    let told = master-allows m (committed c.read_entry.new.store)
    c.read_entry.ensures.store.only.keeps.committed_words x c.master-number.result c.master-number.ensures
    c.in_ok-allows.field-0 c.in_ok-allows.ensures.told in
    declined terminate_card_usage old x c.allows.new.store (λ _. tt) c.requires.kept.card ACCESS_DENIED both
    c.in_ok-allows.ensures.store.ready c.requires.kept.current
    (end-refused (committed old) x c.in_ok-allows.field-0 told denied)

pub returns-in_err-terminate_card : goal.returns-in_err-terminate_card
returns-in_err-terminate_card g c =
    let old = c.args.store.now in
    let m = committed old in
    let x = c.args.current.now in
    let mid = c.allows.new.store in
    let new = c.terminate_card.new.store in
    let both = reads_then _ _ _ c.read_entry.ensures.store.only c.allows.ensures.store.only in
    let granted : c.in_ok-allows.field-0 ≡ true = c.if-not-branch.false in
    end-torn old mid new c.requires.kept.ready c.requires.kept.card c.args.current.now c.requires.kept.current
    (sym granted ∙ master-allows m (committed c.read_entry.new.store)
    c.read_entry.ensures.store.only.keeps.committed_words x c.master-number.result c.master-number.ensures
    c.in_ok-allows.field-0 c.in_ok-allows.ensures.told) both
    c.terminate_card.ensures.any_exit c.terminate_card.ensures.by_gate c.terminate_card.ensures.turned
    c.terminate_card.ensures.store.reports
    c.terminate_card.ensures.store.writes _ _ (reply-failed _ _ c.from_residual-in_err-terminate_card.ensures.1)
    c.in_err-terminate_card.ensures.store.tells

pub returns : goal.returns
returns g c =
    let old = c.args.store.now in
    let m = committed old in
    let x = c.args.current.now in
    let mid = c.allows.new.store in
    let new = c.terminate_card.new.store in
    let both = reads_then _ _ _ c.read_entry.ensures.store.only c.allows.ensures.store.only in
    let granted : c.in_ok-allows.field-0 ≡ true = c.if-not-branch.false in
    end-made old mid new c.requires.kept.ready c.requires.kept.card c.args.current.now c.requires.kept.current
    (sym granted ∙ master-allows m (committed c.read_entry.new.store)
    c.read_entry.ensures.store.only.keeps.committed_words x c.master-number.result c.master-number.ensures
    c.in_ok-allows.field-0 c.in_ok-allows.ensures.told) both
    c.terminate_card.ensures.any_exit c.terminate_card.ensures.by_gate c.terminate_card.ensures.turned
    c.terminate_card.ensures.store.reports
    c.terminate_card.ensures.store.writes c.in_ok-terminate_card.ensures.done c.in_ok-terminate_card.ensures.store.ready

pub returns-in_err-entry : goal.returns-in_err-entry
returns-in_err-entry g c =
    handed terminate_card_usage c.args.store.now c.args.current.now c.read_entry.new.store c.requires.kept.card
    c.args.current.now [] _ _ (reply-failed _ _ c.from_residual.ensures.1) c.in_err-entry.ensures.store none_fit

pub allows-requires : goal.allows-requires
allows-requires g c = record {
  file = record {
    kept = kept_still _ _ _ c.read_entry.ensures.store.only c.in_ok-entry.ensures.store.ready c.requires.kept;
    used = let master = c.requires.kept.card.tree.entries.master in
        used_still c.args.store.now c.read_entry.new.store c.master-number.result c.read_entry.ensures.store.only
        (λ (unused : (entry_in (table (committed c.args.store.now)) c.master-number.result).kind ≡ 0).
        let none = sym (ap (λ (e : ℕ). (entry_in (table (committed c.args.store.now)) e).kind) c.master-number.ensures)
        ∙ unused in
        no_dedicated _ none master.kind);
    entry = entry_still c.args.store.now c.read_entry.new.store c.master-number.result c.in_ok-entry.entry
        c.read_entry.ensures.store.only c.in_ok-entry.ensures.entry;
  };
}
