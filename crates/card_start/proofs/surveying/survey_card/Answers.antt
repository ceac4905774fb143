use Rattle.std.proofs.Common.{ℕ, List, Option, Some, None, sym, ◌∙◌, ap, subst, inl, inr}
use Rattle.undo_journal.specs.StoreCalls.{Changes}
use Rattle.undo_journal.specs.Memory.{committed}
use Rattle.undo_journal.specs.laws.Exits.{none_ok}
use Rattle.undo_journal.specs.laws.Told.{changes_after, changes_handed, reads_change}
use Rattle.file_tree.specs.Table.{table}
use Rattle.command_base.specs.laws.CardLaws.{card_format, old_mark}
use Rattle.std.proofs.Common.{arith, ⊎_elim}
use Rattle.block_chain.specs.BlockWords.{word}
use Rattle.block_chain.specs.declared.layout.TheConstants.{HEADER_PAGE}
use Rattle.file_tree.specs.declared.layout.TheConstants.{MARK_WORD}
use Rattle.file_tree.specs.Indexes.{IsIndex}
use Rattle.file_tree.specs.Trees.{TreeStands}
use Rattle.migration.specs.Migrating.{Migrates}
use Rattle.card_model.specs.Cards.{card_space}
use Rattle.command_base.specs.Standing.{card_of, IsCard, IsOldCard}
use Rattle.card_start.specs.StartParts.{TellsCard}
use Rattle.card_start.specs.declared.check.Checked.{Checked}
use Rattle.card_start.proofs.Migrated.{found-free, found-one, found-two, found-where, grown-space, renewal-writes}
use Rattle.card_start.proofs.Migrated.{renewal-none}
use Rattle.card_start.proofs.Migrated.{renewed-card}
use Rattle.card_start.proofs.surveying.survey_card.Goals as goal

pub returns-in_err-migrate-in-One-clause-store : goal.returns-in_err-migrate-in-One-clause-store
returns-in_err-migrate-in-One-clause-store g c =
    let m = committed c.args.store.now in
    let files = c.find_card.new.index in
    let same = c.find_card.ensures.store.only.keeps.committed_words in
    let old = found-one m files _ c.in-Some.found c.in-Some.is c.in-One.is c.in_ok-found.ensures.told in
    let told = Some c.in_err-migrate-in-One.field-0.0 in
    let first = c.args.store.now in
    let last = c.migrate.new.store in
    let changes = changes_after _ first c.find_card.new.store last told c.find_card.ensures.store.only
    c.in_err-migrate-in-One.ensures.store in
    changes_handed _ first last _ _ c.from_residual-in_err-migrate-in-One.ensures.1
    (subst (λ (n : ℕ). Changes n first last told) (renewal-writes m (committed c.find_card.new.store) same old) changes)

pub returns-in_err-migrate-in-One-clause-last : goal.returns-in_err-migrate-in-One-clause-last
returns-in_err-migrate-in-One-clause-last g c =
    let m = committed c.args.store.now in
    let files = c.find_card.new.index in
    let same = c.find_card.ensures.store.only.keeps.committed_words in
    let old = found-one m files _ c.in-Some.found c.in-Some.is c.in-One.is c.in_ok-found.ensures.told in
    let all = renewal-writes m (committed c.find_card.new.store) same old in
    let read = c.find_card.ensures.store.only.board.writes in
    ⊎_elim
    (λ kept. inl (kept ∙ ap (λ (l : List ℕ). word l HEADER_PAGE MARK_WORD) same))
    (λ most. inr (omega (arith, most, all, read)))
    c.in_err-migrate-in-One.ensures.last

pub returns-in_ok-migrate-in-One-clause-last : goal.returns-in_ok-migrate-in-One-clause-last
returns-in_ok-migrate-in-One-clause-last g c =
    let m = committed c.args.store.now in
    let files = c.find_card.new.index in
    let same = c.find_card.ensures.store.only.keeps.committed_words in
    let old = found-one m files _ c.in-Some.found c.in-Some.is c.in-One.is c.in_ok-found.ensures.told in
    let all = renewal-writes m (committed c.find_card.new.store) same old in
    let read = c.find_card.ensures.store.only.board.writes in
    let made = c.in_ok-migrate-in-One.ensures.counted in
    inr (omega (arith, made, all, read))

pub returns-in-Two-clause-last : goal.returns-in-Two-clause-last
returns-in-Two-clause-last g c =
    inl (ap (λ (l : List ℕ). word l HEADER_PAGE MARK_WORD) c.find_card.ensures.store.only.keeps.committed_words)

pub returns-in_err-found-clause-last : goal.returns-in_err-found-clause-last
returns-in_err-found-clause-last g c =
    inl (ap (λ (l : List ℕ). word l HEADER_PAGE MARK_WORD) c.find_card.ensures.store.only.keeps.committed_words)

pub returns-in-Two-clause-counted : goal.returns-in-Two-clause-counted
returns-in-Two-clause-counted g c =
    let m = committed c.args.store.now in
    let files = c.find_card.new.index in
    let there = found-two m files _ c.in-Some.found c.in-Some.is c.in-Two.is c.in_ok-found.ensures.told in
    let none = renewal-none m (card_format m there.0) in
    let same = c.find_card.ensures.store.only.board.writes in
    λ some. omega (arith, none, same)

pub returns-in_ok-migrate-in-One-clause-counted : goal.returns-in_ok-migrate-in-One-clause-counted
returns-in_ok-migrate-in-One-clause-counted g c =
    let m = committed c.args.store.now in
    let files = c.find_card.new.index in
    let same = c.find_card.ensures.store.only.keeps.committed_words in
    let old = found-one m files _ c.in-Some.found c.in-Some.is c.in-One.is c.in_ok-found.ensures.told in
    let all = renewal-writes m (committed c.find_card.new.store) same old in
    let read = c.find_card.ensures.store.only.board.writes in
    let made = c.in_ok-migrate-in-One.ensures.counted in
    λ some. omega (arith, all, read, made)

pub returns-in-Two-clause-card : goal.returns-in-Two-clause-card
returns-in-Two-clause-card g c =
    let m = committed c.args.store.now in
    let files = c.find_card.new.index in
    let same = sym c.find_card.ensures.store.only.keeps.committed_words in
    let there = found-two m files _ c.in-Some.found c.in-Some.is c.in-Two.is c.in_ok-found.ensures.told in (
      inl there.0,
      subst IsCard same there.0,
      there.1 ∙ ap (λ (l : List ℕ). card_space (card_of l)) same,
      subst (λ (l : List ℕ). IsIndex (table l) files) same there.2,
    )

pub returns-in_ok-migrate-in-One-clause-store : goal.returns-in_ok-migrate-in-One-clause-store
returns-in_ok-migrate-in-One-clause-store g c =
    let m = committed c.args.store.now in
    let files = c.find_card.new.index in
    let same = c.find_card.ensures.store.only.keeps.committed_words in
    let old = found-one m files _ c.in-Some.found c.in-Some.is c.in-One.is c.in_ok-found.ensures.told in
    let first = c.args.store.now in
    let last = c.migrate.new.store in
    let changes = changes_after _ first c.find_card.new.store last None c.find_card.ensures.store.only
    c.in_ok-migrate-in-One.ensures.store in
    subst (λ (n : ℕ). Changes n first last None) (renewal-writes m (committed c.find_card.new.store) same old) changes

pub returns-in_ok-migrate-in-One-clause-card : goal.returns-in_ok-migrate-in-One-clause-card
returns-in_ok-migrate-in-One-clause-card g c =
    let m = committed c.args.store.now in
    let files = c.find_card.new.index in
    let mid = committed c.find_card.new.store in
    let after = committed c.migrate.new.store in
    let same = c.find_card.ensures.store.only.keeps.committed_words in
    let told = c.in_ok-found.ensures.told in
    let old = found-one m files _ c.in-Some.found c.in-Some.is c.in-One.is told in
    let sized = c.in_ok-found.ensures.store.ready.usable.committed_size in
    let was = subst IsOldCard (sym same) old in
    let migrates = c.in_ok-migrate-in-One.ensures.any_exit in
    let new = c.in_ok-migrate-in-One.ensures.done.new in (
      inr old,
      renewed-card mid after sized was migrates new,
      grown-space mid after c.in-Some.found.free c.pages.result c.pages.ensures.committed sized was migrates new
          (found-free m mid files _ c.in-Some.found same c.in-Some.is told),
      found-where m mid after files _ c.in-Some.found same c.in-Some.is told migrates,
    )

pub returns-in_err-found-clause-any_exit : goal.returns-in_err-found-clause-any_exit
returns-in_err-found-clause-any_exit g c = inl c.find_card.ensures.store.only.keeps.committed_words

pub returns-in_err-found-clause-card : goal.returns-in_err-found-clause-card
returns-in_err-found-clause-card g c = none_ok _ _ _ c.from_residual.ensures.1

pub returns-in_err-found-clause-counted : goal.returns-in_err-found-clause-counted
returns-in_err-found-clause-counted g c = none_ok _ _ _ c.from_residual.ensures.1

pub returns-in_err-found-clause-idle : goal.returns-in_err-found-clause-idle
returns-in_err-found-clause-idle g c = λ new. c.find_card.ensures.store.only

pub returns-in_err-found-clause-store : goal.returns-in_err-found-clause-store
returns-in_err-found-clause-store g c =
    changes_handed _ _ _ _ _ c.from_residual.ensures.1
    (reads_change _ _ _ _ c.requires.ready.idle c.in_err-found.ensures.store)

pub returns-in_default-clause-any_exit : goal.returns-in_default-clause-any_exit
returns-in_default-clause-any_exit g c = inl c.find_card.ensures.store.only.keeps.committed_words

pub returns-in_default-clause-card : goal.returns-in_default-clause-card
returns-in_default-clause-card g c =
    subst (λ (o : Option Checked). TellsCard (committed c.args.store.now) c.find_card.new.index o) c.in_default.is
    c.in_ok-found.ensures.told

pub returns-in_default-clause-last : goal.returns-in_default-clause-last
returns-in_default-clause-last g c =
    inl (ap (λ (l : List ℕ). word l HEADER_PAGE MARK_WORD) c.find_card.ensures.store.only.keeps.committed_words)

pub returns-in_default-clause-idle : goal.returns-in_default-clause-idle
returns-in_default-clause-idle g c = λ new. c.find_card.ensures.store.only

pub returns-in_default-clause-store : goal.returns-in_default-clause-store
returns-in_default-clause-store g c = reads_change _ _ _ _ c.requires.ready.idle c.in_ok-found.ensures.store

pub migrate-requires : goal.migrate-requires
migrate-requires g c =
    let m = committed c.args.store.now in
    let files = c.find_card.new.index in
    let old = found-one m files _ c.in-Some.found c.in-Some.is c.in-One.is c.in_ok-found.ensures.told in
    let same = sym c.find_card.ensures.store.only.keeps.committed_words in record {
      ready = c.in_ok-found.ensures.store.ready;
      tree = subst TreeStands same old.tree;
      old = old_mark _ (subst IsOldCard same old);
    }

pub returns-in_err-migrate-in-One-clause-any_exit : goal.returns-in_err-migrate-in-One-clause-any_exit
returns-in_err-migrate-in-One-clause-any_exit g c =
    let m = committed c.args.store.now in
    let files = c.find_card.new.index in
    let old = found-one m files _ c.in-Some.found c.in-Some.is c.in-One.is c.in_ok-found.ensures.told in
    let migrates = subst (λ (l : List ℕ). Migrates l (committed c.migrate.new.store))
    c.find_card.ensures.store.only.keeps.committed_words c.in_err-migrate-in-One.ensures.any_exit in
    inr (old, migrates)

pub returns-in_err-migrate-in-One-clause-idle : goal.returns-in_err-migrate-in-One-clause-idle
returns-in_err-migrate-in-One-clause-idle g c =
    λ new. absurd (new (found-one (committed c.args.store.now) c.find_card.new.index _ c.in-Some.found c.in-Some.is
    c.in-One.is c.in_ok-found.ensures.told))

pub returns-in_ok-migrate-in-One-clause-any_exit : goal.returns-in_ok-migrate-in-One-clause-any_exit
returns-in_ok-migrate-in-One-clause-any_exit g c =
    let m = committed c.args.store.now in
    let files = c.find_card.new.index in
    let old = found-one m files _ c.in-Some.found c.in-Some.is c.in-One.is c.in_ok-found.ensures.told in
    let migrates = subst (λ (l : List ℕ). Migrates l (committed c.migrate.new.store))
    c.find_card.ensures.store.only.keeps.committed_words c.in_ok-migrate-in-One.ensures.any_exit in
    inr (old, migrates)

pub returns-in_ok-migrate-in-One-clause-idle : goal.returns-in_ok-migrate-in-One-clause-idle
returns-in_ok-migrate-in-One-clause-idle g c =
    λ new. absurd (new (found-one (committed c.args.store.now) c.find_card.new.index _ c.in-Some.found c.in-Some.is
    c.in-One.is c.in_ok-found.ensures.told))

pub returns-in_err-migrate-in-One-clause-card : goal.returns-in_err-migrate-in-One-clause-card
returns-in_err-migrate-in-One-clause-card g c = none_ok _ _ _ c.from_residual-in_err-migrate-in-One.ensures.1

pub returns-in_err-migrate-in-One-clause-counted : goal.returns-in_err-migrate-in-One-clause-counted
returns-in_err-migrate-in-One-clause-counted g c = none_ok _ _ _ c.from_residual-in_err-migrate-in-One.ensures.1

pub returns-in-Two-clause-any_exit : goal.returns-in-Two-clause-any_exit
returns-in-Two-clause-any_exit g c = inl c.find_card.ensures.store.only.keeps.committed_words

pub returns-in-Two-clause-idle : goal.returns-in-Two-clause-idle
returns-in-Two-clause-idle g c = λ new. c.find_card.ensures.store.only

pub returns-in-Two-clause-store : goal.returns-in-Two-clause-store
returns-in-Two-clause-store g c = reads_change _ _ _ _ c.requires.ready.idle c.in_ok-found.ensures.store
