use Rattle.std.specs.Prelude.{◌≡◌, ◌-◌, ℕ, List, slice_index}
use Rattle.std.proofs.Common.{sym, ◌∙◌, ap, subst, inl, inr, ⊎_elim, arith}
use Rattle.std.proofs.lemmas.Result.{on_ok_weaker}
use Rattle.nvm_board.specs.Facts.{pages_of}
use Rattle.undo_journal.specs.Memory.{committed}
use Rattle.undo_journal.specs.laws.Told.{changes_after, changes_on, changes_handed, changes_within, reads_change}
use Rattle.block_chain.specs.Chains.{free_chain}
use Rattle.block_chain.specs.BlockWords.{word}
use Rattle.block_chain.specs.ChainChanges.{LinksAlone, AreLinked}
use Rattle.block_chain.specs.declared.layout.TheConstants.{HEADER_PAGE, FREE_HEAD_WORD}
use Rattle.block_chain.specs.laws.Chains.{head_small}
use Rattle.file_tree.specs.declared.layout.TheConstants.{MARK_WORD, OLD_END_PAGE}
use Rattle.migration.specs.Migrating.{Migrates, migration_writes}
use Rattle.migration.proofs.Sets.{links_migrate, all_migrated}
use Rattle.migration.proofs.migrating.migrate.Goals as goal

pub overflow_cast-free : goal.overflow_cast-free
overflow_cast-free g c =
    let m = committed c.args.store.now in
    let small = head_small m _ (free_chain m) c.requires.ready.usable.committed_size c.requires.tree.blocks.free in
    let free : c.in_ok-free.free ≡ slice_index m 1 =
    c.in_ok-free.ensures.word ∙ sym (ap (λ (l : List ℕ). slice_index l 1) c.requires.ready.same) in
    omega (arith, free, small)

pub returns-in_err-free-clause-store : goal.returns-in_err-free-clause-store
returns-in_err-free-clause-store g c =
    let idle = c.requires.ready.idle in
    changes_handed _ _ _ _ _ c.from_residual.ensures.1
    (reads_change (migration_writes (pages_of (committed c.args.store.now))) _ _ _ idle
    (c.in_err-free.ensures.store idle))

pub returns-in_err-link_pages-clause-any_exit : goal.returns-in_err-link_pages-clause-any_exit
returns-in_err-link_pages-clause-any_exit g c =
    let m = committed c.args.store.now in
    let family : List ℕ → Type 0 =
    λ l. LinksAlone OLD_END_PAGE c.pages-end.result l (committed c.link_pages.new.store) in
    links_migrate c.pages-end.result m _ c.requires.ready.usable.committed_size c.requires.tree c.requires.old
    (subst family c.read.ensures.reads.keeps.committed_words c.link_pages.ensures.any_exit)

pub returns-in_err-link_pages-clause-store : goal.returns-in_err-link_pages-clause-store
returns-in_err-link_pages-clause-store g c =
    changes_handed _ _ _ _ _ c.from_residual-in_err-link_pages.ensures.1
    (changes_within _ _ _ _ _ (let pages = c.pages-end.ensures.committed in omega (arith, pages))
    (changes_after _ _ _ _ _ c.read.ensures.reads c.in_err-link_pages.ensures.store))

pub returns-clause-store : goal.returns-clause-store
returns-clause-store g c =
    changes_on (c.pages-end.result - OLD_END_PAGE) 15 _ _ _ _ _
    (let pages = c.pages-end.ensures.committed in omega (arith, pages))
    (changes_after _ _ _ _ _ c.read.ensures.reads c.in_ok-link_pages.ensures.store) c.become_new.ensures.store

pub returns-clause-any_exit : goal.returns-clause-any_exit
returns-clause-any_exit g c =
    let m = committed c.args.store.now in
    let mid = committed c.link_pages.new.store in
    let sized = c.requires.ready.usable.committed_size in
    let read = c.read.ensures.reads.keeps.committed_words in
    let only : LinksAlone OLD_END_PAGE c.pages-end.result m mid =
    subst (λ (l : List ℕ). LinksAlone OLD_END_PAGE c.pages-end.result l mid) read c.link_pages.ensures.any_exit in
    let free : c.in_ok-free.free ≡ word m HEADER_PAGE FREE_HEAD_WORD =
    c.in_ok-free.ensures.word ∙ sym (ap (λ (l : List ℕ). slice_index l 1) c.requires.ready.same) in
    let linked : AreLinked OLD_END_PAGE c.pages-end.result (word m HEADER_PAGE FREE_HEAD_WORD) mid =
    subst (λ (w : ℕ). AreLinked OLD_END_PAGE c.pages-end.result w mid) free c.in_ok-link_pages.ensures.done in
    ⊎_elim
    (λ still. subst (λ (l : List ℕ). Migrates m l) (sym still)
    (links_migrate c.pages-end.result m mid sized c.requires.tree c.requires.old only))
    (λ renamed.
    let all = all_migrated c.pages-end.result m mid _ sized c.requires.tree c.requires.old
    (let pages = c.pages-end.ensures.committed in let least = sized.least in omega (arith, pages, least))
    c.pages-end.ensures.committed only linked renamed in
    record { keeps = all.keeps; format = inr all.new })
    c.become_new.ensures.any_exit

pub returns-clause-done : goal.returns-clause-done
returns-clause-done g c =
    let m = committed c.args.store.now in
    let mid = committed c.link_pages.new.store in
    let sized = c.requires.ready.usable.committed_size in
    let read = c.read.ensures.reads.keeps.committed_words in
    let only : LinksAlone OLD_END_PAGE c.pages-end.result m mid =
    subst (λ (l : List ℕ). LinksAlone OLD_END_PAGE c.pages-end.result l mid) read c.link_pages.ensures.any_exit in
    let free : c.in_ok-free.free ≡ word m HEADER_PAGE FREE_HEAD_WORD =
    c.in_ok-free.ensures.word ∙ sym (ap (λ (l : List ℕ). slice_index l 1) c.requires.ready.same) in
    let linked : AreLinked OLD_END_PAGE c.pages-end.result (word m HEADER_PAGE FREE_HEAD_WORD) mid =
    subst (λ (w : ℕ). AreLinked OLD_END_PAGE c.pages-end.result w mid) free c.in_ok-link_pages.ensures.done in
    on_ok_weaker c.become_new.result
    (λ renamed. all_migrated c.pages-end.result m mid _ sized c.requires.tree c.requires.old
    (let pages = c.pages-end.ensures.committed in let least = sized.least in omega (arith, pages, least))
    c.pages-end.ensures.committed only linked renamed)
    c.become_new.ensures.done

-- links leave the mark
mark_kept : (end : ℕ) (m read mid : List ℕ) → read ≡ m → LinksAlone OLD_END_PAGE end read mid
    → word mid HEADER_PAGE MARK_WORD ≡ word m HEADER_PAGE MARK_WORD
mark_kept end m read mid same only =
    only.others HEADER_PAGE MARK_WORD (omega arith) (inr (inl (omega arith)))
    ∙ ap (λ (l : List ℕ). word l HEADER_PAGE MARK_WORD) same

pub returns-in_err-link_pages-clause-last : goal.returns-in_err-link_pages-clause-last
returns-in_err-link_pages-clause-last g c =
    inl (mark_kept c.pages-end.result (committed c.args.store.now) _ _ c.read.ensures.reads.keeps.committed_words
    c.link_pages.ensures.any_exit)

pub returns-clause-last : goal.returns-clause-last
returns-clause-last g c =
    let m = committed c.args.store.now in
    ⊎_elim
    (λ still. inl (ap (λ (l : List ℕ). word l HEADER_PAGE MARK_WORD) still
    ∙ mark_kept c.pages-end.result m _ _ c.read.ensures.reads.keeps.committed_words c.link_pages.ensures.any_exit))
    (λ most. inr (
    let pages = c.pages-end.ensures.committed in
    omega (arith, most, pages, c.in_ok-link_pages.ensures.counted, c.read.ensures.reads.board.writes)))
    c.become_new.ensures.last
