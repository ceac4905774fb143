use Rattle.std.specs.Prelude.{ℕ, List, slice_index}
use Rattle.std.proofs.Common.{sym, ◌∙◌, ap, ◌≡◌}
use Rattle.std.proofs.lemmas.Result.{IfOk-weaker}
use Rattle.undo_journal.specs.Memory.{committed}
use Rattle.undo_journal.specs.laws.Told.{reads_on}
use Rattle.block_chain.specs.BlockWords.{word}
use Rattle.block_chain.specs.declared.layout.TheConstants.{HEADER_PAGE}
use Rattle.file_tree.specs.declared.layout.TheConstants.{MARK, MARK_WORD}
use Rattle.file_tree.specs.laws.Formats.{end_new, end_old}
use Rattle.tree_check.proofs.format.read_end_page.Goals as goal

pub returns-then-mark-eq-MARK-clause-end : goal.returns-then-mark-eq-MARK-clause-end
returns-then-mark-eq-MARK-clause-end g c =
    let m = committed c.args.store.now in
    let mark : word m HEADER_PAGE MARK_WORD ≡ MARK =
    ap (λ (l : List ℕ). slice_index l 0) c.requires.ready.same ∙ sym c.in_ok-mark.ensures.word
    ∙ c.if-mark-eq-MARK.true in
    IfOk-weaker c.read-then-mark-eq-MARK.result _ _
    (λ end is. is
    ∙ ap (λ (l : List ℕ). slice_index l 3) (c.read.ensures.reads.keeps.current_words ∙ sym c.requires.ready.same)
    ∙ sym (end_new m mark)) c.read-then-mark-eq-MARK.ensures.word

pub returns-then-mark-eq-MARK-clause-store : goal.returns-then-mark-eq-MARK-clause-store
returns-then-mark-eq-MARK-clause-store g c =
    reads_on _ _ _ _ c.read.ensures.reads
    (c.read-then-mark-eq-MARK.ensures.store (c.in_ok-mark.ensures.store c.requires.ready.idle).ready.idle)

pub returns-else-mark-eq-MARK-clause-end : goal.returns-else-mark-eq-MARK-clause-end
returns-else-mark-eq-MARK-clause-end g c =
    let m = committed c.args.store.now in
    c.from.ensures ∙ sym (end_old m (λ is. c.if-mark-eq-MARK.false
    (c.in_ok-mark.ensures.word ∙ sym (ap (λ (l : List ℕ). slice_index l 0) c.requires.ready.same) ∙ is)))
