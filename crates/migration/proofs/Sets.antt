-- The words that the migration's transaction sets, one by one, and what they make of the card.
use Rattle.std.specs.Prelude.{◌≡◌, ◌≢◌, ◌==◌, ◌⊎◌, ◌<◌, ◌≤◌, ◌+◌, ℕ, Bool, List, length, slice_set, if◌then◌else◌}
use Rattle.std.proofs.Common.{sym, ◌∙◌, ap, subst, arith, inl, inr, ⊎_elim}
use Rattle.std.proofs.Math.ListN.{length-set}
use Rattle.std.proofs.lemmas.Bool.Decides.{eqb_tells}
use Rattle.nvm_board.specs.Facts.{address, IsMemory, pages_of}
use Rattle.nvm_board.specs.declared.board.TheConstants.{PAGE_WORDS}
use Rattle.nvm_board.specs.laws.Sizes.{least_words, pages_same}
use Rattle.block_chain.specs.BlockWords.{word}
use Rattle.block_chain.specs.ChainChanges.{LinksAlone, AreLinked}
use Rattle.block_chain.specs.declared.layout.TheConstants.{HEADER_PAGE, FREE_HEAD_WORD}
use Rattle.block_chain.specs.laws.Words.{word-set_other, word-set_same}
use Rattle.file_tree.specs.declared.layout.TheConstants.{MARK_WORD, PAGES_WORD, MARK, OLD_END_PAGE, STATE_WORD}
use Rattle.file_tree.specs.Trees.{TreeStands}
use Rattle.file_tree.specs.laws.Footprints.{tree_kept}
use Rattle.file_tree.specs.laws.Migrating.{links_keep, migrated_tree, same-entries}
use Rattle.pin_store.specs.declared.layout.TheConstants.{FIRST_PIN_PAGE}
use Rattle.pin_store.specs.declared.layout.TheConstants.{PIN_MARK_WORD}
use Rattle.migration.specs.Migrating.{IsMigrated, Migrates}
use Rattle.migration.specs.MigratingParts.{MarksPins, RenamesHeader, IsRenamed}

-- one mark more
pub marks_more : (m now after : List ℕ) (i at : ℕ)
    → IsMemory m → i < 8 → at ≡ address (FIRST_PIN_PAGE + i) PIN_MARK_WORD
    → MarksPins i m now → after ≡ slice_set now at 1 → MarksPins (i + 1) m after
marks_more m now after i at sized lt place before done =
    let set : after ≡ slice_set now (address (FIRST_PIN_PAGE + i) PIN_MARK_WORD) 1 = done
    ∙ ap (λ (k : ℕ). slice_set now k 1) place in
    let family : List ℕ → Type 0 = λ l. MarksPins (i + 1) m l in
    subst family (sym set) (record {
      size = length-set now (address (FIRST_PIN_PAGE + i) PIN_MARK_WORD) 1 ∙ before.size;
      marked = λ pin below. elim (eqb_tells pin i) [
        | inl same ↦
            let inside : address (FIRST_PIN_PAGE + i) PIN_MARK_WORD < length now =
            let long = least_words m sized in let size = before.size in omega (arith, long, size, lt) in
            ap (λ (k : ℕ). word (slice_set now (address (FIRST_PIN_PAGE + i) PIN_MARK_WORD) 1)
            (FIRST_PIN_PAGE + k) PIN_MARK_WORD) same.1
            ∙ word-set_same now (FIRST_PIN_PAGE + i) PIN_MARK_WORD 1 inside
        | inr other ↦
            let o = other.1 in
            word-set_other now (FIRST_PIN_PAGE + i) PIN_MARK_WORD (FIRST_PIN_PAGE + pin) PIN_MARK_WORD 1 (omega arith)
            (omega arith) (inl (λ is. let z : ⊥ = omega (arith, is, o) in z))
            ∙ before.marked pin (omega (arith, below, o))
      ];
      others = λ page place small apart.
          word-set_other now (FIRST_PIN_PAGE + i) PIN_MARK_WORD page place 1 (omega arith) small
          (⊎_elim (λ (away : place ≢ PIN_MARK_WORD). inr away)
          (λ (outside : (page < FIRST_PIN_PAGE) ⊎ (FIRST_PIN_PAGE + 8 ≤ page)). inl (λ is. ⊎_elim
          (λ (low : page < FIRST_PIN_PAGE). let z : ⊥ = omega (arith, low, is) in z)
          (λ (past : FIRST_PIN_PAGE + 8 ≤ page). let z : ⊥ = omega (arith, past, is, lt) in z)
          outside)) apart)
          ∙ before.others page place small apart;
    })

-- the header, after its two last sets; `mid` has the first free block set, or not
pub header_set : (end : ℕ) (m mid after : List ℕ) → IsMemory m
    → ((end ≢ OLD_END_PAGE) × (mid ≡ slice_set m (address HEADER_PAGE FREE_HEAD_WORD) OLD_END_PAGE))
    ⊎ ((end ≡ OLD_END_PAGE) × (mid ≡ m))
    → after ≡ slice_set (slice_set mid (address HEADER_PAGE PAGES_WORD) end) (address HEADER_PAGE MARK_WORD) MARK
    → RenamesHeader end m after
header_set end m mid after sized first done =
    let with_pages = slice_set mid (address HEADER_PAGE PAGES_WORD) end in
    let new = slice_set with_pages (address HEADER_PAGE MARK_WORD) MARK in
    let long = least_words m sized in
    let mid_size : length mid ≡ length m = ⊎_elim
    (λ (s : (end ≢ OLD_END_PAGE) × (mid ≡ slice_set m (address HEADER_PAGE FREE_HEAD_WORD) OLD_END_PAGE)).
    ap (λ (l : List ℕ). length l) s.1 ∙ length-set m (address HEADER_PAGE FREE_HEAD_WORD) OLD_END_PAGE)
    (λ (s : (end ≡ OLD_END_PAGE) × (mid ≡ m)). ap (λ (l : List ℕ). length l) s.1) first in
    let pages_size = length-set mid (address HEADER_PAGE PAGES_WORD) end in
    let mid_others : (page place : ℕ) → place < PAGE_WORDS → (page ≢ HEADER_PAGE) ⊎ (place ≢ FREE_HEAD_WORD)
    → word mid page place ≡ word m page place = λ page place small apart. ⊎_elim
    (λ (s : (end ≢ OLD_END_PAGE) × (mid ≡ slice_set m (address HEADER_PAGE FREE_HEAD_WORD) OLD_END_PAGE)).
    ap (λ (l : List ℕ). word l page place) s.1
    ∙ word-set_other m HEADER_PAGE FREE_HEAD_WORD page place OLD_END_PAGE (omega arith) small apart)
    (λ (s : (end ≡ OLD_END_PAGE) × (mid ≡ m)). ap (λ (l : List ℕ). word l page place) s.1) first in
    let last : (page place : ℕ) → place < PAGE_WORDS → (page ≢ HEADER_PAGE) ⊎ (place ≢ MARK_WORD)
    → (page ≢ HEADER_PAGE) ⊎ (place ≢ PAGES_WORD) → word new page place ≡ word mid page place = λ page place small a b.
    word-set_other with_pages HEADER_PAGE MARK_WORD page place MARK (omega arith) small a
    ∙ word-set_other mid HEADER_PAGE PAGES_WORD page place end (omega arith) small b in
    let in_pages : address HEADER_PAGE PAGES_WORD < length mid = omega (arith, long, mid_size) in
    let in_mark : address HEADER_PAGE MARK_WORD < length with_pages = omega (arith, long, mid_size, pages_size) in
    let family : List ℕ → Type 0 = λ l. RenamesHeader end m l in
    subst family (sym done) (record {
      size = length-set with_pages (address HEADER_PAGE MARK_WORD) MARK ∙ pages_size ∙ mid_size;
      mark = word-set_same with_pages HEADER_PAGE MARK_WORD MARK in_mark;
      pages = word-set_other with_pages HEADER_PAGE MARK_WORD HEADER_PAGE PAGES_WORD MARK (omega arith) (omega arith)
          (inr (omega arith)) ∙ word-set_same mid HEADER_PAGE PAGES_WORD end in_pages;
      head = last HEADER_PAGE FREE_HEAD_WORD (omega arith) (inr (omega arith)) (inr (omega arith)) ∙ ⊎_elim
          (λ (s : (end ≢ OLD_END_PAGE) × (mid ≡ slice_set m (address HEADER_PAGE FREE_HEAD_WORD) OLD_END_PAGE)).
          let inside : address HEADER_PAGE FREE_HEAD_WORD < length m = omega (arith, long) in
          ap (λ (l : List ℕ). word l HEADER_PAGE FREE_HEAD_WORD) s.1
          ∙ word-set_same m HEADER_PAGE FREE_HEAD_WORD OLD_END_PAGE inside
          ∙ (elim (eqb_tells end OLD_END_PAGE) [
            | inl same ↦ absurd (s.0 same.1)
            | inr other ↦ sym (ap (λ (b : Bool). if b then word m HEADER_PAGE FREE_HEAD_WORD else OLD_END_PAGE) other.0)
          ]))
          (λ (s : (end ≡ OLD_END_PAGE) × (mid ≡ m)). ap (λ (l : List ℕ). word l HEADER_PAGE FREE_HEAD_WORD) s.1
          ∙ (elim (eqb_tells end OLD_END_PAGE) [
            | inl same ↦ sym (ap (λ (b : Bool). if b then word m HEADER_PAGE FREE_HEAD_WORD else OLD_END_PAGE) same.0)
            | inr other ↦ absurd (other.1 s.0)
          ])) first;
      others = λ page place small apart.
          last page place small (⊎_elim (λ (away : page ≢ HEADER_PAGE). inl away)
          (λ (o : (place ≢ MARK_WORD) × (place ≢ PAGES_WORD) × (place ≢ FREE_HEAD_WORD)). inr o.0) apart)
          (⊎_elim (λ (away : page ≢ HEADER_PAGE). inl away)
          (λ (o : (place ≢ MARK_WORD) × (place ≢ PAGES_WORD) × (place ≢ FREE_HEAD_WORD)). inr o.1) apart)
          ∙ mid_others page place small (⊎_elim (λ (away : page ≢ HEADER_PAGE). inl away)
          (λ (o : (place ≢ MARK_WORD) × (place ≢ PAGES_WORD) × (place ≢ FREE_HEAD_WORD)). inr o.2) apart);
    })

-- the marks of the PINs, and then the header
pub both_renamed : (end : ℕ) (m mid after : List ℕ) → MarksPins 8 m mid
    → RenamesHeader end mid after → IsRenamed end m after
both_renamed end m mid after marks header = record {
  renames = record {
    size = header.size ∙ marks.size;
    mark = header.mark;
    pages = header.pages;
    head = header.head ∙ ap (λ (w : ℕ). if end == OLD_END_PAGE then w else OLD_END_PAGE)
        (marks.others HEADER_PAGE FREE_HEAD_WORD (omega arith) (inl (omega arith)));
    state = header.others HEADER_PAGE STATE_WORD (omega arith) (inr (omega arith, omega arith, omega arith))
        ∙ marks.others HEADER_PAGE STATE_WORD (omega arith) (inl (omega arith));
    entries = λ page place from below small.
        header.others page place small (inl (omega (arith, from)))
        ∙ marks.others page place small (inr (inl (omega (arith, below))));
    blocks = λ page place from small.
        header.others page place small (inl (omega (arith, from)))
        ∙ marks.others page place small (inr (inr (omega (arith, from))));
  };
  marked = λ pin lt. header.others (FIRST_PIN_PAGE + pin) PIN_MARK_WORD (omega arith) (inl (omega arith))
      ∙ marks.marked pin lt;
  pins = record {
    words = λ pin place lt small.
        header.others (FIRST_PIN_PAGE + pin) place (omega (arith, small)) (inl (omega arith))
        ∙ marks.others (FIRST_PIN_PAGE + pin) place (omega (arith, small)) (inl (omega (arith, small)));
  };
}

-- the links alone: the card stays, in its format
pub links_migrate : (end : ℕ) (m after : List ℕ) → IsMemory m → TreeStands m → word m HEADER_PAGE MARK_WORD ≢ MARK
    → LinksAlone OLD_END_PAGE end m after → Migrates m after
links_migrate end m after sized stands old only =
    let kept = tree_kept m after sized (links_keep end m after old only) stands in
    record {
      keeps = record {
        size = only.size;
        stands = kept.0;
        tree = kept.2;
        table = kept.1;
        pins = record {
          words = λ pin place lt small. only.others (FIRST_PIN_PAGE + pin) place (omega (arith, small))
              (inr (inl (omega (arith, lt))));
        };
        state = only.others HEADER_PAGE STATE_WORD (omega arith) (inr (inl (omega arith)));
      };
      format = inl (only.others HEADER_PAGE MARK_WORD (omega arith) (inr (inl (omega arith))));
    }

-- links and new name: the card stays, in format 2
pub all_migrated : (end : ℕ) (m mid after : List ℕ) → IsMemory m → TreeStands m → word m HEADER_PAGE MARK_WORD ≢ MARK
    → OLD_END_PAGE ≤ end → end ≡ pages_of m → LinksAlone OLD_END_PAGE end m mid
    → AreLinked OLD_END_PAGE end (word m HEADER_PAGE FREE_HEAD_WORD) mid → IsRenamed end mid after → IsMigrated m after
all_migrated end m mid after sized stands old least is only linked renamed =
    let size : length after ≡ length m = renamed.renames.size ∙ only.size in
    let tree = migrated_tree end m mid after sized stands old least (omega (arith, is)) only linked renamed.renames in
    record {
      keeps = record {
        size = size;
        stands = tree.0;
        tree = tree.1;
        table = same-entries end m mid after sized stands old least (omega (arith, is)) only linked renamed.renames;
        pins = record {
          words = λ pin place lt small. renamed.pins.words pin place lt small
              ∙ only.others (FIRST_PIN_PAGE + pin) place (omega (arith, small)) (inr (inl (omega (arith, lt))));
        };
        state = renamed.renames.state ∙ only.others HEADER_PAGE STATE_WORD (omega arith) (inr (inl (omega arith)));
      };
      new = record {
        mark = renamed.renames.mark;
        pages = renamed.renames.pages ∙ is ∙ sym (pages_same m after size);
        pins = renamed.marked;
      };
    }
