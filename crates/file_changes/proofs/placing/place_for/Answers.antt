use Rattle.file_tree.specs.Formats.{block_count}
use Rattle.undo_journal.specs.laws.Exits.{none_ok}
use Rattle.std.proofs.Common.{rules, ◌≡◌, ◌≢◌, ℕ, Bool, false, List, length, Option, None, IsTrue, sym, ◌∙◌, ap, subst}
use Rattle.std.proofs.Common.{arith, true≢false, inl, inr, refl}
use Rattle.std.proofs.lemmas.Bool.Decides.{eqb_tells}
use Rattle.undo_journal.specs.Memory.{committed}
use Rattle.file_tree.specs.declared.entry.Entry.{Entry}
use Rattle.card_model.specs.Spaces.{blocks_for}
use Rattle.file_tree.specs.Table.{table, ancestor}
use Rattle.file_changes.specs.CreationParts.{TellsFreeEntry}
use Rattle.file_changes.specs.laws.Places.{place_deepest, place_none, place_small, place_there}
use Rattle.block_chain.specs.Chains.{free_chain}
use Rattle.card_model.specs.Spaces.{free_space}
use Rattle.card_model.specs.declared.space.FreeSpace.{FreeSpace}
use Rattle.file_tree.specs.Trees.{tree_of, TreeStands}
use Rattle.file_tree.specs.laws.Costs.{space_counted}
use Rattle.nvm_board.specs.Facts.{IsMemory}
use Rattle.undo_journal.specs.laws.Told.{reads_handed, reads_on}
use Rattle.file_changes.proofs.placing.place_for.Goals as goal

-- what the table that was read tells is so of the memory: the level of a dedicated file, and a free entry
level_zero : (m : List ℕ) (t : List Entry) (df : ℕ) (b : Bool) → t ≡ table m → b ≡ false
    → (ancestor t 6 df ≢ 0 → IsTrue b) → ancestor (table m) 6 df ≡ 0
level_zero m t df b is fails tells = elim (eqb_tells (ancestor t 6 df) 0) [
  | inl same ↦ sym (ap (λ (s : List Entry). ancestor s 6 df) is) ∙ same.1
  | inr other ↦ absurd (true≢false (sym (tells other.1) ∙ fails))
]

free_there : (m : List ℕ) (t : List Entry) (found o : Option ℕ) → t ≡ table m → found ≡ o → TellsFreeEntry t found
    → TellsFreeEntry (table m) o
free_there m t found o is same told =
    let tells : Option ℕ → List Entry → Type 0 = λ p s. TellsFreeEntry s p in
    subst (λ (s : List Entry). tells o s) is (subst (λ (p : Option ℕ). tells p t) same told)

-- the free blocks of the tree are the free chain
free_blocks : (m : List ℕ) → IsMemory m → TreeStands m → (free : FreeSpace)
    → free ≡ free_space (block_count m) (tree_of m) → free.blocks ≡ length (free_chain m)
free_blocks m sized stands free is =
    ap (λ (s : FreeSpace). s.blocks) is ∙ ap (λ (s : FreeSpace). s.blocks) (space_counted m sized stands)

pub is_deepest-requires : goal.is_deepest-requires
is_deepest-requires g c = record { df = c.requires.df }

pub returns-in_err-deepest : goal.returns-in_err-deepest
returns-in_err-deepest g c = record {
  told = none_ok _ _ _ c.from_residual.ensures.1;
  store = reads_handed _ _ _ _ c.from_residual.ensures.1 c.in_err-deepest.ensures.store;
}

pub returns-then-deepest : goal.returns-then-deepest
returns-then-deepest g c = record {
  told = let m = committed c.args.store.now in
      let sized = c.requires.df.ready.usable.committed_size in
      sym (place_deepest m sized c.requires.df.tree c.args.df c.requires.df.used c.args.fcp.now.kind
      (c.in_ok-deepest.ensures.told.0 c.if-deepest.true));
  store = c.in_ok-deepest.ensures.store;
}

pub first_free-requires : goal.first_free-requires
first_free-requires g c = record { ready = c.in_ok-deepest.ensures.store.ready }

pub returns-in_err-found : goal.returns-in_err-found
returns-in_err-found g c = record {
  told = none_ok _ _ _ c.from_residual-in_err-found.ensures.1;
  store = reads_handed _ _ _ _ c.from_residual-in_err-found.ensures.1
      (reads_on _ _ _ _ c.is_deepest.ensures.store.only c.in_err-found.ensures.store);
}

pub returns-in_default : goal.returns-in_default
returns-in_default g c = record {
  told = let m = committed c.args.store.now in
      let sized = c.requires.df.ready.usable.committed_size in
      let level = level_zero m (table m) _ _ refl c.if-deepest.false c.in_ok-deepest.ensures.told.1 in
      let none : c.in_ok-found.found ≡ None = search rules in
      let free = free_there m _ _ _ (ap table c.is_deepest.ensures.store.only.keeps.committed_words) none
      c.in_ok-found.ensures.told in
      sym (place_none m sized c.requires.df.tree c.args.df c.requires.df.used c.args.fcp.now.kind level free);
  store = reads_on _ _ _ _ c.is_deepest.ensures.store.only c.in_ok-found.ensures.store;
}

pub returns-then-free-blocks : goal.returns-then-free-blocks
returns-then-free-blocks g c = record {
  told = let m = committed c.args.store.now in
      let sized = c.requires.df.ready.usable.committed_size in
      let level = level_zero m (table m) _ _ refl c.if-deepest.false c.in_ok-deepest.ensures.told.1 in
      let free = free_there m _ _ _ (ap table c.is_deepest.ensures.store.only.keeps.committed_words) c.in-Some.is
      c.in_ok-found.ensures.told in
      let count = free_blocks m sized c.requires.df.tree c.args.free c.requires.free in
      let blocks = c.blocks_for-blocks.ensures ∙ ap blocks_for c.size.ensures in
      sym (place_small m sized c.requires.df.tree c.args.df c.requires.df.used c.args.fcp.now.kind c.in-Some.e level
      free (omega (arith, count, blocks, c.if-free-blocks.true)));
  store = reads_on _ _ _ _ c.is_deepest.ensures.store.only c.in_ok-found.ensures.store;
}

pub returns : goal.returns
returns g c = record {
  told = let m = committed c.args.store.now in
      let sized = c.requires.df.ready.usable.committed_size in
      let level = level_zero m (table m) _ _ refl c.if-deepest.false c.in_ok-deepest.ensures.told.1 in
      let free = free_there m _ _ _ (ap table c.is_deepest.ensures.store.only.keeps.committed_words) c.in-Some.is
      c.in_ok-found.ensures.told in
      let count = free_blocks m sized c.requires.df.tree c.args.free c.requires.free in
      let blocks = c.blocks_for-blocks.ensures ∙ ap blocks_for c.size.ensures in
      place_there m sized c.requires.df.tree c.args.df c.requires.df.used c.args.fcp.now.kind c.in-Some.e level free
      (omega (arith, count, blocks, c.if-free-blocks.false));
  store = reads_on _ _ _ _ c.is_deepest.ensures.store.only c.in_ok-found.ensures.store;
}
