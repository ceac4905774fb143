use Rattle.file_tree.specs.Formats.{block_count}
use Rattle.nvm_board.specs.Facts.{IsMemory}
use Rattle.undo_journal.specs.laws.Calls.{reads_then}
use Rattle.file_tree.specs.Table.{IsUsed}
use Rattle.undo_journal.specs.laws.Exits.{none_ok}
use Rattle.std.proofs.Common.{◌≡◌, ℕ, List, length, take, None, sym, ◌∙◌, ap, subst, arith}
use Rattle.std.proofs.Common.{inl, inr, ⊎_elim, refl}
use Rattle.std.proofs.lemmas.Option.{none-some}
use Rattle.file_tree.specs.TreeChanges.{SameTree}
use Rattle.undo_journal.specs.Memory.{Memory, committed, IsReady}
use Rattle.file_changes.specs.Adding.{AddsByGate}
use Rattle.card_model.specs.declared.fcp.Fcp.{Fcp}
use Rattle.card_model.specs.FileControl.{IsCreatable, size_of_kind}
use Rattle.block_chain.specs.Chains.{free_chain}
use Rattle.block_chain.specs.ChainChanges.{OnlyContent}
use Rattle.file_tree.specs.declared.entry.Entry.{Entry}
use Rattle.file_changes.specs.declared.placing.NewPlace.{NewPlace}
use Rattle.file_changes.specs.declared.placing.NewPlace.TheVariants.{At}
use Rattle.card_model.specs.Spaces.{blocks_for}
use Rattle.file_tree.specs.Table.{table, entry_in, path_of}
use Rattle.file_tree.specs.Trees.{tree_of, TreeStands}
use Rattle.file_changes.specs.Creations.{IsCreated}
use Rattle.card_model.specs.NewFiles.{short_of_new}
use Rattle.file_changes.specs.CreationRefusals.{first_reason, creation_refusal}
use Rattle.file_changes.specs.CreationParts.{entry_for, no_chain, short_option, FindsPlace, FillsAndAdds}
use Rattle.file_changes.specs.laws.NewEntries.{size_most, some_kind}
use Rattle.file_tree.specs.laws.Rewriting.{filled}
use Rattle.file_tree.specs.laws.Tables.{length-table}
use Rattle.file_changes.specs.laws.Entering.{free_below}
use Rattle.file_changes.specs.laws.Made.{is_created}
use Rattle.undo_journal.specs.laws.Told.{changes_after, changes_handed, reads_change, reads_on}
use Rattle.file_lookup.specs.StoredFiles.{HasFile}
use Rattle.file_lookup.specs.laws.StoredFiles.{file_still}
use Rattle.file_changes.proofs.creating.create.Goals as goal

-- a dedicated file is a used entry's
used_df : (m : List ℕ) (df : ℕ) → (entry_in (table m) df).kind ≡ 1 → IsUsed (table m) df
used_df m df dedicated none = let z : ⊥ = omega (arith, dedicated, none) in z

-- the tree of the same words
same_tree : (m after : List ℕ) → TreeStands m → after ≡ m → SameTree m after
same_tree m after stands same = subst (λ (l : List ℕ). SameTree m l) (sym same) (record {
  tree = refl;
  stands = stands;
  free = refl;
  rest = record { size = refl; words = λ page place small entry block other. refl };
  table = refl;
})

-- what was told of a place
place_at : (m : List ℕ) (df : ℕ) (fcp : Fcp) (place : NewPlace) (e : ℕ) → place ≡ At e → FindsPlace m df fcp place
    → FindsPlace m df fcp (At e)
place_at m df fcp place e is found =
    let family : NewPlace → Type 0 = λ p. FindsPlace m df fcp p in
    subst family is found

-- a file that finds a place is not refused
not_refused : (m : List ℕ) (df : ℕ) (fcp : Fcp) (e : ℕ) → FindsPlace m df fcp (At e)
    → creation_refusal (block_count m) (tree_of m) (path_of (table m) df) fcp ≡ None
not_refused m df fcp e found = λ i. first_reason (found.0 i) (found.1 i)

-- the short identifier of the words as they were
short_before : (m now : List ℕ) (df n : ℕ) (fcp : Fcp) → now ≡ m
    → short_option n ≡ short_of_new (tree_of now) (path_of (table now) df) fcp
    → short_option n ≡ short_of_new (tree_of m) (path_of (table m) df) fcp
short_before m now df n fcp same short =
    short ∙ ap (λ (l : List ℕ). short_of_new (tree_of l) (path_of (table l) df) fcp) same

-- the steps make the new file of the words as they were
created : (m now after : List ℕ) (df n e k : ℕ) (fcp : Fcp) (entry : Entry) → IsMemory m → TreeStands m
    → (entry_in (table m) df).kind ≡ 1 → IsCreatable fcp → FindsPlace m df fcp (At e)
    → short_option n ≡ short_of_new (tree_of m) (path_of (table m) df) fcp → now ≡ m
    → entry ≡ entry_for fcp df n no_chain → k ≡ blocks_for (size_of_kind fcp.kind) → FillsAndAdds now e entry k after
    → IsCreated m df fcp e k after
created m now after df n e k fcp entry sized stands dedicated creatable found short words is blocks made =
    let by_words : List ℕ → Type 0 = λ l. FillsAndAdds l e (entry_for fcp df n no_chain) (blocks_for
    (size_of_kind fcp.kind)) after in
    let by_entry : Entry → Type 0 = λ x. FillsAndAdds now e x (blocks_for (size_of_kind fcp.kind)) after in
    let by_blocks : ℕ → Type 0 = λ j. FillsAndAdds now e entry j after in
    let told : ℕ → Type 0 = λ j. IsCreated m df fcp e j after in
    subst told (sym blocks)
    (is_created m after df n e fcp sized stands dedicated creatable found.0 found.1 found.2 short
    (subst by_words words (subst by_entry is (subst by_blocks blocks made))))

pub write_file-requires-clause-enough : goal.write_file-requires-clause-enough
write_file-requires-clause-enough g c =
    let m = committed c.args.store.now in
    let found = place_at m c.args.df c.args.fcp.now _ c.in-At.entry c.in-At.is c.in_ok-entry.ensures.told in
    let words = c.short_of_new_file.ensures.store.only.keeps.committed_words
    ∙ c.find_place.ensures.store.only.keeps.committed_words in
    let free = ap (λ (l : List ℕ). length (free_chain l)) words in
    let blocks = c.blocks_for-blocks.ensures ∙ ap blocks_for c.size.ensures in
    omega (arith, free, blocks, found.2.enough)

pub write_file-requires-clause-few : goal.write_file-requires-clause-few
write_file-requires-clause-few g c =
    let most = size_most c.args.fcp.now.kind c.requires.fcp.ranges.kind in
    omega (arith, most, c.size.ensures, c.blocks_for-blocks.ensures)

pub returns-clause-done : goal.returns-clause-done
returns-clause-done g c =
    let m = committed c.args.store.now in
    let fcp = c.args.fcp.now in
    let read = c.find_place.ensures.store.only.keeps.committed_words in
    created m (committed c.short_of_new_file.new.store) (committed c.write_file.new.store) c.args.df
    c.in_ok-short.short c.in-At.entry c.blocks_for-blocks.result fcp c.entry_for.result
    c.requires.df.ready.usable.committed_size c.requires.df.tree c.requires.df.df c.requires.fcp
    (place_at m c.args.df fcp _ c.in-At.entry c.in-At.is c.in_ok-entry.ensures.told)
    (short_before m (committed c.find_place.new.store) c.args.df c.in_ok-short.short
    fcp read c.in_ok-short.ensures.told) (c.short_of_new_file.ensures.store.only.keeps.committed_words ∙ read)
    c.entry_for.ensures (c.blocks_for-blocks.ensures ∙ ap blocks_for c.size.ensures) c.in_ok-write_file.ensures.done

pub returns-clause-any_exit : goal.returns-clause-any_exit
returns-clause-any_exit g c = inr (returns-clause-done g c).creates

-- an entry that is free takes the file, and then the index has its place
pub with-requires : goal.with-requires
with-requires g c =
    let m = committed c.args.store.now in
    let found = place_at m c.args.df c.args.fcp.now _ c.in-At.entry c.in-At.is c.in_ok-entry.ensures.told in
    record {
      free = record {
        entries = table m;
        size = length-table m;
        indexed = c.requires.space.index;
        below = free_below m c.in-At.entry c.requires.df.tree found.2.free;
        within = found.2.small;
        free = found.2.free;
      };
    }

pub returns-clause-index : goal.returns-clause-index
returns-clause-index g c =
    let is = returns-clause-done g c in
    c.with.ensures.added (table (committed c.args.store.now)) (table (committed c.write_file.new.store))
    is.creates.stands.entries is.adds c.requires.space.index

pub returns-in_err-write_file-clause-any_exit : goal.returns-in_err-write_file-clause-any_exit
returns-in_err-write_file-clause-any_exit g c =
    let m = committed c.args.store.now in
    let fcp = c.args.fcp.now in
    let sized = c.requires.df.ready.usable.committed_size in
    let read = c.find_place.ensures.store.only.keeps.committed_words in
    let words = c.short_of_new_file.ensures.store.only.keeps.committed_words ∙ read in
    let after = committed c.write_file.new.store in
    ⊎_elim
    (λ (fills : OnlyContent (committed c.short_of_new_file.new.store)
    (take c.blocks_for-blocks.result (free_chain (committed c.short_of_new_file.new.store))) after).
    let only : List ℕ → Type 0 = λ l. OnlyContent l (take c.blocks_for-blocks.result (free_chain l)) after in
    inl (filled m after c.blocks_for-blocks.result sized c.requires.df.tree (subst only words fills)))
    (λ (adds : FillsAndAdds (committed c.short_of_new_file.new.store) c.in-At.entry c.entry_for.result
    c.blocks_for-blocks.result after).
    let is =
    created m (committed c.short_of_new_file.new.store) after c.args.df c.in_ok-short.short c.in-At.entry
    c.blocks_for-blocks.result fcp c.entry_for.result
    sized c.requires.df.tree c.requires.df.df c.requires.fcp
    (place_at m c.args.df fcp _ c.in-At.entry c.in-At.is c.in_ok-entry.ensures.told)
    (short_before m (committed c.find_place.new.store) c.args.df
    c.in_ok-short.short fcp read c.in_ok-short.ensures.told)
    words c.entry_for.ensures (c.blocks_for-blocks.ensures ∙ ap blocks_for c.size.ensures) adds in
    inr is.creates)
    c.write_file.ensures.any_exit

pub returns-in_err-entry-clause-any_exit : goal.returns-in_err-entry-clause-any_exit
returns-in_err-entry-clause-any_exit g c =
    inl (same_tree (committed c.args.store.now) _ c.requires.df.tree
    c.find_place.ensures.store.only.keeps.committed_words)

pub returns-in_err-entry-clause-done : goal.returns-in_err-entry-clause-done
returns-in_err-entry-clause-done g c = none_ok _ _ _ c.from_residual.ensures.1

pub returns-in_err-entry-clause-store : goal.returns-in_err-entry-clause-store
returns-in_err-entry-clause-store g c =
    changes_handed _ _ _ _ _ c.from_residual.ensures.1
    (reads_change _ _ _ _ c.requires.df.ready.idle c.in_err-entry.ensures.store)

pub returns-in-Refused-clause-any_exit : goal.returns-in-Refused-clause-any_exit
returns-in-Refused-clause-any_exit g c =
    inl (same_tree (committed c.args.store.now) _ c.requires.df.tree
    c.find_place.ensures.store.only.keeps.committed_words)

pub returns-in-Refused-clause-done : goal.returns-in-Refused-clause-done
returns-in-Refused-clause-done g c = (
  subst (λ (p : NewPlace). FindsPlace (committed c.args.store.now) c.args.df c.args.fcp.now p) c.in-Refused.is
      c.in_ok-entry.ensures.told,
  c.find_place.ensures.store.only.keeps.committed_words,
)

pub returns-in-Refused-clause-store : goal.returns-in-Refused-clause-store
returns-in-Refused-clause-store g c =
    reads_change _ _ _ _ c.requires.df.ready.idle c.in_ok-entry.ensures.store

pub short_of_new_file-requires-clause-fcp : goal.short_of_new_file-requires-clause-fcp
short_of_new_file-requires-clause-fcp g c = c.requires.fcp

pub returns-in_err-short-clause-any_exit : goal.returns-in_err-short-clause-any_exit
returns-in_err-short-clause-any_exit g c =
    inl (same_tree (committed c.args.store.now) _ c.requires.df.tree
    (c.short_of_new_file.ensures.store.only.keeps.committed_words
    ∙ c.find_place.ensures.store.only.keeps.committed_words))

pub returns-in_err-short-clause-done : goal.returns-in_err-short-clause-done
returns-in_err-short-clause-done g c = none_ok _ _ _ c.from_residual-in_err-short.ensures.1

pub returns-in_err-short-clause-store : goal.returns-in_err-short-clause-store
returns-in_err-short-clause-store g c =
    changes_handed _ _ _ _ _ c.from_residual-in_err-short.ensures.1
    (reads_change _ _ _ _ c.requires.df.ready.idle
    (reads_on _ _ _ _ c.find_place.ensures.store.only c.in_err-short.ensures.store))

pub returns-in_err-write_file-clause-done : goal.returns-in_err-write_file-clause-done
returns-in_err-write_file-clause-done g c = none_ok _ _ _ c.from_residual-in_err-write_file.ensures.1

pub returns-in_err-write_file-clause-store : goal.returns-in_err-write_file-clause-store
returns-in_err-write_file-clause-store g c =
    changes_handed _ _ _ _ _ c.from_residual-in_err-write_file.ensures.1
    (changes_after _ _ _ _ _ (reads_then _ _ _ c.find_place.ensures.store.only c.short_of_new_file.ensures.store.only)
    c.in_err-write_file.ensures.store)

pub returns-clause-store : goal.returns-clause-store
returns-clause-store g c =
    changes_after _ _ _ _ _ (reads_then _ _ _ c.find_place.ensures.store.only c.short_of_new_file.ensures.store.only)
    c.in_ok-write_file.ensures.store

pub returns-clause-idle : goal.returns-clause-idle
returns-clause-idle g c = λ status is.
    let m = committed c.args.store.now in
    let found = place_at m c.args.df c.args.fcp.now _ c.in-At.entry c.in-At.is c.in_ok-entry.ensures.told in
    absurd (none-some status (sym (not_refused m c.args.df c.args.fcp.now c.in-At.entry found) ∙ is))

pub returns-in_err-write_file-clause-idle : goal.returns-in_err-write_file-clause-idle
returns-in_err-write_file-clause-idle g c = λ status is.
    let m = committed c.args.store.now in
    let found = place_at m c.args.df c.args.fcp.now _ c.in-At.entry c.in-At.is c.in_ok-entry.ensures.told in
    absurd (none-some status (sym (not_refused m c.args.df c.args.fcp.now c.in-At.entry found) ∙ is))

pub returns-in_err-entry-clause-idle : goal.returns-in_err-entry-clause-idle
returns-in_err-entry-clause-idle g c = λ status is. c.find_place.ensures.store.only

pub returns-in-Refused-clause-idle : goal.returns-in-Refused-clause-idle
returns-in-Refused-clause-idle g c = λ status is. c.find_place.ensures.store.only

pub returns-in_err-short-clause-idle : goal.returns-in_err-short-clause-idle
returns-in_err-short-clause-idle g c = λ status is. reads_then _ _ _ c.find_place.ensures.store.only
    c.short_of_new_file.ensures.store.only

-- where only reads were made nothing is added
not_added : (old new : Memory) → TreeStands (committed old) → committed new ≡ committed old → AddsByGate old new
not_added old new stands same = record {
  filled = committed new;
  tree = same_tree (committed old) (committed new) stands same;
  gate = inl refl;
}

-- reads before a file is added
added_after : (old mid new : Memory) → committed mid ≡ committed old → AddsByGate mid new → AddsByGate old new
added_after old mid new same adds = record {
  filled = adds.filled;
  tree = subst (λ (l : List ℕ). SameTree l adds.filled) same adds.tree;
  gate = adds.gate;
}

pub returns-in_err-entry-clause-by_gate : goal.returns-in_err-entry-clause-by_gate
returns-in_err-entry-clause-by_gate g c =
    not_added c.args.store.now _ c.requires.df.tree c.find_place.ensures.store.only.keeps.committed_words

pub returns-in-Refused-clause-by_gate : goal.returns-in-Refused-clause-by_gate
returns-in-Refused-clause-by_gate g c =
    not_added c.args.store.now _ c.requires.df.tree c.find_place.ensures.store.only.keeps.committed_words

pub returns-in_err-short-clause-by_gate : goal.returns-in_err-short-clause-by_gate
returns-in_err-short-clause-by_gate g c =
    not_added c.args.store.now _ c.requires.df.tree
    (c.short_of_new_file.ensures.store.only.keeps.committed_words
    ∙ c.find_place.ensures.store.only.keeps.committed_words)

pub returns-in_err-write_file-clause-by_gate : goal.returns-in_err-write_file-clause-by_gate
returns-in_err-write_file-clause-by_gate g c =
    added_after c.args.store.now c.short_of_new_file.new.store c.write_file.new.store
    (c.short_of_new_file.ensures.store.only.keeps.committed_words
    ∙ c.find_place.ensures.store.only.keeps.committed_words)
    c.write_file.ensures.by_gate

pub returns-clause-by_gate : goal.returns-clause-by_gate
returns-clause-by_gate g c =
    added_after c.args.store.now c.short_of_new_file.new.store c.write_file.new.store
    (c.short_of_new_file.ensures.store.only.keeps.committed_words
    ∙ c.find_place.ensures.store.only.keeps.committed_words)
    c.write_file.ensures.by_gate

pub returns-in_err-entry-clause-turned : goal.returns-in_err-entry-clause-turned
returns-in_err-entry-clause-turned g c =
    λ shut more. absurd (omega (arith, more, c.find_place.ensures.store.only.board.writes))

pub returns-in-Refused-clause-turned : goal.returns-in-Refused-clause-turned
returns-in-Refused-clause-turned g c =
    λ shut more. absurd (omega (arith, more, c.find_place.ensures.store.only.board.writes))

pub returns-in_err-short-clause-turned : goal.returns-in_err-short-clause-turned
returns-in_err-short-clause-turned g c =
    let reads = reads_then _ _ _ c.find_place.ensures.store.only c.short_of_new_file.ensures.store.only in
    λ shut more. absurd (omega (arith, more, reads.board.writes))

pub returns-in_err-write_file-clause-turned : goal.returns-in_err-write_file-clause-turned
returns-in_err-write_file-clause-turned g c =
    let m = committed c.args.store.now in
    let fcp = c.args.fcp.now in
    let read = c.find_place.ensures.store.only.keeps.committed_words in
    let words = c.short_of_new_file.ensures.store.only.keeps.committed_words ∙ read in
    let reads = reads_then _ _ _ c.find_place.ensures.store.only c.short_of_new_file.ensures.store.only in
    let blocks = c.blocks_for-blocks.ensures ∙ ap blocks_for c.size.ensures in
    λ shut more. (created m (committed c.short_of_new_file.new.store) (committed c.write_file.new.store) c.args.df
    c.in_ok-short.short c.in-At.entry c.blocks_for-blocks.result fcp c.entry_for.result
    c.requires.df.ready.usable.committed_size c.requires.df.tree c.requires.df.df c.requires.fcp
    (place_at m c.args.df fcp _ c.in-At.entry c.in-At.is c.in_ok-entry.ensures.told)
    (short_before m (committed c.find_place.new.store) c.args.df c.in_ok-short.short
    fcp read c.in_ok-short.ensures.told) words c.entry_for.ensures blocks
    (c.write_file.ensures.turned shut (omega (arith, more, blocks, reads.board.writes)))).creates

pub returns-clause-turned : goal.returns-clause-turned
returns-clause-turned g c =
    let m = committed c.args.store.now in
    let fcp = c.args.fcp.now in
    let read = c.find_place.ensures.store.only.keeps.committed_words in
    let words = c.short_of_new_file.ensures.store.only.keeps.committed_words ∙ read in
    let reads = reads_then _ _ _ c.find_place.ensures.store.only c.short_of_new_file.ensures.store.only in
    let blocks = c.blocks_for-blocks.ensures ∙ ap blocks_for c.size.ensures in
    λ shut more. (created m (committed c.short_of_new_file.new.store) (committed c.write_file.new.store) c.args.df
    c.in_ok-short.short c.in-At.entry c.blocks_for-blocks.result fcp c.entry_for.result
    c.requires.df.ready.usable.committed_size c.requires.df.tree c.requires.df.df c.requires.fcp
    (place_at m c.args.df fcp _ c.in-At.entry c.in-At.is c.in_ok-entry.ensures.told)
    (short_before m (committed c.find_place.new.store) c.args.df c.in_ok-short.short
    fcp read c.in_ok-short.ensures.told) words c.entry_for.ensures blocks
    (c.write_file.ensures.turned shut (omega (arith, more, blocks, reads.board.writes)))).creates

-- the dedicated file of the new file
has_df : (m : Memory) (df : ℕ) → IsReady m → TreeStands (committed m) → (entry_in (table (committed m)) df).kind ≡ 1
    → HasFile m df
has_df m df ready tree kind = record { ready = ready; tree = tree; used = used_df (committed m) df kind }

pub short_of_new_file-requires-clause-df : goal.short_of_new_file-requires-clause-df
short_of_new_file-requires-clause-df g c =
    file_still _ _ _ c.find_place.ensures.store.only c.in_ok-entry.ensures.store.ready
    (has_df c.args.store.now c.args.df c.requires.df.ready c.requires.df.tree c.requires.df.df)

pub write_file-requires-clause-entry : goal.write_file-requires-clause-entry
write_file-requires-clause-entry g c = record {
  within = let found = place_at (committed c.args.store.now) c.args.df c.args.fcp.now _ c.in-At.entry c.in-At.is
      c.in_ok-entry.ensures.told in
      found.2.small;
  used = λ none.
      some_kind c.args.fcp.now.kind (sym (ap (λ (x : Entry). x.kind) c.entry_for.ensures) ∙ none);
}

pub write_file-requires-clause-tree : goal.write_file-requires-clause-tree
write_file-requires-clause-tree g c = record {
  ready = c.in_ok-short.ensures.store.ready;
  tree = subst (λ (l : List ℕ). TreeStands l) (sym (c.short_of_new_file.ensures.store.only.keeps.committed_words
      ∙ c.find_place.ensures.store.only.keeps.committed_words)) c.requires.df.tree;
}

pub find_place-requires : goal.find_place-requires
find_place-requires g c = record {
  df = has_df c.args.store.now c.args.df c.requires.df.ready c.requires.df.tree c.requires.df.df;
  space = c.requires.space;
  fcp = c.requires.fcp;
}
