-- `of_held` keeps the address and the allocator, without the type.
use Rattle.std.proofs.Common.{◌≡◌, List, [], ◌∷◌, ◌++◌, refl, sym, ap, ◌∙◌, subst, Some}
use mir.Raw.{raw as bare}
use mir.Val.{Val}
use base.Logic.{SProp, ent, emp, never, id⊢, fst∗}
use base.Fml.{ftrue}
use prog.Wp.{WpFn}
use types.Logic.{sem}
use types.Kit.{‵, raw, ◌⊛◌, ◌$◌, ◌∵◌, !, qed, by, move, keep, split, fsplit, fjoin, suffices, use0, use1}
use types.Run.{stop, fld, of_opd, no_more, and_then, returns, enter}
use types.ByLocal.{alloc_all, pass_all, free_all, look_at, get, get_in, sets}
use types.Part.{agg, sub, whole}
use contract.Monad.{fact, fact_i}
use contract.Running.{tables}
use denote.Exit.{yes}
use denote.RattleType.{RattleType, owns}
use denote.Memory.{lone}
use denote.Signature.{types_at, plain}
use denote.RawPtr.{Ptr, block_ptr, null_ptr, ptr_val, in_a_block}
use denote.Steps.{nothing}
use denote.Triple.Walked.{Stays, stay_dropped, walk_of, Goes-dropped}
use Rattle.std_alloc.specs.Box.Ownership.{box_owns}
use Rattle.std.proofs.raw_atomic.Walks.{proved_at, leaves}
use Rattle.std.specs.contracts.alloc.Global as heap
use Rattle.std.proofs.alloc.Global.TheLaws as heap_laws
use Rattle.std.specs.contracts.impls.GlobalAllocator.TheImpl.{ghosts}
use Rattle.soffitfennel.proofs.Addresses.{Pair, pair, pair_good, pair_in, pair_out}
use Rattle.soffitfennel.specs.contracts.held.Held as held
use Rattle.soffitfennel.specs.contracts.reader_handle.ReaderHandle as handle
use Rattle.t1_link.specs.contracts.reader_end.ReaderEnd as reader
use Rattle.soffitfennel.specs.contracts.reader_handle.ReaderHandle.of_held.{ended, clauses}
use Rattle.soffitfennel.specs.contracts.reader_handle.ReaderHandle.of_held.Key.{name as #self}
use Rattle.soffitfennel.proofs.reader_handle.ReaderHandle.of_held.Statement.{statement}
use Rattle.soffitfennel.proofs.reader_handle.ReaderHandle.of_held.Code as code

pub of_held_spec : {M : Type 1} → statement M
of_held_spec 𝓤 𝓛 𝓜 𝓡 wired =
    let 𝓣 = tables 𝓤 𝓛.H 𝓜 𝓡 𝓡.env in
    let R : RattleType = reader.the_row in
    let Z : RattleType = heap.the_row in
    let LZ = heap_laws.the_row_laws in
    let From : RattleType = held.the_row R Z ghosts in
    let c = clauses 𝓛 𝓜.mem 𝓡.returns in
    let fn = code.function in
    let stayed : Stays (ended).signature.params (ended).kept = (stay_dropped (plain (λ _. From)) yes, tt) in
    proved_at 𝓛 ended stayed c 𝓜 𝓡 (Goes-dropped 𝓛 0 (plain (λ _. From)) yes (λ κs x f. refl), tt)
    #self fn (code.unfolded 𝓤 𝓛.H 𝓜 𝓡 wired) (λ z are.
    let v = z.0.3.0 in let a = v.alloc in
    let Post : Val → SProp 𝓤 = (walk_of 𝓛 ended stayed c).post z in
    let Run : List Val → SProp 𝓤 = λ ws. WpFn 𝓤 𝓛.H 𝓣.C 𝓣.Λ fn ws Post in
    qed 𝓛 ((‵ ftrue ⊛ ‵ (owns (types_at (ended).signature.params tt) z.0.3 z.0.4))
    ∷ raw ((c tt z.0.3).requires z.1) ∷ []) ∵
    split ! $ move ! (1 ∷ []) $ fsplit ! $ fsplit ! $
    use1 𝓛 (‵ ((Pair Z LZ ghosts).own_val (v.at, (a, tt)) z.0.4.0)) (id⊢ 𝓤 _) $
    pair_out Z LZ ghosts ! v.at a z.0.4.0 (λ h us fits. move ! (1 ∷ []) $
    in_a_block ! v.at (λ p. box_owns (ghosts.dealloc_token a) R p v.value)
    (fst∗ 𝓤 (never 𝓤) (sem 𝓛 (ghosts.dealloc_token a (bare (lone R.mir)) null_ptr))) (λ b o e.
    let w : Val = pair (ptr_val (block_ptr b o)) h in
    let ws : z.0.4.0 ≡ w ∷ [] = us ∙ ap (λ (p : Ptr). pair (ptr_val p) h ∷ []) e in
    let good = pair_good Z LZ ghosts (block_ptr b o) h fits in
    -- [the memory; the allocator; no other parameter; no token; no `requires`]
    suffices ! (Run (w ∷ []))
    (subst (λ (vs : List Val). ent 𝓤 (Run (w ∷ [])) (Run vs)) (sym (λ i. ws i ++ [])) (id⊢ 𝓤 (Run (w ∷ [])))) $
    enter ! 𝓣.C 𝓣.Λ fn (w ∷ []) Post $ alloc_all ! (λ l. pass_all ! refl (good, tt) $
    sets ! (of_opd ! (get_in ! (fld ! refl (stop !)) (sub ! 0 refl (whole !)))) refl (tt, tt) $
    sets ! (of_opd ! (get_in ! (fld ! refl (stop !)) (sub ! 1 refl (whole !)))) refl fits $
    sets ! (of_opd ! (get ! refl)) refl (tt, tt) $
    sets ! (agg ! (and_then ! (get ! refl) (and_then ! (get ! refl) (no_more !)))) refl good $
    move ! (1 ∷ []) $ pair_in Z LZ ghosts ! (block_ptr b o) a h $ fjoin ! $
    let made : handle.the_row.Denot = record { at = block_ptr b o; alloc = a; value = Some v.value } in
    use1 𝓛 (‵ (handle.the_row.own_val made (w ∷ []))) (id⊢ 𝓤 _) $
    use0 𝓛 (raw (fact 𝓤 (Some v.value ≡ Some v.value))) (fact_i 𝓤 (Some v.value ≡ Some v.value) (emp 𝓤) refl) $
    nothing ! $ nothing ! $ fjoin ! $
    returns ! (look_at ! 0 refl) $ free_all ! refl $ keep ! (3 ∷ 0 ∷ 2 ∷ 1 ∷ []) $
    by ! (leaves 𝓛 ended stayed c z w made (tt, tt) (tt, tt))))))
