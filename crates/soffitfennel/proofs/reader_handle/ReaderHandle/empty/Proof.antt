-- `empty` keeps null beside the allocator.
use Rattle.std.proofs.Common.{◌≡◌, List, [], ◌∷◌, ◌++◌, refl, sym, subst, None}
use mir.Val.{Val}
use base.Logic.{SProp, ent, emp, id⊢}
use base.Fml.{ftrue}
use prog.Wp.{WpFn}
use types.Kit.{‵, raw, ◌⊛◌, ◌$◌, ◌∵◌, !, qed, by, move, keep, split, fsplit, fjoin, fpack, rewrite, suffices, use0}
use types.Kit.{use1}
use types.Run.{lit, no_more, and_then, returns, enter}
use types.ByLocal.{alloc_all, pass_all, free_all, look_at, get, sets}
use types.Part.{agg}
use contract.Monad.{fact, fact_i}
use contract.Running.{tables}
use denote.Exit.{yes}
use denote.RattleType.{RattleType, owns}
use denote.Param.{layout}
use denote.Signature.{types_at, plain}
use denote.RawPtr.{null_ptr, ptr_val}
use denote.Steps.{nothing}
use denote.Triple.Walked.{Stays, stay_dropped, walk_of, Goes-dropped}
use Rattle.core.proofs.cell.Inside.{one}
use Rattle.std.proofs.raw_atomic.Walks.{proved_at, leaves}
use Rattle.std.specs.contracts.alloc.Global as heap
use Rattle.std.proofs.alloc.Global.TheLaws as heap_laws
use Rattle.std.specs.contracts.impls.GlobalAllocator.TheImpl.{ghosts}
use Rattle.soffitfennel.proofs.Addresses.{pair, pair_good, pair_in}
use Rattle.soffitfennel.specs.contracts.reader_handle.ReaderHandle as handle
use Rattle.soffitfennel.specs.contracts.reader_handle.ReaderHandle.empty.{ended, clauses}
use Rattle.soffitfennel.specs.contracts.reader_handle.ReaderHandle.empty.Key.{name as #self}
use Rattle.soffitfennel.proofs.reader_handle.ReaderHandle.empty.Statement.{statement}
use Rattle.soffitfennel.proofs.reader_handle.ReaderHandle.empty.Code as code

pub empty_spec : {M : Type 1} → statement M
empty_spec 𝓤 𝓛 𝓜 𝓡 wired =
    let 𝓣 = tables 𝓤 𝓛.H 𝓜 𝓡 𝓡.env in
    let Z : RattleType = heap.the_row in
    let LZ = heap_laws.the_row_laws in
    let c = clauses 𝓛 𝓜.mem 𝓡.returns in
    let fn = code.function in
    let stayed : Stays (ended).signature.params (ended).kept = (stay_dropped (plain (λ _. Z)) yes, tt) in
    proved_at 𝓛 ended stayed c 𝓜 𝓡 (Goes-dropped 𝓛 0 (plain (λ _. Z)) yes (λ κs x f. refl), tt)
    #self fn (code.unfolded 𝓤 𝓛.H 𝓜 𝓡 wired) (λ z are.
    let a = z.0.3.0 in
    let Post : Val → SProp 𝓤 = (walk_of 𝓛 ended stayed c).post z in
    let Run : List Val → SProp 𝓤 = λ ws. WpFn 𝓤 𝓛.H 𝓣.C 𝓣.Λ fn ws Post in
    let h = one (layout Z) z.0.4.0 ((LZ.lawful 𝓛).typed a z.0.4.0 are.0) in
    let w : Val = pair (ptr_val null_ptr) h.0 in
    let good = pair_good Z LZ ghosts null_ptr h.0 h.2 in
    qed 𝓛 ((‵ ftrue ⊛ ‵ (owns (types_at (ended).signature.params tt) z.0.3 z.0.4))
    ∷ raw ((c tt z.0.3).requires z.1) ∷ []) ∵
    split ! $ move ! (1 ∷ []) $ fsplit ! $ rewrite ! 0 (λ (us : List Val). ‵ (Z.own_val a us)) h.1 refl $
    -- [the allocator; no other parameter; no token; no `requires`]
    suffices ! (Run (h.0 ∷ []))
    (subst (λ (vs : List Val). ent 𝓤 (Run (h.0 ∷ [])) (Run vs)) (sym (λ i. h.1 i ++ [])) (id⊢ 𝓤 (Run (h.0 ∷ [])))) $
    enter ! 𝓣.C 𝓣.Λ fn (h.0 ∷ []) Post $ alloc_all ! (λ l. pass_all ! refl (h.2, tt) $
    sets ! (agg ! (and_then ! (lit ! tt) (and_then ! (get ! refl) (no_more !)))) refl good $
    pair_in Z LZ ghosts ! null_ptr a h.0 $ nothing ! $ fpack ! (null_ptr ≡ null_ptr) (λ _. ftrue) refl $
    move ! (1 ∷ 0 ∷ []) $ fjoin ! $
    let made : handle.the_row.Denot = record { at = null_ptr; alloc = a; value = None } in
    use1 𝓛 (‵ (handle.the_row.own_val made (w ∷ []))) (id⊢ 𝓤 _) $
    use0 𝓛 (raw (fact 𝓤 (made.value ≡ None))) (fact_i 𝓤 (made.value ≡ None) (emp 𝓤) refl) $
    nothing ! $ nothing ! $ fjoin ! $
    returns ! (look_at ! 0 refl) $ free_all ! refl $ keep ! (3 ∷ 0 ∷ 2 ∷ 1 ∷ []) $
    by ! (leaves 𝓛 ended stayed c z w made (tt, tt) (tt, tt))))
