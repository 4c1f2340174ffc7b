-- `keep` hands on the pointer, and what it owns.
use Rattle.call_handles.proofs.Steps.{◌≡◌, List, [], ◌∷◌, refl, leaves, SProp, id⊢, ftrue, Val, fact, tables, WpFn, ‵, raw, ◌⊛◌, ◌$◌, ◌∵◌, !, qed, move, keep, drop, use0, split, fsplit, fjoin, by, enter, of_opd, stop, fld, no_more, and_then, returns, agg, sub, whole, alloc_all, pass_all, free_all, look_at, get, get_in, sets, yes, Ptr, block_ptr, owns, types_at, plain, nothing, Stays, walk_of, stay_dropped, ent, vptr, ◌++◌}
use Rattle.std.proofs.raw_atomic.Walks.{proved_at}
use mir.Val.{vstruct, vcons, vnil, of_list}
use types.Kit.{suffices, fpick, feq_l}
use denote.RawPtr.{ptr_val}
use Rattle.std.proofs.Common.{sym, subst}
use Rattle.std.specs.declared.option.Option.TheVariants.{Some}
use base.Logic.{emp, never, fst∗}
use mir.Raw.{raw as bare}
use contract.Monad.{fact_i}
use types.Logic.{sem}
use denote.Param.{layout}
use denote.RawPtr.{in_a_block, null_ptr}
use Rattle.std.proofs.alloc.Calls.{Goes-blank}
use Rattle.call_handles.proofs.Types.{HandleRow, ghosts}
use Rattle.call_handles.proofs.OwnedSteps.{owned_in}
use Rattle.call_handles.specs.Block.{block_owns, the_global}
use Rattle.call_handles.proofs.owned.Owned.TheLaws.{lowered}
use Rattle.call_handles.specs.contracts.raw.Raw.{the_row as raw_row}
use Rattle.call_handles.specs.contracts.owned.Owned.keep as f
use Rattle.call_handles.proofs.owned.Owned.keep.Statement.{statement}
use Rattle.call_handles.proofs.owned.Owned.keep.Code as code

pub keep_spec : {M : Type 1} → statement M
keep_spec 𝓤 𝓛 𝓜 𝓡 wired =
    let c = f.clauses 𝓛 𝓜.mem 𝓡.returns in let 𝓣 = tables 𝓤 𝓛.H 𝓜 𝓡 𝓡.env in
    let hs : Stays f.ended.signature.params f.ended.kept = (stay_dropped (plain (λ _. raw_row HandleRow)) f.ended.kept.0, tt) in
    proved_at 𝓛 f.ended hs c 𝓜 𝓡 (Goes-blank 𝓛 0 (plain (λ _. raw_row HandleRow)) f.ended.kept.0 (λ κs x g. tt), tt) f.Key.name code.function (code.unfolded 𝓤 𝓛.H 𝓜 𝓡 wired) (λ z are.
    let v = z.0.3.0 in let Post : Val → SProp 𝓤 = (walk_of 𝓛 f.ended hs c).post z in let Run : List Val → SProp 𝓤 = λ ws. WpFn 𝓤 𝓛.H 𝓣.C 𝓣.Λ code.function ws Post in
    qed 𝓛 ((‵ ftrue ⊛ ‵ (owns (types_at f.signature.params z.0.0) z.0.3 z.0.4)) ∷ ‵ ftrue ∷ []) ∵ split ! $ drop ! $ fsplit ! $ fsplit ! $
    fpick ! (λ vss. fsplit ! $ feq_l ! (λ ev. fsplit ! $ feq_l ! (λ ep. drop ! $
    in_a_block ! v.at (λ p. block_owns HandleRow p v.value) (fst∗ 𝓤 (never 𝓤) (sem 𝓛 (ghosts.dealloc_token the_global (bare (layout HandleRow)) null_ptr))) (λ b o e.
    let w : Val = vstruct (vcons (vptr b o) vnil) in
    let ws : z.0.4.0 ≡ w ∷ [] = subst (λ (p : Ptr). z.0.4.0 ≡ vstruct (of_list (ptr_val p ∷ [])) ∷ []) e (subst (λ (ps : List Val). z.0.4.0 ≡ vstruct (of_list (ps ++ [])) ∷ []) ep ev) in
    suffices ! (Run (w ∷ [])) (subst (λ (us : List Val). ent 𝓤 (Run (w ∷ [])) (Run us)) (sym (λ i. ws i ++ [])) (id⊢ 𝓤 (Run (w ∷ [])))) $
    keep ! (0 ∷ []) $ enter ! 𝓣.C 𝓣.Λ code.function (w ∷ []) Post $ alloc_all ! (λ l. pass_all ! refl ((tt, (tt, tt)), tt) $
    sets ! (of_opd ! (get_in ! (fld ! refl (stop !)) (sub ! 0 refl (whole !)))) refl (tt, tt) $ sets ! (of_opd ! (get ! refl)) refl (tt, tt) $
    sets ! (agg ! (and_then ! (get ! refl) (no_more !))) refl (tt, (tt, tt)) $ returns ! (look_at ! 0 refl) $ free_all ! refl $
    owned_in ! (block_ptr b o) (Some v.value) $ use0 𝓛 (raw (fact 𝓤 (Some v.value ≡ Some v.value))) (fact_i 𝓤 (Some v.value ≡ Some v.value) (emp 𝓤) refl) $
    nothing ! $ nothing ! $ fjoin ! $ nothing ! $ move ! (0 ∷ 1 ∷ 3 ∷ 2 ∷ []) $
    by ! (leaves 𝓛 f.ended hs c z (lowered (record { at = block_ptr b o; value = Some v.value })) (record { at = block_ptr b o; value = Some v.value }) (tt, tt) (tt, tt))))))))
