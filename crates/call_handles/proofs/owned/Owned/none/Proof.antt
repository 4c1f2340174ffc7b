-- `none` makes a null pointer, which owns nothing.
use Rattle.call_handles.proofs.Steps.{◌≡◌, [], ◌∷◌, refl, lit<, proved, leaves, ftrue, fact, ‵, raw, ◌$◌, ◌∵◌, !, qed, drop, use0, by, enter, lit, no_more, and_then, returns, agg, alloc_all, pass_all, free_all, look_at, sets, null_ptr, nothing, on_entry, walk_of}
use Rattle.std.specs.declared.option.Option.TheVariants.{None}
use base.Logic.{emp}
use contract.Monad.{fact_i}
use Rattle.call_handles.proofs.OwnedSteps.{owned_in}
use Rattle.call_handles.proofs.owned.Owned.TheLaws.{lowered}
use Rattle.call_handles.specs.contracts.owned.Owned.none as f
use Rattle.call_handles.proofs.owned.Owned.none.Statement.{statement}
use Rattle.call_handles.proofs.owned.Owned.none.Code as code

pub none_spec : {M : Type 1} → statement M
none_spec 𝓤 𝓛 𝓜 𝓡 wired =
    let c = f.clauses 𝓛 𝓜.mem 𝓡.returns in let W = walk_of 𝓛 f.ended tt c in
    proved 𝓛 f.ended tt c 𝓜 𝓡 tt f.Key.name code.function (code.unfolded 𝓤 𝓛.H 𝓜 𝓡 wired) (λ κs. tt) (λ κs. tt) (λ κs qs bounds a g are.
    let y : W.Ghost = ((κs, qs, bounds, a, tt), g) in
    qed 𝓛 (raw (on_entry 𝓛 f.signature κs qs a tt) ∷ ‵ ftrue ∷ []) ∵ drop ! $ drop ! $
    enter ! _ _ _ _ _ $ alloc_all ! (λ l. pass_all ! refl tt $
    sets ! (agg ! (and_then ! (lit ! tt) (no_more !))) refl (tt, (record { fits = lit< tt }, tt)) $
    returns ! (look_at ! 0 refl) $ free_all ! refl $
    use0 𝓛 (raw (fact 𝓤 (None ≡ None))) (fact_i 𝓤 (None ≡ None) (emp 𝓤) refl) $ nothing ! $ owned_in ! null_ptr None $ nothing ! $ nothing ! $
    by ! (leaves 𝓛 f.ended tt c y (lowered (record { at = null_ptr; value = None })) (record { at = null_ptr; value = None }) tt tt)))
