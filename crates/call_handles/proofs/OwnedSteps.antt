-- A handle that C holds, as its pointer and what it owns. Assumes `Logic`.
use Rattle.std.proofs.Common.{List, [], ◌∷◌, refl}
use Rattle.std.specs.declared.option.Option.{Option}
use mathlib.Core.Bool.{Bool, true, false, ◌&&◌}
use lib.Dec.{T}
use seplogic.Ra.Ura.{Ura}
use mir.Val.{Val}
use types.Logic.{Logic}
use types.Kit.{Item, Goal, Step, step, ‵, ◌$◌, fjoin, fpack, feq_i}
use denote.RattleType.{Valss}
use denote.RawPtr.{Ptr, RawPtr, ptr_val}
use denote.Steps.{nothing}
use denote.Struct.Struct.{within}
use denote.Struct.Owning.{shape}
use Rattle.call_handles.specs.Owned.{owned_or_null}
use Rattle.call_handles.specs.declared.handle.Handle.{Handle}
use Rattle.call_handles.specs.contracts.owned.Owned.{the_row, the_type}
use Rattle.call_handles.proofs.owned.Owned.TheLaws.{lowered}

pub and_tt : (x : Bool) → T x → T (x && true)
and_tt true t = tt
and_tt false t = absurd t

module _ {M : Type 1} {𝓤 : Ura M} {𝓛 : Logic 𝓤} {K : Type 0} {Γ : List (Item 𝓤)} {G : Goal 𝓤 𝓛.H} where
  pub owned_in : K → (p : Ptr) (x : Option Handle)
      → Step K 𝓛 (‵ (the_row.own_val (record { at = p; value = x }) (lowered (record { at = p; value = x }) ∷ [])) ∷ Γ) G (‵ (owned_or_null p x) ∷ Γ) G
  owned_in t p x = step (λ s. let v : Val = lowered (record { at = p; value = x }) in
      nothing t $ feq_i t (List Val) (ptr_val p ∷ []) (ptr_val p ∷ []) refl $ fjoin t $ feq_i t (List Val) (v ∷ []) (v ∷ []) refl $ fjoin t $
      fpack t (Valss (RawPtr ∷ [])) (within (shape the_type) (p, tt) (v ∷ [])) (ptr_val p ∷ [], tt) $ fjoin t $ s)
