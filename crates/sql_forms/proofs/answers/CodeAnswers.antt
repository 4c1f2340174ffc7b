-- What is returned where the code of an operand is put.
use Rattle.sql_forms.proofs.Common.{◌≡◌, ◌∷◌, [], ℕ, Result, OnOk, refl, sym, subst, pos, slice_get, whole, there_found, gives, code_of, BoundValue, SqlNode, Draft, Source, Form, CodeHas, GrowsBy, OfPlace, Puts, Question, by_node, puts_leaf, where_ok}
use Rattle.sql_forms.specs.Forms.{IsInForm}
use Rattle.sql_outcomes.proofs.nodes.Binding.{found}

module _ (question : Question) (old new : Draft) {T E : Type 0} (r : Result T E) (source : Source) where
  pub ok_code_node : (place : ℕ) → source ≡ Source.Node place → OnOk r (Puts question old new (OfPlace question.filter place) (IsInForm Form.Code))
      → OnOk r (Puts question old new (CodeHas question.filter source) (IsInForm Form.Code))
  ok_code_node place is put =
      where_ok (subst (λ (s : Source). Puts question old new (CodeHas question.filter s) (IsInForm Form.Code)) (sym is)) r put

  pub ok_code_bound : (level : ℕ) → source ≡ Source.Bound level → OnOk r (GrowsBy old new (SqlNode.Bound level ∷ []) [] [])
      → OnOk r (Puts question old new (CodeHas question.filter source) (IsInForm Form.Code))
  ok_code_bound level is put =
      where_ok (λ (g : GrowsBy old new (SqlNode.Bound level ∷ []) [] []). subst (λ (s : Source). Puts question old new (CodeHas question.filter s) (IsInForm Form.Code)) (sym is)
      (puts_leaf question (SqlNode.Bound level) refl old new (CodeHas question.filter (Source.Bound level)) (IsInForm Form.Code) (by_node old new (SqlNode.Bound level) refl g)
      (λ world o w has.
      let b = found (slice_get world.bound level) (λ (b : BoundValue). b.value ≡ gives (whole (pos (code_of o)))) has in (
        gives (whole (pos (code_of o))),
        there_found (λ (b : BoundValue). gives (whole (pos (code_of o))) ≡ b.value) (slice_get world.bound level) b.0 b.1 (sym b.2),
        refl,
      )))) r put
