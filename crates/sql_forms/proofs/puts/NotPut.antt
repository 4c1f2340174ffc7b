-- `not`, in each form.
use Rattle.sql_forms.proofs.Common.{◌≡◌, ◌+◌, [], ◌∷◌, ℕ, Bool, true, false, Option, refl, sym, ◌∙◌, boolean, NodeKind, HasKind, Outcome, gives, not3, truth, SqlNode, Draft, Form, Grows, IsAskedOf, IsWorldOf, OfPlace, Puts, Question, World, puts_as, puts_one}
use Rattle.sql_forms.specs.Forms.{IsInForm}
use Rattle.sql_outcomes.proofs.outcomes.ChainValues.{Code, IsValue}
use Rattle.sql_forms.proofs.puts.ComparisonsPut.{not_node}
use Rattle.sql_outcomes.proofs.nodes.NotNodes.{negates, negated, negated_is, value_negated, false_of_true, true_of_false, where_too}

module _ (question : Question) (place : ℕ) (here : HasKind question.filter.list place NodeKind.Not)
    (codes : (world : World) (o : Outcome) → IsAskedOf question world → OfPlace question.filter (place + 1) world o → Code o) where
  pub not_truth_put : (old middle new : Draft) → ((world : World) (o : Outcome) → IsWorldOf question new world → OfPlace question.filter (place + 1) world o → IsValue o) → Grows old middle (SqlNode.Not ∷ [])
      → Puts question middle new (OfPlace question.filter (place + 1)) (IsInForm Form.Truth) → Puts question old new (OfPlace question.filter place) (IsInForm Form.Truth)
  not_truth_put old middle new values grows inner =
      puts_one question SqlNode.Not refl (λ x y. (t : Option Bool) × (x ≡ truth t) × (y ≡ truth (not3 t))) old middle new (OfPlace question.filter (place + 1)) (OfPlace question.filter place)
      (IsInForm Form.Truth) (IsInForm Form.Truth) not_node grows inner
      (λ world o is has.
      let n = negates question.filter place here world o has in
      let code = codes world n.operand is.seen n.has in
      let v = value_negated n.operand code (values world n.operand is n.has) in
      (n.operand, n.has, λ x same. (truth (not3 v.0), (v.0, same ∙ v.1, refl), v.2 ∙ sym (negated_is n.operand o code n.given))))

  -- where `not` is true its operand is false, and the other way round
  pub not_keeps : (old new : Draft) → Puts question old new (OfPlace question.filter (place + 1)) (IsInForm Form.Denies) → Puts question old new (OfPlace question.filter place) (IsInForm Form.Keeps)
  not_keeps old new inner =
      puts_as question old new (OfPlace question.filter (place + 1)) (OfPlace question.filter place) (IsInForm Form.Denies) (IsInForm Form.Keeps) inner
      (λ world o is has.
      let n = negates question.filter place here world o has in
      let code = codes world n.operand is.seen n.has in
      let same : o ≡ negated n.operand = negated_is n.operand o code n.given in
      let f = false_of_true n.operand code in
      (n.operand, n.has, λ x where_so. where_too (n.operand ≡ gives (boolean false)) (o ≡ gives (boolean true)) x (λ p. same ∙ f.0 p) (λ q. f.1 (sym same ∙ q)) where_so))

  pub not_denies : (old new : Draft) → Puts question old new (OfPlace question.filter (place + 1)) (IsInForm Form.Keeps) → Puts question old new (OfPlace question.filter place) (IsInForm Form.Denies)
  not_denies old new inner =
      puts_as question old new (OfPlace question.filter (place + 1)) (OfPlace question.filter place) (IsInForm Form.Keeps) (IsInForm Form.Denies) inner
      (λ world o is has.
      let n = negates question.filter place here world o has in
      let code = codes world n.operand is.seen n.has in
      let same : o ≡ negated n.operand = negated_is n.operand o code n.given in
      let f = true_of_false n.operand code in
      (n.operand, n.has, λ x where_so. where_too (n.operand ≡ gives (boolean true)) (o ≡ gives (boolean false)) x (λ p. same ∙ f.0 p) (λ q. f.1 (sym same ∙ q)) where_so))
