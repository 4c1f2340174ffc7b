-- What a connective evaluates to, by what its sides do.
use Rattle.sql_outcomes.proofs.Common.{◌≡◌, ◌+◌, ℕ, Some, true, false, subst, slice_get, IsMoment, slots_of, type_name_at, CheckedNode, NodeKind, EndsOnceOnEntities, scope_of, OperatorGives, HasKind, Typed, IsEquality, After, Then, Outcome, gives, overflow, divides_by_zero, BinaryOperator, binary, node, IsAskedOf, OfPlace, Question, World, Val, boolean, null, LogicalGives, LogicalOperator, MeansOf, binary_comes, means_in}
use Rattle.sql_outcomes.proofs.nodes.WorldNodes.{ends_there}
use Rattle.sql_outcomes.specs.NodesGo.{Connects}

-- the right side of a connective has one outcome
one_right : (c : LogicalOperator) (l : Val) (Right : Outcome → Type 0) (r o : Outcome) → ((x : Outcome) → Right x → x ≡ r) → LogicalGives c l Right o → LogicalGives c l (λ x. x ≡ r) o
one_right LogicalOperator.And (boolean false) Right r o one given = given
one_right LogicalOperator.And (boolean true) Right r o one given = (given.0, (one given.0 given.1.0, given.1.1))
one_right LogicalOperator.And null Right r o one given = (given.0, (one given.0 given.1.0, given.1.1))
one_right LogicalOperator.Or (boolean true) Right r o one given = given
one_right LogicalOperator.Or (boolean false) Right r o one given = (given.0, (one given.0 given.1.0, given.1.1))
one_right LogicalOperator.Or null Right r o one given = (given.0, (one given.0 given.1.0, given.1.1))
one_right c l Right r o one given = absurd given

after_then : (Left : Outcome → Type 0) (Goes Other : Val → Outcome → Type 0) (o : Outcome) → ((v : Val) → Goes v o → Other v o) → After Left Goes o → (l : Outcome) × Left l × Then l Other o
after_then Left Goes Other o goes (gives v, (left, given)) = (gives v, left, goes v given)
after_then Left Goes Other o goes (overflow, (left, given)) = (overflow, left, given)
after_then Left Goes Other o goes (divides_by_zero, (left, given)) = (divides_by_zero, left, given)

module _ (question : Question) (ends : EndsOnceOnEntities) (is_moment : IsMoment question.now.civil question.now.offset_minutes) (operator : BinaryOperator) (c : LogicalOperator)
    (class_is : operator ≡ BinaryOperator.Logical c) (place second : ℕ) (here : HasKind question.filter.list place (NodeKind.Binary operator)) (left right : CheckedNode)
    (left_at : slice_get question.filter.list.nodes (place + 1) ≡ Some left) (right_at : slice_get question.filter.list.nodes second ≡ Some right) (is_second : left.stop ≡ second) where
  pub connected_node : (world : World) (o : Outcome) (seen : IsAskedOf question world) → OfPlace question.filter place world o → Connects question.filter c place second world o
  connected_node world o seen has =
      let it = binary_comes question operator (λ (equality : IsEquality operator). subst IsEquality class_is equality) place second here left left_at is_second world o seen has in
      let end = ends_there question ends is_moment world seen second right right_at it.right_stop it.b it.right_stands in
      let given : After (MeansOf question world seen it.a) (λ l. LogicalGives c l (MeansOf question world seen it.b)) o =
      subst (λ (class : BinaryOperator). After (MeansOf question world seen it.a)
      (λ l. OperatorGives class (Typed (slots_of question.filter.schema) (type_name_at question.filter.schema question.filter.filtered) (scope_of world.environment) (node it.from it.to (binary operator it.a it.b))) l (MeansOf question world seen it.b)) o)
      class_is it.given in
      let sides = after_then (MeansOf question world seen it.a) (λ l. LogicalGives c l (MeansOf question world seen it.b)) (λ l. LogicalGives c l (λ x. x ≡ end.outcome)) o
      (λ v goes. one_right c v (MeansOf question world seen it.b) end.outcome o (λ x means. end.only x (means_in question world seen it.b x means)) goes) given in
      record {
        left_outcome = sides.0;
        right_outcome = end.outcome;
        left_has = (it.a, record { stop = it.left_stop; stands = it.left_stands }, means_in question world seen it.a sides.0 sides.1);
        right_has = (it.b, record { stop = it.right_stop; stands = it.right_stands }, end.related);
        given = sides.2;
      }
