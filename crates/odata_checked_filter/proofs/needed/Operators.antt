-- The parts of a lambda operator, where the code finds them.
use Rattle.std.proofs.Common.{◌≡◌, ℕ, ◌+◌, ◌<◌, List, Option, Some, IsSomeAnd, slice_get, sym, ◌∙◌, subst}
use Rattle.odata_syntax.specs.Tree.{Tree}
use Rattle.odata_signatures.specs.Typed.{Scope, Typed}
use Rattle.odata_checked_filter.specs.private.Layout.{Lies}
use Rattle.odata_checked_filter.specs.Stands.{InBody}
use Rattle.odata_checked_filter.specs.declared.checked_node.CheckedNode.{CheckedNode}
use Rattle.odata_checked_filter.specs.declared.needed_paths.LambdaPlaces.{LambdaPlaces}
use Rattle.odata_checked_filter.specs.declared.needed_paths.ListContext.{ListContext}
use Rattle.odata_checked_filter.specs.private.NeededPaths.{ArePlacesOf, IsLambdaOf, root_there, slots_there}
use Rattle.odata_checked_filter.proofs.flat.Standing.{lies_last, lies_nonempty}
use Rattle.odata_checked_filter.proofs.needed.Heads.{IsLambdaTree}
use Rattle.odata_checked_filter.proofs.needed.Kinds.{typed_there}

-- what holds of what is found
at_found : (P : CheckedNode → Type 0) (o : Option CheckedNode) (found : CheckedNode) → o ≡ Some found → IsSomeAnd o P → P found
at_found P o found at some = subst (λ (x : Option CheckedNode). IsSomeAnd x P) at some

-- the parts lie one after another
pub lambda_onward : (context : ListContext) (scope : Scope) (places : LambdaPlaces) (base : Tree) (variable : List ℕ) (body : Tree) → IsLambdaOf context scope places base variable body
    → (places.base < places.body) × (places.body < places.stop)
lambda_onward context scope places base variable body is = (
  lies_nonempty context.schema.now context.filtered_type scope context.list.now places.base places.body base is.base_stands,
  lies_nonempty context.schema.now context.filtered_type _ context.list.now places.body places.stop body is.body_stands.body,
)

module _ (context : ListContext) (scope : Scope) (place stop : ℕ) (tree : Tree) (found : CheckedNode) (places : LambdaPlaces)
    (stands : Lies context.schema.now context.filtered_type scope context.list.now place stop tree) (at : slice_get context.list.now.nodes place ≡ Some found)
    (are : ArePlacesOf context.list.now place places) (operator : IsLambdaTree context.schema.now context.filtered_type scope context.list.now place stop tree) where
  abbrev StandHere : ℕ → ℕ → Tree → Type 0
  StandHere = Lies context.schema.now context.filtered_type scope context.list.now

  pub body_begins : places.body ≡ operator.middle
  body_begins =
      let base = typed_there context.schema.now context.filtered_type scope context.list.now (place + 1) operator.middle operator.base operator.base_stands in
      at_found (λ b. places.body ≡ b.stop) (slice_get context.list.now.nodes (place + 1)) base.0 base.1.0 are.body_is
      ∙ lies_last context.schema.now context.filtered_type scope context.list.now (place + 1) operator.middle operator.base base.0 operator.base_stands base.1.0

  pub operator_stops : places.stop ≡ stop
  operator_stops =
      at_found (λ f. places.stop ≡ f.stop) (slice_get context.list.now.nodes place) found at are.stop_is
      ∙ lies_last context.schema.now context.filtered_type scope context.list.now place stop tree found stands at

  abbrev Body : ℕ → ℕ → Type 0
  Body i j = InBody scope operator.variable (Typed (slots_there context) (root_there context) scope operator.base) (λ within. Lies context.schema.now context.filtered_type within context.list.now i j operator.body)

  pub lambda_of : IsLambdaOf context scope places operator.base operator.variable operator.body
  lambda_of = record {
    base_stands = subst (λ (i : ℕ). StandHere i places.body operator.base) (sym are.base_is)
        (subst (λ (j : ℕ). StandHere (place + 1) j operator.base) (sym body_begins) operator.base_stands);
    body_stands = subst (λ (i : ℕ). Body i places.stop) (sym body_begins) (subst (λ (j : ℕ). Body operator.middle j) (sym operator_stops) operator.body_stands);
  }

  pub parts_onward : (places.base < places.body) × (places.body < places.stop)
  parts_onward = lambda_onward context scope places operator.base operator.variable operator.body lambda_of
