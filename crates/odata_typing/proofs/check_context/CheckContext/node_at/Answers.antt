use Rattle.std.proofs.Common.{◌≡◌, ◌∙◌, sym, ap, subst, ℕ, ◌<◌, ◌≤◌, ◌+◌, ◌-◌, List, Some, length, get_or, slice_get, arith}
use Rattle.std.specs.Option.{option_map}
use Rattle.std.proofs.lemmas.Option.{slice_get-get_or, slice_get-map}
use Rattle.odata_syntax.specs.Places.{ArePlaces, first_at, first_of, number_at, number_of, places_of, stop_at}
use Rattle.odata_syntax.specs.declared.node.LiteralKind.{LiteralKind}
use Rattle.odata_syntax.specs.declared.syntax_list.SyntaxKind.{SyntaxKind}
use Rattle.odata_syntax.specs.declared.syntax_list.SyntaxNode.{SyntaxNode}
use Rattle.odata_typing.proofs.check_context.CheckContext.node_at.Goals as goal
use Rattle.odata_typing.proofs.stacks.Placed.{node_within}

module _ (nodes : List SyntaxNode) (index : ℕ) (d : SyntaxNode) (are : ArePlaces nodes (places_of nodes)) (inside : index < length nodes) where
  place_is : slice_get (places_of nodes) index ≡ Some (get_or nodes index d).place
  place_is =
      slice_get-map (λ (n : SyntaxNode). n.place) nodes index
      ∙ ap (option_map (λ (n : SyntaxNode). n.place)) (slice_get-get_or nodes index d inside)

  first_is : first_at (places_of nodes) index ≡ (get_or nodes index d).place.first
  first_is = ap first_of place_is

  number_is : number_at (places_of nodes) index ≡ (get_or nodes index d).place.number
  number_is = ap number_of place_is

  first_below : (get_or nodes index d).place.first ≤ index
  first_below =
      let low : first_at (places_of nodes) index ≤ index = (node_within nodes (places_of nodes) index (get_or nodes index d) are (slice_get-get_or nodes index d inside)).0 in
      let same : first_at (places_of nodes) index ≡ (get_or nodes index d).place.first = first_is in
      omega arith

  stop_is : stop_at (places_of nodes) index ≡ (get_or nodes index d).place.number + (index + 1 - (get_or nodes index d).place.first)
  stop_is = ap (λ (k : ℕ). k + (index + 1 - first_at (places_of nodes) index)) number_is ∙ ap (λ (k : ℕ). (get_or nodes index d).place.number + (index + 1 - k)) first_is

  stop_within : (get_or nodes index d).place.number + (index + 1 - (get_or nodes index d).place.first) ≤ length nodes
  stop_within =
      let high : stop_at (places_of nodes) index ≤ length (places_of nodes) = (node_within nodes (places_of nodes) index (get_or nodes index d) are (slice_get-get_or nodes index d inside)).1 in
      subst (λ (k : ℕ). k ≤ length nodes) stop_is (subst (λ (k : ℕ). stop_at (places_of nodes) index ≤ k) are.beside high)

-- what stands for a node past the end
abbrev nothing : SyntaxNode
nothing = record { kind = SyntaxKind.Lit LiteralKind.Null; span = record { start = 0; stop = 0 }; text = record { start = 0; stop = 0 }; count = 0; place = record { number = 0; first = 0; lambda = 0 } }

pub overflow_sub-stop : goal.overflow_sub-stop
overflow_sub-stop c =
    let low = first_below c.args.self.now.nodes.now c.args.index nothing c.requires.context.places c.requires.inside in
    omega arith

pub overflow_add-stop-2 : goal.overflow_add-stop-2
overflow_add-stop-2 c =
    let high = stop_within c.args.self.now.nodes.now c.args.index nothing c.requires.context.places c.requires.inside in
    record { fits = omega arith }

pub returns : goal.returns
returns c = record {
  at = slice_get-get_or c.args.self.now.nodes.now c.args.index _ c.requires.inside;
  number = sym (number_is c.args.self.now.nodes.now c.args.index nothing c.requires.context.places c.requires.inside);
  stop = sym (stop_is c.args.self.now.nodes.now c.args.index nothing c.requires.context.places c.requires.inside);
}
