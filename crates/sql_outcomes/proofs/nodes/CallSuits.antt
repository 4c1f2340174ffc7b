-- The arguments of a call may be put as values.
use Rattle.sql_outcomes.proofs.Common.{◌≡◌, ◌≢◌, ◌<◌, ◌≤◌, ◌+◌, ◌∷◌, [], ℕ, List, Some, length, refl, sym, subst, arith, slice_get, AllByRecursion, ExprType, slots_of, type_name_at, Tree, Trees, call, more_trees, no_trees, node, AreArgumentTypes, IsArgumentType, FunctionTyped, TakesCount, IsNamed, row_of, expr_type, ArgumentKind, Function, OneType, AreTyped, Scope, Filter, IsFilter, AllStand, CheckedNode, NodeKind, found_there, Range, StandsIn, TypedIn, stop_there, type_there, Operand, Kind, AreAlong, AreArgumentsOf, IsNodeAt, IsPut, IsSourceOf, stop_is}
use Rattle.sql_outcomes.proofs.nodes.BinaryPlaces.{top_node}
use Rattle.sql_outcomes.proofs.nodes.CallNodes.{AllSuit, SuitsKind, argument_suits, suits_no_truth}
use Rattle.sql_outcomes.proofs.nodes.ComparisonsAt.{same_node}
use Rattle.sql_outcomes.proofs.nodes.Along.{too_few, too_many}
use Rattle.sql_outcomes.proofs.nodes.ByNode.{by_node}

suits_no_structure : (kind : ArgumentKind) (k : Kind) → SuitsKind kind k → k ≢ Kind.Structured
suits_no_structure ArgumentKind.Text k suits is = subst (SuitsKind ArgumentKind.Text) is suits
suits_no_structure ArgumentKind.Number k suits is = subst (SuitsKind ArgumentKind.Number) is suits
suits_no_structure ArgumentKind.DateOrMoment k suits is = subst (SuitsKind ArgumentKind.DateOrMoment) is suits
suits_no_structure ArgumentKind.Moment k suits is = subst (SuitsKind ArgumentKind.Moment) is suits

-- there are arguments, each of which may be put
pub record ArgumentsGiven (filter : Filter) (ranges : List Range) (function : Function) (operands : List Operand) : Type 0 where
  pub suit : AllSuit (row_of function).arguments operands
  pub put : AllByRecursion (IsPut filter ranges) operands
  pub some : 0 < length operands
  pub counted : TakesCount function (length operands)

-- no more than there are kinds
suit_few : (kinds : List ArgumentKind) (operands : List Operand) → AllSuit kinds operands → length operands ≤ length kinds
suit_few kinds [] suit = omega arith
suit_few [] (operand ∷ operands) suit = absurd suit
suit_few (kind ∷ kinds) (operand ∷ operands) suit = let rest = suit_few kinds operands suit.1 in omega (arith, rest)

module _ (filter : Filter) (types : OneType) (ranges : List Range) (scope : Scope) where
  abbrev At : ℕ → Operand → Type 0
  At = IsNodeAt filter ranges

  one_suits : (kind : ArgumentKind) (type : ExprType) (at stop : ℕ) (tree : Tree) (operand : Operand) → IsNodeAt filter ranges at operand → StandsIn filter scope at stop tree → TypedIn filter scope tree type
      → IsArgumentType kind type → SuitsKind kind operand.kind
  one_suits kind type at stop tree operand is stands typed argument =
      let top = top_node filter scope at stop tree stands in
      let same : type ≡ expr_type filter.schema top.found.edm_type =
      types (slots_of filter.schema) (type_name_at filter.schema filter.filtered) scope tree type (expr_type filter.schema top.found.edm_type) typed top.typed in
      let own = same_node filter at top.found is.is.node top.at is.is.at in
      subst (SuitsKind kind) (sym is.is.kind)
      (argument_suits filter.schema kind is.is.node.edm_type
      (subst (λ (n : CheckedNode). IsArgumentType kind (expr_type filter.schema n.edm_type)) own (subst (IsArgumentType kind) same argument)))

  one_put : (kind : ArgumentKind) (at : ℕ) (operand : Operand) → IsNodeAt filter ranges at operand → SuitsKind kind operand.kind → IsPut filter ranges operand
  one_put kind at operand is suits = record {
    source = subst (IsSourceOf filter ranges operand) (sym is.source) is.is;
    valued = suits_no_structure kind operand.kind suits;
    plain = λ truth. absurd (suits_no_truth kind operand.kind suits truth);
  }

  record AllGiven (kinds : List ArgumentKind) (operands : List Operand) (given_types : List ExprType) : Type 0 where
    suit : AllSuit kinds operands
    put : AllByRecursion (IsPut filter ranges) operands
    many : length given_types ≤ length operands

  all_given : (kinds : List ArgumentKind) (at stop : ℕ) (trees : Trees) (given_types : List ExprType) (operands : List Operand)
      → AllStand filter.schema filter.filtered scope filter.list at stop trees → AreTyped (slots_of filter.schema) (type_name_at filter.schema filter.filtered) scope trees given_types → AreArgumentTypes kinds given_types
      → AreAlong filter At at stop operands → AllGiven kinds operands given_types
  all_given kinds at stop no_trees [] [] stand typed arguments along = record { suit = tt; put = tt; many = omega arith }
  all_given kinds at stop no_trees (type ∷ given_types) operands stand typed arguments along = absurd typed
  all_given kinds at stop no_trees [] (operand ∷ operands) stand typed arguments along = absurd (too_many filter At at stop operand operands along stand)
  all_given kinds at stop (more_trees tree more) given_types [] stand typed arguments along = absurd (too_few filter scope at stop tree more stand along)
  all_given kinds at stop (more_trees tree more) [] (operand ∷ operands) stand typed arguments along = absurd typed
  all_given [] at stop (more_trees tree more) (type ∷ given_types) (operand ∷ operands) stand typed arguments along = absurd arguments
  all_given (kind ∷ kinds) at stop (more_trees tree more) (type ∷ given_types) (operand ∷ operands) stand typed arguments along =
      let is : IsNodeAt filter ranges at operand = along.3 in
      let suits = one_suits kind type at stand.middle tree operand is stand.left typed.0 arguments.0 in
      let stops : along.0.stop ≡ stand.middle = stop_is filter.schema filter.filtered scope filter.list at along.0 along.1 stand.middle tree stand.left in
      let rest = all_given kinds stand.middle stop more given_types operands stand.right typed.1 arguments.1 (subst (λ (k : ℕ). AreAlong filter At k stop operands) stops along.4) in
      let many : length given_types ≤ length operands = rest.many in
      record { suit = (suits, rest.suit); put = (one_put kind at operand is suits, rest.put); many = omega (arith, many) }

least_one : (function : Function) → function ≢ Function.Now → 1 ≤ (row_of function).least
least_one Function.Now other = absurd (other refl)
least_one _ other = omega arith

pub arguments_given : (filter : Filter) (right : IsFilter filter) (types : OneType) (one_name : (f g : Function) (asked : List ℕ) → IsNamed f asked → IsNamed g asked → f ≡ g) (ranges : List Range) (place : ℕ)
    (found : CheckedNode) (at : slice_get filter.list.nodes place ≡ Some found) (function : Function) → found.kind ≡ NodeKind.Call function → (operands : List Operand)
    → AreArgumentsOf filter ranges place operands → ArgumentsGiven filter ranges function operands
arguments_given filter right types one_name ranges place found at function is operands arguments =
    by_node filter right place found at (NodeKind.Call function) tt is (ArgumentsGiven filter ranges function operands)
    (λ scope asked trees named later s from to stands.
    let typed = type_there filter scope place found at s (node from to (call asked trees)) stands in
    let called : FunctionTyped function typed.types (expr_type filter.schema found.edm_type) =
    subst (λ (f : Function). FunctionTyped f typed.types (expr_type filter.schema found.edm_type)) (one_name typed.call_typed.function function asked typed.call_typed.named named) typed.call_typed.typed in
    let ends : found.stop ≡ s = stop_there filter scope place found at s (node from to (call asked trees)) stands in
    let own = found_there (λ (n : CheckedNode). AreAlong filter (IsNodeAt filter ranges) (place + 1) n.stop operands) (slice_get filter.list.nodes place) found at arguments in
    let g = all_given filter types ranges scope (row_of function).arguments (place + 1) s trees typed.types operands stands.children typed.arguments_typed called.arguments
    (subst (λ (k : ℕ). AreAlong filter (IsNodeAt filter ranges) (place + 1) k operands) ends own) in
    let least : 1 ≤ (row_of function).least = least_one function later in
    let enough : (row_of function).least ≤ length typed.types = called.count.least in
    let many : length typed.types ≤ length operands = g.many in
    let few : length operands ≤ length (row_of function).arguments = suit_few (row_of function).arguments operands g.suit in
    record { suit = g.suit; put = g.put; some = omega (arith, least, enough, many); counted = record { least = omega (arith, enough, many); most = few } })
