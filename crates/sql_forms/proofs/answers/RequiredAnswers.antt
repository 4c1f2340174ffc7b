-- What calls within the group that puts nodes require, by what their callers require.
use Rattle.sql_forms.proofs.Common.{◌≡◌, ◌≢◌, ◌<◌, ◌+◌, ◌∷◌, ◌∙◌, ◌==◌, ◌⊎◌, inl, inr, [], ℕ, Bool, List, Option, Some, None, true, false, length, sym, ap, subst, arith, IfSome, IsTrue, slice_get, Decides-eqb, slice_get_within, null, ComparesTrue, Function, ComparisonOperator, Filter, IsFilter, CheckedNode, NodeKind, one_there, there_found, Range, inside_there, Carrier, SqlType, Operand, Source, Kind, kind_of_type, IsNodeOperand, IsPut, IsSourceOf, IsPlainAt, IsValuedAt, IsCarriedFunction}
use Rattle.sql_forms.proofs.answers.ComparisonAnswers.{is_none}
use Rattle.sql_outcomes.proofs.nodes.ByNode.{by_node}
pub use Rattle.sql_outcomes.proofs.outcomes.Elements.{at_all}

-- what `is_empty` says of a list
pub empty_length : {T : Type 0} (xs : List T) (empty : Bool) → empty ≡ (length xs == 0) → empty ≡ true → length xs ≡ 0
empty_length xs empty reported is = (Decides-eqb (length xs) 0).0 (sym reported ∙ is)

pub some_length : {T : Type 0} (xs : List T) (empty : Bool) → empty ≡ (length xs == 0) → empty ≡ false → 0 < length xs
some_length [] empty reported is = let clash : true ≡ false = sym reported ∙ is in absurd (cc)
some_length (x ∷ xs) empty reported is = omega arith

-- ---- an operand that is a node

module _ (filter : Filter) (ranges : List Range) (operand : Operand) (place : ℕ) (is : operand.source ≡ Source.Node place) (put : IsPut filter ranges operand) where
  node_of : IsNodeOperand filter ranges operand place
  node_of = subst (IsSourceOf filter ranges operand) is put.source

  pub node_there : place < length filter.list.nodes
  node_there = slice_get_within filter.list.nodes place node_of.node node_of.at

  pub node_valued : IsValuedAt filter place
  node_valued =
      there_found (λ (n : CheckedNode). kind_of_type n.edm_type ≢ Kind.Structured) (slice_get filter.list.nodes place) node_of.node node_of.at (λ structured. put.valued (node_of.kind ∙ structured))

  pub node_plain : IsPlainAt filter ranges place
  node_plain found range at ranged truth =
      let node_is : node_of.node ≡ found = cc (node_of.at, at) in
      let kind : operand.kind ≡ Kind.Value SqlType.Truth = node_of.kind ∙ ap (λ (n : CheckedNode). kind_of_type n.edm_type) node_is ∙ truth in
      let range_is : operand.range ≡ range = cc (node_of.range, ranged) in
      subst (λ (r : Range). r.may_fault ≡ false) range_is (put.plain kind)

-- ---- operands that are something else

-- what is put is no position in JSON
pub no_place : (filter : Filter) (ranges : List Range) (operand : Operand) (path : ℕ) → operand.source ≡ Source.Place path → IsPut filter ranges operand → ⊥
no_place filter ranges operand path is put = subst (IsSourceOf filter ranges operand) is put.source

-- ---- what else is asked

-- both compare null with null as true
pub or_equal : (operator : ComparisonOperator) → (operator ≡ ComparisonOperator.Ge) ⊎ (operator ≡ ComparisonOperator.Le) → ComparesTrue operator null null × (operator ≢ ComparisonOperator.Ne)
or_equal operator (inl is) = (
  subst (λ (o : ComparisonOperator). ComparesTrue o null null) (sym is) (inr tt),
  λ ne. let clash : ComparisonOperator.Ge ≡ ComparisonOperator.Ne = sym is ∙ ne in absurd (cc),
)
or_equal operator (inr is) = (
  subst (λ (o : ComparisonOperator). ComparesTrue o null null) (sym is) (inr tt),
  λ ne. let clash : ComparisonOperator.Le ≡ ComparisonOperator.Ne = sym is ∙ ne in absurd (cc),
)

-- the carrier of a call is that of its function
pub own_carried : (function : Function) (carrier own : Option Carrier) → IfSome carrier (λ c. IsCarriedFunction function) → IfSome own (λ c. carrier ≡ Some c) → IfSome own (λ c. IsCarriedFunction function)
own_carried function carrier None all is = tt
own_carried function carrier (Some c) all is = subst (λ (o : Option Carrier). IfSome o (λ x. IsCarriedFunction function)) is all

-- what is reported false is not so
pub not_so : {B : Type 0} (b : Bool) → (B → IsTrue b) → b ≡ false → B → ⊥
not_so {B} b reports is so = is_none (subst (λ (k : Bool). B → IsTrue k) is reports) so

-- the operand of a negation is a node
pub negated_child : (filter : Filter) → IsFilter filter → (place : ℕ) (found : CheckedNode) → slice_get filter.list.nodes place ≡ Some found → found.kind ≡ NodeKind.Neg → place + 1 < length filter.list.nodes
negated_child filter right place found at is =
    by_node filter right place found at NodeKind.Neg tt is (place + 1 < length filter.list.nodes)
    (λ scope below s from to stands.
    let inner = one_there filter.schema filter.filtered scope filter.list (place + 1) s below stands.children in
    inside_there filter scope (place + 1) s below inner)
