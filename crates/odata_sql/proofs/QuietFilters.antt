-- Where no node of a filter can make a fault, no range has one.
use Rattle.std.proofs.Common.{◌≡◌, ◌≢◌, ◌≤◌, ◌<◌, ◌+◌, ◌⊎◌, inl, inr, ℕ, zero, suc, List, [], ◌∷◌, false, true, Bool, Some, length, refl, sym, subst, ◌∙◌, arith}
use Rattle.std.proofs.lemmas.Option.{slice_get_within}
use Rattle.std.specs.Prelude.{IsSomeAnd, slice_get}
use Rattle.odata_checked_filter.specs.Filter.{Filter}
use Rattle.odata_checked_filter.specs.declared.checked_node.CheckedNode.{CheckedNode}
use Rattle.odata_checked_filter.specs.declared.checked_node.NodeKind.{NodeKind}
use Rattle.filter_context.proofs.Parts.{some_there}
use Rattle.odata_ranges.specs.Faults.{AreReportedFrom, MakesNone}
use Rattle.odata_ranges.specs.declared.range.Range.{Range}
use Rattle.odata_signatures.specs.declared.edm_type.EdmType.{EdmType}
use Rattle.odata_signatures.specs.declared.function.Function.{Function}
use Rattle.odata_syntax.specs.declared.binary_operator.BinaryOperator.{BinaryOperator}
use Rattle.odata_sql.specs.Translation.{CanFault, MakesFault}

null_or_not : (type : EdmType) → (type ≡ EdmType.Null) ⊎ (type ≢ EdmType.Null)
null_or_not EdmType.Null = inl refl
null_or_not (EdmType.Single held) = inr (λ is. cc)
null_or_not (EdmType.Collection held) = inr (λ is. cc)

none_or_makes : (kind : NodeKind) (type : EdmType) → MakesNone kind type ⊎ MakesFault kind type
none_or_makes NodeKind.Neg type = null_or_not type
none_or_makes (NodeKind.Binary (BinaryOperator.Arithmetic operator)) type = null_or_not type
none_or_makes (NodeKind.Call Function.Length) type = inr tt
none_or_makes (NodeKind.Call Function.IndexOf) type = inr tt
none_or_makes _ type = inl tt

abbrev MakeNone : List CheckedNode → Type 0
MakeNone nodes = (place : ℕ) (node : CheckedNode) → slice_get nodes place ≡ Some node → MakesNone node.kind node.edm_type

abbrev OneMakes : List CheckedNode → Type 0
OneMakes nodes = (place : ℕ) × IsSomeAnd (slice_get nodes place) (λ node. MakesFault node.kind node.edm_type)

-- none of the nodes makes one, or one does
none_or_one : (nodes : List CheckedNode) → MakeNone nodes ⊎ OneMakes nodes
none_or_one [] = inl (λ place node at. cc)
none_or_one (first ∷ rest) = by_first (none_or_makes first.kind first.edm_type) (none_or_one rest)
  where
    none_there : MakesNone first.kind first.edm_type → MakeNone rest → MakeNone (first ∷ rest)
    none_there own others zero node at = let same : first ≡ node = cc in subst (λ (n : CheckedNode). MakesNone n.kind n.edm_type) same own
    none_there own others (suc place) node at = others place node at

    by_first : MakesNone first.kind first.edm_type ⊎ MakesFault first.kind first.edm_type → MakeNone rest ⊎ OneMakes rest → MakeNone (first ∷ rest) ⊎ OneMakes (first ∷ rest)
    by_first (inr makes) others = inr (0, makes)
    by_first (inl none) (inl others) = inl (none_there none others)
    by_first (inl none) (inr one) = inr (suc one.0, one.1)

element_at : {A : Type 0} (xs : List A) (place : ℕ) → place < length xs → (x : A) × (slice_get xs place ≡ Some x)
element_at [] place below = absurd (omega (arith, below))
element_at (x ∷ xs) zero below = (x, refl)
element_at (x ∷ xs) (suc place) below = element_at xs place (omega (arith, below))

module _ (filter : Filter) (ranges : List Range) (as_many : length ranges ≡ length filter.list.nodes) (reported : AreReportedFrom filter 0 ranges) where
  -- the last so many ranges
  quiet_last : MakeNone filter.list.nodes → (count place : ℕ) (range : Range) → length ranges ≤ place + count → slice_get ranges place ≡ Some range → range.may_fault ≡ false
  quiet_last none zero place range past at = let below = slice_get_within ranges place range at in absurd (omega (arith, below, past))
  quiet_last none (suc count) place range past at =
      let below = slice_get_within ranges place range at in
      let node = element_at filter.list.nodes place (omega (arith, below, as_many)) in
      (reported place node.0 range (omega arith) node.1 at).owns (none place node.0 node.1)
      (λ later other from to there. quiet_last none count later other (omega (arith, past, from)) there)

  -- a filter that may fault has a node that makes a fault
  pub can_fault : (may : Bool) → IsSomeAnd (slice_get ranges 0) (λ range. may ≡ range.may_fault) → may ≡ true → CanFault filter
  can_fault may is may_fault = by_nodes (none_or_one filter.list.nodes)
    where
      by_nodes : MakeNone filter.list.nodes ⊎ OneMakes filter.list.nodes → CanFault filter
      by_nodes (inr one) = one
      by_nodes (inl none) =
          let first = some_there (λ (range : Range). may ≡ range.may_fault) (slice_get ranges 0) is in
          let quiet : first.0.may_fault ≡ false = quiet_last none (length ranges) 0 first.0 (omega arith) first.1.0 in
          let both : true ≡ false = sym may_fault ∙ first.1.1 ∙ quiet in
          absurd (cc)
