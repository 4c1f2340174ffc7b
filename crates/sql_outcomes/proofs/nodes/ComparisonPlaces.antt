-- The sides of a node that compares: what they may be put as, and what they evaluate to where the node evaluates to no
-- fault.
use Rattle.sql_outcomes.proofs.Common.{◌≡◌, ◌≢◌, ◌<◌, ◌∙◌, inl, ℕ, List, false, true, refl, sym, subst, slice_get, Val, boolean, member, Filter, CheckedNode, some_there, there_found, CompareGives, Then, Outcome, gives, IsWithin, Range, ComparisonOperator, SqlType, Draft, Operand, Source, Kind, ComparisonHas, HasOrCode, IsComparisonOf, IsFaulty, IsFaultyKind, IsSide, IsSideBy, kind_of_type, IsPut, IsSourceOf, IsTestable, IsTested, OperandHas, SourceHas, AreRanges, IsFaultless, IsTruthKind, IsAskedOf, OfPlace, Puts, Question, World, puts_as}
use Rattle.sql_outcomes.specs.private.ValueForms.{OrTruth}
use Rattle.sql_outcomes.specs.private.FaultySides.{IsCoded}
use Rattle.sql_outcomes.proofs.outcomes.Comparisons.{compared_truth}

-- ---- what is put

-- a form of what is a value
pub form_of_value : (Form : Outcome → Outcome → Type 0) (o x : Outcome) (v : Val) → o ≡ gives v → OrTruth Form o x → Form o x
form_of_value Form o x v same form = subst (λ (p : Outcome). Form p x) (sym same) (subst (λ (p : Outcome). OrTruth Form p x) same form)

module _ (filter : Filter) (ranges : List Range) (place : ℕ) (operand : Operand) where
  -- a side that is not a truth value, or that evaluates to no fault
  side_put : (source : Source) → IsSideBy filter ranges place operand source → (operand.kind ≡ Kind.Value SqlType.Truth → operand.range.may_fault ≡ false) → IsSourceOf filter ranges operand source
  side_put (Source.Node at) is plain = is.0
  side_put (Source.Number number) is plain = is.0
  side_put source is plain = absurd is

  tested_by : (source : Source) (kind : Kind) → operand.kind ≡ kind → IsSideBy filter ranges place operand source → (kind ≢ Kind.Structured → IsPut filter ranges operand) → IsTestable filter ranges operand source kind
  tested_by (Source.Node at) Kind.Null same is put = put (λ other. cc)
  tested_by (Source.Node at) (Kind.Value type) same is put = put (λ other. cc)
  tested_by (Source.Node at) Kind.Structured same is put = (is.0, tt)
  tested_by (Source.Number number) Kind.Null same is put = put (λ other. cc)
  tested_by (Source.Number number) (Kind.Value type) same is put = put (λ other. cc)
  tested_by (Source.Number number) Kind.Structured same is put = absurd (cc (sym is.1 ∙ same))
  tested_by source kind same is put = absurd is

  pub side_tested : IsSide filter ranges place operand → (operand.kind ≡ Kind.Value SqlType.Truth → operand.range.may_fault ≡ false) → IsTested filter ranges operand
  side_tested is plain = tested_by operand.source operand.kind refl is (λ valued. record { source = side_put operand.source is plain; valued = valued; plain = plain })

  coded_by : (source : Source) → operand.source ≡ source → operand.kind ≡ Kind.Value SqlType.Truth → IsSideBy filter ranges place operand source → IsFaultyKind filter ranges operand (Kind.Value SqlType.Truth)
  coded_by (Source.Node at) here truth is =
      subst (λ (s : Source). IsCoded filter s) (sym here)
      (there_found (λ (node : CheckedNode). IsTruthKind (kind_of_type node.edm_type)) (slice_get filter.list.nodes at) is.0.node is.0.at (subst IsTruthKind (sym truth ∙ is.0.kind) tt))
  coded_by (Source.Number number) here truth is = absurd (cc (sym is.1 ∙ truth))
  coded_by source here truth is = absurd is

  faulty_by : (kind : Kind) → operand.kind ≡ kind → IsSide filter ranges place operand → IsFaultyKind filter ranges operand kind
  faulty_by (Kind.Value SqlType.Truth) same is = coded_by operand.source refl same is
  faulty_by kind same is = side_tested is (λ truth. let e : kind ≡ Kind.Value SqlType.Truth = sym same ∙ truth in absurd (cc))

  -- by its code, where it is a truth value
  pub side_faulty : IsSide filter ranges place operand → IsFaulty filter ranges operand
  side_faulty is = faulty_by operand.kind refl is

-- ---- what it evaluates to

module _ (question : Question) (ranges : List Range) (are : AreRanges question ranges) (place : ℕ) where
  -- a side of a node that evaluates to no fault evaluates to none
  pub side_faultless : (operand : Operand) → IsFaultless ranges place → IsSide question.filter ranges place operand → operand.range.may_fault ≡ false
  side_faultless operand faultless is = by operand.source is
    where
      by : (source : Source) → IsSideBy question.filter ranges place operand source → operand.range.may_fault ≡ false
      by (Source.Node at) side =
          let own = some_there (λ (node : CheckedNode). at < node.stop) (slice_get question.filter.list.nodes place) side.1.1 in
          let range = some_there (λ (range : Range). range.may_fault ≡ false) (slice_get ranges place) faultless in
          are.inherits place at own.0 range.0 operand.range own.1.0 range.1.0 side.0.range side.1.0 own.1.1 range.1.1
      by (Source.Number number) side = side.2
      by source side = absurd side

  -- one that evaluates to no fault evaluates to a value
  pub side_value : (operand : Operand) → IsSide question.filter ranges place operand → operand.range.may_fault ≡ false → (world : World) (o : Outcome) → IsAskedOf question world
      → HasOrCode question.filter operand.kind operand.source world o → OperandHas question.filter operand world o × ((v : Val) × (o ≡ gives v))
  side_value operand is plain world o seen has = by operand.kind operand.source is has
    where
      of_range : (range : Range) → range.may_fault ≡ false → (p : Outcome) → IsWithin range p → (v : Val) × (p ≡ gives v)
      of_range range none (gives v) within = (v, refl)
      of_range range none _ within = let clash : false ≡ true = sym none ∙ within in absurd (cc)

      node_value : (at : ℕ) → IsSideBy question.filter ranges place operand (Source.Node at) → OfPlace question.filter at world o → (v : Val) × (o ≡ gives v)
      node_value at side there = of_range operand.range plain o (are.within at operand.range world o side.0.range seen there)

      by : (kind : Kind) (source : Source) → IsSideBy question.filter ranges place operand source → HasOrCode question.filter kind source world o → SourceHas question.filter source world o × ((v : Val) × (o ≡ gives v))
      by (Kind.Value SqlType.Truth) (Source.Node at) side there = (there, node_value at side there)
      by kind (Source.Node at) side there = (there, node_value at side there)
      by (Kind.Value SqlType.Truth) (Source.Number number) side there = (there, (member there.0, there.2))
      by kind (Source.Number number) side there = (there, (member there.0, there.2))
      by kind source side there = absurd side

  module _ (operator : ComparisonOperator) (left right : Operand) (is : IsComparisonOf question ranges place operator left right) (faultless : IsFaultless ranges place) where
    values_given : (l r : Outcome) (o : Outcome) (v w : Val) → l ≡ gives v → r ≡ gives w → Then l (λ x. Then r (CompareGives operator x)) o → CompareGives operator v w o
    values_given l r o v w is_l is_r given =
        subst (λ (p : Outcome). Then (gives v) (λ x. Then p (CompareGives operator x)) o) is_r (subst (λ (p : Outcome). Then p (λ x. Then r (CompareGives operator x)) o) is_l given)

    -- the comparison of two values
    pub plain_comparison : (world : World) (o : Outcome) → IsAskedOf question world → OfPlace question.filter place world o → ComparisonHas question.filter operator left right world o
    plain_comparison world o seen has =
        let f = is.says world o seen has in
        let l = side_value left is.left_is (side_faultless left faultless is.left_is) world f.left_outcome seen f.left_has in
        let r = side_value right is.right_is (side_faultless right faultless is.right_is) world f.right_outcome seen f.right_has in
        inl (
          l.1.0,
          r.1.0,
          record { has = subst (OperandHas question.filter left world) l.1.1 l.0; fits = f.left_fits l.1.0 l.1.1 },
          record { has = subst (OperandHas question.filter right world) r.1.1 r.0; fits = f.right_fits r.1.0 r.1.1 },
          values_given f.left_outcome f.right_outcome o l.1.0 r.1.0 l.1.1 r.1.1 f.given,
        )

    -- what is put for it is put for the node
    pub comparison_put : (Form : Outcome → Outcome → Type 0) (old new : Draft) → Puts question old new (ComparisonHas question.filter operator left right) (OrTruth Form)
        → Puts question old new (OfPlace question.filter place) Form
    comparison_put Form old new inner =
        puts_as question old new (ComparisonHas question.filter operator left right) (OfPlace question.filter place) (OrTruth Form) Form inner
        (λ world o it has.
        let f = is.says world o it.seen has in
        let l = side_value left is.left_is (side_faultless left faultless is.left_is) world f.left_outcome it.seen f.left_has in
        let r = side_value right is.right_is (side_faultless right faultless is.right_is) world f.right_outcome it.seen f.right_has in
        let b = compared_truth operator l.1.0 r.1.0 o (values_given f.left_outcome f.right_outcome o l.1.0 r.1.0 l.1.1 r.1.1 f.given) in
        (o, plain_comparison world o it.seen has, λ x form. form_of_value Form o x (boolean b.0) b.1 form))
