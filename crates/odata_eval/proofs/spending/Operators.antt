-- What an operator takes from a budget, once both its operands have been answered: what each cost, and a comparison of
-- texts what these cost.
use Rattle.std.proofs.Common.{◌≡◌, ◌+◌, ◌∙◌, ℕ, ℤ, List, Option, Some, None, refl, sym, subst, inl, inr, arith}
use Rattle.edm_values.specs.Val.{Val, member, null, text}
use Rattle.csdl_schema.specs.ExprType.{ExprType, enumeration, single}
use Rattle.csdl_schema.specs.SchemaModel.{Slots, slots_of}
use Rattle.edm_entities.specs.HasType.{HasType}
use Rattle.odata_checked_filter.specs.declared.checked_node.NodeKind.{NodeKind}
use Rattle.odata_filter_operations.specs.Outcome.{Outcome, divides_by_zero, gives, overflow}
use Rattle.odata_signatures.specs.Reads.{OfEquality, ReadsNumber}
use Rattle.odata_signatures.specs.Sides.{quoted_text}
use Rattle.odata_syntax.specs.Tree.{Tree, binary, literal, node}
use Rattle.odata_syntax.specs.declared.node.LiteralKind.{LiteralKind}
use Rattle.odata_syntax.specs.declared.binary_operator.BinaryOperator.{BinaryOperator}
use Rattle.odata_meaning.specs.Costs.{CostAfter, CostThen, CostsExactly, RightCosts}
use Rattle.odata_filter_operations.specs.TextCosts.{comparison_cost, operator_cost}
use Rattle.odata_eval.specs.declared.budget.Budget.{Budget}
use Rattle.odata_eval.specs.declared.stop.EvalStop.{EvalStop}
use Rattle.filter_context.specs.private.Place.{HasKind, IsRightOf}
use Rattle.filter_context.specs.private.EvalContext.{EndsOnceHere, MeansHere, NumberHere, OperandHere, StandsHere, TypedHere}
use Rattle.filter_context.specs.private.ContextModel.{ContextModel}
use Rattle.odata_eval.specs.private.Spending.{CostsHere, SpendsAt, SpendsRest, Spent, Takes}
use Rattle.filter_context.specs.private.AnswersAtPlace.{AnswersAtPlace}
use Rattle.odata_meaning.proofs.meaning.Reads.{beside}
use Rattle.odata_eval.proofs.spending.Budgets.{spent_first, spent_same, spent_then}
use Rattle.odata_eval.proofs.spending.Splits.{Faults, SplitWith, fault_rest, follows, operand_spent, rest_spends}
use Rattle.filter_context.proofs.Extents.{left_here, right_stands}
use Rattle.filter_context.proofs.Operands.{ResolvedHere, no_number, number_is, resolved_here}
use Rattle.filter_context.proofs.Parts.{by_kind}
use Rattle.odata_eval.proofs.walking.WalkValues.{value_has}

-- ---- values that are no texts

beside_null : (w : Val) → comparison_cost w null ≡ 0
beside_null (text s) = refl
beside_null _ = refl

beside_member : (w : Val) (n : ℤ) → comparison_cost w (member n) ≡ 0
beside_member (text s) n = refl
beside_member _ n = refl

-- a value of an enumeration is none
pub enumeration_first : (slots : Slots) (name : List ℕ) (v w : Val) → HasType slots (single (enumeration name)) v → comparison_cost v w ≡ 0
enumeration_first slots name null w has = refl
enumeration_first slots name (member n) w has = refl
enumeration_first slots name _ w has = absurd has

pub enumeration_second : (slots : Slots) (name : List ℕ) (v w : Val) → HasType slots (single (enumeration name)) v → comparison_cost w v ≡ 0
enumeration_second slots name null w has = beside_null w
enumeration_second slots name (member n) w has = beside_member w n
enumeration_second slots name _ w has = absurd has

gives_one : (v w : Val) → gives v ≡ gives w → v ≡ w
gives_one v w same = cc

operator_first : (operator : BinaryOperator) (l r : Val) → comparison_cost l r ≡ 0 → operator_cost operator l r ≡ 0
operator_first (BinaryOperator.Comparison comparison) l r none = none
operator_first (BinaryOperator.Logical logical) l r none = refl
operator_first (BinaryOperator.Arithmetic arithmetic) l r none = refl

number_first : (operator : BinaryOperator) (n : ℤ) (r : Val) → operator_cost operator (member n) r ≡ 0
number_first operator n r = operator_first operator (member n) r refl

number_second : (operator : BinaryOperator) (l : Val) (n : ℤ) → operator_cost operator l (member n) ≡ 0
number_second operator l n = operator_first operator l (member n) (beside_member l n)

-- operators that take both values; a logical one may do without the right one
abbrev pub TakesBoth : BinaryOperator → Type 0
TakesBoth (BinaryOperator.Logical logical) = ⊥
TakesBoth operator = Unit {0}

both_asked : (operator : BinaryOperator) → TakesBoth operator → (v : Val) (Right : ℕ → Type 0) (n : ℕ) → RightCosts operator v Right n → Right n
both_asked (BinaryOperator.Comparison comparison) both v Right n costs = costs
both_asked (BinaryOperator.Arithmetic arithmetic) both v Right n costs = costs
both_asked (BinaryOperator.Logical logical) both v Right n costs = absurd both

module _ (context : ContextModel) where
  abbrev Slots-here : Slots
  Slots-here = slots_of context.row.schema

  -- what the right side costs after a left value, and then the operator
  abbrev pub AfterLeft : BinaryOperator → Tree → Val → ℕ → Type 0
  AfterLeft operator right v = CostAfter (MeansHere context right) (CostsHere context right) (λ r. CostsExactly (operator_cost operator v r))

  module _ (place : ℕ) (operator : BinaryOperator) (here : HasKind context.list place (NodeKind.Binary operator)) (both : TakesBoth operator) (ends : EndsOnceHere context)
      (l : ExprType → Val) (first : AnswersAtPlace context (place + 1) (λ type. Some (gives (l type)))) (right_place : ℕ) (is_right : IsRightOf context.list place right_place) where
    -- the value that the right side evaluates to, by the walk and by its tree, makes the operator cost the same
    abbrev Agrees : Tree → Val → Type 0
    Agrees right v =
        (r : ExprType → Val) (cost : ℕ) (w : Val) → AnswersAtPlace context right_place (λ type. Some (gives (r type))) → ((s t : ExprType) → operator_cost operator (l s) (r t) ≡ cost)
        → MeansHere context right (gives w) → operator_cost operator v w ≡ cost

    -- the right side after a left value
    pub record RightDue (rest : ℕ) : Type 0 where
      pub last : ℕ
      pub right : Tree
      pub type_of : ExprType
      pub typed : TypedHere context right type_of
      pub stands : OperandHere context right_place last right
      pub value : Val
      pub due : AfterLeft operator right value rest
      pub agrees : Agrees right value

    -- a literal that has a number evaluates to its text
    text_value : (stop : ℕ) (tree : Tree) (number : ℤ) → NumberHere context number (place + 1) stop tree → (outcome : Outcome) → MeansHere context tree outcome → (v : Val) × (outcome ≡ gives v)
    text_value stop (node from to (literal LiteralKind.Str spelling)) number there (gives v) means = (v, refl)
    text_value stop (node from to (literal LiteralKind.Str spelling)) number there overflow means = absurd means
    text_value stop (node from to (literal LiteralKind.Str spelling)) number there divides_by_zero means = absurd means
    text_value stop _ number there outcome means = absurd there

    -- a tree beside a literal that is read is of an enumeration
    of_enumeration : (tree other : Tree) (n : ℤ) → (reads : ReadsNumber Slots-here (OfEquality operator (TypedHere context tree)) other n) → (v : Val) → MeansHere context tree (gives v)
        → (name : List ℕ) × HasType Slots-here (single (enumeration name)) v
    of_enumeration tree other n reads v means =
        let is = beside Slots-here reads.type_of (quoted_text other) n reads.number in
        (is.name, subst (λ (t : ExprType). HasType Slots-here t v) is.type_is (value_has context ends tree reads.type_of v reads.beside.1 means))

    agrees_alone : (last : ℕ) (left right : Tree) (s t : ExprType) → TypedHere context right t → ResolvedHere context (OfEquality operator (TypedHere context left)) right right_place last
        → MeansHere context left (gives (l s)) → Agrees right (l s)
    agrees_alone last left right s t typed (inl read) means r cost w answers same related =
        let number : r t ≡ member read.0 = number_is context right_place last right read.0 r read.2 answers t in
        let none : cost ≡ 0 = sym (same s t) ∙ subst (λ (v : Val). operator_cost operator (l s) v ≡ 0) (sym number) (number_second operator (l s) read.0) in
        let named = of_enumeration left right read.0 read.1 (l s) means in
        operator_first operator (l s) w (enumeration_first Slots-here named.0 (l s) w named.1) ∙ sym none
    agrees_alone last left right s t typed (inr alone) means r cost w answers same related =
        let once = ends right t typed in
        let is : gives w ≡ gives (r t) = once.only (gives w) related ∙ sym (once.only (gives (r t)) (answers.of_tree last right t alone.1 typed)) in
        let value : w ≡ r t = gives_one w (r t) is in
        subst (λ (v : Val). operator_cost operator (l s) v ≡ cost) (sym value) (same s t)

    due_of : (last from to : ℕ) (left right : Tree) (stands : StandsHere context place last (node from to (binary operator left right))) (rest : ℕ) (outcome : Outcome) → MeansHere context left outcome
        → CostThen outcome (λ v. RightCosts operator v (AfterLeft operator right v)) rest
        → ResolvedHere context (OfEquality operator (TypedHere context right)) left (place + 1) stands.children.middle
        → ResolvedHere context (OfEquality operator (TypedHere context left)) right right_place last → RightDue rest
    due_of last from to left right stands rest outcome is costs (inl read) second =
        let value = text_value stands.children.middle left read.0 read.2 outcome is in
        let known = follows outcome (gives value.0) (λ v. RightCosts operator v (AfterLeft operator right v)) rest value.1 costs in
        record {
          last = last;
          right = right;
          type_of = stands.top.typed.right;
          typed = stands.top.typed.right_typed;
          stands = resolved_here context (OfEquality operator (TypedHere context left)) right right_place last second;
          value = value.0;
          due = both_asked operator both value.0 (AfterLeft operator right value.0) rest known;
          agrees = λ r cost w answers same means.
              let number : l stands.top.typed.left ≡ member read.0 = number_is context (place + 1) stands.children.middle left read.0 l read.2 first stands.top.typed.left in
              let none : cost ≡ 0 = sym (same stands.top.typed.left stands.top.typed.right)
              ∙ subst (λ (v : Val). operator_cost operator v (r stands.top.typed.right) ≡ 0) (sym number) (number_first operator read.0 (r stands.top.typed.right)) in
              let named = of_enumeration right left read.0 read.1 w means in
              operator_first operator value.0 w (enumeration_second Slots-here named.0 w value.0 named.1) ∙ sym none;
        }
    due_of last from to left right stands rest outcome is costs (inr alone) second =
        let s = stands.top.typed.left in
        let means : MeansHere context left (gives (l s)) = first.of_tree stands.children.middle left s alone.1 stands.top.typed.left_typed in
        let once = ends left s stands.top.typed.left_typed in
        let known = follows outcome (gives (l s)) (λ v. RightCosts operator v (AfterLeft operator right v)) rest (once.only outcome is ∙ sym (once.only (gives (l s)) means)) costs in
        record {
          last = last;
          right = right;
          type_of = stands.top.typed.right;
          typed = stands.top.typed.right_typed;
          stands = resolved_here context (OfEquality operator (TypedHere context left)) right right_place last second;
          value = l s;
          due = both_asked operator both (l s) (AfterLeft operator right (l s)) rest known;
          agrees = λ r cost w answers same related. agrees_alone last left right s stands.top.typed.right stands.top.typed.right_typed second means r cost w answers same related;
        }

    -- the rest of a node that takes both values
    both_rest : (old new : Budget) (stop : Option EvalStop) → ((rest : ℕ) → RightDue rest → Spent stop old new rest) → SpendsRest context place old None new stop
    both_rest old new stop goes =
        rest_spends context place old new stop (no_number context place (NodeKind.Binary operator) tt here)
        (λ whole_last whole whole_cost whole_stands whole_costs.
        by_kind context place (NodeKind.Binary operator) here (λ last tree. (n : ℕ) → CostsHere context tree n → SplitWith context place n (λ rest. Spent stop old new rest))
        (λ left right last from to stands n costs.
        let first_there = left_here context place last from to operator left right stands in
        record {
          stop = stands.children.middle;
          operand = left;
          stands = first_there;
          own = costs.own;
          costs = costs.costs;
          rest = costs.rest;
          sum = costs.sum;
          holds = goes costs.rest
              (due_of last from to left right stands costs.rest costs.outcome costs.is costs.follows stands.children.left (right_stands context place right_place last from to operator left right is_right stands));
        })
        whole_last whole whole_stands whole_cost whole_costs)

    spelled : (last : ℕ) (tree : Tree) (number : ℤ) → NumberHere context number right_place last tree → (outcome : Outcome) → MeansHere context tree outcome → (v : Val) × (outcome ≡ gives v)
    spelled last (node from to (literal LiteralKind.Str spelling)) number there (gives v) means = (v, refl)
    spelled last (node from to (literal LiteralKind.Str spelling)) number there overflow means = absurd means
    spelled last (node from to (literal LiteralKind.Str spelling)) number there divides_by_zero means = absurd means
    spelled last _ number there outcome means = absurd there

    -- where the walk has a value, the tree has one
    right_value : (last : ℕ) (right : Tree) (t : ExprType) → TypedHere context right t → OperandHere context right_place last right → (r : ExprType → Val)
        → AnswersAtPlace context right_place (λ type. Some (gives (r type))) → (outcome : Outcome) → MeansHere context right outcome → (w : Val) × (outcome ≡ gives w)
    right_value last right t typed (inl stands) r answers outcome is =
        let once = ends right t typed in
        (r t, once.only outcome is ∙ sym (once.only (gives (r t)) (answers.of_tree last right t stands typed)))
    right_value last right t typed (inr number) r answers outcome is = spelled last right number.0 number.1 outcome is

    operator_due : (rest : ℕ) (it : RightDue rest) (r : ExprType → Val) → AnswersAtPlace context right_place (λ type. Some (gives (r type))) → (cost : ℕ)
        → ((s t : ExprType) → operator_cost operator (l s) (r t) ≡ cost) → it.due.rest ≡ cost
    operator_due rest it r answers cost same =
        let w = right_value it.last it.right it.type_of it.typed it.stands r answers it.due.outcome it.due.is in
        follows it.due.outcome (gives w.0) (λ v. CostsExactly (operator_cost operator it.value v)) it.due.rest w.1 it.due.follows
        ∙ it.agrees r cost w.0 answers same (subst (MeansHere context it.right) w.1 it.due.is)

    sum_of : (n own rest cost : ℕ) → n ≡ own + rest → rest ≡ cost → n ≡ own + cost
    sum_of n own rest cost a b = omega (arith, a, b)

    -- both have values: what the right side took, and what the operator costs
    pub both_spend : (r : ExprType → Val) → AnswersAtPlace context right_place (λ type. Some (gives (r type))) → (cost : ℕ) → ((s t : ExprType) → operator_cost operator (l s) (r t) ≡ cost)
        → (old mid new : Budget) (stop : Option EvalStop) → SpendsAt context right_place old mid None → Spent stop mid new cost → SpendsRest context place old None new stop
    both_spend r answers cost same old mid new stop second spent = both_rest old new stop
        (λ rest it.
        let own : Takes old mid it.due.own = operand_spent context right_place old mid None second it.last it.right it.due.own it.stands it.due.costs in
        let is : it.due.rest ≡ cost = operator_due rest it r answers cost same in
        spent_same stop old new (it.due.own + cost) rest (sum_of rest it.due.own it.due.rest cost it.due.sum is) (spent_then stop old mid new it.due.own cost own spent))

    -- the right side stopped
    pub right_stops : (stop : EvalStop) → Faults context right_place stop → (old new : Budget) → SpendsAt context right_place old new (Some stop) → SpendsRest context place old None new (Some stop)
    right_stops stop faults old new second = both_rest old new (Some stop)
        (λ rest it.
        let own : Spent (Some stop) old new it.due.own = operand_spent context right_place old new (Some stop) second it.last it.right it.due.own it.stands it.due.costs in
        spent_same (Some stop) old new (it.due.own + it.due.rest) rest it.due.sum
        (spent_first stop old new it.due.own it.due.rest
        (fault_rest context ends right_place it.last it.right it.stands stop faults it.due.outcome it.due.is (λ v. CostsExactly (operator_cost operator it.value v)) it.due.rest it.due.follows) own))
