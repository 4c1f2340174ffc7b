-- What `in` before a path takes from a budget, once its left side has been answered: what the path costs, and the
-- comparisons with its members.
use Rattle.std.proofs.Common.{◌≡◌, ◌+◌, ◌∙◌, ℕ, zero, suc, List, [], ◌∷◌, true, false, Option, Some, None, Ok, length, map, slice_get, inl, inr, ap, refl, sym, subst, arith}
use Rattle.edm_values.specs.Val.{Val, boolean}
use Rattle.edm_values.specs.declared.datum.Datum.{Datum}
use Rattle.edm_values.specs.declared.datum.Datum.TheVariants as datum
use Rattle.edm_values.specs.declared.value.Value.{Value}
use Rattle.csdl_schema.specs.ExprType.{ExprType, SingleType, collection, single}
use Rattle.csdl_schema.specs.SchemaModel.{Slots, slots_of}
use Rattle.edm_entities.specs.Row.{items_of, val_of}
use Rattle.odata_functions.specs.DatumVal.{datum_val}
use Rattle.odata_checked_filter.specs.declared.checked_node.NodeKind.{NodeKind}
use Rattle.odata_filter_operations.specs.Collections.{AreCompared, AreComparedIn, Differs, DiffersBefore, Equals}
use Rattle.odata_filter_operations.specs.CompareGives.{CompareGives, GivesTruth}
use Rattle.odata_filter_operations.specs.DatumView.{reading_at}
use Rattle.odata_filter_operations.specs.Outcome.{Outcome, gives}
use Rattle.odata_filter_operations.specs.TextCosts.{comparison_cost}
use Rattle.odata_signatures.specs.CollectionTyped.{IsComparableWithMembers}
use Rattle.odata_syntax.specs.Tree.{Tree}
use Rattle.odata_syntax.specs.declared.binary_operator.ComparisonOperator.{ComparisonOperator}
use Rattle.odata_syntax.specs.declared.node.Quantifier.{Quantifier}
use Rattle.odata_meaning.specs.Costs.{AmongCosts, CostAfter, CostThen, CostsExactly, MembersCost, OthersCost, item_cost}
use Rattle.odata_eval.specs.declared.budget.Budget.{Budget}
use Rattle.odata_eval.specs.declared.stop.EvalStop.{EvalStop}
use Rattle.filter_context.specs.private.Place.{HasKind, IsRightOf}
use Rattle.filter_context.specs.private.EvalContext.{EndsOnceHere, MeansHere, StandsHere, TypedHere}
use Rattle.filter_context.specs.private.ContextModel.{ContextModel, environment_of}
use Rattle.odata_eval.specs.private.Spending.{CostsHere, SpendsAt, SpendsRest, Spent, Takes, member_due, members_due, path_due, stored_cost}
use Rattle.odata_eval.specs.private.WalkAnswer.{AnswersDatum}
use Rattle.odata_eval.proofs.spending.Budgets.{spent_first, spent_same, spent_then}
use Rattle.odata_eval.proofs.spending.Splits.{Faults, SplitWith, fault_rest, follows, rest_spends}
use Rattle.odata_eval.proofs.spending.TextCosts.{value_cost}
use Rattle.filter_context.proofs.Children.{two_children}
use Rattle.filter_context.proofs.Extents.{stops_there}
use Rattle.filter_context.proofs.Operands.{no_number}
use Rattle.filter_context.proofs.Parts.{by_kind}

-- ---- what comparisons with members cost

-- a member that is equal asks for no more, another one for the others
rest_equal : (o : Outcome) (Fact : Type 0) (Others : ℕ → Type 0) (rest : ℕ) → GivesTruth Fact o → Fact → CostThen o (OthersCost Quantifier.Any Others) rest → rest ≡ 0
rest_equal (gives (boolean true)) Fact Others rest whether fact costs = costs
rest_equal (gives (boolean false)) Fact Others rest whether fact costs = let e = whether.1 fact in absurd (cc)
rest_equal _ Fact Others rest whether fact costs = absurd whether

rest_differs : (o : Outcome) (Fact : Type 0) (Others : ℕ → Type 0) (rest : ℕ) → GivesTruth Fact o → ¬ Fact → CostThen o (OthersCost Quantifier.Any Others) rest → Others rest
rest_differs (gives (boolean false)) Fact Others rest whether fails costs = costs
rest_differs (gives (boolean true)) Fact Others rest whether fails costs = absurd (fails (whether.0 refl))
rest_differs _ Fact Others rest whether fails costs = absurd whether

-- the first member's is due before that of the others
later_sum : (a b c d : ℕ) → a ≡ b + c → a + d ≡ b + (c + d)
later_sum a b c d is = omega (arith, is)

first_due : (each : ℕ) (left : Datum) (found : Value) (more : List Value) (count : ℕ) → members_due each left (found ∷ more) (suc count) ≡ each + stored_cost left found + members_due each left more count
first_due each left found more zero = omega arith
first_due each left found more (suc count) =
    later_sum (members_due each left (found ∷ more) (suc count)) (each + stored_cost left found) (members_due each left more count) (member_due each left (slice_get more count))
    (first_due each left found more count)

module _ (slots : Slots) (type : ExprType) (member : SingleType) (each : ℕ) (left : Datum) where
  abbrev LeftVal : Val
  LeftVal = datum_val (reading_at slots type) left

  abbrev Counted : List Value → ℕ → Type 0
  Counted held =
      MembersCost each Quantifier.Any (CompareGives ComparisonOperator.Eq LeftVal) (λ v. CostsExactly (comparison_cost LeftVal v)) (items_of slots.properties member (map val_of held))

  own_cost : (found : Value) (own : ℕ) → own ≡ comparison_cost LeftVal (val_of found slots.properties (single member)) → own ≡ stored_cost left found
  own_cost found own is = is ∙ value_cost slots (reading_at slots type) (single member) left found

  one_more : (n more own rest cost k : ℕ) → n ≡ each + more → more ≡ own + rest → own ≡ cost → rest ≡ k → n ≡ each + cost + k
  one_more n more own rest cost k a b c d = omega (arith, a, b, c, d)

  counted_equal : (found : Value) (more : List Value) → Equals left found → (n : ℕ) → Counted (found ∷ more) n → n ≡ members_due each left (found ∷ more) 1
  counted_equal found more equals n costs =
      let after = costs.1 in
      let none = rest_equal after.outcome _ (Counted more) after.rest after.is.1 (equals slots type (single member)) after.follows in
      one_more n costs.0 after.own after.rest (stored_cost left found) 0 costs.2 after.sum (own_cost found after.own after.costs) none ∙ sym (first_due each left found more 0)

  counted_differs : (found : Value) (more : List Value) → Differs left found → (count : ℕ) → ((m : ℕ) → Counted more m → m ≡ members_due each left more count) → (n : ℕ) → Counted (found ∷ more) n
      → n ≡ members_due each left (found ∷ more) (suc count)
  counted_differs found more differs count others n costs =
      let after = costs.1 in
      let rest = others after.rest (rest_differs after.outcome _ (Counted more) after.rest after.is.1 (differs slots type (single member)) after.follows) in
      one_more n costs.0 after.own after.rest (stored_cost left found) (members_due each left more count) costs.2 after.sum (own_cost found after.own after.costs) rest
      ∙ sym (first_due each left found more count)

  counted_to : (held : List Value) (place : ℕ) (found : Value) → slice_get held place ≡ Some found → Equals left found → DiffersBefore left held place → (n : ℕ) → Counted held n → n ≡ members_due each left held (suc place)
  counted_to [] place found at equals before n costs = absurd (cc)
  counted_to (v ∷ more) zero found at equals before n costs =
      let is : v ≡ found = cc in
      counted_equal v more (subst (Equals left) (sym is) equals) n costs
  counted_to (v ∷ more) (suc place) found at equals before n costs =
      counted_differs v more (before 0 (omega arith) v refl) (suc place)
      (counted_to more place found at equals (λ k within other there. before (suc k) (let w = within in omega (arith, w)) other there)) n costs

  counted_all : (held : List Value) → ((k : ℕ) (found : Value) → slice_get held k ≡ Some found → Differs left found) → (n : ℕ) → Counted held n → n ≡ members_due each left held (length held)
  counted_all [] none n costs = costs
  counted_all (v ∷ more) none n costs = counted_differs v more (none 0 v refl) (length more) (counted_all more (λ k found there. none (suc k) found there)) n costs

  as_many : (held : List Value) (n k count : ℕ) → n ≡ members_due each left held k → count ≡ k → n ≡ members_due each left held count
  as_many held n k count is same = is ∙ ap (members_due each left held) (sym same)

  next_one : (count place : ℕ) → count ≡ place + 1 → count ≡ suc place
  next_one count place is = omega (arith, is)

  counted : (held : List Value) (count : ℕ) → AreCompared left held count → (n : ℕ) → Counted held n → n ≡ members_due each left held count
  counted held count (inl first) n costs =
      let it = first.0 in
      as_many held n (suc it.place) count (counted_to held it.place it.found it.stands_at it.equals it.earlier n costs) (next_one count it.place first.1)
  counted held count (inr all) n costs = as_many held n (length held) count (counted_all held all.0 n costs) all.1

  counted_in : (path : Datum) (count : ℕ) → AreComparedIn left path count → (n : ℕ) → AmongCosts each LeftVal (datum_val (reading_at slots (collection member)) path) n → n ≡ path_due each left path count
  counted_in datum.Null count are n costs = costs
  counted_in (datum.List held) count are n costs = counted held.now count are n costs
  counted_in _ count are n costs = absurd costs

-- ---- the path and its members

module _ (context : ContextModel) (place : ℕ) (here : HasKind context.list place NodeKind.InPath) (ends : EndsOnceHere context) (right_place : ℕ) (is_right : IsRightOf context.list place right_place)
    (left : Datum) (first : AnswersDatum context (place + 1) (Ok left)) where
  abbrev LeftAs : ExprType → Val
  LeftAs type = datum_val (reading_at (slots_of context.row.schema) type) left

  -- what the path and its members cost after the left value
  abbrev PathCosts : ExprType → Tree → ℕ → Type 0
  PathCosts type path = CostAfter (MeansHere context path) (CostsHere context path) (AmongCosts (item_cost (environment_of context)) (LeftAs type))

  path_rest : (old new : Budget) (stop : Option EvalStop)
      → ((last : ℕ) (path : Tree) (s t : ExprType) (rest : ℕ) → StandsHere context right_place last path → TypedHere context path t → IsComparableWithMembers s t → PathCosts s path rest → Spent stop old new rest)
      → SpendsRest context place old None new stop
  path_rest old new stop goes = rest_spends context place old new stop (no_number context place NodeKind.InPath tt here)
      (λ whole_last whole whole_cost whole_stands whole_costs.
      by_kind context place NodeKind.InPath here (λ last tree. (n : ℕ) → CostsHere context tree n → SplitWith context place n (λ rest. Spent stop old new rest))
      (λ side path last from to stands n costs.
      let typed = stands.top.typed in
      let sides = two_children context (place + 1) last side path stands.children in
      let means = first.of_tree sides.middle side typed.left sides.left typed.left_typed in
      let once = ends side typed.left typed.left_typed in
      record {
        stop = sides.middle;
        operand = side;
        stands = inl sides.left;
        own = costs.own;
        costs = costs.costs;
        rest = costs.rest;
        sum = costs.sum;
        holds = goes last path typed.left typed.right costs.rest
            (subst (λ (m : ℕ). StandsHere context m last path) (stops_there context (place + 1) sides.middle right_place side sides.left is_right) sides.right) typed.right_typed typed.makes.0
            (follows costs.outcome (gives (LeftAs typed.left)) (λ l. CostAfter (MeansHere context path) (CostsHere context path) (AmongCosts (item_cost (environment_of context)) l)) costs.rest
            (once.only costs.outcome costs.is ∙ sym (once.only (gives (LeftAs typed.left)) means)) costs.follows);
      })
      whole_last whole whole_stands whole_cost whole_costs)

  -- a comparison with each member up to one that is equal
  due_of : (s t : ExprType) → IsComparableWithMembers s t → (path : Datum) (count : ℕ) → AreComparedIn left path count → (n : ℕ)
      → AmongCosts (item_cost (environment_of context)) (LeftAs s) (datum_val (reading_at (slots_of context.row.schema) t) path) n → n ≡ path_due (item_cost (environment_of context)) left path count
  due_of s (collection member) alike path count are n costs = counted_in (slots_of context.row.schema) s member (item_cost (environment_of context)) left path count are n costs
  due_of s _ alike path count are n costs = absurd alike

  path_sum : (n own rest due : ℕ) → n ≡ own + rest → rest ≡ due → n ≡ own + due
  path_sum n own rest due a b = omega (arith, a, b)

  pub path_spends : (path : Datum) → AnswersDatum context right_place (Ok path) → (count : ℕ) → AreComparedIn left path count → (old mid new : Budget) (stop : Option EvalStop)
      → SpendsAt context right_place old mid None → Spent stop mid new (path_due (item_cost (environment_of context)) left path count) → SpendsRest context place old None new stop
  path_spends path second count are old mid new stop spends spent = path_rest old new stop
      (λ last tree s t rest stands typed alike after.
      let made = datum_val (reading_at (slots_of context.row.schema) t) path in
      let means = second.of_tree last tree t stands typed in
      let once = ends tree t typed in
      let own : Takes old mid after.own = spends.of_tree last tree after.own stands after.costs in
      let due = due_of s t alike path count are after.rest
      (follows after.outcome (gives made) (AmongCosts (item_cost (environment_of context)) (LeftAs s)) after.rest (once.only after.outcome after.is ∙ sym (once.only (gives made) means)) after.follows) in
      let all = path_due (item_cost (environment_of context)) left path count in
      spent_same stop old new (after.own + all) rest (path_sum rest after.own after.rest all after.sum due) (spent_then stop old mid new after.own all own spent))

  -- the path stopped
  pub path_stops : (stop : EvalStop) → Faults context right_place stop → (old new : Budget) → SpendsAt context right_place old new (Some stop) → SpendsRest context place old None new (Some stop)
  path_stops stop faults old new spends = path_rest old new (Some stop)
      (λ last tree s t rest stands typed alike after.
      spent_same (Some stop) old new (after.own + after.rest) rest after.sum
      (spent_first stop old new after.own after.rest
      (fault_rest context ends right_place last tree (inl stands) stop faults after.outcome after.is (AmongCosts (item_cost (environment_of context)) (LeftAs s)) after.rest after.follows)
      (spends.of_tree last tree after.own stands after.costs)))
