-- What a lambda operator takes from a budget, once its base has been answered.
use Rattle.std.proofs.Common.{◌≡◌, ◌+◌, ◌∙◌, ℕ, Bor, List, Option, None, Ok, inl, map, sym, subst}
use Rattle.edm_values.specs.Val.{Vals, null}
use Rattle.edm_values.specs.declared.datum.Datum.{Datum}
use Rattle.edm_values.specs.declared.datum.Datum.TheVariants as datum
use Rattle.edm_values.specs.declared.value.Value.{Value}
use Rattle.csdl_schema.specs.ExprType.{ExprType, SingleType, collection, single}
use Rattle.csdl_schema.specs.SchemaModel.{slots_of, type_name_at}
use Rattle.edm_entities.specs.Row.{items_of, val_of, value_of}
use Rattle.odata_functions.specs.DatumVal.{datum_val}
use Rattle.odata_checked_filter.specs.Stands.{Stands}
use Rattle.odata_checked_filter.specs.declared.checked_node.NodeKind.{NodeKind}
use Rattle.odata_signatures.specs.Laws.{OneType}
use Rattle.odata_signatures.specs.Typed.{Scope, with_variable}
use Rattle.odata_filter_operations.specs.DatumView.{reading_at}
use Rattle.odata_filter_operations.specs.Outcome.{gives}
use Rattle.odata_syntax.specs.Tree.{Tree}
use Rattle.odata_syntax.specs.declared.node.Quantifier.{Quantifier}
use Rattle.odata_meaning.specs.Costs.{Costs, MembersCost}
use Rattle.odata_meaning.specs.Environment.{bound_over, scope_of}
use Rattle.odata_meaning.specs.Means.{Means}
use Rattle.odata_eval.specs.declared.budget.Budget.{Budget}
use Rattle.filter_context.specs.declared.frames.RangeVariable.{RangeVariable}
use Rattle.odata_eval.specs.declared.stop.EvalStop.{EvalStop}
use Rattle.odata_eval.specs.private.Lambda.{IsVariableOf, type_of_variable, vals_of}
use Rattle.filter_context.specs.private.Place.{HasKind, IsRightOf}
use Rattle.filter_context.specs.private.EvalContext.{EndsOnceHere, MeansHere}
use Rattle.filter_context.specs.private.ContextModel.{ContextModel, environment_of}
use Rattle.odata_eval.specs.private.Spending.{CostsHere, SpendsMembers, SpendsRest, Spent}
use Rattle.odata_eval.specs.private.WalkAnswer.{AnswersDatum}
use Rattle.odata_eval.proofs.spending.Budgets.{spent_same, takes_nothing}
use Rattle.odata_eval.proofs.spending.Splits.{SplitWith, follows, rest_spends}
use Rattle.filter_context.proofs.Children.{body_stands}
use Rattle.odata_eval.proofs.walking.Lambdas.{IsNamed, in_scope, is_named, null_otherwise, vals_same}
use Rattle.filter_context.proofs.Operands.{no_number}
use Rattle.filter_context.proofs.Parts.{by_kind}
use Rattle.filter_context.proofs.Extents.{stops_there}
use Rattle.odata_eval.proofs.walking.WalkValues.{value_has}

module _ (types : OneType) (context : ContextModel) (place : ℕ) (quantifier : Quantifier) (here : HasKind context.list place (NodeKind.Lambda quantifier)) (ends : EndsOnceHere context) where
  -- over null nothing
  pub null_spends : (base : Datum) → AnswersDatum context (place + 1) (Ok base) → ((held : Bor (List Value)) → base ≡ datum.List held → ⊥) → (budget : Budget) → SpendsRest context place budget None budget None
  null_spends value first other budget = rest_spends context place budget budget None (no_number context place (NodeKind.Lambda quantifier) tt here)
      (λ whole_last whole whole_cost whole_stands whole_costs.
      by_kind context place (NodeKind.Lambda quantifier) here (λ last tree. (n : ℕ) → CostsHere context tree n → SplitWith context place n (λ rest. Spent None budget budget rest))
      (λ base asked body last from to stands n costs.
      let typed = stands.top.typed in
      let slots = slots_of context.row.schema in
      let over = collection typed.member_type in
      let means = first.of_tree stands.children.middle base over stands.children.left typed.binds.over in
      let is : value ≡ datum.Null = null_otherwise slots typed.member_type value (value_has context ends base over (datum_val (reading_at slots over) value) typed.binds.over means) other in
      let none : MeansHere context base (gives null) = subst (λ (d : Datum). MeansHere context base (gives (datum_val (reading_at slots over) d))) is means in
      let once = ends base over typed.binds.over in
      let nothing : costs.rest ≡ 0 = follows costs.outcome (gives null) _ costs.rest (once.only costs.outcome costs.is ∙ sym (once.only (gives null) none)) costs.follows in
      record {
        stop = stands.children.middle;
        operand = base;
        stands = inl stands.children.left;
        own = costs.own;
        costs = costs.costs;
        rest = costs.rest;
        sum = costs.sum;
        holds = spent_same None budget budget 0 costs.rest nothing (takes_nothing budget);
      })
      whole_last whole whole_stands whole_cost whole_costs)

  module _ (variable : RangeVariable) (is_variable : IsVariableOf context.list place variable) (right : ℕ) (is_right : IsRightOf context.list place right) where
    -- the cost over members, with a variable of that name and that type
    abbrev Over : List ℕ → ExprType → Tree → List Value → ℕ → Type 0
    Over name t body members =
        MembersCost 1 quantifier (λ v. Means (slots_of context.row.schema) (type_name_at context.row.schema context.row.type_id) context.moment (value_of context.row) (bound_over (environment_of context) name t v) body)
        (λ v. Costs (slots_of context.row.schema) (type_name_at context.row.schema context.row.type_id) context.moment (value_of context.row) (bound_over (environment_of context) name t v) body)
        (vals_of (slots_of context.row.schema) t members)

    as_variable : (asked : List ℕ) (type : SingleType) (body : Tree) → IsNamed types context place quantifier here variable is_variable asked type → (members : List Value) (n : ℕ)
        → MembersCost 1 quantifier (λ v. Means (slots_of context.row.schema) (type_name_at context.row.schema context.row.type_id) context.moment (value_of context.row) (bound_over (environment_of context) asked (single type) v) body)
        (λ v. Costs (slots_of context.row.schema) (type_name_at context.row.schema context.row.type_id) context.moment (value_of context.row) (bound_over (environment_of context) asked (single type) v) body)
        (items_of (slots_of context.row.schema).properties type (map val_of members)) n
        → Over variable.name.now (type_of_variable context variable) body members n
    as_variable asked type body named members n costs =
        subst (λ (name : List ℕ). Over name (type_of_variable context variable) body members n) (sym named.name_same)
        (subst (λ (t : ExprType). Over asked t body members n) (sym named.type_same)
        (subst (λ (vals : Vals). MembersCost 1 quantifier (λ v. Means (slots_of context.row.schema) (type_name_at context.row.schema context.row.type_id) context.moment (value_of context.row) (bound_over (environment_of context) asked (single type) v) body)
        (λ v. Costs (slots_of context.row.schema) (type_name_at context.row.schema context.row.type_id) context.moment (value_of context.row) (bound_over (environment_of context) asked (single type) v) body) vals n)
        (sym (vals_same (slots_of context.row.schema) type members)) costs))

    -- over a collection its members
    pub members_spend : (held : Bor (List Value)) → AnswersDatum context (place + 1) (Ok (datum.List held)) → (old new : Budget) (stop : Option EvalStop)
        → SpendsMembers context right quantifier variable held.now old new stop → SpendsRest context place old None new stop
    members_spend held first old new stop spends = rest_spends context place old new stop (no_number context place (NodeKind.Lambda quantifier) tt here)
        (λ whole_last whole whole_cost whole_stands whole_costs.
        by_kind context place (NodeKind.Lambda quantifier) here (λ last tree. (n : ℕ) → CostsHere context tree n → SplitWith context place n (λ rest. Spent stop old new rest))
        (λ base asked body last from to stands n costs.
        let typed = stands.top.typed in
        let slots = slots_of context.row.schema in
        let root = type_name_at context.row.schema context.row.type_id in
        let over = collection typed.member_type in
        let listed = datum_val (reading_at slots over) (datum.List held) in
        let means = first.of_tree stands.children.middle base over stands.children.left typed.binds.over in
        let once = ends base over typed.binds.over in
        let asks = follows costs.outcome (gives listed) _ costs.rest (once.only costs.outcome costs.is ∙ sym (once.only (gives listed) means)) costs.follows in
        let kinds : collection asks.0 ≡ over = types slots root (scope_of (environment_of context)) base (collection asks.0) over asks.1 typed.binds.over in
        let same : asks.0 ≡ typed.member_type = cc in
        let named = is_named types context place quantifier here variable is_variable last from to base asked body stands typed.member_type typed.binds.over in
        let behind = body_stands context.row.schema context.row.type_id (scope_of (environment_of context)) context.list stands.children.middle last base asked body stands.children.right in
        record {
          stop = stands.children.middle;
          operand = base;
          stands = inl stands.children.left;
          own = costs.own;
          costs = costs.costs;
          rest = costs.rest;
          sum = costs.sum;
          holds = spends.of_body last body costs.rest
              (in_scope types context place quantifier here variable is_variable right is_right (λ (s : Scope). Stands context.row.schema context.row.type_id s context.list right last body) asked behind.member_type
              (is_named types context place quantifier here variable is_variable last from to base asked body stands behind.member_type behind.binds.over)
              (subst (λ (m : ℕ). Stands context.row.schema context.row.type_id (with_variable (scope_of (environment_of context)) asked (single behind.member_type)) context.list m last body)
              (stops_there context (place + 1) stands.children.middle right base stands.children.left is_right) behind.body))
              (as_variable asked typed.member_type body named held.now costs.rest
              (subst (λ (m : SingleType). MembersCost 1 quantifier (λ v. Means slots root context.moment (value_of context.row) (bound_over (environment_of context) asked (single m) v) body)
              (λ v. Costs slots root context.moment (value_of context.row) (bound_over (environment_of context) asked (single m) v) body) (items_of slots.properties typed.member_type (map val_of held.now)) costs.rest)
              same asks.2));
        })
        whole_last whole whole_stands whole_cost whole_costs)
