-- What the members of a collection cost that have been asked so far, and what is due for the others.
use Rattle.std.proofs.Common.{◌≡◌, ◌<◌, ◌≤◌, ◌+◌, ◌∙◌, ℕ, List, [], ◌∷◌, Bool, true, false, Option, Some, None, Ok, drop, get_or, length, refl, sym, subst, arith}
use Rattle.std.proofs.lemmas.List.{at_drop_all, at_drop_more}
use Rattle.edm_values.specs.Val.{Val}
use Rattle.edm_values.specs.declared.value.Value.{Value}
use Rattle.csdl_schema.specs.SchemaModel.{slots_of, type_name_at}
use Rattle.edm_entities.specs.Row.{val_of, value_of}
use Rattle.odata_filter_operations.specs.Outcome.{gives, overflow, divides_by_zero}
use Rattle.odata_filter_operations.specs.QuantifierGives.{IsUndecided}
use Rattle.odata_filter_operations.specs.TruthGives.{truth_val}
use Rattle.odata_filter_operations.specs.declared.eval_fault.EvalFault.{EvalFault}
use Rattle.odata_syntax.specs.Tree.{Tree}
use Rattle.odata_syntax.specs.declared.node.Quantifier.{Quantifier}
use Rattle.odata_meaning.specs.Costs.{CostAfter, Costs, MembersCost, OthersCost}
use Rattle.odata_meaning.specs.Environment.{bound_over}
use Rattle.odata_eval.specs.declared.budget.Budget.{Budget}
use Rattle.filter_context.specs.declared.frames.RangeVariable.{RangeVariable}
use Rattle.odata_eval.specs.declared.stop.EvalStop.{EvalStop}
use Rattle.filter_context.specs.Frames.{frame_of}
use Rattle.odata_eval.specs.private.Lambda.{BodyMeans, BodyStands, type_of_variable, vals_of}
use Rattle.filter_context.specs.private.EvalContext.{EndsOnceHere}
use Rattle.filter_context.specs.private.ContextModel.{ContextModel, environment_of, with_frame}
use Rattle.odata_eval.specs.private.Spending.{HasFewer, SpendsAt, SpendsMembers, Takes}
use Rattle.odata_eval.specs.private.WalkAnswer.{AnswersTruth}
use Rattle.odata_eval.proofs.spending.Budgets.{fewer_first, fewer_then, spent_first, spent_same, spent_then, takes_both, takes_nothing}
use Rattle.odata_eval.proofs.spending.Splits.{Faults, fault_follows, follows}
use Rattle.filter_context.proofs.Spines.{has_type}

-- a value that decides asks for no more, another one for the others
decided_others : (quantifier : Quantifier) (Others : ℕ → Type 0) (truth : Option Bool) (n : ℕ) → ¬ (IsUndecided quantifier (truth_val truth)) → OthersCost quantifier Others (truth_val truth) n → n ≡ 0
decided_others Quantifier.Any Others (Some false) n decided costs = absurd (decided tt)
decided_others Quantifier.Any Others None n decided costs = absurd (decided tt)
decided_others Quantifier.All Others (Some true) n decided costs = absurd (decided tt)
decided_others _ Others _ n decided costs = costs

undecided_others : (quantifier : Quantifier) (Others : ℕ → Type 0) (truth : Option Bool) (n : ℕ) → IsUndecided quantifier (truth_val truth) → OthersCost quantifier Others (truth_val truth) n → Others n
undecided_others Quantifier.Any Others (Some false) n undecided costs = costs
undecided_others Quantifier.Any Others None n undecided costs = costs
undecided_others Quantifier.All Others (Some true) n undecided costs = costs
undecided_others _ Others _ n undecided costs = absurd undecided

module _ (context : ContextModel) (place : ℕ) (quantifier : Quantifier) (variable : RangeVariable) (members : List Value) where
  -- what members cost
  abbrev pub BodyCosts : Tree → Val → ℕ → Type 0
  BodyCosts body v =
      Costs (slots_of context.row.schema) (type_name_at context.row.schema context.row.type_id) context.moment (value_of context.row)
      (bound_over (environment_of context) variable.name.now (type_of_variable context variable) v) body

  abbrev pub CostOver : Tree → List Value → ℕ → Type 0
  CostOver body some = MembersCost 1 quantifier (BodyMeans context variable body) (BodyCosts body) (vals_of (slots_of context.row.schema) (type_of_variable context variable) some)

  abbrev OneCosts : Tree → Value → List Value → ℕ → Type 0
  OneCosts body member more =
      let v = val_of member (slots_of context.row.schema).properties (type_of_variable context variable) in
      CostAfter (BodyMeans context variable body v) (BodyCosts body v) (OthersCost quantifier (CostOver body more))

  pub record MembersDue (body : Tree) (index n : ℕ) (old now : Budget) : Type 0 where
    pub paid : ℕ
    pub due : ℕ
    pub sum : n ≡ paid + due
    pub takes : Takes old now paid
    pub asked : CostOver body (drop index members) due

  -- whatever body stands at the index
  pub record MembersPaid (index : ℕ) (old now : Budget) : Type 0 where
    pub of_body : (last : ℕ) (body : Tree) (n : ℕ) → BodyStands context variable place last body → CostOver body members n → MembersDue body index n old now

  pub none_paid : (budget : Budget) → MembersPaid 0 budget budget
  none_paid budget = record { of_body = λ last body n stands costs. record { paid = 0; due = n; sum = omega arith; takes = takes_nothing budget; asked = costs } }

  -- no member is left
  pub all_paid : (index : ℕ) (old now : Budget) → MembersPaid index old now → length members ≤ index → SpendsMembers context place quantifier variable members old now None
  all_paid index old now paid past = record {
    of_body = λ last body n stands costs.
        let it = paid.of_body last body n stands costs in
        let rest : drop index members ≡ [] = at_drop_all (λ (xs : List Value). xs) members index past in
        let none : it.due ≡ 0 = subst (λ (xs : List Value). CostOver body xs it.due) rest it.asked in
        spent_same None old now it.paid n (let sum = it.sum in omega (arith, sum, none)) it.takes;
  }

  module _ (index : ℕ) (old now : Budget) (paid : MembersPaid index old now) (within : index < length members) where
    more_first : (paid due more : ℕ) → due ≡ 1 + more → paid + due ≡ paid + (1 + more)
    more_first paid due more same = omega (arith, same)

    -- the budget has none left
    pub none_left : HasFewer now 1 → (new : Budget) → SpendsMembers context place quantifier variable members old new (Some EvalStop.TooCostly)
    none_left fewer new = record {
      of_body = λ last body n stands costs.
          let it = paid.of_body last body n stands costs in
          let rest : drop index members ≡ get_or members index Value.Null ∷ drop (index + 1) members = at_drop_more (λ (xs : List Value). xs) members index Value.Null within in
          let first : CostOver body (get_or members index Value.Null ∷ drop (index + 1) members) it.due = subst (λ (xs : List Value). CostOver body xs it.due) rest it.asked in
          subst (λ (k : ℕ). HasFewer old k) (sym (it.sum ∙ more_first it.paid it.due first.0 first.2)) (fewer_then old now it.paid (1 + first.0) it.takes (fewer_first now 1 first.0 fewer));
    }

  module _ (index : ℕ) (old now : Budget) (paid : MembersPaid index old now) (within : index < length members) (member : Value) (is : get_or members index member ≡ member) where
    -- the member at an index, and those after it
    member_first : (body : Tree) (due : ℕ) → CostOver body (drop index members) due → CostOver body (member ∷ drop (index + 1) members) due
    member_first body due asked =
        let rest : drop index members ≡ get_or members index member ∷ drop (index + 1) members = at_drop_more (λ (xs : List Value). xs) members index member within in
        subst (λ (v : Value). CostOver body (v ∷ drop (index + 1) members) due) is (subst (λ (xs : List Value). CostOver body xs due) rest asked)

    module _ (taken : Budget) (takes : Takes now taken 1) (new : Budget) (ends : EndsOnceHere (with_frame context (frame_of variable member))) where
      -- what the member's body is, in its context
      abbrev Bound : ContextModel
      Bound = with_frame context (frame_of variable member)

      sums : (n paid due more own rest : ℕ) → n ≡ paid + due → due ≡ 1 + more → more ≡ own + rest → n ≡ paid + (1 + (own + rest))
      sums n paid due more own rest a b c = omega (arith, a, b, c)

      -- after a fault of the body nothing is due
      body_stays : (stop : EvalStop) → Faults Bound place stop → (last : ℕ) (body : Tree) → BodyStands context variable place last body → {more : ℕ} → (after : OneCosts body member (drop (index + 1) members) more)
          → (fault : EvalFault) → stop ≡ EvalStop.Fault fault → ¬ (fault ≡ EvalFault.Memory) → after.rest ≡ 0
      body_stays (EvalStop.Fault EvalFault.Overflow) faults last body stands after fault same known =
          let typed = has_type Bound place last body stands in
          let once = ends body typed.0 typed.1 in
          let means = faults.of_tree last body typed.0 stands typed.1 in
          fault_follows EvalFault.Overflow after.outcome overflow (OthersCost quantifier (CostOver body (drop (index + 1) members))) after.rest refl (once.only after.outcome after.is ∙ sym (once.only overflow means)) after.follows
      body_stays (EvalStop.Fault EvalFault.DivideByZero) faults last body stands after fault same known =
          let typed = has_type Bound place last body stands in
          let once = ends body typed.0 typed.1 in
          let means = faults.of_tree last body typed.0 stands typed.1 in
          fault_follows EvalFault.DivideByZero after.outcome divides_by_zero (OthersCost quantifier (CostOver body (drop (index + 1) members))) after.rest refl (once.only after.outcome after.is ∙ sym (once.only divides_by_zero means)) after.follows
      body_stays (EvalStop.Fault EvalFault.Memory) faults last body stands after fault same known = absurd (known (let e : fault ≡ EvalFault.Memory = cc in e))
      body_stays EvalStop.TooCostly faults last body stands after fault same known = absurd (cc)

      -- the body stopped
      pub body_stops : (stop : EvalStop) → Faults Bound place stop → SpendsAt Bound place taken new (Some stop) → SpendsMembers context place quantifier variable members old new (Some stop)
      body_stops stop faults spends = record {
        of_body = λ last body n stands costs.
            let it = paid.of_body last body n stands costs in
            let first = member_first body it.due it.asked in
            let after = first.1 in
            let own = spends.of_tree last body after.own stands after.costs in
            let both = spent_first stop taken new after.own after.rest (body_stays stop faults last body stands after) own in
            spent_same (Some stop) old new (it.paid + (1 + (after.own + after.rest))) n (sums n it.paid it.due first.0 after.own after.rest it.sum first.2 after.sum)
            (spent_then (Some stop) old now new it.paid (1 + (after.own + after.rest)) it.takes (spent_then (Some stop) now taken new 1 (after.own + after.rest) takes both));
      }

      module _ (truth : Option Bool) (answers : AnswersTruth Bound place (Ok truth)) (spends : SpendsAt Bound place taken new None) where
        others : (last : ℕ) (body : Tree) (more : ℕ) → BodyStands context variable place last body → (after : OneCosts body member (drop (index + 1) members) more)
            → OthersCost quantifier (CostOver body (drop (index + 1) members)) (truth_val truth) after.rest
        others last body more stands after =
            let typed = has_type Bound place last body stands in
            let once = ends body typed.0 typed.1 in
            let means = answers.of_tree last body typed.0 stands typed.1 in
            follows after.outcome (gives (truth_val truth)) (OthersCost quantifier (CostOver body (drop (index + 1) members))) after.rest
            (once.only after.outcome after.is ∙ sym (once.only (gives (truth_val truth)) means)) after.follows

        -- the body decided
        pub body_decides : ¬ (IsUndecided quantifier (truth_val truth)) → SpendsMembers context place quantifier variable members old new None
        body_decides decided = record {
          of_body = λ last body n stands costs.
              let it = paid.of_body last body n stands costs in
              let first = member_first body it.due it.asked in
              let after = first.1 in
              let none = decided_others quantifier (CostOver body (drop (index + 1) members)) truth after.rest decided (others last body first.0 stands after) in
              let own : Takes taken new after.own = spends.of_tree last body after.own stands after.costs in
              let sum = sums n it.paid it.due first.0 after.own after.rest it.sum first.2 after.sum in
              spent_same None old new (it.paid + (1 + after.own)) n (omega (arith, sum, none)) (takes_both old now new it.paid (1 + after.own) it.takes (takes_both now taken new 1 after.own takes own));
        }

        -- it did not
        pub body_passes : IsUndecided quantifier (truth_val truth) → MembersPaid (index + 1) old new
        body_passes undecided = record {
          of_body = λ last body n stands costs.
              let it = paid.of_body last body n stands costs in
              let first = member_first body it.due it.asked in
              let after = first.1 in
              let own : Takes taken new after.own = spends.of_tree last body after.own stands after.costs in
              let sum = sums n it.paid it.due first.0 after.own after.rest it.sum first.2 after.sum in
              record {
                paid = it.paid + (1 + after.own);
                due = after.rest;
                sum = omega (arith, sum);
                takes = takes_both old now new it.paid (1 + after.own) it.takes (takes_both now taken new 1 after.own takes own);
                asked = undecided_others quantifier (CostOver body (drop (index + 1) members)) truth after.rest undecided (others last body first.0 stands after);
              };
        }
