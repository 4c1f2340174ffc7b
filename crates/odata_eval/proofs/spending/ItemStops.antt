-- What `in` before a list has taken from a budget where it ends.
use Rattle.std.proofs.Common.{◌≡◌, ◌+◌, ℕ, List, [], ◌∷◌, Some, None, inl, refl, sym, subst, arith}
use Rattle.edm_values.specs.Val.{Val}
use Rattle.edm_values.specs.declared.datum.Datum.{Datum}
use Rattle.csdl_schema.specs.ExprType.{ExprType}
use Rattle.csdl_schema.specs.SchemaModel.{slots_of}
use Rattle.odata_filter_operations.specs.FaultView.{fault_outcome}
use Rattle.odata_filter_operations.specs.Outcome.{Outcome, overflow, divides_by_zero}
use Rattle.odata_filter_operations.specs.declared.eval_fault.EvalFault.{EvalFault}
use Rattle.std.specs.List.{AllByRecursion}
use Rattle.odata_signatures.specs.Sides.{sides_of}
use Rattle.odata_signatures.specs.CollectionTyped.{IsItemFor}
use Rattle.odata_syntax.specs.Tree.{Tree, Trees, more_trees, no_trees}
use Rattle.odata_meaning.specs.Costs.{CostThen, item_cost}
use Rattle.odata_filter_operations.specs.TextCosts.{comparison_cost}
use Rattle.odata_eval.specs.declared.budget.Budget.{Budget}
use Rattle.odata_eval.specs.declared.stop.EvalStop.{EvalStop}
use Rattle.filter_context.specs.private.EvalContext.{EndsOnceHere, OperandHere, StandsHere, TypedHere}
use Rattle.filter_context.specs.private.ContextModel.{ContextModel, environment_of}
use Rattle.odata_eval.specs.private.Spending.{CostsHere, HasFewer, SpendsAt, SpendsRest, Spent, Takes}
use Rattle.odata_eval.proofs.spending.Budgets.{fewer_first, fewer_then, spent_first, spent_same, spent_then, takes_both}
use Rattle.odata_eval.proofs.spending.Items.{AfterItem, ItemsCostHere, ItemsDue, SideItem, alone_faults}
use Rattle.odata_eval.proofs.spending.Splits.{Faults, SplitWith, fault_follows, operand_spent, rest_spends}
use Rattle.odata_eval.proofs.walking.ItemSteps.{EqualDue, ItemsLeft, ListLeft, ListedHere, NextDue, left_at, no_more_listed}
use Rattle.filter_context.proofs.Operands.{AloneHere, ResolvedHere, resolved_here, resolved_reports}
use Rattle.filter_context.proofs.Spines.{TypedAll, has_type}

module _ (context : ContextModel) where
  module _ (place own at : ℕ) (left : Datum) (old now : Budget) (rest : ListLeft context place own at (Takes old now) left) where
    none_due : (OtherSide : ExprType → Type 0) (l : Val) (items : Trees) (due : ℕ) → ListedHere context OtherSide at own items → at ≡ own → ItemsCostHere context OtherSide l items due → due ≡ 0
    none_due OtherSide l no_trees due stand end asked = asked
    none_due OtherSide l (more_trees item more) due stand end asked = absurd (no_more_listed context OtherSide at own item more stand end)

    some_due : (OtherSide : ExprType → Type 0) (l : Val) (items : Trees) (due : ℕ) → ListedHere context OtherSide at own items → ¬ (at ≡ own) → ItemsCostHere context OtherSide l items due
        → (more : ℕ) × (due ≡ item_cost (environment_of context) + more)
    some_due OtherSide l no_trees due stand further asked = absurd (further stand)
    some_due OtherSide l (more_trees item more) due stand further asked = (asked.0, asked.2)

    -- of a whole that stands there, what is due
    abbrev Left : Tree → Type 0
    Left whole = ItemsLeft context place own at (Takes old now) left whole

    left_of : (last : ℕ) (whole : Tree) → StandsHere context place last whole → Left whole
    left_of last whole stands = let has = has_type context place last whole stands in rest.of_tree last whole has.0 stands has.1

    pub list_ends : at ≡ own → SpendsRest context place old None now None
    list_ends end = rest_spends context place old now None rest.none
        (λ last whole n stands costs.
        let it = left_of last whole stands in
        let due = it.due n costs in
        let none : due.due ≡ 0 = none_due (TypedHere context it.left_tree) (left_at context left it.left_type) it.items due.due it.stand end due.asked in
        record {
          stop = due.stop;
          operand = it.left_tree;
          stands = inl due.stands;
          own = due.own;
          costs = due.costs;
          rest = due.paid + due.due;
          sum = due.sum;
          holds = spent_same None old now due.paid (due.paid + due.due) (omega (arith, none)) due.is_paid;
        })

    paid_more : (paid due first more : ℕ) → due ≡ first + more → paid + due ≡ paid + (first + more)
    paid_more paid due first more same = omega (arith, same)

    pub list_is_costly : ¬ (at ≡ own) → HasFewer now (item_cost (environment_of context)) → (new : Budget) → SpendsRest context place old None new (Some EvalStop.TooCostly)
    list_is_costly further fewer new = rest_spends context place old new (Some EvalStop.TooCostly) rest.none
        (λ last whole n stands costs.
        let it = left_of last whole stands in
        let due = it.due n costs in
        let more = some_due (TypedHere context it.left_tree) (left_at context left it.left_type) it.items due.due it.stand further due.asked in
        record {
          stop = due.stop;
          operand = it.left_tree;
          stands = inl due.stands;
          own = due.own;
          costs = due.costs;
          rest = due.paid + due.due;
          sum = due.sum;
          holds = subst (λ (k : ℕ). HasFewer old k) (sym (paid_more due.paid due.due (item_cost (environment_of context)) more.0 more.1))
              (fewer_then old now due.paid (item_cost (environment_of context) + more.0) due.is_paid (fewer_first now (item_cost (environment_of context)) more.0 fewer));
        })

    module _ (taken answered : Budget) (takes : Takes now taken (item_cost (environment_of context))) where
      -- the next item stopped
      item_stays : (left_tree : Tree) (l : Val) (item : Tree) → SideItem context left_tree l item → EndsOnceHere context → (last : ℕ) → ResolvedHere context (TypedHere context left_tree) item at last
          → (stop : EvalStop) → Faults context at stop
          → (outcome : Outcome) → AloneHere context (TypedHere context left_tree) item outcome → (GoesOn : Val → ℕ → Type 0) (later : ℕ) → CostThen outcome GoesOn later
          → (fault : EvalFault) → stop ≡ EvalStop.Fault fault → ¬ (fault ≡ EvalFault.Memory) → later ≡ 0
      item_stays left_tree l item side ends last beside (EvalStop.Fault EvalFault.Overflow) faults outcome is GoesOn later goes fault same known =
          let alone = resolved_reports context (TypedHere context left_tree) item at last side.item_type (λ type. fault_outcome EvalFault.Overflow) beside side.item_typed faults in
          fault_follows EvalFault.Overflow outcome overflow GoesOn later refl (alone_faults context ends left_tree l item side outcome overflow is alone (λ n never. cc)) goes
      item_stays left_tree l item side ends last beside (EvalStop.Fault EvalFault.DivideByZero) faults outcome is GoesOn later goes fault same known =
          let alone = resolved_reports context (TypedHere context left_tree) item at last side.item_type (λ type. fault_outcome EvalFault.DivideByZero) beside side.item_typed faults in
          fault_follows EvalFault.DivideByZero outcome divides_by_zero GoesOn later refl (alone_faults context ends left_tree l item side outcome divides_by_zero is alone (λ n never. cc)) goes
      item_stays left_tree l item side ends last beside (EvalStop.Fault EvalFault.Memory) faults outcome is GoesOn later goes fault same known = absurd (known (let e : fault ≡ EvalFault.Memory = cc in e))
      item_stays left_tree l item side ends last beside EvalStop.TooCostly faults outcome is GoesOn later goes fault same known = absurd (cc)

      stop_sum : (paid due first more item_own later : ℕ) → due ≡ first + more → more ≡ item_own + later → paid + due ≡ paid + (first + (item_own + later))
      stop_sum paid due first more item_own later a b = omega (arith, a, b)

      items_stop : (ends : EndsOnceHere context) (stop : EvalStop) → Faults context at stop → SpendsAt context at taken answered (Some stop) → ¬ (at ≡ own) → (whole : Tree) (it : Left whole) (items : Trees)
          → ListedHere context (TypedHere context it.left_tree) at own items → ((item : Tree) (more : Trees) → items ≡ more_trees item more → SideItem context it.left_tree (left_at context left it.left_type) item)
          → (n : ℕ) → ItemsDue context place n (Takes old now) it.left_tree (left_at context left it.left_type) items → SplitWith context place n (λ taken_in_all. Spent (Some stop) old answered taken_in_all)
      items_stop ends stop faults spends further whole it no_trees stand beside n due = absurd (further stand)
      items_stop ends stop faults spends further whole it (more_trees item more) stand beside n due =
          let OtherSide : ExprType → Type 0 = TypedHere context it.left_tree in
          let l = left_at context left it.left_type in
          let after = due.asked.1 in
          let spent = operand_spent context at taken answered (Some stop) spends stand.middle item after.own (resolved_here context OtherSide item at stand.middle stand.left) after.costs in
          let both = spent_first stop taken answered after.own after.rest
          (item_stays it.left_tree l item (beside item more refl) ends stand.middle stand.left stop faults after.outcome after.is (AfterItem context OtherSide l more) after.rest after.follows) spent in
          record {
            stop = due.stop;
            operand = it.left_tree;
            stands = inl due.stands;
            own = due.own;
            costs = due.costs;
            rest = due.paid + due.due;
            sum = due.sum;
            holds = spent_same (Some stop) old answered (due.paid + (item_cost (environment_of context) + (after.own + after.rest))) (due.paid + due.due)
                (stop_sum due.paid due.due (item_cost (environment_of context)) due.asked.0 after.own after.rest due.asked.2 after.sum)
                (spent_then (Some stop) old now answered due.paid (item_cost (environment_of context) + (after.own + after.rest)) due.is_paid
                (spent_then (Some stop) now taken answered (item_cost (environment_of context)) (after.own + after.rest) takes both));
          }

      beside_of : (whole : Tree) (it : Left whole) (items : Trees) (types : List ExprType) → TypedAll context items types → AllByRecursion (IsItemFor (slots_of context.row.schema) it.left_type) (sides_of items types)
          → (item : Tree) (more : Trees) → items ≡ more_trees item more → SideItem context it.left_tree (left_at context left it.left_type) item
      beside_of whole it no_trees types typed beside item more same = absurd (cc)
      beside_of whole it (more_trees tree others) [] typed beside item more same = absurd typed
      beside_of whole it (more_trees tree others) (type ∷ types) typed beside item more same =
          let e : tree ≡ item = cc in
          subst (λ (t : Tree). SideItem context it.left_tree (left_at context left it.left_type) t) e
          (record { left_type = it.left_type; left_typed = it.left_typed; left_means = it.left_means; item_type = type; item_typed = typed.0; beside = beside.0 })

      pub item_stops : EndsOnceHere context → ¬ (at ≡ own) → (stop : EvalStop) → Faults context at stop → SpendsAt context at taken answered (Some stop) → SpendsRest context place old None answered (Some stop)
      item_stops ends further stop faults spends = rest_spends context place old answered (Some stop) rest.none
          (λ last whole n stands costs.
          let it = left_of last whole stands in
          items_stop ends stop faults spends further whole it it.items it.stand (beside_of whole it it.items it.types it.typed it.beside) n (it.due n costs))

      -- ---- it has a value, which is compared

      -- what the next item and its comparison take of what was left after those before
      compared_takes : (new : Budget) (item_own compared : ℕ) → Takes taken answered item_own → Takes answered new compared → Takes now new (item_cost (environment_of context) + (item_own + compared))
      compared_takes new item_own compared own_taken takes_compared =
          takes_both now taken new (item_cost (environment_of context)) (item_own + compared) takes (takes_both taken answered new item_own compared own_taken takes_compared)

      -- the comparison is too costly
      costly_sum : (paid first item_own compared later : ℕ) → paid + (first + (item_own + compared)) + later ≡ paid + (first + (item_own + (compared + later)))
      costly_sum paid first item_own compared later = omega arith

      pub item_is_costly : (cost : ℕ)
          → ((last : ℕ) (whole : Tree) (n : ℕ) → StandsHere context place last whole → CostsHere context whole n → NextDue context place own at (Takes old now) left rest n cost)
          → SpendsAt context at taken answered None → HasFewer answered cost → (new : Budget) → SpendsRest context place old None new (Some EvalStop.TooCostly)
      item_is_costly cost next spends fewer new = rest_spends context place old new (Some EvalStop.TooCostly) rest.none
          (λ last whole n stands costs.
          let it = next last whole n stands costs in
          let due = it.due in
          let own_taken : Takes taken answered due.item_own = operand_spent context at taken answered None spends it.last it.tree due.item_own it.stands due.item_costs in
          let first = item_cost (environment_of context) in
          let above : HasFewer old (due.paid + (first + (due.item_own + cost))) =
          fewer_then old now due.paid (first + (due.item_own + cost)) due.is_paid
          (fewer_then now taken first (due.item_own + cost) takes (fewer_then taken answered due.item_own cost own_taken fewer)) in
          record {
            stop = due.stop;
            operand = it.left_tree;
            stands = inl due.stands;
            own = due.own;
            costs = due.costs;
            rest = due.paid + (first + (due.item_own + (comparison_cost it.left_val it.value + due.later)));
            sum = due.sum;
            holds = subst (λ (k : ℕ). HasFewer old (due.paid + (first + (due.item_own + (k + due.later))))) it.cost_is
                (subst (λ (k : ℕ). HasFewer old k) (costly_sum due.paid first due.item_own cost due.later)
                (fewer_first old (due.paid + (first + (due.item_own + cost))) due.later above));
          })

      module _ (new : Budget) (cost : ℕ) (takes_compared : Takes answered new cost) where
        -- it is equal
        equal_sum : (paid first item_own compared later : ℕ) → later ≡ 0 → paid + (first + (item_own + (compared + later))) ≡ paid + (first + (item_own + compared))
        equal_sum paid first item_own compared later none = omega (arith, none)

        pub item_ends : ((last : ℕ) (whole : Tree) (n : ℕ) → StandsHere context place last whole → CostsHere context whole n → EqualDue context place own at (Takes old now) left rest n cost)
            → SpendsAt context at taken answered None → SpendsRest context place old None new None
        item_ends equal spends = rest_spends context place old new None rest.none
            (λ last whole n stands costs.
            let known = equal last whole n stands costs in
            let it = known.next in
            let due = it.due in
            let first = item_cost (environment_of context) in
            let own_taken : Takes taken answered due.item_own = operand_spent context at taken answered None spends it.last it.tree due.item_own it.stands due.item_costs in
            let compared = comparison_cost it.left_val it.value in
            let takes_all : Takes answered new compared = subst (λ (k : ℕ). Takes answered new k) it.cost_is takes_compared in
            record {
              stop = due.stop;
              operand = it.left_tree;
              stands = inl due.stands;
              own = due.own;
              costs = due.costs;
              rest = due.paid + (first + (due.item_own + (compared + due.later)));
              sum = due.sum;
              holds = spent_same None old new (due.paid + (first + (due.item_own + compared))) (due.paid + (first + (due.item_own + (compared + due.later))))
                  (equal_sum due.paid first due.item_own compared due.later known.none)
                  (takes_both old now new due.paid (first + (due.item_own + compared)) due.is_paid (compared_takes new due.item_own compared own_taken takes_all));
            })

        -- it is not
        pub item_pays : SpendsAt context at taken answered None → (last : ℕ) (tree : Tree) (paid own_cost : ℕ) → OperandHere context at last tree → CostsHere context tree own_cost → Takes old now paid
            → Takes old new (paid + (item_cost (environment_of context) + (own_cost + cost)))
        item_pays spends last tree paid own_cost stands costs is_paid =
            takes_both old now new paid (item_cost (environment_of context) + (own_cost + cost)) is_paid
            (compared_takes new own_cost cost (operand_spent context at taken answered None spends last tree own_cost stands costs) takes_compared)
