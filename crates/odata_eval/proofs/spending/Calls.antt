-- What a call takes from a budget: what each of its arguments costs, one after another, and then what the function costs
-- on their values.
use Rattle.std.proofs.Common.{◌≡◌, ◌+◌, ◌∙◌, ℕ, List, [], ◌∷◌, Option, Some, None, Ok, ap, map, refl, sym, subst, inl, arith}
use Rattle.edm_values.specs.Val.{Val}
use Rattle.edm_values.specs.declared.datum.Datum.{Datum}
use Rattle.csdl_schema.specs.ExprType.{ExprType, null_type}
use Rattle.csdl_schema.specs.SchemaModel.{slots_of, type_name_at}
use Rattle.edm_entities.specs.Row.{value_of}
use Rattle.odata_checked_filter.specs.declared.checked_node.NodeKind.{NodeKind}
use Rattle.odata_functions.specs.DatumVal.{Reading, datum_val}
use Rattle.odata_filter_operations.specs.DatumView.{reading_at}
use Rattle.odata_filter_operations.specs.FunctionCalls.{AreArguments}
use Rattle.odata_filter_operations.specs.Outcome.{gives}
use Rattle.odata_filter_operations.specs.TextCosts.{CallCosts, call_cost}
use Rattle.odata_signatures.specs.Functions.{IsNamed, row_of}
use Rattle.odata_signatures.specs.declared.argument_kind.ArgumentKind.{ArgumentKind}
use Rattle.odata_signatures.specs.declared.function.Function.{Function}
use Rattle.odata_syntax.specs.Tree.{Trees, call, more_trees, no_trees, node}
use Rattle.odata_meaning.specs.Costs.{ArgumentsCost}
use Rattle.odata_eval.specs.declared.budget.Budget.{Budget}
use Rattle.odata_eval.specs.declared.stop.EvalStop.{EvalStop}
use Rattle.filter_context.specs.private.Place.{HasKind, IsStopOf}
use Rattle.filter_context.specs.private.EvalContext.{EndsOnceHere, MeansHere, StandsHere}
use Rattle.filter_context.specs.private.ContextModel.{ContextModel, environment_of}
use Rattle.odata_eval.specs.private.Spending.{CostsHere, SpendsAt, Spent, Takes}
use Rattle.odata_eval.specs.private.WalkAnswer.{AnswersDatum}
use Rattle.odata_meaning.proofs.meaning.CallEnds.{HaveTypes, applies_of}
use Rattle.odata_eval.proofs.spending.Budgets.{spent_first, spent_same, spent_then, takes_both, takes_nothing}
use Rattle.odata_eval.proofs.spending.Splits.{Faults, fault_rest, follows}
use Rattle.odata_eval.proofs.walking.CallSteps.{OneName, no_more, own_stop, read_all, rest_stands, typed_call}
use Rattle.filter_context.proofs.Operands.{no_number}
use Rattle.filter_context.proofs.Parts.{by_kind}
use Rattle.filter_context.proofs.Spines.{StandsAll, TypedAll}
use Rattle.odata_eval.proofs.walking.WalkValues.{value_has}

module _ (context : ContextModel) where
  -- from the first index on, arguments that lie before the last index have been answered one after another, up to an
  -- index, and a budget was taken from
  abbrev pub AllWalked : ℕ → ℕ → ℕ → List Datum → Budget → Budget → Type 0
  AllWalked first at last [] old now = (first ≡ at) × (old ≡ now)
  AllWalked first at last (answer ∷ more) old now =
      (stop : ℕ) × (mid : Budget) × IsStopOf context.list first stop × ¬ (first ≡ last) × AnswersDatum context first (Ok answer) × SpendsAt context first old mid None
      × AllWalked stop at last more mid now

  -- what arguments cost, and then their values
  abbrev pub ArgumentsHere : Trees → (List Val → ℕ → Type 0) → ℕ → Type 0
  ArgumentsHere = ArgumentsCost (slots_of context.row.schema) (type_name_at context.row.schema context.row.type_id) context.moment (value_of context.row) (environment_of context)

  -- all of them, with their values, and what is due for these
  record ArgumentsDue (types : List ExprType) (answers : List Datum) (old now : Budget) (Goes : List Val → ℕ → Type 0) (n : ℕ) : Type 0 where
    values : List Val
    have : HaveTypes (slots_of context.row.schema) types values
    read : (kinds : List ArgumentKind) (reading : Reading) → AreArguments kinds values → values ≡ map (datum_val reading) answers
    own : ℕ
    rest : ℕ
    sum : n ≡ own + rest
    taken : Takes old now own
    due : Goes values rest

  sum_on : (n own rest more after : ℕ) → n ≡ own + rest → rest ≡ more + after → n ≡ own + more + after
  sum_on n own rest more after a b = omega (arith, a, b)

  arguments_due : EndsOnceHere context → (i j : ℕ) (answers : List Datum) (trees : Trees) (types : List ExprType) → StandsAll context i j trees → TypedAll context trees types → (old now : Budget)
      → AllWalked i j j answers old now → (Goes : List Val → ℕ → Type 0) (n : ℕ) → ArgumentsHere trees Goes n → ArgumentsDue types answers old now Goes n
  arguments_due ends i j [] no_trees [] stand typed old now walked Goes n costs = record {
    values = [];
    have = tt;
    read = λ kinds reading are. refl;
    own = 0;
    rest = n;
    sum = omega arith;
    taken = subst (λ (b : Budget). Takes old b 0) walked.1 (takes_nothing old);
    due = costs;
  }
  arguments_due ends i j [] no_trees (type ∷ types) stand typed old now walked Goes n costs = absurd typed
  arguments_due ends i j [] (more_trees tree more) types stand typed old now walked Goes n costs = absurd (no_more context i j tree more stand walked.0)
  arguments_due ends i j (answer ∷ answers) no_trees types stand typed old now walked Goes n costs = absurd (walked.3 stand)
  arguments_due ends i j (answer ∷ answers) (more_trees tree more) [] stand typed old now walked Goes n costs = absurd typed
  arguments_due ends i j (answer ∷ answers) (more_trees tree more) (type ∷ types) stand typed old now walked Goes n costs =
      let v = datum_val (reading_at (slots_of context.row.schema) type) answer in
      let first : MeansHere context tree (gives v) = walked.4.of_tree stand.middle tree type stand.left typed.0 in
      let once = ends tree type typed.0 in
      let Later : Val → ℕ → Type 0 = λ w. ArgumentsHere more (λ values. Goes (w ∷ values)) in
      let known = follows costs.outcome (gives v) Later costs.rest (once.only costs.outcome costs.is ∙ sym (once.only (gives v) first)) costs.follows in
      let others = arguments_due ends walked.0 j answers more types (rest_stands context i j walked.0 tree more walked.2 stand) typed.1 walked.1 now walked.6 (λ values. Goes (v ∷ values)) costs.rest known in
      record {
        values = v ∷ others.values;
        have = (value_has context ends tree type v typed.0 first, others.have);
        read = λ kinds reading are. read_all (reading_at (slots_of context.row.schema) type) reading answer others.values answers kinds are (λ later are_later. others.read later reading are_later);
        own = costs.own + others.own;
        rest = others.rest;
        sum = sum_on n costs.own costs.rest others.own others.rest costs.sum others.sum;
        taken = takes_both old walked.1 now costs.own others.own (walked.5.of_tree stand.middle tree costs.own stand.left costs.costs) others.taken;
        due = others.due;
      }

  -- the next one stopped
  arguments_stop : EndsOnceHere context → (i at j : ℕ) (answers : List Datum) (trees : Trees) (types : List ExprType) → StandsAll context i j trees → TypedAll context trees types → (old now new : Budget)
      → AllWalked i at j answers old now → ¬ (at ≡ j) → (stop : EvalStop) → Faults context at stop → SpendsAt context at now new (Some stop) → (Goes : List Val → ℕ → Type 0) (n : ℕ) → ArgumentsHere trees Goes n
      → Spent (Some stop) old new n
  arguments_stop ends i at j [] no_trees types stand typed old now new walked further stop faults spends Goes n costs = absurd (further (sym walked.0 ∙ stand))
  arguments_stop ends i at j [] (more_trees tree more) types stand typed old now new walked further stop faults spends Goes n costs =
      let here : Faults context i stop = subst (λ (k : ℕ). Faults context k stop) (sym walked.0) faults in
      let taken : SpendsAt context i old new (Some stop) =
      subst (λ (k : ℕ). SpendsAt context k old new (Some stop)) (sym walked.0) (subst (λ (b : Budget). SpendsAt context at b new (Some stop)) (sym walked.1) spends) in
      spent_same (Some stop) old new (costs.own + costs.rest) n costs.sum
      (spent_first stop old new costs.own costs.rest
      (fault_rest context ends i stand.middle tree (inl stand.left) stop here costs.outcome costs.is (λ w. ArgumentsHere more (λ values. Goes (w ∷ values))) costs.rest costs.follows)
      (taken.of_tree stand.middle tree costs.own stand.left costs.costs))
  arguments_stop ends i at j (answer ∷ answers) no_trees types stand typed old now new walked further stop faults spends Goes n costs = absurd (walked.3 stand)
  arguments_stop ends i at j (answer ∷ answers) (more_trees tree more) [] stand typed old now new walked further stop faults spends Goes n costs = absurd typed
  arguments_stop ends i at j (answer ∷ answers) (more_trees tree more) (type ∷ types) stand typed old now new walked further stop faults spends Goes n costs =
      let v = datum_val (reading_at (slots_of context.row.schema) type) answer in
      let first : MeansHere context tree (gives v) = walked.4.of_tree stand.middle tree type stand.left typed.0 in
      let once = ends tree type typed.0 in
      let Later : Val → ℕ → Type 0 = λ w. ArgumentsHere more (λ values. Goes (w ∷ values)) in
      let known = follows costs.outcome (gives v) Later costs.rest (once.only costs.outcome costs.is ∙ sym (once.only (gives v) first)) costs.follows in
      let others = arguments_stop ends walked.0 at j answers more types (rest_stands context i j walked.0 tree more walked.2 stand) typed.1 walked.1 now new walked.6 further stop faults spends
      (λ values. Goes (v ∷ values)) costs.rest known in
      spent_same (Some stop) old new (costs.own + costs.rest) n costs.sum
      (spent_then (Some stop) old walked.1 new costs.own costs.rest (walked.5.of_tree stand.middle tree costs.own stand.left costs.costs) others)

  module _ (names : OneName) (place : ℕ) (function : Function) (here : HasKind context.list place (NodeKind.Call function)) (own : ℕ) (is_own : IsStopOf context.list place own) (ends : EndsOnceHere context) where
    -- whatever tree of that call stands there
    of_call : (old new : Budget) (stop : Option EvalStop)
        → ((last from to : ℕ) (asked : List ℕ) (arguments : Trees) → IsNamed function asked → (stands : StandsHere context place last (node from to (call asked arguments)))
        → StandsAll context (place + 1) own arguments → (n : ℕ) → ArgumentsHere arguments (CallCosts asked) n → Spent stop old new n)
        → SpendsAt context place old new stop
    of_call old new stop goes = record {
      of_tree = λ last tree n stands costs.
          by_kind context place (NodeKind.Call function) here (λ last tree. (n : ℕ) → CostsHere context tree n → Spent stop old new n)
          (λ asked arguments named later last from to stands n costs.
          let e : last ≡ own = own_stop context names place function here own is_own last (node from to (call asked arguments)) stands in
          goes last from to asked arguments named stands (subst (λ (s : ℕ). StandsAll context (place + 1) s arguments) e stands.children) n costs)
          last tree stands n costs;
      of_number = λ number last tree there. absurd (no_number context place (NodeKind.Call function) tt here number last tree there);
    }

    sum_is : (n own rest cost : ℕ) → n ≡ own + rest → rest ≡ cost → n ≡ own + cost
    sum_is n own rest cost a b = omega (arith, a, b)

    -- all arguments have values, and what the function costs on them was asked for
    pub call_spends : (answers : List Datum) (old mid new : Budget) (stop : Option EvalStop) → AllWalked (place + 1) own own answers old mid → (cost : ℕ)
        → ((reading : Reading) → cost ≡ call_cost function (map (datum_val reading) answers)) → Spent stop mid new cost → SpendsAt context place old new stop
    call_spends answers old mid new stop walked cost same spent =
        of_call old new stop
        (λ last from to asked arguments named stands stand n costs.
        let typed = stands.top.typed in
        let slots = slots_of context.row.schema in
        let all = arguments_due ends (place + 1) own answers arguments typed.types stand typed.arguments_typed old mid walked (CallCosts asked) n costs in
        let reading = reading_at slots null_type in
        let function_is : all.due.function ≡ function = names all.due.function function asked all.due.named named in
        let applies = applies_of slots function typed.types _ all.values (typed_call context names place function here own is_own asked typed.types _ named typed.call_typed) all.have in
        let values_are : all.values ≡ map (datum_val reading) answers = all.read (row_of function).arguments reading applies.are in
        let rest_is : all.rest ≡ cost = all.due.is ∙ (ap (λ (f : Function). call_cost f all.values) function_is ∙ (ap (call_cost function) values_are ∙ sym (same reading))) in
        spent_same stop old new (all.own + cost) n (sum_is n all.own all.rest cost all.sum rest_is) (spent_then stop old mid new all.own cost all.taken spent))

    -- an argument stopped
    pub call_stops : (at : ℕ) (answers : List Datum) (old now new : Budget) → AllWalked (place + 1) at own answers old now → ¬ (at ≡ own) → (stop : EvalStop) → Faults context at stop
        → SpendsAt context at now new (Some stop) → SpendsAt context place old new (Some stop)
    call_stops at answers old now new walked further stop faults spends =
        of_call old new (Some stop)
        (λ last from to asked arguments named stands stand n costs.
        let typed = stands.top.typed in
        arguments_stop ends (place + 1) at own answers arguments typed.types stand typed.arguments_typed old now new walked further stop faults spends (CallCosts asked) n costs)
