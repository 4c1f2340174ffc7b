-- What a call evaluates to, from what was answered of its arguments one after another.
use Rattle.std.proofs.Common.{◌≡◌, ◌∙◌, ℕ, suc, ◌<◌, ◌≤◌, ◌+◌, List, [], ◌∷◌, Some, Result, length, map, codes, refl, sym, subst, arith}
use Rattle.std.specs.Prelude.{Contains}
use Rattle.edm_values.specs.Val.{Val}
use Rattle.edm_values.specs.declared.datum.Datum.{Datum}
use Rattle.edm_values.specs.declared.datum.Datum.TheVariants as datum
use Rattle.odata_syntax.specs.Spans.{is_root, list_of_trees}
use Rattle.odata_syntax.specs.Tree.{Tree, Trees, call, more_trees, no_trees, node}
use Rattle.csdl_schema.specs.ExprType.{ExprType}
use Rattle.csdl_schema.specs.SchemaModel.{slots_of}
use Rattle.odata_functions.specs.DatumVal.{Reading, datum_val}
use Rattle.odata_signatures.specs.CallTyped.{CallTyped, FunctionTyped}
use Rattle.odata_signatures.specs.Functions.{IsNamed, row_of}
use Rattle.odata_signatures.specs.declared.argument_kind.ArgumentKind.{ArgumentKind}
use Rattle.odata_signatures.specs.declared.function.Function.{Function}
use Rattle.odata_checked_filter.specs.Calls.{TakesMemory}
use Rattle.odata_checked_filter.specs.declared.checked_node.NodeKind.{NodeKind}
use Rattle.odata_filter_operations.specs.declared.eval_fault.EvalFault.{EvalFault}
use Rattle.odata_filter_operations.specs.CallGives.{CallGives}
use Rattle.odata_filter_operations.specs.Outcome.{Outcome, gives}
use Rattle.odata_filter_operations.specs.FaultView.{fault_outcome}
use Rattle.odata_filter_operations.specs.FunctionCalls.{Applies, AreArguments, IsArgument, MakesText}
use Rattle.odata_filter_operations.specs.DatumView.{answer_outcome, reading_at}
use Rattle.filter_context.specs.private.Place.{HasKind, IsStopOf, PartStands}
use Rattle.filter_context.specs.private.EvalContext.{EndsOnceHere, MeansHere, StandsHere, TypedHere}
use Rattle.filter_context.specs.private.ContextModel.{ContextModel}
use Rattle.odata_filter_operations.specs.Reports.{Reports}
use Rattle.odata_eval.specs.private.WalkAnswer.{AllAnswered, AnswersDatum}
use Rattle.filter_context.specs.private.AnswersAtPlace.{AnswersAtPlace}
use Rattle.odata_meaning.proofs.meaning.CallEnds.{HaveTypes, applies_of}
use Rattle.filter_context.proofs.Operands.{no_number}
use Rattle.filter_context.proofs.Parts.{by_kind, reports_there}
use Rattle.filter_context.proofs.Extents.{all_further, further, stops_here, stops_there}
use Rattle.filter_context.proofs.Spines.{MeanAll, StandsAll, TypedAll, child_takes, fault_stays, first_child, some_taken}
use Rattle.odata_eval.proofs.walking.WalkValues.{value_has}

-- the kinds of arguments are plain, so they are read alike everywhere
argument_read : (r s : Reading) (kind : ArgumentKind) (answer : Datum) → IsArgument kind (datum_val r answer) → datum_val r answer ≡ datum_val s answer
argument_read r s kind (datum.Record held) is = absurd is
argument_read r s kind (datum.Sparse held) is = absurd is
argument_read r s kind (datum.List held) is = absurd is
argument_read r s kind _ is = refl

pub read_all : (r s : Reading) (answer : Datum) (values : List Val) (answers : List Datum) (kinds : List ArgumentKind)
    → AreArguments kinds (datum_val r answer ∷ values) → ((others : List ArgumentKind) → AreArguments others values → values ≡ map (datum_val s) answers)
    → datum_val r answer ∷ values ≡ datum_val s answer ∷ map (datum_val s) answers
read_all r s answer values answers [] are rest = absurd are
read_all r s answer values answers (kind ∷ kinds) are rest =
    let first : datum_val r answer ≡ datum_val s answer = argument_read r s kind answer are.0 in
    let others : values ≡ map (datum_val s) answers = rest kinds are.1 in
    cc

-- what is among later ones is among all
pub behind_first : (tree child : Tree) (more : List Tree) → Contains more child → Contains (tree ∷ more) child
behind_first tree child more among = (suc among.0, omega (arith, among.1), among.2)

-- no two functions have one name
abbrev pub OneName : Type 0
OneName = (f g : Function) (text : List ℕ) → IsNamed f text → IsNamed g text → f ≡ g

makes_one : (function : Function) (asked : List ℕ) → IsNamed function asked → MakesText function → Contains (codes "concat" ∷ codes "tolower" ∷ codes "toupper" ∷ []) asked
makes_one Function.Concat asked named makes = (0, omega arith, named)
makes_one Function.ToLower asked named makes = (1, omega arith, named)
makes_one Function.ToUpper asked named makes = (2, omega arith, named)
makes_one _ asked named makes = absurd makes

-- a call of a function that makes a text takes memory
call_takes : (function : Function) (asked : List ℕ) (arguments : Trees) (from to : ℕ) → IsNamed function asked → MakesText function
    → TakesMemory (node from to (call asked arguments))
call_takes function asked arguments from to named makes = record {
  part = node from to (call asked arguments);
  within = is_root;
  called = asked;
  arguments = arguments;
  is_call = refl;
  one = makes_one function asked named makes;
}

at_most_three : (function : Function) → length (row_of function).arguments ≤ 3
at_most_three Function.Contains = omega arith
at_most_three _ = omega arith

module _ (context : ContextModel) where
  pub no_more : (i j : ℕ) (tree : Tree) (more : Trees) → StandsAll context i j (more_trees tree more) → ¬ (i ≡ j)
  no_more i j tree more stand same =
      let a : i < stand.middle = further context i stand.middle tree stand.left in
      let b : stand.middle ≤ j = all_further context stand.middle j more stand.right in
      omega arith

  -- the rest stands from where the first argument stops
  pub rest_stands : (i j stop : ℕ) (tree : Tree) (more : Trees) → IsStopOf context.list i stop → StandsAll context i j (more_trees tree more) → StandsAll context stop j more
  rest_stands i j stop tree more stops stand =
      let same : stand.middle ≡ stop = stops_there context i stand.middle stop tree stand.left stops in
      subst (λ (m : ℕ). StandsAll context m j more) same stand.right

  -- after arguments that have been answered stands another one, unless these are all
  next_stands : (i at j : ℕ) (answers : List Datum) (trees : Trees) → StandsAll context i j trees → AllAnswered context i at j answers → ¬ (at ≡ j) → PartStands context at
  next_stands i at j [] no_trees stand answered behind = absurd (behind (sym answered ∙ stand))
  next_stands i at j [] (more_trees tree more) stand answered behind =
      subst (PartStands context) answered (record { stop = stand.middle; tree = tree; stands = stand.left })
  next_stands i at j (answer ∷ answers) no_trees stand answered behind = absurd (answered.2 stand)
  next_stands i at j (answer ∷ answers) (more_trees tree more) stand answered behind =
      next_stands answered.0 at j answers more (rest_stands i j answered.0 tree more answered.1 stand) answered.4 behind

  answered_further : (i at j : ℕ) (answers : List Datum) (trees : Trees) → StandsAll context i j trees → AllAnswered context i at j answers → i ≤ at
  answered_further i at j [] trees stand answered = let same : i ≡ at = answered in omega arith
  answered_further i at j (answer ∷ answers) no_trees stand answered = absurd (answered.2 stand)
  answered_further i at j (answer ∷ answers) (more_trees tree more) stand answered =
      let here : i < stand.middle = further context i stand.middle tree stand.left in
      let same : stand.middle ≡ answered.0 = stops_there context i stand.middle answered.0 tree stand.left answered.1 in
      let rest : answered.0 ≤ at = answered_further answered.0 at j answers more (rest_stands i j answered.0 tree more answered.1 stand) answered.4 in
      omega arith

  -- a fault of the next one is the outcome
  next_faults : (i at j : ℕ) (answers : List Datum) (trees : Trees) (types : List ExprType) (fault : EvalFault) (Goes : List Val → Outcome → Type 0) (Whole : Type 0)
      → StandsAll context i j trees → TypedAll context trees types → AllAnswered context i at j answers → ¬ (at ≡ j) → AnswersAtPlace context at (λ type. fault_outcome fault)
      → ((child : Tree) → Contains (list_of_trees trees) child → TakesMemory child → Whole) → Reports Whole (MeanAll context trees Goes) (fault_outcome fault)
  next_faults i at j [] no_trees types fault Goes Whole stand typed answered behind faults takes = absurd (behind (sym answered ∙ stand))
  next_faults i at j [] (more_trees tree more) (type ∷ types) fault Goes Whole stand typed answered behind faults takes =
      let here : AnswersAtPlace context i (λ type. fault_outcome fault) = subst (λ (k : ℕ). AnswersAtPlace context k (λ type. fault_outcome fault)) (sym answered) faults in
      fault_stays fault (TakesMemory tree) Whole (MeansHere context tree) (λ v. MeanAll context more (λ values. Goes (v ∷ values))) (takes tree (first_child tree (list_of_trees more)))
      (here.of_tree stand.middle tree type stand.left typed.0)
  next_faults i at j (answer ∷ answers) no_trees types fault Goes Whole stand typed answered behind faults takes = absurd (answered.2 stand)
  next_faults i at j (answer ∷ answers) (more_trees tree more) (type ∷ types) fault Goes Whole stand typed answered behind faults takes =
      let v = datum_val (reading_at (slots_of context.row.schema) type) answer in
      reports_there (fault_outcome fault) Whole Whole (MeanAll context more (λ values. Goes (v ∷ values))) (MeanAll context (more_trees tree more) Goes) (λ takes. takes)
      (λ o is. (gives v, (answered.3.of_tree stand.middle tree type stand.left typed.0, is)))
      (next_faults answered.0 at j answers more types fault (λ values. Goes (v ∷ values)) Whole (rest_stands i j answered.0 tree more answered.1 stand) typed.1 answered.4 behind faults
      (λ child among. takes child (behind_first tree child (list_of_trees more) among)))
  next_faults i at j answers (more_trees tree more) [] fault Goes Whole stand typed answered behind faults takes = absurd typed

  -- the next one is the last where no more types are left
  next_is_last : (i at j : ℕ) (answers : List Datum) (trees : Trees) (types : List ExprType) → StandsAll context i j trees → TypedAll context trees types
      → length types ≤ length answers + 1 → AllAnswered context i at j answers → ¬ (at ≡ j) → IsStopOf context.list at j
  next_is_last i at j [] no_trees types stand typed few answered behind = absurd (behind (sym answered ∙ stand))
  next_is_last i at j [] (more_trees tree no_trees) types stand typed few answered behind =
      let same : stand.middle ≡ j = stand.right in
      subst (λ (k : ℕ). IsStopOf context.list k j) answered (subst (IsStopOf context.list i) same (stops_here context i stand.middle tree stand.left))
  next_is_last i at j [] (more_trees tree (more_trees other more)) [] stand typed few answered behind = absurd typed
  next_is_last i at j [] (more_trees tree (more_trees other more)) (type ∷ []) stand typed few answered behind = absurd typed.1
  next_is_last i at j [] (more_trees tree (more_trees other more)) (type ∷ t ∷ types) stand typed few answered behind = absurd (omega arith)
  next_is_last i at j (answer ∷ answers) no_trees types stand typed few answered behind = absurd (answered.2 stand)
  next_is_last i at j (answer ∷ answers) (more_trees tree more) [] stand typed few answered behind = absurd typed
  next_is_last i at j (answer ∷ answers) (more_trees tree more) (type ∷ types) stand typed few answered behind =
      next_is_last answered.0 at j answers more types (rest_stands i j answered.0 tree more answered.1 stand) typed.1 (omega arith) answered.4 behind

  -- all arguments with their values
  record Answered (trees : Trees) (types : List ExprType) (answers : List Datum) : Type 1 where
    values : List Val
    have : HaveTypes (slots_of context.row.schema) types values
    read : (kinds : List ArgumentKind) (reading : Reading) → AreArguments kinds values → values ≡ map (datum_val reading) answers
    mean : (Goes : List Val → Outcome → Type 0) (o : Outcome) → Goes values o → MeanAll context trees Goes o

  all_answered : EndsOnceHere context → (i j : ℕ) (answers : List Datum) (trees : Trees) (types : List ExprType)
      → StandsAll context i j trees → TypedAll context trees types → AllAnswered context i j j answers → Answered trees types answers
  all_answered ends i j [] no_trees [] stand typed answered = record {
    values = [];
    have = tt;
    read = λ kinds reading are. refl;
    mean = λ Goes o given. given;
  }
  all_answered ends i j [] no_trees (type ∷ types) stand typed answered = absurd typed
  all_answered ends i j [] (more_trees tree more) types stand typed answered = absurd (no_more i j tree more stand answered)
  all_answered ends i j (answer ∷ answers) no_trees types stand typed answered = absurd (answered.2 stand)
  all_answered ends i j (answer ∷ answers) (more_trees tree more) [] stand typed answered = absurd typed
  all_answered ends i j (answer ∷ answers) (more_trees tree more) (type ∷ types) stand typed answered =
      let v = datum_val (reading_at (slots_of context.row.schema) type) answer in
      let first : MeansHere context tree (gives v) = answered.3.of_tree stand.middle tree type stand.left typed.0 in
      let rest = all_answered ends answered.0 j answers more types (rest_stands i j answered.0 tree more answered.1 stand) typed.1 answered.4 in
      record {
        values = v ∷ rest.values;
        have = (value_has context ends tree type v typed.0 first, rest.have);
        read = λ kinds reading are. read_all (reading_at (slots_of context.row.schema) type) reading answer rest.values answers kinds are (λ others are. rest.read others reading are);
        mean = λ Goes o given. (gives v, (first, rest.mean (λ values. Goes (v ∷ values)) o given));
      }

  module _ (names : OneName) (place : ℕ) (function : Function) (here : HasKind context.list place (NodeKind.Call function)) (own : ℕ) (is_own : IsStopOf context.list place own) where
    -- what the call takes, of whatever tree it stands for
    pub typed_call : (asked : List ℕ) (types : List ExprType) (type : ExprType) → IsNamed function asked → CallTyped asked types type → FunctionTyped function types type
    typed_call asked types type named typed =
        subst (λ (f : Function). FunctionTyped f types type) (names typed.function function asked typed.named named) typed.typed

    pub own_stop : (stop : ℕ) (tree : Tree) → StandsHere context place stop tree → stop ≡ own
    own_stop stop tree stands = stops_there context place stop own tree stands is_own

    some_argument : (i j : ℕ) (trees : Trees) (types : List ExprType) → 1 ≤ length types → TypedAll context trees types → StandsAll context i j trees → ¬ (i ≡ j)
    some_argument i j no_trees [] some typed stand same = omega arith
    some_argument i j no_trees (type ∷ types) some typed stand same = typed
    some_argument i j (more_trees tree more) types some typed stand same = no_more i j tree more stand same

    -- it has an argument
    pub first_argument : PartStands context place → ¬ (place + 1 ≡ own)
    first_argument part =
        by_kind context place (NodeKind.Call function) here (λ stop tree. ¬ (place + 1 ≡ own))
        (λ asked arguments named later stop from to stands same.
        let typed = stands.top.typed in
        let takes = typed_call asked typed.types _ named typed.call_typed in
        let e : stop ≡ own = own_stop stop (node from to (call asked arguments)) stands in
        some_argument (place + 1) stop arguments typed.types (omega (arith, takes.count.least, some_taken function later)) typed.arguments_typed stands.children (same ∙ sym e))
        part.stop part.tree part.stands

    -- the next argument
    pub argument_stands : (at : ℕ) (answers : List Datum) → PartStands context place → AllAnswered context (place + 1) at own answers → ¬ (at ≡ own) → PartStands context at
    argument_stands at answers part answered behind =
        by_kind context place (NodeKind.Call function) here (λ stop tree. PartStands context at)
        (λ asked arguments named later stop from to stands.
        let e : stop ≡ own = own_stop stop (node from to (call asked arguments)) stands in
        next_stands (place + 1) at own answers arguments (subst (λ (s : ℕ). StandsAll context (place + 1) s arguments) e stands.children) answered behind)
        part.stop part.tree part.stands

    pub argument_behind : (at : ℕ) (answers : List Datum) → PartStands context place → AllAnswered context (place + 1) at own answers → place < at
    argument_behind at answers part answered =
        by_kind context place (NodeKind.Call function) here (λ stop tree. place < at)
        (λ asked arguments named later stop from to stands.
        let e : stop ≡ own = own_stop stop (node from to (call asked arguments)) stands in
        let a : place + 1 ≤ at = answered_further (place + 1) at own answers arguments (subst (λ (s : ℕ). StandsAll context (place + 1) s arguments) e stands.children) answered in
        omega arith)
        part.stop part.tree part.stands

    pub argument_faults : (at : ℕ) (answers : List Datum) (fault : EvalFault) → AllAnswered context (place + 1) at own answers → ¬ (at ≡ own)
        → AnswersAtPlace context at (λ type. fault_outcome fault) → AnswersAtPlace context place (λ type. fault_outcome fault)
    argument_faults at answers fault answered behind faults = record {
      of_tree = λ stop tree type stands typed.
          by_kind context place (NodeKind.Call function) here (λ stop tree. TypedHere context tree type → Reports (TakesMemory tree) (MeansHere context tree) (fault_outcome fault))
          (λ asked arguments named later stop from to stands typed.
          let whole = node from to (call asked arguments) in
          let e : stop ≡ own = own_stop stop whole stands in
          reports_there (fault_outcome fault) (TakesMemory whole) (TakesMemory whole) (MeanAll context arguments (CallGives context.moment function)) (MeansHere context whole) (λ takes. takes)
          (λ o given. record { function = function; named = named; given = given })
          (next_faults (place + 1) at own answers arguments typed.types fault (CallGives context.moment function) (TakesMemory whole)
          (subst (λ (s : ℕ). StandsAll context (place + 1) s arguments) e stands.children) typed.arguments_typed answered behind faults (child_takes whole)))
          stop tree stands typed;
      of_number = λ number stop tree type there. absurd (no_number context place (NodeKind.Call function) tt here number stop tree there);
    }

    -- no function takes more than three
    pub third_is_last : (at : ℕ) (first second : Datum) → PartStands context place → AllAnswered context (place + 1) at own (first ∷ second ∷ []) → ¬ (at ≡ own) → IsStopOf context.list at own
    third_is_last at first second part answered behind =
        by_kind context place (NodeKind.Call function) here (λ stop tree. IsStopOf context.list at own)
        (λ asked arguments named later stop from to stands.
        let typed = stands.top.typed in
        let e : stop ≡ own = own_stop stop (node from to (call asked arguments)) stands in
        let most : length typed.types ≤ length (row_of function).arguments = (typed_call asked typed.types _ named typed.call_typed).count.most in
        let three : length (row_of function).arguments ≤ 3 = at_most_three function in
        next_is_last (place + 1) at own (first ∷ second ∷ []) arguments typed.types (subst (λ (s : ℕ). StandsAll context (place + 1) s arguments) e stands.children) typed.arguments_typed
        (omega arith) answered behind)
        part.stop part.tree part.stands

    module _ (ends : EndsOnceHere context) (answers : List Datum) (answered : AllAnswered context (place + 1) own own answers) where
      -- the function may be applied to what was answered, however that is read
      applied : (asked : List ℕ) (arguments : Trees) (types : List ExprType) (type : ExprType) → Answered arguments types answers → FunctionTyped function types type
          → (reading : Reading) → Applies function (map (datum_val reading) answers)
      applied asked arguments types type all typed reading =
          let applies = applies_of (slots_of context.row.schema) function types type all.values typed all.have in
          subst (Applies function) (all.read (row_of function).arguments reading applies.are) applies

      pub call_applies : PartStands context place → (reading : Reading) → Applies function (map (datum_val reading) answers)
      call_applies part reading =
          by_kind context place (NodeKind.Call function) here (λ stop tree. Applies function (map (datum_val reading) answers))
          (λ asked arguments named later stop from to stands.
          let typed = stands.top.typed in
          let e : stop ≡ own = own_stop stop (node from to (call asked arguments)) stands in
          applied asked arguments typed.types _
          (all_answered ends (place + 1) own answers arguments typed.types (subst (λ (s : ℕ). StandsAll context (place + 1) s arguments) e stands.children) typed.arguments_typed answered)
          (typed_call asked typed.types _ named typed.call_typed) reading)
          part.stop part.tree part.stands

      -- what it makes of these is what the call evaluates to
      pub call_answers : (answer : Result Datum EvalFault)
          → ((r s : Reading) → Reports (MakesText function) (CallGives context.moment function (map (datum_val r) answers)) (answer_outcome (datum_val s) answer))
          → AnswersDatum context place answer
      call_answers answer given = record {
        of_tree = λ stop tree type stands typed.
            by_kind context place (NodeKind.Call function) here
            (λ stop tree. TypedHere context tree type → Reports (TakesMemory tree) (MeansHere context tree) (answer_outcome (datum_val (reading_at (slots_of context.row.schema) type)) answer))
            (λ asked arguments named later stop from to stands typed.
            let whole = node from to (call asked arguments) in
            let slots = slots_of context.row.schema in
            let e : stop ≡ own = own_stop stop whole stands in
            let all = all_answered ends (place + 1) own answers arguments typed.types (subst (λ (s : ℕ). StandsAll context (place + 1) s arguments) e stands.children) typed.arguments_typed answered in
            let applies = applies_of slots function typed.types type all.values (typed_call asked typed.types type named typed.call_typed) all.have in
            let read = all.read (row_of function).arguments (reading_at slots type) applies.are in
            reports_there (answer_outcome (datum_val (reading_at slots type)) answer) (MakesText function) (TakesMemory whole)
            (CallGives context.moment function (map (datum_val (reading_at slots type)) answers)) (MeansHere context whole) (call_takes function asked arguments from to named)
            (λ o is. record {
              function = function;
              named = named;
              given = all.mean (CallGives context.moment function) o (subst (λ (vs : List Val). CallGives context.moment function vs o) (sym read) is);
            })
            (given (reading_at slots type) (reading_at slots type)))
            stop tree stands typed;
        of_number = λ number stop tree type there. absurd (no_number context place (NodeKind.Call function) tt here number stop tree there);
      }

      -- so is an outcome that no answer reports
      pub call_gives : (reported : Outcome) → ((r : Reading) → CallGives context.moment function (map (datum_val r) answers) reported) → AnswersAtPlace context place (λ type. Some reported)
      call_gives reported given = record {
        of_tree = λ stop tree type stands typed.
            by_kind context place (NodeKind.Call function) here (λ stop tree. TypedHere context tree type → MeansHere context tree reported)
            (λ asked arguments named later stop from to stands typed.
            let whole = node from to (call asked arguments) in
            let slots = slots_of context.row.schema in
            let e : stop ≡ own = own_stop stop whole stands in
            let all = all_answered ends (place + 1) own answers arguments typed.types (subst (λ (s : ℕ). StandsAll context (place + 1) s arguments) e stands.children) typed.arguments_typed answered in
            let applies = applies_of slots function typed.types type all.values (typed_call asked typed.types type named typed.call_typed) all.have in
            let read = all.read (row_of function).arguments (reading_at slots type) applies.are in
            record {
              function = function;
              named = named;
              given = all.mean (CallGives context.moment function) reported
                  (subst (λ (vs : List Val). CallGives context.moment function vs reported) (sym read) (given (reading_at slots type)));
            })
            stop tree stands typed;
        of_number = λ number stop tree type there. absurd (no_number context place (NodeKind.Call function) tt here number stop tree there);
      }
