-- What a filter's whole list evaluates to.
use Rattle.std.proofs.Common.{◌≡◌, ◌∙◌, ℕ, [], Option, Some, None, Result, Err, Bool, List, ap, length, refl, sym, subst}
use Rattle.std.specs.Prelude.{IfSome}
use Rattle.edm_values.specs.MomentParts.{MomentParts}
use Rattle.csdl_schema.specs.SchemaModel.{SchemaModel, slots_of, type_name_at}
use Rattle.edm_entities.specs.Row.{Row, value_of}
use Rattle.odata_checked_filter.specs.Calls.{TakesMemory}
use Rattle.odata_checked_filter.specs.Filter.{Filter, IsFilter, tree_of_filter}
use Rattle.odata_checked_filter.specs.FlatTree.{FlatTree}
use Rattle.odata_checked_filter.specs.Stands.{Stands}
use Rattle.odata_signatures.specs.Typed.{Typed}
use Rattle.odata_filter_operations.specs.declared.eval_fault.EvalFault.{EvalFault}
use Rattle.odata_meaning.specs.Environment.{Environment, scope_of}
use Rattle.odata_meaning.specs.Means.{Means}
use Rattle.odata_meaning.specs.MeansOn.{IsTheOutcome, MeansOn}
use Rattle.filter_context.specs.Frames.{Frame, environment_in}
use Rattle.odata_filter_operations.specs.Outcome.{Outcome}
use Rattle.odata_filter_operations.specs.TruthGives.{truth_val}
use Rattle.odata_filter_operations.specs.FaultView.{fault_outcome}
use Rattle.odata_filter_operations.specs.DatumView.{answer_outcome}
use Rattle.filter_context.specs.private.Place.{TruthStands}
use Rattle.filter_context.specs.private.EvalContext.{EndsOnceHere, MeansHere, StandsHere, TypedHere}
use Rattle.filter_context.specs.private.ContextModel.{ContextModel, environment_of, context_in}
use Rattle.odata_filter_operations.specs.Reports.{Reports}
use Rattle.odata_eval.specs.private.WalkAnswer.{AnswersTruth}

module _ (filter : Filter) (row : Row) (moment : MomentParts) (context : ContextModel) (right : IsFilter filter) (one_schema : filter.schema ≡ row.schema)
    (one_type : filter.filtered ≡ row.type_id) (is_row : context.row ≡ row) (is_moment : context.moment ≡ moment) (is_list : context.list ≡ filter.list) (is_empty : context.frames ≡ []) where
  pub no_variables : environment_of context ≡ []
  no_variables = ap (environment_in context.row.schema) is_empty

  pub whole_stands : StandsHere context 0 (length filter.list.nodes) (tree_of_filter filter)
  whole_stands =
      subst (λ (e : Environment). Stands context.row.schema context.row.type_id (scope_of e) context.list 0 (length filter.list.nodes) (tree_of_filter filter)) (sym no_variables)
      (subst (λ (r : Row). Stands r.schema r.type_id [] context.list 0 (length filter.list.nodes) (tree_of_filter filter)) (sym is_row)
      (subst (λ (l : FlatTree). Stands row.schema row.type_id [] l 0 (length filter.list.nodes) (tree_of_filter filter)) (sym is_list)
      (subst (λ (s : SchemaModel). Stands s row.type_id [] filter.list 0 (length filter.list.nodes) (tree_of_filter filter)) one_schema
      (subst (λ (n : ℕ). Stands filter.schema n [] filter.list 0 (length filter.list.nodes) (tree_of_filter filter)) one_type right.stands))))

  pub whole_typed : TypedHere context (tree_of_filter filter) right.type_of
  whole_typed =
      subst (λ (e : Environment). Typed (slots_of context.row.schema) (type_name_at context.row.schema context.row.type_id) (scope_of e) (tree_of_filter filter) right.type_of) (sym no_variables)
      (subst (λ (r : Row). Typed (slots_of r.schema) (type_name_at r.schema r.type_id) [] (tree_of_filter filter) right.type_of) (sym is_row)
      (subst (λ (s : SchemaModel). Typed (slots_of s) (type_name_at s row.type_id) [] (tree_of_filter filter) right.type_of) one_schema
      (subst (λ (n : ℕ). Typed (slots_of filter.schema) (type_name_at filter.schema n) [] (tree_of_filter filter) right.type_of) one_type right.typed)))

  -- the whole is of type Boolean or Null
  pub top_stands : TruthStands context 0
  top_stands = record {
    stop = length filter.list.nodes;
    tree = tree_of_filter filter;
    stands = whole_stands;
    type_of = right.type_of;
    typed = whole_typed;
    allowed = right.truth;
  }

  -- what it means there is what it means by itself
  means_alone : (o : Outcome) → MeansHere context (tree_of_filter filter) o → MeansOn context.row context.moment (tree_of_filter filter) o
  means_alone o =
      subst (λ (e : Environment). Means (slots_of context.row.schema) (type_name_at context.row.schema context.row.type_id) context.moment (value_of context.row) e (tree_of_filter filter) o) no_variables

  means_here : (o : Outcome) → MeansOn context.row context.moment (tree_of_filter filter) o → MeansHere context (tree_of_filter filter) o
  means_here o =
      subst (λ (e : Environment). Means (slots_of context.row.schema) (type_name_at context.row.schema context.row.type_id) context.moment (value_of context.row) e (tree_of_filter filter) o) (sym no_variables)

  only_reported : EndsOnceHere context → (reported : Option Outcome)
      → Reports (TakesMemory (tree_of_filter filter)) (MeansHere context (tree_of_filter filter)) reported → IfSome reported (IsTheOutcome context.row context.moment (tree_of_filter filter))
  only_reported ends (Some o) related =
      let e = ends (tree_of_filter filter) right.type_of whole_typed in
      record {
        related = means_alone o related;
        only = λ other of_other. e.only other (means_here other of_other) ∙ sym (e.only o related);
      }
  only_reported ends None related = tt

  memory_reported : (fault : EvalFault) (Takes : Type 0) (Means : Outcome → Type 0) → Reports Takes Means (fault_outcome fault) → fault ≡ EvalFault.Memory → Takes
  memory_reported fault Takes Means is same = subst (λ (f : EvalFault). Reports Takes Means (fault_outcome f)) same is

  -- the walk reports running out of memory only where the filter takes memory
  pub top_memory : (fault : EvalFault) → AnswersTruth context 0 (Err fault) → fault ≡ EvalFault.Memory → TakesMemory (tree_of_filter filter)
  top_memory fault answers =
      memory_reported fault (TakesMemory (tree_of_filter filter)) (MeansHere context (tree_of_filter filter))
      (answers.of_tree (length filter.list.nodes) (tree_of_filter filter) right.type_of whole_stands whole_typed)

  -- what the walk answers of it is the filter's one outcome
  pub top_outcome : EndsOnceHere context → (answer : Result (Option Bool) EvalFault)
      → AnswersTruth context 0 answer → IfSome (answer_outcome truth_val answer) (IsTheOutcome row moment (tree_of_filter filter))
  top_outcome ends answer answers =
      subst (λ (r : Row). IfSome (answer_outcome truth_val answer) (IsTheOutcome r moment (tree_of_filter filter))) is_row
      (subst (λ (m : MomentParts). IfSome (answer_outcome truth_val answer) (IsTheOutcome context.row m (tree_of_filter filter))) is_moment
      (only_reported ends (answer_outcome truth_val answer)
      (answers.of_tree (length filter.list.nodes) (tree_of_filter filter) right.type_of whole_stands whole_typed)))

-- a context without variables is its row, its moment and its list
pub context_is : (row : Row) (moment : MomentParts) (list : FlatTree) (context : ContextModel)
    → context.row ≡ row → context.moment ≡ moment → context.list ≡ list → context.frames ≡ [] → context_in row moment list [] ≡ context
context_is row moment list context is_row is_moment is_list is_empty =
    subst (λ (r : Row). context_in r moment list [] ≡ context) is_row
    (subst (λ (m : MomentParts). context_in context.row m list [] ≡ context) is_moment
    (subst (λ (l : FlatTree). context_in context.row context.moment l [] ≡ context) is_list
    (subst (λ (f : List Frame). context_in context.row context.moment context.list f ≡ context) is_empty refl)))
