-- From what is known of an entity, which may lack what was passed, to what the JSON of its row costs.
use mathlib.Core.Path.{fun_ext}
use Rattle.std.proofs.Common.{◌≡◌, ◌≢◌, ◌⊎◌, inl, inr, ℕ, List, [], refl, slice_get, sym, ap, ◌∙◌, subst, IfSome}
use Rattle.serde_json.specs.Data.{Data}
use Rattle.edm_values.specs.MomentParts.{MomentParts}
use Rattle.edm_values.specs.Val.{Val, FieldVal, fields}
use Rattle.csdl_schema.specs.ExpansionView.{paths_in}
use Rattle.csdl_schema.specs.PathSet.{PropertyPath}
use Rattle.csdl_schema.specs.SchemaModel.{SchemaModel, slots_of, type_name_at}
use Rattle.edm_entities.specs.Fits.{Fits}
use Rattle.edm_entities.specs.Row.{Row, value_of}
use Rattle.edm_rows.specs.RowReading.{IsLineBut, Names}
use Rattle.odata_checked_filter.specs.Filter.{Filter, slots_for_filter, tree_of_filter}
use Rattle.odata_checked_filter.specs.declared.checked_node.NodeKind.{NodeKind}
use Rattle.odata_filter_operations.specs.Outcome.{Outcome}
use Rattle.odata_meaning.specs.Costs.{Costs}
use Rattle.odata_eval.specs.CostsOn.{CostsOn, KeepsBound}
use Rattle.odata_meaning.specs.Means.{Means}
use Rattle.odata_filter_operations.specs.declared.eval_fault.EvalFault.{EvalFault}
use Rattle.odata_eval.specs.declared.verdict.Verdict.{Verdict}
use Rattle.std.specs.Prelude.{Option, Result}
use Rattle.row_judges.specs.RowAnswer.{PassesNone}
use Rattle.row_judges.specs.RowCosts.{FilterCosts, HasCost}
use Rattle.edm_rows.proofs.AlikeValues.{alike_back}
use Rattle.row_judges.proofs.RowLemmas.AlikeCosts.{costs_follow}
use Rattle.row_judges.proofs.RowLemmas.AlikeMeans.{no_variables}
use Rattle.row_judges.proofs.RowLemmas.RowJudges.{IsRowOf}
use Rattle.row_judges.proofs.RowLemmas.RowsBut.{IsRowBut, fits_but, of_line, row_but, tree_none}

-- an entity with what the filter needs of a line, on which it costs what it costs on the line's value
pub record IsRowCosting (filter : Filter) (now : MomentParts) (json : Data) (row : Row) : Type 0 where
  pub reported : IsRowBut filter now json row
  pub whole : Val
  pub fits : Fits (slots_for_filter filter) (type_name_at filter.schema filter.filtered) json whole
  pub costs : (n : ℕ) → CostsOn row now (tree_of_filter filter) n → FilterCosts filter now whole n
  pub costed : (n : ℕ) → FilterCosts filter now whole n → CostsOn row now (tree_of_filter filter) n

-- ---- a whole entity

-- the same at the row's schema and type as at the filter's
module _ (filter : Filter) (row : Row) (same_schema : row.schema ≡ filter.schema) (same_type : row.type_id ≡ filter.filtered) where
  abbrev There : (SchemaModel → ℕ → Type 0) → Type 0
  There Holds = Holds row.schema row.type_id

  abbrev Here : (SchemaModel → ℕ → Type 0) → Type 0
  Here Holds = Holds filter.schema filter.filtered

  moved : (Holds : SchemaModel → ℕ → Type 0) → There Holds → Here Holds
  moved Holds holds = subst (λ n. Holds filter.schema n) same_type (subst (λ s. Holds s row.type_id) same_schema holds)

  moved_back : (Holds : SchemaModel → ℕ → Type 0) → Here Holds → There Holds
  moved_back Holds holds = subst (λ s. Holds s row.type_id) (sym same_schema) (subst (λ n. Holds filter.schema n) (sym same_type) holds)

pub whole_costs : (filter : Filter) (now : MomentParts) (json : Data) (row : Row) → IsRowOf filter json row → IsRowCosting filter now json row
whole_costs filter now json row is =
    let tree = tree_of_filter filter in
    let MeansAt : Outcome → SchemaModel → ℕ → Type 0 = λ o s n. Means (slots_of s) (type_name_at s n) now (value_of row) [] tree o in
    let CostsAt : ℕ → SchemaModel → ℕ → Type 0 = λ k s n. Costs (slots_of s) (type_name_at s n) now (value_of row) [] tree k in
    record {
      reported = record {
        same_schema = is.same_schema;
        same_type = is.same_type;
        whole = value_of row;
        fits = is.fits;
        means = λ o plain. moved filter row is.same_schema is.same_type (MeansAt o);
        meant = λ o holds. (o, (moved_back filter row is.same_schema is.same_type (MeansAt o) holds, λ plain. refl));
      };
      whole = value_of row;
      fits = is.fits;
      costs = λ k. moved filter row is.same_schema is.same_type (CostsAt k);
      costed = λ k. moved_back filter row is.same_schema is.same_type (CostsAt k);
    }

-- ---- an entity that lacks what was passed

pub kept_costs : (filter : Filter) (now : MomentParts) (line : List ℕ) (Passed : Names) (row : Row) → row.schema ≡ filter.schema → row.type_id ≡ filter.filtered
    → ((path : PropertyPath) → paths_in row.expansion path ≡ paths_in filter.expansion path) → PassesNone filter Passed → (read : IsLineBut line Passed row) → IsRowCosting filter now read.json row
kept_costs filter now line Passed row schema_is type_is paths passes read =
    let tree = tree_of_filter filter in
    let none = tree_none filter Passed passes in
    let slots = slots_of row.schema in
    let root = type_name_at row.schema row.type_id in
    let At : ℕ → SchemaModel → ℕ → Type 0 = λ k s n. Costs (slots_of s) (type_name_at s n) now read.whole [] tree k in
    record {
      reported = row_but filter now read.json Passed row schema_is type_is paths passes (of_line line Passed row read);
      whole = read.whole;
      fits = fits_but filter read.json Passed row schema_is type_is paths (of_line line Passed row read);
      costs = λ k holds. moved filter row schema_is type_is (At k) (costs_follow Passed slots root now (value_of row) read.whole read.alike [] [] no_variables tree none k holds);
      costed = λ k holds.
          costs_follow Passed slots root now read.whole (value_of row) (alike_back Passed (value_of row) read.whole read.alike) [] [] no_variables tree none k (moved_back filter row schema_is type_is (At k) holds);
    }

-- ---- its cost

pub cost_of_row : (filter : Filter) (now : MomentParts) (json : Data) (row : Row) (most : ℕ) (answer : Result (Option Verdict) EvalFault) → IsRowCosting filter now json row
    → (bound : KeepsBound row now (tree_of_filter filter) most answer) → HasCost filter now json bound.cost
cost_of_row filter now json row most answer is bound =
    record { value = is.whole; fits = is.fits; related = is.costs bound.cost bound.related; only = λ other costs. bound.only other (is.costed other costs) }
