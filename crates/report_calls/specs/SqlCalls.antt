-- A filter as conditions of SQL: by a form, which is a dialect and how the table stores entities, and by lines about the
-- table.
use Rattle.std.specs.Prelude.{◌≡◌, ℕ, IsSomeAnd, IsUtf8, List, [], Bool, true, false, None, IfNone, IfSome, codes}
use Rattle.csdl_schema.specs.SchemaModel.{properties_at}
use Rattle.edm_values.specs.MomentLiteral.{MomentValue}
use Rattle.edm_values.specs.MomentParts.{MomentParts}
use Rattle.odata_checked_filter.specs.Calls.{UsesNow}
use Rattle.odata_checked_filter.specs.Filter.{Filter, tree_of_filter}
use Rattle.odata_sql.specs.Conditions.{FaultsIt, IsItsCode, KeepsIt}
use Rattle.odata_sql.specs.JsonText.{IsTextOf}
use Rattle.odata_sql.specs.Nesting.{ExceedsLevels}
use Rattle.odata_sql.specs.Refusals.{IsNulFree, IsTooDeep}
use Rattle.odata_sql.specs.Translation.{CanFault, NeverFaults, Says, table_of}
use Rattle.odata_sql.specs.declared.translation.Conditions.{Conditions}
use Rattle.sql_tables.specs.Columns.{AreColumns, AreKnown}
use Rattle.sql_tables.specs.Forms.{form_numbered}
use Rattle.sql_tables.specs.Lines.{after_line, first_line, lines_of}
use Rattle.sql_tree.specs.TableModel.{StorageModel, in_columns, in_document}
use Rattle.sql_tree.specs.declared.dialect.Dialect.{Dialect}
use Rattle.call_handles.specs.Kinds.{IsFilterKind}
use Rattle.call_handles.specs.declared.call_fault.Fault.{Fault}
use Rattle.call_handles.specs.declared.handle.Handle.{Handle}

-- how a table stores entities, by what follows the first line: by the lines there, or in a column of that name, which
-- is `doc` where none is given
abbrev pub IsStoredBy : Bool → Filter → List ℕ → StorageModel → Type 0
IsStoredBy true filter names (in_columns columns) =
    AreKnown (properties_at filter.schema filter.filtered) (lines_of names)
    × AreColumns (properties_at filter.schema filter.filtered) (lines_of names) columns
IsStoredBy false filter [] storage = storage ≡ in_document (codes "doc")
IsStoredBy false filter names storage = storage ≡ in_document names
IsStoredBy by_columns filter names storage = ⊥

-- ---- conditions

-- the moment that the first line spells; any where it is empty and the filter asks for none
abbrev pub IsNowBy : Filter → List ℕ → MomentParts → Type 0
IsNowBy filter [] now = ¬ UsesNow (tree_of_filter filter)
IsNowBy filter line now = MomentValue line now

-- the conditions say of each row what the filter does
pub record HasConditions
    (filter : Filter) (storage : StorageModel) (dialect : Dialect) (now : MomentParts) (conditions : Conditions)
    : Type 0 where
  pub outcome : Says filter now dialect (table_of filter storage) conditions.outcome IsItsCode
  pub keep : Says filter now dialect (table_of filter storage) conditions.keep KeepsIt
  pub fault : IfSome conditions.fault (λ s. Says filter now dialect (table_of filter storage) s FaultsIt)
  pub no_fault : IfNone conditions.fault (NeverFaults filter now)
  pub can_fault : IfSome conditions.fault (λ _. CanFault filter)
  pub levels : ¬ ExceedsLevels filter.list.nodes

-- the conditions of a filter over a table, by what follows the first line
abbrev pub HasTableSql : Filter → Dialect → Bool → List ℕ → MomentParts → Conditions → Type 0
HasTableSql filter dialect by_columns names now conditions =
    (storage : StorageModel) × IsStoredBy by_columns filter names storage
    × HasConditions filter storage dialect now conditions

abbrev pub HasSqlBy : Filter → Dialect → Bool → List ℕ → Conditions → Type 0
HasSqlBy filter dialect by_columns how conditions =
    (now : MomentParts) × IsNowBy filter (first_line how) now
    × HasTableSql filter dialect by_columns (after_line how) now conditions

-- those of the filter that a handle is, in the dialect of the form
abbrev pub HasSql : Handle → ℕ → List ℕ → Dialect → Conditions → Type 0
HasSql (Handle.Filter filter) form how dialect conditions =
    IsSomeAnd (form_numbered form) (λ f. (dialect ≡ f.0) × HasSqlBy filter f.0 f.1 how conditions)
HasSql given form how dialect conditions = ⊥

-- the text is that of such conditions
pub record IsSqlOf (given : Handle) (form : ℕ) (how text : List ℕ) : Type 0 where
  pub dialect : Dialect
  pub conditions : Conditions
  pub right : HasSql given form how dialect conditions
  pub text_is : IsTextOf dialect conditions text

-- ---- why there are none

-- the first line spells no moment, or is empty where the filter asks for one
abbrev pub IsNoNow : Filter → List ℕ → Fault → Type 0
IsNoNow filter line Fault.NotAMoment = (now : MomentParts) → ¬ MomentValue line now
IsNoNow filter line Fault.MomentNeeded = (line ≡ []) × UsesNow (tree_of_filter filter)
IsNoNow filter line fault = ⊥

-- a literal or a name has U+0000; the filter nests over 100 levels, or a tree that says them nests too deeply for the
-- engine, and the filter is not small; or memory ends
abbrev pub IsNoConditions : Filter → StorageModel → Dialect → MomentParts → Fault → Type 0
IsNoConditions filter storage dialect now Fault.Unsayable = ¬ IsNulFree filter storage
IsNoConditions filter storage dialect now Fault.TooDeep = IsTooDeep filter now dialect
IsNoConditions filter storage dialect now Fault.Memory = Unit {0}
IsNoConditions filter storage dialect now fault = ⊥

-- the same over a table that stores entities so, or a line after the first is about no property
abbrev pub IsNoTableSql : Filter → Dialect → Bool → List ℕ → MomentParts → Fault → Type 0
IsNoTableSql filter dialect true names now Fault.UnknownColumn =
    ¬ AreKnown (properties_at filter.schema filter.filtered) (lines_of names)
IsNoTableSql filter dialect by_columns names now Fault.Memory = Unit {0}
IsNoTableSql filter dialect by_columns names now fault =
    (storage : StorageModel) × IsStoredBy by_columns filter names storage
    × IsNoConditions filter storage dialect now fault

abbrev pub IsNoSqlBy : Filter → Dialect → Bool → List ℕ → Fault → Type 0
IsNoSqlBy filter dialect by_columns how fault =
    (now : MomentParts) × IsNowBy filter (first_line how) now
    × IsNoTableSql filter dialect by_columns (after_line how) now fault

abbrev pub IsNoSql : Handle → ℕ → List ℕ → Fault → Type 0
IsNoSql given form how Fault.OtherKind = ¬ IsFilterKind given
IsNoSql (Handle.Filter filter) form how Fault.NotUtf8 = ¬ IsUtf8 how
IsNoSql (Handle.Filter filter) form how Fault.UnknownNumber = form_numbered form ≡ None
IsNoSql (Handle.Filter filter) form how Fault.NotAMoment = IsNoNow filter (first_line how) Fault.NotAMoment
IsNoSql (Handle.Filter filter) form how Fault.MomentNeeded = IsNoNow filter (first_line how) Fault.MomentNeeded
IsNoSql (Handle.Filter filter) form how fault =
    IsSomeAnd (form_numbered form) (λ f. IsNoSqlBy filter f.0 f.1 how fault)
IsNoSql given form how fault = ⊥
