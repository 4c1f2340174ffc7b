-- The outcome of a handle that is a filter, from that of the filter, of its table and of the moment.
use Rattle.std.proofs.Common.{◌≡◌, ◌↔◌, inl, inr, ℕ, suc, Bool, true, false, List, [], ◌∷◌, Result, Ok, Err, Option, Some, None, MatchResult, String, Global, Bor, string_bytes, map, length, refl, sym, ap, subst, arith}
use Rattle.std.proofs.lemmas.Bool.Decides.{eqb_tells}
use Rattle.std.specs.Prelude.{IfErr, IfOk, IsSomeAnd, IsTrue, codes, ◌==◌}
use Rattle.csdl_schema.specs.SchemaModel.{PropertyModel, SchemaModel, properties_at}
use Rattle.edm_values.specs.MomentLiteral.{MomentValue}
use Rattle.edm_values.specs.MomentParts.{MomentParts}
use Rattle.odata_checked_filter.specs.Calls.{UsesNow}
use Rattle.odata_checked_filter.specs.Filter.{Filter, IsFilter, tree_of_filter}
use Rattle.odata_sql.specs.JsonText.{IsTextOf}
use Rattle.odata_sql.specs.Refusals.{ColumnsSuffice, HasColumns}
use Rattle.odata_sql.specs.declared.translation.Conditions.{Conditions}
use Rattle.sql_tree.specs.TableModel.{StorageModel, in_columns, in_document}
use Rattle.sql_tree.specs.declared.dialect.Dialect.{Dialect}
use Rattle.call_handles.specs.Moments.{IsMomentFor}
use Rattle.report_calls.specs.SqlCalls.{HasConditions, HasSql, HasSqlBy, HasTableSql, IsNoConditions, IsNoNow, IsNoSql, IsNoSqlBy, IsNoTableSql, IsNowBy, IsSqlOf, IsStoredBy}
use Rattle.report_calls.specs.SqlHandles.{HoldsConditions, IsSqlHandle, conditions_held}
use Rattle.report_calls.specs.declared.sql_calls.Translated.{Translated}
use Rattle.sql_tables.specs.Columns.{AreColumns, AreKnown}
use Rattle.sql_tables.specs.Forms.{form_numbered}
use Rattle.sql_tables.specs.Lines.{after_line, first_line, lines_of}
use Rattle.call_handles.specs.declared.call_fault.Fault.{Fault}
use Rattle.call_handles.specs.declared.handle.ConditionsHandle.{ConditionsHandle}
use Rattle.call_handles.specs.declared.handle.Handle.{Handle}

abbrev pub IsSqlOutcome : Handle → ℕ → List ℕ → Result Translated Fault → Type 0
IsSqlOutcome given form how result =
    MatchResult result (λ it. HasSql given form how it.dialect it.conditions) (IsNoSql given form how)

pub of_filter : (given : Handle) (held checked : Filter) (form : ℕ) (bytes how : List ℕ) (result : Result Translated Fault) → given ≡ Handle.Filter held → checked ≡ held → how ≡ bytes
    → IsSqlOutcome (Handle.Filter checked) form how result → IsSqlOutcome given form bytes result
of_filter given held checked form bytes how result is of_held same right =
    subst (λ (g : Handle). IsSqlOutcome g form bytes result) (sym is)
    (subst (λ (f : Filter). IsSqlOutcome (Handle.Filter f) form bytes result) of_held (subst (λ (h : List ℕ). IsSqlOutcome (Handle.Filter checked) form h result) same right))

-- ---- the moment

pub empty_line : (line : List ℕ) (empty : Bool) → empty ≡ (length line == 0) → empty ≡ true → line ≡ []
empty_line [] empty is holds = refl
empty_line (c ∷ cs) empty is holds =
    elim (eqb_tells (length (c ∷ cs)) 0) [
      | inl same ↦ absurd (omega (arith, same.1))
      | inr other ↦ let not_zero = other.0 in absurd (cc)
    ]

pub now_of_line : (filter : Filter) (line : List ℕ) (now : MomentParts) (empty : Bool) → empty ≡ (length line == 0) → empty ≡ false → MomentValue line now → IsNowBy filter line now
now_of_line filter [] now empty is other value = let holds : empty ≡ true = is in absurd (cc)
now_of_line filter (c ∷ cs) now empty is other value = value

pub now_or_none : (filter : Filter) (line : List ℕ) (result : Result MomentParts Fault) → line ≡ [] → IfOk result (IsMomentFor filter None) → IfErr result (λ fault. fault ≡ Fault.MomentNeeded)
    → IfErr result (λ _. UsesNow (tree_of_filter filter)) → MatchResult result (IsNowBy filter line) (IsNoNow filter line)
now_or_none filter line (Ok now) empty moment needed asks = subst (λ (l : List ℕ). IsNowBy filter l now) (sym empty) moment
now_or_none filter line (Err fault) empty moment needed asks = subst (IsNoNow filter line) (sym needed) (empty, asks)

pub no_now : (filter : Filter) (form : ℕ) (how line : List ℕ) (fault : Fault) → line ≡ first_line how → IsNoNow filter line fault → IsNoSql (Handle.Filter filter) form how fault
no_now filter form how line Fault.NotAMoment first none = subst (λ (l : List ℕ). IsNoNow filter l Fault.NotAMoment) first none
no_now filter form how line Fault.MomentNeeded first none = subst (λ (l : List ℕ). IsNoNow filter l Fault.MomentNeeded) first none
no_now filter form how line fault first none = absurd none

-- ---- the table

abbrev pub IsTableOutcome : Filter → Dialect → Bool → List ℕ → MomentParts → Result Conditions Fault → Type 0
IsTableOutcome filter dialect by_columns names now result =
    MatchResult result (λ found. HasTableSql filter dialect by_columns names now found) (IsNoTableSql filter dialect by_columns names now)

abbrev HasThem : Filter → StorageModel → Dialect → MomentParts → Result Conditions Fault → Type 0
HasThem filter storage dialect now result =
    MatchResult result (λ found. HasConditions filter storage dialect now found) (IsNoConditions filter storage dialect now)

none_over : (filter : Filter) (storage : StorageModel) (dialect : Dialect) (by_columns : Bool) (names : List ℕ) (now : MomentParts) (fault : Fault) → IsStoredBy by_columns filter names storage
    → IsNoConditions filter storage dialect now fault → IsNoTableSql filter dialect by_columns names now fault
none_over filter storage dialect true names now Fault.UnknownColumn stored none = absurd none
none_over filter storage dialect true names now Fault.Memory stored none = tt
none_over filter storage dialect true names now fault stored none = (storage, stored, none)
none_over filter storage dialect false names now Fault.Memory stored none = tt
none_over filter storage dialect false names now fault stored none = (storage, stored, none)

over : (filter : Filter) (storage : StorageModel) (dialect : Dialect) (by_columns : Bool) (names : List ℕ) (now : MomentParts) (result : Result Conditions Fault)
    → IsStoredBy by_columns filter names storage → HasThem filter storage dialect now result → IsTableOutcome filter dialect by_columns names now result
over filter storage dialect by_columns names now (Ok found) stored has = (storage, stored, has)
over filter storage dialect by_columns names now (Err fault) stored has = none_over filter storage dialect by_columns names now fault stored has

pub not_known : (filter : Filter) (dialect : Dialect) (now : MomentParts) (schema : SchemaModel) (id : ℕ) (lines : List ℕ) (known : Bool) → schema ≡ filter.schema → id ≡ filter.filtered
    → IsTrue known ↔ AreKnown (properties_at schema id) (lines_of lines) → known ≡ false → IsNoTableSql filter dialect true lines now Fault.UnknownColumn
not_known filter dialect now schema id lines known same at is unknown =
    λ (all : AreKnown (properties_at filter.schema filter.filtered) (lines_of lines)).
    let holds = is.1 (subst (λ (s : SchemaModel). AreKnown (properties_at s id) (lines_of lines)) (sym same)
    (subst (λ (n : ℕ). AreKnown (properties_at filter.schema n) (lines_of lines)) (sym at) all)) in
    absurd (cc)

-- the names of columns that a slice borrows
abbrev pub names_in : List (Bor (List ℕ)) → List (List ℕ)
names_in slice = map (λ (name : Bor (List ℕ)). name.now) slice

columns_many : (properties : List PropertyModel) (lines columns : List (List ℕ)) → AreColumns properties lines columns → length columns ≡ length properties
columns_many [] lines columns none = ap length none
columns_many (p ∷ properties) lines [] columns = absurd columns
columns_many (p ∷ properties) lines (column ∷ columns) all = ap suc (columns_many properties lines columns all.1)

-- each property has its column
pub each_stored : (filter : Filter) (schema : SchemaModel) (id : ℕ) (lines : List ℕ) (slice items : List (Bor (List ℕ))) → ColumnsSuffice → IsFilter filter → schema ≡ filter.schema → id ≡ filter.filtered
    → slice ≡ items → AreColumns (properties_at schema id) (lines_of lines) (names_in items) → HasColumns filter.list.nodes (in_columns (names_in slice))
each_stored filter schema id lines slice items suffice right same at whole columns =
    let many : length (names_in items) ≡ length (properties_at schema id) = columns_many (properties_at schema id) (lines_of lines) (names_in items) columns in
    let as_many : length (names_in slice) ≡ length (properties_at filter.schema filter.filtered) =
    subst (λ (n : ℕ). length (names_in slice) ≡ length (properties_at filter.schema n)) at
    (subst (λ (s : SchemaModel). length (names_in slice) ≡ length (properties_at s id)) same
    (subst (λ (xs : List (Bor (List ℕ))). length (names_in xs) ≡ length (properties_at schema id)) (sym whole) many)) in
    suffice filter (names_in slice) right as_many

pub over_columns : (filter : Filter) (schema : SchemaModel) (id : ℕ) (lines : List ℕ) (dialect : Dialect) (now : MomentParts) (slice items : List (Bor (List ℕ))) (result : Result Conditions Fault)
    → schema ≡ filter.schema → id ≡ filter.filtered → slice ≡ items → AreKnown (properties_at schema id) (lines_of lines) → AreColumns (properties_at schema id) (lines_of lines) (names_in items)
    → HasThem filter (in_columns (names_in slice)) dialect now result → IsTableOutcome filter dialect true lines now result
over_columns filter schema id lines dialect now slice items result same at whole known columns has =
    let borrowed : AreColumns (properties_at schema id) (lines_of lines) (names_in slice) =
    subst (λ (xs : List (Bor (List ℕ))). AreColumns (properties_at schema id) (lines_of lines) (names_in xs)) (sym whole) columns in
    let stored : AreKnown (properties_at filter.schema filter.filtered) (lines_of lines) × AreColumns (properties_at filter.schema filter.filtered) (lines_of lines) (names_in slice) =
    subst (λ (n : ℕ). AreKnown (properties_at filter.schema n) (lines_of lines) × AreColumns (properties_at filter.schema n) (lines_of lines) (names_in slice)) at
    (subst (λ (s : SchemaModel). AreKnown (properties_at s id) (lines_of lines) × AreColumns (properties_at s id) (lines_of lines) (names_in slice)) same (known, borrowed)) in
    over filter (in_columns (names_in slice)) dialect true lines now result stored has

pub in_doc : (filter : Filter) (name : List ℕ) (dialect : Dialect) (now : MomentParts) (result : Result Conditions Fault) → name ≡ [] → HasThem filter (in_document (codes "doc")) dialect now result
    → IsTableOutcome filter dialect false name now result
in_doc filter name dialect now result empty has =
    subst (λ (n : List ℕ). IsTableOutcome filter dialect false n now result) (sym empty) (over filter (in_document (codes "doc")) dialect false [] now result refl has)

pub in_named : (filter : Filter) (name : List ℕ) (dialect : Dialect) (now : MomentParts) (result : Result Conditions Fault) (empty : Bool) → empty ≡ (length name == 0) → empty ≡ false
    → HasThem filter (in_document name) dialect now result → IsTableOutcome filter dialect false name now result
in_named filter [] dialect now result empty is other has = let holds : empty ≡ true = is in absurd (cc)
in_named filter (c ∷ cs) dialect now result empty is other has = over filter (in_document (c ∷ cs)) dialect false (c ∷ cs) now result refl has

-- ---- the conditions

no_table : (filter : Filter) (form : ℕ) (how : List ℕ) (dialect : Dialect) (by_columns : Bool) (now : MomentParts) (fault : Fault) → form_numbered form ≡ Some (dialect, by_columns)
    → IsNowBy filter (first_line how) now → IsNoTableSql filter dialect by_columns (after_line how) now fault → IsNoSql (Handle.Filter filter) form how fault
no_table filter form how dialect true now Fault.OtherKind numbered by none = absurd none.2
no_table filter form how dialect true now Fault.NotUtf8 numbered by none = absurd none.2
no_table filter form how dialect true now Fault.UnknownNumber numbered by none = absurd none.2
no_table filter form how dialect true now Fault.NotAMoment numbered by none = absurd none.2
no_table filter form how dialect true now Fault.MomentNeeded numbered by none = absurd none.2
no_table filter form how dialect true now fault numbered by none =
    subst (λ (f : Option (Dialect × Bool)). IsSomeAnd f (λ g. IsNoSqlBy filter g.0 g.1 how fault)) (sym numbered) (now, by, none)
no_table filter form how dialect false now Fault.OtherKind numbered by none = absurd none.2
no_table filter form how dialect false now Fault.NotUtf8 numbered by none = absurd none.2
no_table filter form how dialect false now Fault.UnknownNumber numbered by none = absurd none.2
no_table filter form how dialect false now Fault.NotAMoment numbered by none = absurd none.2
no_table filter form how dialect false now Fault.MomentNeeded numbered by none = absurd none.2
no_table filter form how dialect false now fault numbered by none =
    subst (λ (f : Option (Dialect × Bool)). IsSomeAnd f (λ g. IsNoSqlBy filter g.0 g.1 how fault)) (sym numbered) (now, by, none)

-- what was found, with its dialect
abbrev pub IsInDialect : Dialect → Result Conditions Fault → Result Translated Fault → Type 0
IsInDialect dialect found result = MatchResult result (λ it. (it.dialect ≡ dialect) × (found ≡ Ok it.conditions)) (λ fault. found ≡ Err fault)

pub table_sql : (filter : Filter) (form : ℕ) (how line names : List ℕ) (dialect : Dialect) (by_columns : Bool) (now : MomentParts) (found : Result Conditions Fault) (result : Result Translated Fault)
    → form_numbered form ≡ Some (dialect, by_columns) → line ≡ first_line how → names ≡ after_line how → IsNowBy filter line now
    → IsTableOutcome filter dialect by_columns names now found → IsInDialect dialect found result → IsSqlOutcome (Handle.Filter filter) form how result
table_sql filter form how line names dialect by_columns now found (Ok it) numbered first after by table is =
    let here : IsTableOutcome filter dialect by_columns names now (Ok it.conditions) = subst (λ (r : Result Conditions Fault). IsTableOutcome filter dialect by_columns names now r) is.1 table in
    subst (λ (f : Option (Dialect × Bool)). IsSomeAnd f (λ g. (it.dialect ≡ g.0) × HasSqlBy filter g.0 g.1 how it.conditions)) (sym numbered)
    (is.0, (now, subst (λ (l : List ℕ). IsNowBy filter l now) first by, subst (λ (n : List ℕ). HasTableSql filter dialect by_columns n now it.conditions) after here))
table_sql filter form how line names dialect by_columns now found (Err fault) numbered first after by table is =
    let here : IsTableOutcome filter dialect by_columns names now (Err fault) = subst (λ (r : Result Conditions Fault). IsTableOutcome filter dialect by_columns names now r) is table in
    no_table filter form how dialect by_columns now fault numbered (subst (λ (l : List ℕ). IsNowBy filter l now) first by)
    (subst (λ (n : List ℕ). IsNoTableSql filter dialect by_columns n now fault) after here)

-- ---- what becomes of them

-- where there are conditions, memory may still end
out_of_table : (filter : Filter) (dialect : Dialect) (by_columns : Bool) (how : List ℕ) (conditions : Conditions) → HasSqlBy filter dialect by_columns how conditions → IsNoSqlBy filter dialect by_columns how Fault.Memory
out_of_table filter dialect true how conditions has = (has.0, has.1, tt)
out_of_table filter dialect false how conditions has = (has.0, has.1, tt)

out_of_form : (filter : Filter) (found : Option (Dialect × Bool)) (how : List ℕ) (dialect : Dialect) (conditions : Conditions)
    → IsSomeAnd found (λ f. (dialect ≡ f.0) × HasSqlBy filter f.0 f.1 how conditions) → IsSomeAnd found (λ f. IsNoSqlBy filter f.0 f.1 how Fault.Memory)
out_of_form filter (Some f) how dialect conditions has = out_of_table filter f.0 f.1 how conditions has.1
out_of_form filter None how dialect conditions has = absurd has

pub out_of_memory : (given : Handle) (form : ℕ) (how : List ℕ) (dialect : Dialect) (conditions : Conditions) → HasSql given form how dialect conditions → IsNoSql given form how Fault.Memory
out_of_memory (Handle.Filter filter) form how dialect conditions has = out_of_form filter (form_numbered form) how dialect conditions has
out_of_memory given form how dialect conditions has = absurd has

pub as_text : (given : Handle) (form : ℕ) (how : List ℕ) (dialect : Dialect) (conditions : Conditions) (result : Result (String Global) Fault)
    → HasSql given form how dialect conditions → MatchResult result (λ text. IsTextOf dialect conditions (string_bytes text)) (λ fault. fault ≡ Fault.Memory)
    → MatchResult result (λ text. IsSqlOf given form how (string_bytes text)) (IsNoSql given form how)
as_text given form how dialect conditions (Ok text) has is = record { dialect = dialect; conditions = conditions; right = has; text_is = is }
as_text given form how dialect conditions (Err fault) has memory =
    subst (λ (f : Fault). IsNoSql given form how f) (sym memory) (out_of_memory given form how dialect conditions has)

pub as_handle : (given : Handle) (form : ℕ) (how : List ℕ) (dialect : Dialect) (conditions : Conditions) (held : ConditionsHandle) (result : Result Handle Fault)
    → HasSql given form how dialect conditions → held ≡ conditions_held dialect conditions → MatchResult result (HoldsConditions held) (λ fault. fault ≡ Fault.Memory)
    → MatchResult result (λ made. IsSqlHandle given form how made) (IsNoSql given form how)
as_handle given form how dialect conditions held (Ok made) has same holds = record {
  dialect = dialect;
  conditions = conditions;
  right = has;
  holds = subst (λ (h : ConditionsHandle). HoldsConditions h made) same holds;
}
as_handle given form how dialect conditions held (Err fault) has same memory =
    subst (λ (f : Fault). IsNoSql given form how f) (sym memory) (out_of_memory given form how dialect conditions has)
