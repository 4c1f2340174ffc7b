-- What the statements of a whole filter say.
use Rattle.std.proofs.Common.{◌≡◌, ◌≢◌, ◌↔◌, ◌++◌, ◌∷◌, ◌∙◌, [], ℕ, List, Vec, String, Some, Result, Ok, Err, IfErr, IfOk, true, false, length, refl, sym, ap, subst, Bool, IsTrue, ◌<◌, ◌≤◌, arith, inr}
use Rattle.std.specs.Prelude.{◌-◌, ◌^◌, IsSomeAnd, min, slice_get}
use Rattle.std.specs.declared.alloc.Global.{Global}
use Rattle.edm_values.specs.MomentParts.{IsMoment, MomentParts}
use Rattle.csdl_schema.specs.SchemaModel.{slots_of, type_name_at, SchemaModel}
use Rattle.odata_syntax.specs.declared.binary_operator.ComparisonOperator.{ComparisonOperator}
use Rattle.odata_signatures.specs.ExprTypes.{IsBooleanOrNull}
use Rattle.odata_signatures.specs.TypeView.{expr_type}
use Rattle.odata_signatures.specs.Laws.{OneType}
use Rattle.odata_signatures.specs.PreOrder.{pre_order}
use Rattle.odata_checked_filter.specs.Filter.{Filter, IsFilter, tree_of_filter}
use Rattle.odata_checked_filter.specs.FlatTree.{tree_of_nodes}
use Rattle.odata_checked_filter.specs.declared.checked_node.CheckedNode.{CheckedNode}
use Rattle.odata_meaning.specs.EndsOnce.{EndsOnceOnEntities}
use Rattle.filter_context.proofs.Parts.{there_found, some_there}
use Rattle.odata_ranges.specs.Within.{IsWithin}
use Rattle.odata_ranges.specs.declared.range.Range.{Range}
use Rattle.sql_meaning.specs.OneMeaning.{HaveOneMeaning}
use Rattle.odata_sql.specs.Refusals.{HasColumns, IsNulFree, IsTooDeep, NestsTooDeeply, SomeTreeWith, TreeWith, fewest_nodes, most_symbols}
use Rattle.odata_sql.specs.private.Refused.{IsRefused, IsRefusedTree}
use Rattle.odata_sql.specs.private.ShapedTrees.{IsOfShape, IsTextOfShape}
use Rattle.odata_sql.specs.declared.sql_fault.SqlFault.{SqlFault}
use Rattle.sql_tree.specs.TableModel.{TableModel, StorageModel}
use Rattle.sql_tree.specs.Term.{nodes_of, Term}
use Rattle.sql_tree.specs.declared.dialect.Dialect.{Dialect}
use Rattle.sql_tree.specs.declared.sql_node.Digit.{Digit}
use Rattle.sql_tree.specs.declared.sql_node.SqlNode.{SqlNode}
use Rattle.sql_tree.specs.declared.sql_node.SqlType.{SqlType}
use Rattle.sql_tree.specs.declared.parameter.Parameter.{Parameter}
use Rattle.sql_tree.specs.declared.json_path.Path.{Path}
use Rattle.sql_draft.specs.declared.draft.Draft.{Draft}
use Rattle.odata_filter_operations.specs.Outcome.{Outcome, gives, overflow, divides_by_zero}
use Rattle.odata_sql.specs.Conditions.{FaultsIt, SaysOfEach, asked_of}
use Rattle.odata_sql.specs.Translation.{NeverFaults, Says, table_of}
use Rattle.sql_forms.specs.declared.terms.Form.{Form}
use Rattle.odata_sql.specs.declared.translation.Statement.{Statement}
use Rattle.sql_forms.specs.Forms.{IsInForm}
use Rattle.sql_draft.specs.Growth.{GrowsBy}
use Rattle.sql_draft.specs.Kinds.{kind_of_type}
use Rattle.sql_draft.specs.Rows.{IsFault}
use Rattle.sql_draft.specs.Translated.{AreRanges, IsTruthAt, IsTruthKind}
use Rattle.sql_draft.specs.World.{IsAskedOf, OfPlace, Puts, Question, World}
use Rattle.sql_draft.proofs.Composing.{by_node}
use Rattle.sql_outcomes.proofs.nodes.BinaryPlaces.{top_node}
use Rattle.sql_outcomes.proofs.outcomes.ChainWalk.{truth_kind}
use Rattle.sql_outcomes.proofs.outcomes.FaultConditions.{fault_condition}
use Rattle.odata_sql.proofs.Statements.{says_of_each}
use Rattle.sql_tree.specs.Numbered.{AreNumbered, parameters_of}
use Rattle.sql_tree.specs.ParserDepth.{symbols_of}
use Rattle.sql_tree.specs.Printed.{IsListOf, IsOfTree, IsTextOf}
use Rattle.sql_tree.specs.TreeText.{IsWhole}
use Rattle.sql_tree.specs.Shapes.{IsShaped}
use Rattle.sql_tree.specs.declared.tree.SqlTree.{SqlTree}
use Rattle.odata_ranges.proofs.Forms.{inside_there}
use Rattle.sql_forms.proofs.puts.FormsPut.{code_there}

-- a filter is of type Boolean or Null
pub filter_truth : (filter : Filter) → IsFilter filter → OneType → IsTruthAt filter 0
filter_truth filter right types =
    let top = top_node filter [] 0 (length filter.list.nodes) (tree_of_nodes filter.list) right.stands in
    let same : right.type_of ≡ expr_type filter.schema top.found.edm_type =
    types (slots_of filter.schema) (type_name_at filter.schema filter.filtered) [] (tree_of_nodes filter.list) right.type_of (expr_type filter.schema top.found.edm_type) right.typed top.typed in
    there_found (λ (n : CheckedNode). IsTruthKind (kind_of_type n.edm_type)) (slice_get filter.list.nodes 0) top.found top.at
    (truth_kind filter.schema top.found.edm_type (subst IsBooleanOrNull same right.truth))

-- a count that is not above what the parser takes is that of all symbols
all_fit : (dialect : Dialect) (symbols most depth : ℕ) → depth ≡ min symbols (2 ^ 64 - 1) → most ≡ most_symbols dialect → depth ≤ most → symbols ≤ most_symbols dialect
all_fit Dialect.PostgreSql symbols most depth counted is few = omega (arith, counted, is, few)
all_fit Dialect.Sqlite symbols most depth counted is few = omega (arith, counted, is, few)

-- what is printed of a tree whose names are there
module _ (dialect : Dialect) (table : TableModel) (tree : SqlTree) where
  -- that names are there makes a tree of that shape whole
  abbrev pub MakesWhole : Bool → Type 0
  MakesWhole answer = IsTrue answer → (d : Dialect) (t : Term) → tree.nodes.items ≡ nodes_of t → IsShaped t → IsWhole d table tree.paths.items t

  pub printed_shape : IsOfShape tree → (answer : Bool) → MakesWhole answer → IsTrue answer → IsOfTree dialect table tree
  printed_shape shape answer makes holds = (shape.0, record { nodes_are = shape.1; whole = makes holds dialect shape.0 shape.1 shape.2 })

  -- a tree of so many symbols, as they are counted
  abbrev pub IsCounted : ℕ → Type 0
  IsCounted depth = (over : TableModel) (t : Term) → IsListOf Dialect.Sqlite over tree t → depth ≡ min (symbols_of t) (2 ^ 64 - 1)

  counted_there : (answer : Bool) → MakesWhole answer → IsTrue answer → (depth : ℕ) → IsCounted depth → (t : Term) → tree.nodes.items ≡ nodes_of t → IsShaped t → depth ≡ min (symbols_of t) (2 ^ 64 - 1)
  counted_there answer makes holds depth counts t nodes shaped = counts table t (record { nodes_are = nodes; whole = makes holds Dialect.Sqlite t nodes shaped })

  pub shape_printed : (answer : Bool) → MakesWhole answer → IsTrue answer → (text : String Global) → IsTextOf dialect table tree text
      → (most depth : ℕ) → IsCounted depth → most ≡ most_symbols dialect → depth ≤ most → IsTextOfShape dialect table tree text
  shape_printed answer makes holds text is most depth counts is_most few = λ t nodes shaped.
      let whole = makes holds dialect t nodes shaped in
      let counted = counted_there answer makes holds depth counts t nodes shaped in
      (whole, is t (record { nodes_are = nodes; whole = whole }), all_fit dialect (symbols_of t) most depth counted is_most few)

  -- what nests too deeply, of a filter of so many nodes
  pub deep_there : (answer : Bool) → MakesWhole answer → IsTrue answer → (most depth fewest size : ℕ) → IsCounted depth → most ≡ most_symbols dialect → most < depth
      → fewest ≡ fewest_nodes dialect → fewest ≤ size → IsRefusedTree dialect tree size SqlFault.TooDeep
  deep_there answer makes holds most depth fewest size counts is_most deep is_fewest large = (
    omega (arith, is_fewest, large),
    λ t nodes shaped.
        let counted = counted_there answer makes holds depth counts t nodes shaped in omega (arith, counted, is_most, deep),
  )

module _ (question : Question) (dialect : Dialect) (table : TableModel) (old new : Draft) (right : IsFilter question.filter) (no_nodes : old.tree.nodes.items ≡ []) (no_parameters : old.tree.parameters.items ≡ []) (no_depth : old.depth ≡ 0)
    (no_members : old.members.items ≡ []) (Shown : Outcome → Outcome → Type 0) (put : Puts question old new (OfPlace question.filter 0) Shown) where
  nodes_are : new.tree.nodes.items ≡ nodes_of put.t
  nodes_are = put.grows.nodes_are ∙ ap (λ (nodes : List SqlNode). nodes ++ nodes_of put.t) no_nodes

  pub of_shape : IsOfShape new.tree
  of_shape = (put.t, nodes_are, put.shaped)

  module _ (Holds : Outcome → Outcome → Type 0) (one : HaveOneMeaning) (form : (o x : Outcome) → Shown o x → Holds o x) where
    pub says_it : (statement : Statement) → IsTextOfShape dialect table new.tree statement.text → statement.parameters ≡ new.tree.parameters → Says question.filter question.now dialect table statement Holds
    says_it statement text parameters = record {
      t = put.t;
      paths = new.tree.paths.items;
      whole = (text put.t nodes_are put.shaped).0;
      text_is = (text put.t nodes_are put.shaped).1;
      fits = (text put.t nodes_are put.shaped).2;
      numbered = subst (λ (ps : Vec Parameter Global). AreNumbered 0 (parameters_of (nodes_of put.t)) (length ps.items)) (sym parameters)
          (subst (λ (ps : List Parameter). AreNumbered (length ps) (parameters_of (nodes_of put.t)) (length new.tree.parameters.items)) no_parameters put.grows.numbered);
      says = subst (λ (ps : Vec Parameter Global). SaysOfEach question.filter question.now new.tree.paths.items ps.items put.t Holds) (sym parameters)
          (says_of_each question old new right no_depth no_members Shown Holds one form put);
    }

    pub ok_says : {E : Type 0} (r : Result Statement E) → IfOk r (λ s. IsTextOfShape dialect table new.tree s.text) → IfOk r (λ s. s.parameters ≡ new.tree.parameters)
        → IfOk r (λ s. Says question.filter question.now dialect table s Holds)
    ok_says (Ok statement) text parameters = says_it statement text parameters
    ok_says (Err fault) text parameters = tt

    -- why there is no statement
    tree_with : (Is : List Path → Term → Type 0) → Is new.tree.paths.items put.t → TreeWith question.filter question.now Holds Is
    tree_with Is is = record {
      t = put.t;
      paths = new.tree.paths.items;
      parameters = new.tree.parameters.items;
      says = says_of_each question old new right no_depth no_members Shown Holds one form put;
      is = is;
    }

    pub refused_for : (size : ℕ) → size ≡ length (pre_order (tree_of_filter question.filter)) → (fault : SqlFault) → IsRefusedTree dialect new.tree size fault → IsRefused question.filter question.now dialect Holds fault
    refused_for size all SqlFault.Nul refused = refused
    refused_for size all SqlFault.NoColumn refused = refused
    refused_for size all SqlFault.TooDeep deep = (subst (λ (n : ℕ). fewest_nodes dialect ≤ n) all deep.0, tree_with (NestsTooDeeply dialect) (deep.1 put.t nodes_are put.shaped))
    refused_for size all SqlFault.Memory refused = tt

    pub refused_says : {T : Type 0} (size : ℕ) → size ≡ length (pre_order (tree_of_filter question.filter)) → (r : Result T SqlFault) → IfErr r (IsRefusedTree dialect new.tree size) → IfErr r (IsRefused question.filter question.now dialect Holds)
    refused_says size all (Ok v) refused = tt
    refused_says size all (Err fault) refused = refused_for size all fault refused

-- what a filter is refused for, of which a statement is
module _ (filter : Filter) (now : MomentParts) (dialect : Dialect) (storage : StorageModel) (free : IsNulFree filter storage) (there : HasColumns filter.list.nodes storage) {T : Type 0} (result : Result T SqlFault) (fault : SqlFault) (is : result ≡ Err fault) where
  same_fault : (other : SqlFault) → result ≡ Err other → fault ≡ other
  same_fault other as_other = let both : Err fault ≡ Err other = sym is ∙ as_other in cc

  abbrev IsNul : Type 0
  IsNul = result ≡ Err SqlFault.Nul ↔ ¬ IsNulFree filter storage

  abbrev IsNoColumn : Type 0
  IsNoColumn = result ≡ Err SqlFault.NoColumn ↔ (IsNulFree filter storage × ¬ HasColumns filter.list.nodes storage)

  not_nul : (own : SqlFault) → own ≢ SqlFault.Nul → own ≡ fault → IsNul
  not_nul own other same = (λ nul. absurd (other (same ∙ same_fault SqlFault.Nul nul)), λ bound. absurd (bound free))

  not_column : (own : SqlFault) → own ≢ SqlFault.NoColumn → own ≡ fault → IsNoColumn
  not_column own other same = (λ column. absurd (other (same ∙ same_fault SqlFault.NoColumn column)), λ missing. absurd (missing.1 there))

  pub memory_is_no_nul : fault ≡ SqlFault.Memory → IsNul
  memory_is_no_nul memory = not_nul SqlFault.Memory (λ same. cc) (sym memory)

  pub memory_is_no_column : fault ≡ SqlFault.Memory → IsNoColumn
  memory_is_no_column memory = not_column SqlFault.Memory (λ same. cc) (sym memory)

  module _ (Holds : Outcome → Outcome → Type 0) (refused : IsRefused filter now dialect Holds fault) where
    pub refused_no_nul : IsNul
    refused_no_nul = by_fault fault refused refl
      where
        by_fault : (f : SqlFault) → IsRefused filter now dialect Holds f → f ≡ fault → IsNul
        by_fault SqlFault.Nul reason same = absurd reason
        by_fault SqlFault.NoColumn reason same = absurd reason
        by_fault SqlFault.TooDeep reason same = not_nul SqlFault.TooDeep (λ e. cc) same
        by_fault SqlFault.Memory reason same = not_nul SqlFault.Memory (λ e. cc) same

    pub refused_no_column : IsNoColumn
    refused_no_column = by_fault fault refused refl
      where
        by_fault : (f : SqlFault) → IsRefused filter now dialect Holds f → f ≡ fault → IsNoColumn
        by_fault SqlFault.Nul reason same = absurd reason
        by_fault SqlFault.NoColumn reason same = absurd reason
        by_fault SqlFault.TooDeep reason same = not_column SqlFault.TooDeep (λ e. cc) same
        by_fault SqlFault.Memory reason same = not_column SqlFault.Memory (λ e. cc) same

    pub refused_depth : (TreeWith filter now Holds (NestsTooDeeply dialect) → SomeTreeWith filter now (NestsTooDeeply dialect)) → result ≡ Err SqlFault.TooDeep → IsTooDeep filter now dialect
    refused_depth one deep =
        let is : IsRefused filter now dialect Holds SqlFault.TooDeep = subst (IsRefused filter now dialect Holds) (same_fault SqlFault.TooDeep deep) refused in
        inr (is.0, one is.1)

-- the condition of a fault
pub fault_is_put : (question : Question) (ranges : List Range) → AreRanges question ranges → EndsOnceOnEntities → IsMoment question.now.civil question.now.offset_minutes → IsTruthAt question.filter 0
    → (old middle next new : Draft) → GrowsBy old middle (SqlNode.Compare ComparisonOperator.Ge SqlType.Whole ∷ []) [] [] → Puts question middle next (OfPlace question.filter 0) (IsInForm Form.Code)
    → GrowsBy next new (SqlNode.Number Digit.Three ∷ []) [] [] → Puts question old new (OfPlace question.filter 0) FaultsIt
fault_is_put question ranges are ends is_moment truth old middle next new compares code three =
    fault_condition question (OfPlace question.filter 0) old middle next new (by_node old middle (SqlNode.Compare ComparisonOperator.Ge SqlType.Whole) refl compares) code
    (by_node next new (SqlNode.Number Digit.Three) refl three) (λ world o is has. code_there question ranges are ends is_moment 0 truth world o is.seen has)

-- where the whole filter evaluates to no fault, no row has one
module _ (question : Question) (ranges : List Range) (are : AreRanges question ranges) (right : IsFilter question.filter) (range : Range) (at : slice_get ranges 0 ≡ Some range) (plain : range.may_fault ≡ false) where
  no_fault : (o : Outcome) → IsWithin range o → IsFault o → ⊥
  no_fault (gives v) within is = absurd is
  no_fault overflow within is = let clash : true ≡ false = sym within ∙ plain in absurd (cc)
  no_fault divides_by_zero within is = let clash : true ≡ false = sym within ∙ plain in absurd (cc)

  pub never_faults : NeverFaults question.filter question.now
  never_faults row o is_row means is =
      let world : World = record { row = row; now = question.now; environment = []; asked = asked_of row question.now [] []; bound = [] } in
      let seen : IsAskedOf question world = record { row_is = is_row; moment_is = refl; fitting = tt; kept = tt } in
      no_fault o (are.within 0 range world o at seen (tree_of_filter question.filter, record { stop = length question.filter.list.nodes; stands = right.stands }, means)) is

pub never_by_range : (question : Question) (ranges : List Range) → AreRanges question ranges → IsFilter question.filter → (may : Bool) → IsSomeAnd (slice_get ranges 0) (λ range. may ≡ range.may_fault) → may ≡ false
    → NeverFaults question.filter question.now
never_by_range question ranges are right may is none =
    let first = some_there (λ (range : Range). may ≡ range.may_fault) (slice_get ranges 0) is in
    never_faults question ranges are right first.0 first.1.0 (sym first.1.1 ∙ none)

-- the whole filter has a range
pub first_inside : (question : Question) (ranges : List Range) → AreRanges question ranges → IsFilter question.filter → 0 < length ranges
first_inside question ranges are right =
    let inside : 0 < length question.filter.list.nodes = inside_there question.filter [] 0 (length question.filter.list.nodes) (tree_of_nodes question.filter.list) right.stands in
    let many : length ranges ≡ length question.filter.list.nodes = are.count in
    omega (arith, inside, many)

-- the table that is asked is the filter's
pub own_table : (filter : Filter) (schema : SchemaModel) (row_type : ℕ) (storage : StorageModel) → schema ≡ filter.schema → row_type ≡ filter.filtered
    → record { schema = schema; row_type = row_type; storage = storage } ≡ table_of filter storage
own_table filter schema row_type storage same_schema same_type =
    ap (λ (s : SchemaModel). record { schema = s; row_type = row_type; storage = storage }) same_schema
    ∙ ap (λ (n : ℕ). record { schema = filter.schema; row_type = n; storage = storage }) same_type
