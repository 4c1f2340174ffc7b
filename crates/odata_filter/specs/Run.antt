-- What a run says by its status: of its plan, of its schema's bytes, and of what standard output got.
use Rattle.std.specs.Prelude.{◌≡◌, ℕ, pos, ◌⊎◌, Bool, false, true, List, [], ◌∷◌, ◌++◌, Option, Some, None, IfSome, IsNone, IsSomeAnd, MatchOption, codes}
use Rattle.std.specs.Io.KnownBytes.{Keeps}
use Rattle.edm_values.specs.Civil.{IsYmd, IsHms}
use Rattle.edm_values.specs.MomentLiteral.{MomentValue}
use Rattle.edm_values.specs.MomentParts.{MomentParts}
use Rattle.odata_queries.specs.Query.{IsFilterOf, IsQueryFault}
use Rattle.odata_queries.specs.declared.query_fault.QueryFault.{QueryFault}
use Rattle.odata_filter.specs.Planned.{IsPlanned}
use Rattle.line_filter.specs.Growth.{Writes, WritesFront}
use Rattle.line_filter.specs.Kept.{LineClass, Items, Filters, StopsAt, StopsWithin, IsFaultless}
use Rattle.line_filter.specs.declared.tally.Tally.{Tally}
use Rattle.line_filter.specs.ItemIndexes.{IndexedItem}
use Rattle.serde_json.specs.Data.{Data}
use Rattle.row_judges.specs.RowJudgment.{rows_of}
use Rattle.filter_runs.specs.Collection.{IsNoCollection, OfCollection}
use Rattle.row_judges.specs.declared.bad_row.BadRow.{BadRow}
use Rattle.csdl_schema.specs.Document.{StandsFor, IsFirstDocumentFault}
use Rattle.csdl_declarations.specs.Fault.{Fault}
use Rattle.csdl_schema.specs.SchemaModel.{SchemaModel, IsEntityAt, index_named, slots_of, type_name_at}
use Rattle.command_plan.specs.declared.command_line.Plan.{Plan}
use Rattle.command_plan.specs.declared.command_line.Verb.{Verb}
use Rattle.command_plan.specs.declared.command_line.Verb.TheVariants.{Check, Explain, Filter as ByRows}
use Rattle.odata_syntax.specs.CanonicalText.{IsCanonicalText}
use Rattle.odata_checked_filter.specs.Calls.{UsesNow}
use Rattle.odata_checked_filter.specs.Explanation.{IsExplanation}
use Rattle.odata_checked_filter.specs.Filter.{Filter, tree_of_filter}
use Rattle.odata_signatures.specs.HasTyping.{HasTyping, HasNoTyping}

-- the moment that is handed in where none is given and none is asked for: 0001-01-01T00:00:00Z
abbrev pub IsFirstMoment : MomentParts → Type 0
IsFirstMoment now =
    IsYmd (pos 1) (pos 1) (pos 1) now.civil.date
    × IsHms (pos 0) (pos 0) (pos 0) (pos 0) now.civil.time
    × (now.offset_minutes ≡ pos 0)

-- The schema's bytes stand for this schema, and the type that the plan names is the entity type at this index in it.
pub record NamesType (plan : Plan) (document : List ℕ) (schema : SchemaModel) (index : ℕ) : Type 0 where
  pub planned : IsPlanned plan
  pub stands : StandsFor document schema
  pub named : index_named schema plan.named.now ≡ Some index
  pub entity : IsEntityAt schema index

-- the text of the filter that the plan asks for: its own, or that of its query's filter option
-- (OData URL Conventions 4.01, section 5.1)
abbrev pub AsksFor : Plan → List ℕ → Type 0
AsksFor plan text =
    IsSomeAnd plan.filter (λ given. given.now ≡ text)
    ⊎ IsSomeAnd plan.query (λ given. IsFilterOf given.now (Some text))

-- The plan's text is this filter of the type that the plan names (OData URL Conventions 4.01, section 5.1.1).
pub record IsPlanFilter (plan : Plan) (document : List ℕ) (filter : Filter) : Type 0 where
  pub names : NamesType plan document filter.schema filter.filtered
  pub text : List ℕ
  pub asked : AsksFor plan text
  pub typing :
      HasTyping (slots_of filter.schema) (type_name_at filter.schema filter.filtered) text (tree_of_filter filter)

-- The moment that is handed in with a filter: the one that the plan gives; where it gives none and the filter does not
-- ask for it, the first (OData URL Conventions 4.01, section 5.1.1.8.7).
abbrev pub IsMomentFor : Plan → Filter → MomentParts → Type 0
IsMomentFor plan filter now =
    MatchOption plan.now ((¬ UsesNow (tree_of_filter filter)) × IsFirstMoment now) (λ given. MomentValue given.now now)

-- The plan's text is this filter, and this is the moment for it.
pub record IsReady (plan : Plan) (document : List ℕ) (filter : Filter) (now : MomentParts) : Type 0 where
  pub is_filter : IsPlanFilter plan document filter
  pub is_moment : IsMomentFor plan filter now

-- the plan has such a filter and moment
abbrev pub HasReadyFilter : Plan → List ℕ → Type 0
HasReadyFilter plan document = (filter : Filter) × (now : MomentParts) × IsReady plan document filter now

-- The plan's text is a filter that asks for the moment, and the plan gives none.
pub record LacksMoment (plan : Plan) (document : List ℕ) : Type 0 where
  pub filter : Filter
  pub is_filter : IsPlanFilter plan document filter
  pub asks : UsesNow (tree_of_filter filter)
  pub none : IsNone plan.now

-- the plan's text is a filter
abbrev pub HasCheckedFilter : Plan → List ℕ → Type 0
HasCheckedFilter plan document = (filter : Filter) × IsPlanFilter plan document filter

-- the plan's query has a fault
abbrev pub HasQueryFault : Plan → Type 0
HasQueryFault plan = IsSomeAnd plan.query (λ given. (fault : QueryFault) × IsQueryFault given.now fault)

-- The plan names a type, and its text is not a filter of that, or its query has a fault.
pub record HasNoFilter (plan : Plan) (document : List ℕ) : Type 0 where
  pub schema : SchemaModel
  pub index : ℕ
  pub names : NamesType plan document schema index
  pub none :
      ((text : List ℕ) × AsksFor plan text × HasNoTyping (slots_of schema) (type_name_at schema index) text)
      ⊎ HasQueryFault plan

-- The plan names a type, and its query has no filter option.
pub record HasNoOption (plan : Plan) (document : List ℕ) : Type 0 where
  pub schema : SchemaModel
  pub index : ℕ
  pub names : NamesType plan document schema index
  pub none : IsSomeAnd plan.query (λ given. IsFilterOf given.now None)

-- the schema's bytes have a fault, or the schema has no entity type of that name (CSDL JSON 4.01)
abbrev pub HasNoType : Plan → List ℕ → Type 0
HasNoType plan document =
    ((fault : Fault) × IsFirstDocumentFault document fault)
    ⊎ ((schema : SchemaModel) × StandsFor document schema
    × ((index : ℕ) → index_named schema plan.named.now ≡ Some index → ¬ IsEntityAt schema index))

-- What a run reads and writes: what its rows had to give, unknown where their reader does not report, and none where
-- their file cannot be opened; and what standard output held before and after, where it reports that.
pub record Streams : Type 0 where
  pub rows : Option (Option (List ℕ))
  pub old : Option (List ℕ)
  pub new : Option (List ℕ)

-- these three
abbrev pub streams : Option (Option (List ℕ)) → Option (List ℕ) → Option (List ℕ) → Streams
streams rows old new = record { rows = rows; old = old; new = new }

-- nothing was written
abbrev pub WroteNothing : Streams → Type 0
WroteNothing streams = Keeps streams.old streams.new

-- There are rows, and where their bytes are known and what standard output holds, P holds of the bytes and of the text
-- that was written.
abbrev pub OverRows : Streams → (List ℕ → List ℕ → Type 0) → Type 0
OverRows streams P = IsSomeAnd streams.rows (λ known. IfSome known (λ bytes. Writes streams.old streams.new (P bytes)))

-- what is said of rows, whatever they are, and of a text
abbrev pub OfRows : Type 1
OfRows = (X : Type 0) → Items X BadRow → List ℕ → Type 0

-- P holds of the rows that the bytes are: of their lines, or, where a collection is asked for, of the items of that
abbrev pub HoldsOfRows : Bool → OfRows → Filter → MomentParts → List ℕ → List ℕ → Type 0
HoldsOfRows false P filter now bytes text = P (List ℕ) (rows_of filter now bytes) text
HoldsOfRows true P filter now bytes text = OfCollection filter now bytes (λ items. P (IndexedItem Data) items text)

-- The plan's text is a filter, and P holds of the rows by that filter and of the text that was written.
pub record ByFilter (P : OfRows) (plan : Plan) (document : List ℕ) (streams : Streams) : Type 0 where
  pub filter : Filter
  pub now : MomentParts
  pub is_ready : IsReady plan document filter now
  pub written : OverRows streams (HoldsOfRows plan.collection P filter now)

-- no row is at fault, and the text is that of the kept ones
abbrev pub FiltersAll : OfRows
FiltersAll X rows text = (tally : Tally) × Filters rows text tally

-- some row is the first at fault, and the text is that of the kept ones before it
abbrev pub StopsAtFault : OfRows
StopsAtFault X rows text =
    (number : ℕ) × (line_class : LineClass BadRow) × (¬ IsFaultless line_class) × StopsAt rows text number line_class

-- the text is a beginning of that of the kept rows among some first ones of which none is at fault
abbrev pub BeginsKept : OfRows
BeginsKept X rows text = StopsWithin rows text

-- The plan's text is a filter, it asks for a collection, what the rows had to give is none, and nothing was written.
pub record ReadsNoCollection (plan : Plan) (document : List ℕ) (streams : Streams) : Type 0 where
  pub has_filter : HasReadyFilter plan document
  pub asked : plan.collection ≡ true
  pub is_none : IsSomeAnd streams.rows (λ known. IfSome known IsNoCollection)
  pub nothing : WroteNothing streams

-- `accepted`, and the canonical text of the filter on a line of its own (10 is LF)
pub record IsAccepted (filter : Filter) (text : List ℕ) : Type 0 where
  pub canonical : List ℕ
  pub is_canonical : IsCanonicalText (tree_of_filter filter) canonical
  pub lines : text ≡ codes "accepted" ++ (10 ∷ (canonical ++ 10 ∷ []))

-- The plan's text is a filter, and that was written of it.
pub record ReportsFilter
    (Says : Filter → List ℕ → Type 0) (plan : Plan) (document : List ℕ) (streams : Streams) : Type 0 where
  pub filter : Filter
  pub is_filter : IsPlanFilter plan document filter
  pub written : Writes streams.old streams.new (Says filter)

-- A line that begins with `refused `.
pub record IsRefusedLine (text : List ℕ) : Type 0 where
  pub reported : List ℕ
  pub line : text ≡ codes "refused " ++ (reported ++ 10 ∷ [])

-- what a verb that reads no rows reports about a filter
abbrev pub ReportsOf : Verb → Filter → List ℕ → Type 0
ReportsOf Check = IsAccepted
ReportsOf Explain = IsExplanation
ReportsOf ByRows = λ filter text. ⊥

-- the text that such a verb writes: what it reports of the plan's filter, or, where there is none, the line of a
-- refusal
abbrev pub IsReportedBy : Verb → Plan → List ℕ → List ℕ → Type 0
IsReportedBy verb plan document text =
    ((filter : Filter) × IsPlanFilter plan document filter × ReportsOf verb filter text)
    ⊎ (HasNoFilter plan document × IsRefusedLine text)

-- how a run ends
pub data Status : Type 0 where
  complete : Status
  without_filter : Status
  without_plan : Status
  without_type : Status
  at_fault : Status
  without_device : Status
  without_memory : Status

-- the status that the program ends with
abbrev pub status_number : Status → ℕ
status_number complete = 0
status_number without_filter = 1
status_number without_plan = 2
status_number without_type = 3
status_number at_fault = 4
status_number without_device = 5
status_number without_memory = 6

-- what a run by a verb says that is done: all rows were filtered, or the filter was written, or each of its nodes
abbrev pub Completes : Verb → Plan → List ℕ → Streams → Type 0
Completes ByRows plan document streams = ByFilter FiltersAll plan document streams
Completes Check plan document streams = ReportsFilter IsAccepted plan document streams
Completes Explain plan document streams = ReportsFilter IsExplanation plan document streams

-- nothing was written where there is no filter; to a verb that reads no rows that is an answer, and its line was
-- written
abbrev pub RefusalSays : Verb → Streams → Type 0
RefusalSays ByRows streams = WroteNothing streams
RefusalSays verb streams = Writes streams.old streams.new IsRefusedLine

-- a verb that reads rows needs a moment where its filter asks for it; another never does
abbrev pub NeedsMoment : Verb → Plan → List ℕ → Type 0
NeedsMoment ByRows plan document = LacksMoment plan document
NeedsMoment verb plan document = ⊥

-- a verb that reads rows stopped at one, or they were to be a collection and are none; another never does
abbrev pub StopsAtRow : Verb → Plan → List ℕ → Streams → Type 0
StopsAtRow ByRows plan document streams =
    ByFilter StopsAtFault plan document streams ⊎ ReadsNoCollection plan document streams
StopsAtRow verb plan document streams = ⊥

-- there is a filter, with its moment where rows are read; or there is none, and standard output did not take that
-- answer
abbrev pub LacksDevice : Verb → Plan → List ℕ → Type 0
LacksDevice ByRows plan document = HasReadyFilter plan document
LacksDevice verb plan document = HasCheckedFilter plan document ⊎ HasNoFilter plan document

-- What each says: the run is done; the text is not a filter; the plan is none, or its query has no filter, or it gives
-- no moment and its filter asks for it; there is no such entity type; a row is at fault; a device failed, and of rows
-- nothing is said; nothing is said.
abbrev pub StatusSays : Status → Verb → Plan → List ℕ → Streams → Type 0
StatusSays complete verb plan document streams = Completes verb plan document streams
StatusSays without_filter verb plan document streams = HasNoFilter plan document × RefusalSays verb streams
StatusSays without_plan verb plan document streams =
    ((¬ IsPlanned plan) ⊎ (HasNoOption plan document ⊎ NeedsMoment verb plan document)) × WroteNothing streams
StatusSays without_type verb plan document streams = IsPlanned plan × (HasNoType plan document × WroteNothing streams)
StatusSays at_fault verb plan document streams = StopsAtRow verb plan document streams
StatusSays without_device verb plan document streams = LacksDevice verb plan document
StatusSays without_memory verb plan document streams = Unit {0}

-- a beginning of the text of the kept rows among some first ones of which none is at fault; by a verb that reads no
-- rows, a beginning of the text that it writes
abbrev pub BeginsBy : Verb → Plan → List ℕ → Streams → Type 0
BeginsBy ByRows plan document streams = ByFilter BeginsKept plan document streams
BeginsBy verb plan document streams =
    (text : List ℕ) × IsReportedBy verb plan document text × WritesFront streams.old streams.new text

-- nothing was written, or a beginning of what the verb writes
abbrev pub BeginsAs : Verb → Plan → List ℕ → Streams → Type 0
BeginsAs verb plan document streams = WroteNothing streams ⊎ BeginsBy verb plan document streams

abbrev pub Begins : Plan → List ℕ → Streams → Type 0
Begins plan document streams = BeginsAs plan.verb plan document streams

-- The answer is a status, what that says holds, and what was written by then is right.
pub record Answers (answer : ℕ) (plan : Plan) (document : List ℕ) (streams : Streams) : Type 0 where
  pub status : Status
  pub is_answer : answer ≡ status_number status
  pub says : StatusSays status plan.verb plan document streams
  pub begins : Begins plan document streams
