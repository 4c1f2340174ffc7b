-- A filter and that of its canonical text say the same of rows.
use Rattle.std.proofs.Common.{◌≡◌, ◌↔◌, ◌∙◌, ◌++◌, sym, ap, subst, inl, inr, ℕ, List, [], length, Option, Some, None, Result, Ok, Err}
use Rattle.std.specs.Prelude.{IsSomeAnd}
use mathlib.Core.Path.{fun_ext}
use Rattle.std.proofs.lemmas.List.Elements.{All-weaker}
use Rattle.serde_json.specs.Data.{Data}
use Rattle.edm_values.specs.MomentParts.{MomentParts}
use Rattle.edm_values.specs.Val.{Val}
use Rattle.odata_text.specs.TokenModel.{TokenModel}
use Rattle.odata_text.specs.TokenSequence.{AreTextTokens}
use Rattle.odata_text.specs.Tokens.{IsTokenList}
use Rattle.odata_syntax.specs.Parse.{IsExpression}
use Rattle.odata_syntax.specs.Tree.{Tree}
use Rattle.csdl_schema.specs.ExpansionView.{paths_in}
use Rattle.csdl_schema.specs.PathSet.{PathSet}
use Rattle.csdl_schema.specs.SchemaModel.{SchemaModel, Slots, expanded, slots_of, type_name_at}
use Rattle.edm_entities.specs.Fits.{Fits}
use Rattle.edm_entities.specs.Row.{Row}
use Rattle.edm_entities.specs.RowFaults.{IsRowFault}
use Rattle.edm_entities.specs.declared.row_fault.RowFault.{RowFault}
use Rattle.odata_signatures.specs.HasTyping.{HasTree}
use Rattle.odata_checked_filter.specs.CanonicalFilters.{AreCoveredAlike, ExpandTheSame, IsOfCanonicalText, OfCanonicalTexts}
use Rattle.odata_checked_filter.specs.Filter.{Filter, slots_for_filter, tree_of_filter}
use Rattle.odata_meaning.specs.Means.{Means}
use Rattle.odata_filter_operations.specs.Outcome.{Outcome}
use Rattle.odata_meaning.specs.SameMeaning.{CanonicalTextsKeepOutcomes}
use Rattle.odata_eval.specs.declared.verdict.Verdict.{Verdict}
use Rattle.line_filter.specs.Kept.{LineClass, Filters, IsFaultless, Items, Passes, Sieve, SiftedItem, Stops, StopsAt, StopsBefore, StopsOn, StopsWithin}
use Rattle.line_filter.specs.LineItems.{IsFoundOf, LineJudge}
use Rattle.line_filter.specs.Lines.{lines_of, text_of_line, text_of_lines}
use Rattle.line_filter.specs.ItemIndexes.{IsJudged, ItemJudge, IndexedItem, index_sieve, indexed_from, indexed_items}
use Rattle.line_filter.specs.declared.judge.Judgment.{Judgment}
use Rattle.line_filter.specs.declared.run_stop.RunStop.{RunStop}
use Rattle.line_filter.specs.declared.tally.Tally.{Tally}
use Rattle.odata_filter.specs.CanonicalRows.{HaveSameEntities, HaveSameOutcomes, IsCheckedAgain, KeepSameItems, KeepSameLines, OfBoth, SaySameOfRows, SaySameOfValues, StopAlike, StopCollectionsAlike, AnswerRowsAlike}
use Rattle.filter_runs.specs.Collection.{OfCollection, StopsCollection, entities_of}
use Rattle.odata_filter.specs.Headline.{IsCheckedOf, IsEntityFor}
use Rattle.row_judges.specs.RowAnswer.{ReportsRow}
use Rattle.row_judges.specs.RowJudgment.{FilterMeans, HasOutcome, JudgesJson, JudgesRow, JudgesValue, rows_of}
use Rattle.filter_runs.specs.RunStops.{StopsBy, run_stop}
use Rattle.row_judges.specs.declared.bad_row.BadRow.{BadRow}
use Rattle.filter_runs.specs.declared.run_fault.RunFault.{RunFault}

-- ---- items of which the same is found

module _ {X F : Type 0} (all : List X) (text_of : X → List ℕ) (CameWhole : List X → Type 0) (A B : X → LineClass F → Type 0) (carry : (item : X) (line_class : LineClass F) → A item line_class → B item line_class) where
  abbrev sieve : (X → LineClass F → Type 0) → Sieve X F
  sieve Finds = record { finds = Finds; text_of = text_of }

  abbrev items : (X → LineClass F → Type 0) → Items X F
  items Finds = record { all = all; sieve = sieve Finds; CameWhole = CameWhole }

  pub passes_carried : (some : List X) (text : List ℕ) (tally : Tally) → Passes (sieve A) some text tally → Passes (sieve B) some text tally
  passes_carried some text tally passes = record {
    all = passes.all;
    in_order = passes.in_order;
    found = All-weaker (λ s. A s.item s.line_class × IsFaultless s.line_class) (λ s. B s.item s.line_class × IsFaultless s.line_class)
        (λ s fine. (carry s.item s.line_class fine.0, fine.1)) passes.all passes.found;
    kept = passes.kept;
    rows_counted = passes.rows_counted;
    kept_counted = passes.kept_counted;
  }

  at_carried : (text : List ℕ) (number : ℕ) (line_class : LineClass F) → StopsAt (items A) text number line_class → StopsAt (items B) text number line_class
  at_carried text number line_class stop = record {
    before = stop.before;
    bad = stop.bad;
    after = stop.after;
    tally = stop.tally;
    whole = stop.whole;
    counted = stop.counted;
    passes = passes_carried stop.before text stop.tally stop.passes;
    found = carry stop.bad line_class stop.found;
  }

  before_carried : (text : List ℕ) (number : ℕ) → StopsBefore (items A) text number → StopsBefore (items B) text number
  before_carried text number stop = record {
    before = stop.before;
    after = stop.after;
    tally = stop.tally;
    whole = stop.whole;
    came_whole = stop.came_whole;
    counted = stop.counted;
    passes = passes_carried stop.before text stop.tally stop.passes;
  }

  pub on_carried : (text : List ℕ) (number : ℕ) → StopsOn (items A) text number → StopsOn (items B) text number
  on_carried text number stop = record {
    before = stop.before;
    here = stop.here;
    after = stop.after;
    tally = stop.tally;
    whole = stop.whole;
    came_whole = stop.came_whole;
    counted = stop.counted;
    passes = passes_carried stop.before text stop.tally stop.passes;
  }

  within_carried : (text : List ℕ) → StopsWithin (items A) text → StopsWithin (items B) text
  within_carried text stop = record {
    before = stop.before;
    after = stop.after;
    tally = stop.tally;
    unwritten = stop.unwritten;
    whole = stop.whole;
    passes = passes_carried stop.before _ stop.tally stop.passes;
  }

  pub stops_carried : (text : List ℕ) (stop : RunStop F) → Stops (items A) text stop → Stops (items B) text stop
  stops_carried text (RunStop.Fault line fault) stops = at_carried text line (LineClass.judged (Judgment.Fault fault)) stops
  stops_carried text (RunStop.TooLong line) stops = at_carried text line LineClass.too_long stops
  stops_carried text (RunStop.Read line) stops = before_carried text line stops
  stops_carried text RunStop.Write stops = within_carried text stops
  stops_carried text (RunStop.Memory line) stops = before_carried text line stops

some_carried : {A : Type 0} (reported : Option A) (P Q : A → Type 0) → ((a : A) → P a → Q a) → IsSomeAnd reported P → IsSomeAnd reported Q
some_carried None P Q carry is = is
some_carried (Some a) P Q carry is = carry a is

-- ---- filters that see the same in JSON, and evaluate to the same

record ComeToTheSame (filter again : Filter) : Type 0 where
  slots : slots_for_filter filter ≡ slots_for_filter again
  root : type_name_at filter.schema filter.filtered ≡ type_name_at again.schema again.filtered
  means : (now : MomentParts) (value : Val) (outcome : Outcome) → FilterMeans filter now value outcome ↔ FilterMeans again now value outcome

turned : (filter again : Filter) → ComeToTheSame filter again → ComeToTheSame again filter
turned filter again same =
    record { slots = sym same.slots; root = sym same.root; means = λ now value outcome. ((same.means now value outcome).1, (same.means now value outcome).0) }

module _ (filter again : Filter) (same : ComeToTheSame filter again) (now : MomentParts) where
  by_slots : (P : Slots → List ℕ → Type 0) → P (slots_for_filter filter) (type_name_at filter.schema filter.filtered)
      → P (slots_for_filter again) (type_name_at again.schema again.filtered)
  by_slots P is = subst (P (slots_for_filter again)) same.root (subst (λ (s : Slots). P s (type_name_at filter.schema filter.filtered)) same.slots is)

  outcome_carried : (json : Data) (outcome : Outcome) → HasOutcome filter now json outcome → HasOutcome again now json outcome
  outcome_carried json outcome has = record {
    value = has.value;
    fits = by_slots (λ slots root. Fits slots root json has.value) has.fits;
    related = (same.means now has.value outcome).0 has.related;
    only = λ other is. has.only other ((same.means now has.value other).1 is);
  }

  value_carried : (json : Data) (said : Judgment BadRow) → JudgesValue filter now json said → JudgesValue again now json said
  value_carried json Judgment.Kept is = outcome_carried json _ is
  value_carried json Judgment.LeftOut is = (is.0, (is.1.0, outcome_carried json _ is.1.1))
  value_carried json (Judgment.Fault BadRow.NotJson) is = absurd is
  value_carried json (Judgment.Fault (BadRow.NoEntity fault)) is = by_slots (λ slots root. IsRowFault slots root json fault) is
  value_carried json (Judgment.Fault (BadRow.NoValue fault)) is = (is.0, (is.1.0, outcome_carried json is.0 is.1.1))

  json_carried : (line : List ℕ) (said : Judgment BadRow) → JudgesJson filter now line said → JudgesJson again now line said
  json_carried line said is = record { json = is.json; is_json = is.is_json; judged = value_carried is.json said is.judged }

  row_carried : (line : List ℕ) (said : Judgment BadRow) → JudgesRow filter now line said → JudgesRow again now line said
  row_carried line Judgment.Kept is = json_carried line Judgment.Kept is
  row_carried line Judgment.LeftOut is = json_carried line Judgment.LeftOut is
  row_carried line (Judgment.Fault BadRow.NotJson) is = is
  row_carried line (Judgment.Fault (BadRow.NoEntity fault)) is = json_carried line (Judgment.Fault (BadRow.NoEntity fault)) is
  row_carried line (Judgment.Fault (BadRow.NoValue fault)) is = json_carried line (Judgment.Fault (BadRow.NoValue fault)) is

  answer_carried : (row : List ℕ) (answer : Result Verdict BadRow) → ReportsRow filter now row answer → ReportsRow again now row answer
  answer_carried row (Ok verdict) is = record { json = is.json; is_json = is.is_json; outcome = outcome_carried is.json _ is.outcome }
  answer_carried row (Err bad) is = λ known. row_carried row (Judgment.Fault bad) (is known)

  found_carried : (line : List ℕ) (line_class : LineClass BadRow) → IsFoundOf (JudgesRow filter now) line line_class → IsFoundOf (JudgesRow again now) line line_class
  found_carried line LineClass.too_long is = is
  found_carried line LineClass.passed_over is = is
  found_carried line (LineClass.judged said) is = (is.0, is.1, row_carried line said is.2)

  -- ---- of lines

  lines_carried : (bytes text : List ℕ) (tally : Tally) → Filters (rows_of filter now bytes) text tally → Filters (rows_of again now bytes) text tally
  lines_carried bytes text tally filters =
      passes_carried (lines_of bytes) text_of_line (λ before. (rest : List ℕ) × (bytes ≡ text_of_lines before ++ rest))
      (IsFoundOf (JudgesRow filter now)) (IsFoundOf (JudgesRow again now)) found_carried (lines_of bytes) text tally filters

  stop_carried : (bytes text : List ℕ) (fault : RunFault) → StopsBy (rows_of filter now bytes) text fault → StopsBy (rows_of again now bytes) text fault
  stop_carried bytes text fault stops =
      some_carried (run_stop fault) (Stops (rows_of filter now bytes) text) (Stops (rows_of again now bytes) text)
      (λ stop. stops_carried (lines_of bytes) text_of_line (λ before. (rest : List ℕ) × (bytes ≡ text_of_lines before ++ rest))
      (IsFoundOf (JudgesRow filter now)) (IsFoundOf (JudgesRow again now)) found_carried text stop) stops

  -- ---- of items

  judged_carried : (item : IndexedItem Data) (line_class : LineClass BadRow) → IsJudged (JudgesValue filter now) item.item line_class → IsJudged (JudgesValue again now) item.item line_class
  judged_carried item LineClass.too_long is = absurd is
  judged_carried item LineClass.passed_over is = absurd is
  judged_carried item (LineClass.judged said) is = value_carried item.item said is

  items_carried : (document text : List ℕ) (tally : Tally) → OfCollection filter now document (λ items. Filters items text tally)
      → OfCollection again now document (λ items. Filters items text tally)
  items_carried document text tally (values, is, filters) = (
    values,
    is,
    passes_carried (indexed_from 0 values) (index_sieve (JudgesValue filter now)).text_of (λ before. Unit {0})
        (λ indexed. IsJudged (JudgesValue filter now) indexed.item) (λ indexed. IsJudged (JudgesValue again now) indexed.item) judged_carried (indexed_from 0 values) text tally filters,
  )

  item_stop_carried : (document text : List ℕ) (fault : RunFault) → OfCollection filter now document (λ items. StopsBy items text fault)
      → OfCollection again now document (λ items. StopsBy items text fault)
  item_stop_carried document text fault (values, is, stops) = (
    values,
    is,
    some_carried (run_stop fault) (Stops (entities_of filter now values) text) (Stops (entities_of again now values) text)
        (λ stop. stops_carried (indexed_from 0 values) (index_sieve (JudgesValue filter now)).text_of (λ before. Unit {0})
        (λ indexed. IsJudged (JudgesValue filter now) indexed.item) (λ indexed. IsJudged (JudgesValue again now) indexed.item) judged_carried text stop) stops,
  )

  collection_carried : (document text : List ℕ) (fault : RunFault) → StopsCollection filter now document text fault → StopsCollection again now document text fault
  collection_carried document text RunFault.NotACollection stops = stops
  collection_carried document text (RunFault.Memory line) (inl stops) = inl stops
  collection_carried document text (RunFault.Memory line) (inr (values, is, stops)) = inr (
    values,
    is,
    on_carried (indexed_from 0 values) (index_sieve (JudgesValue filter now)).text_of (λ before. Unit {0})
        (λ indexed. IsJudged (JudgesValue filter now) indexed.item) (λ indexed. IsJudged (JudgesValue again now) indexed.item) judged_carried text line stops,
  )
  collection_carried document text (RunFault.Row line fault) stops = item_stop_carried document text (RunFault.Row line fault) stops
  collection_carried document text (RunFault.Arithmetic line fault) stops = item_stop_carried document text (RunFault.Arithmetic line fault) stops
  collection_carried document text RunFault.Write stops = item_stop_carried document text RunFault.Write stops
  collection_carried document text (RunFault.Json line) stops = absurd stops
  collection_carried document text (RunFault.LineTooLong line) stops = absurd stops
  collection_carried document text (RunFault.Read line) stops = absurd stops

-- ---- a filter and that of its canonical text

-- what is known of them
pub record FilterFacts : Type 0 where
  pub spelled : (text : List ℕ) (list : List TokenModel) → IsTokenList text list → AreTextTokens 0 (length text) list
  pub paths : OfCanonicalTexts ExpandTheSame
  pub covers : OfCanonicalTexts AreCoveredAlike
  pub outcomes : CanonicalTextsKeepOutcomes

of_canonical : (text printed : List ℕ) (filter again : Filter) → IsCheckedAgain text printed filter again → IsOfCanonicalText text printed filter again
of_canonical text printed filter again is = record {
  one_schema = is.one_schema;
  one_type = is.one_type;
  of_text = is.of_text.typing.has_tree;
  canonical = is.canonical;
  of_printed = is.of_printed.typing.has_tree;
}

expression : FilterFacts → (text : List ℕ) (tree : Tree) → HasTree text tree → IsExpression tree
expression facts text tree is = record {
  tokens = is.models;
  length = length text;
  of_text = facts.spelled text is.models is.tokens;
  parsed = is.parse;
}

same_root : (s t : SchemaModel) (m n : ℕ) → s ≡ t → m ≡ n → type_name_at s m ≡ type_name_at t n
same_root s t m n schemas types = ap (λ (x : SchemaModel). type_name_at x m) schemas ∙ ap (type_name_at t) types

pub same_outcomes : FilterFacts → OfBoth HaveSameOutcomes
same_outcomes facts text printed filter again is now value outcome =
    let P : SchemaModel → Type 0 = λ (s : SchemaModel). FilterMeans filter now value outcome
    ↔ Means (slots_of s) (type_name_at s filter.filtered) now value [] (tree_of_filter again) outcome in
    let Q : ℕ → Type 0 = λ (n : ℕ). FilterMeans filter now value outcome
    ↔ Means (slots_of again.schema) (type_name_at again.schema n) now value [] (tree_of_filter again) outcome in
    let same : P filter.schema = facts.outcomes (tree_of_filter filter) (tree_of_filter again) printed
    (expression facts text (tree_of_filter filter) is.of_text.typing.has_tree) is.canonical is.of_printed.typing.has_tree
    (slots_of filter.schema) (type_name_at filter.schema filter.filtered) now value [] outcome in
    subst Q (sym is.one_type) (subst P (sym is.one_schema) same)

come_to_the_same : FilterFacts → (text printed : List ℕ) (filter again : Filter) → IsCheckedAgain text printed filter again → ComeToTheSame filter again
come_to_the_same facts text printed filter again is =
    let paths : paths_in again.expansion ≡ paths_in filter.expansion =
    fun_ext (facts.paths text printed filter again (of_canonical text printed filter again is) is.of_text.expands is.of_printed.expands) in
    record {
      slots = ap (λ (s : SchemaModel). expanded (slots_of s) (paths_in filter.expansion)) (sym is.one_schema)
          ∙ ap (λ (p : PathSet). expanded (slots_of again.schema) p) (sym paths);
      root = same_root filter.schema again.schema filter.filtered again.filtered (sym is.one_schema) (sym is.one_type);
      means = same_outcomes facts text printed filter again is;
    }

pub same_entities : FilterFacts → OfBoth HaveSameEntities
same_entities facts text printed filter again is row =
    let alike = facts.covers text printed filter again (of_canonical text printed filter again is) is.of_text.expands is.of_printed.expands (paths_in row.expansion) in (
      λ of_it. record {
        entity = of_it.entity;
        one_schema = is.one_schema ∙ of_it.one_schema;
        one_type = is.one_type ∙ of_it.one_type;
        covers = alike.0 of_it.covers;
      },
      λ of_it. record {
        entity = of_it.entity;
        one_schema = sym is.one_schema ∙ of_it.one_schema;
        one_type = sym is.one_type ∙ of_it.one_type;
        covers = alike.1 of_it.covers;
      },
    )

-- what is carried over from the one is carried over from the other
each_way : FilterFacts → (P : Filter → Type 0) → ((filter again : Filter) → ComeToTheSame filter again → P filter → P again)
    → (text printed : List ℕ) (filter again : Filter) → IsCheckedAgain text printed filter again → P filter ↔ P again
each_way facts P carried text printed filter again is =
    let same = come_to_the_same facts text printed filter again is in
    (λ of_it. carried filter again same of_it, λ of_it. carried again filter (turned filter again same) of_it)

pub same_of_rows : FilterFacts → OfBoth SaySameOfRows
same_of_rows facts text printed filter again is now row said =
    each_way facts (λ f. JudgesRow f now row said) (λ f g same. row_carried f g same now row said) text printed filter again is

pub same_of_values : FilterFacts → OfBoth SaySameOfValues
same_of_values facts text printed filter again is now json said =
    each_way facts (λ f. JudgesValue f now json said) (λ f g same. value_carried f g same now json said) text printed filter again is

pub same_answers : FilterFacts → OfBoth AnswerRowsAlike
same_answers facts text printed filter again is now row answer =
    each_way facts (λ f. ReportsRow f now row answer) (λ f g same. answer_carried f g same now row answer) text printed filter again is

pub same_lines : FilterFacts → OfBoth KeepSameLines
same_lines facts text printed filter again is now bytes written tally =
    each_way facts (λ f. Filters (rows_of f now bytes) written tally) (λ f g same. lines_carried f g same now bytes written tally) text printed filter again is

pub same_stops : FilterFacts → OfBoth StopAlike
same_stops facts text printed filter again is now bytes written fault =
    each_way facts (λ f. StopsBy (rows_of f now bytes) written fault) (λ f g same. stop_carried f g same now bytes written fault) text printed filter again is

pub same_items : FilterFacts → OfBoth KeepSameItems
same_items facts text printed filter again is now document written tally =
    each_way facts (λ f. OfCollection f now document (λ items. Filters items written tally)) (λ f g same. items_carried f g same now document written tally) text printed filter again is

pub same_collection_stops : FilterFacts → OfBoth StopCollectionsAlike
same_collection_stops facts text printed filter again is now document written fault =
    each_way facts (λ f. StopsCollection f now document written fault) (λ f g same. collection_carried f g same now document written fault) text printed filter again is
