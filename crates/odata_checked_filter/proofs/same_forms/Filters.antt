-- A filter and that of its canonical text.
use Rattle.std.proofs.Common.{◌≡◌, ◌↔◌, refl, sym, ◌∙◌, subst, ℕ, List, [], Bool, true, false, length}
use Rattle.odata_text.specs.TokenModel.{TokenModel}
use Rattle.odata_text.specs.TokenSequence.{AreTextTokens}
use Rattle.odata_text.specs.Tokens.{IsTokenList}
use Rattle.odata_syntax.specs.CanonicalText.{IsCanonicalText}
use Rattle.odata_syntax.specs.NormalForm.{bare}
use Rattle.odata_syntax.specs.Parse.{IsExpression}
use Rattle.odata_syntax.specs.Tree.{Tree}
use Rattle.csdl_schema.specs.ExpansionView.{paths_in}
use Rattle.csdl_schema.specs.ExprType.{ExprType}
use Rattle.csdl_schema.specs.SchemaModel.{SchemaModel, slots_of, type_name_at}
use Rattle.odata_signatures.specs.HasTyping.{HasTree}
use Rattle.odata_signatures.specs.NeededPaths.{IsNeeded}
use Rattle.odata_signatures.specs.SamePaths.{CanonicalTextsNeedSamePaths}
use Rattle.odata_checked_filter.specs.CanonicalFilters.{AreCoveredAlike, ExpandTheSame, HaveAsManyNodes, HaveOneTypeAt, HaveSameTypesAt, IsOfCanonicalText, OfCanonicalTexts}
use Rattle.odata_checked_filter.specs.Filter.{Filter, IsTypeAt, tree_of_filter}
use Rattle.odata_checked_filter.specs.Laws.{OneTypeAt}
use Rattle.odata_checked_filter.proofs.same_forms.NodeTypes.{KeptTypes, NodeTyped, nodes_same, size_same}

-- what is known of texts and of what is read of canonical ones
pub record TextFacts : Type 0 where
  pub kept : KeptTypes
  pub spelled : (text : List ℕ) (list : List TokenModel) → IsTokenList text list → AreTextTokens 0 (length text) list
  pub form : (printed : List ℕ) (tree again : Tree) (canonical : IsCanonicalText tree printed) → IsExpression tree → HasTree printed again
      → bare again ≡ bare canonical.normal
  pub needs : CanonicalTextsNeedSamePaths

expression : TextFacts → (text : List ℕ) (tree : Tree) → HasTree text tree → IsExpression tree
expression facts text tree has = record {
  tokens = has.models;
  length = length text;
  of_text = facts.spelled text has.models has.tokens;
  parsed = has.parse;
}

same_form : TextFacts → (text printed : List ℕ) (filter again : Filter) → (is : IsOfCanonicalText text printed filter again)
    → bare (tree_of_filter again) ≡ bare is.canonical.normal
same_form facts text printed filter again is =
    facts.form printed (tree_of_filter filter) (tree_of_filter again) is.canonical (expression facts text (tree_of_filter filter) is.of_text) is.of_printed

pub as_many_nodes : TextFacts → OfCanonicalTexts HaveAsManyNodes
as_many_nodes facts text printed filter again is =
    size_same (slots_of filter.schema) (type_name_at filter.schema filter.filtered) facts.kept (tree_of_filter filter) is.canonical.normal (tree_of_filter again)
    is.canonical.is_normal (same_form facts text printed filter again is)

-- the type at a number of a filter, with its schema and its type known by others
to_node : (filter : Filter) (schema : SchemaModel) (n k : ℕ) (type : ExprType) → filter.schema ≡ schema → filter.filtered ≡ n
    → IsTypeAt filter k type → NodeTyped (slots_of schema) (type_name_at schema n) [] (tree_of_filter filter) k type
to_node filter schema n k type one_schema one_type has =
    let P : SchemaModel → Type 0 = λ (s : SchemaModel). NodeTyped (slots_of s) (type_name_at s filter.filtered) [] (tree_of_filter filter) k type in
    let Q : ℕ → Type 0 = λ (m : ℕ). NodeTyped (slots_of schema) (type_name_at schema m) [] (tree_of_filter filter) k type in
    let here : P filter.schema = record { at = has.at; part = has.part; numbered = has.numbered; typed = has.typed } in
    subst Q one_type (subst P one_schema here)

from_node : (filter : Filter) (schema : SchemaModel) (n k : ℕ) (type : ExprType) → filter.schema ≡ schema → filter.filtered ≡ n
    → NodeTyped (slots_of schema) (type_name_at schema n) [] (tree_of_filter filter) k type → IsTypeAt filter k type
from_node filter schema n k type one_schema one_type has =
    let P : SchemaModel → Type 0 = λ (s : SchemaModel). NodeTyped (slots_of s) (type_name_at s filter.filtered) [] (tree_of_filter filter) k type in
    let Q : ℕ → Type 0 = λ (m : ℕ). NodeTyped (slots_of schema) (type_name_at schema m) [] (tree_of_filter filter) k type in
    let there : P filter.schema = subst P (sym one_schema) (subst Q (sym one_type) has) in
    record { at = there.at; part = there.part; numbered = there.numbered; typed = there.typed }

pub same_types_at : TextFacts → OfCanonicalTexts HaveSameTypesAt
same_types_at facts text printed filter again is k type =
    let schema = filter.schema in
    let n = filter.filtered in
    let same = nodes_same (slots_of schema) (type_name_at schema n) facts.kept [] (tree_of_filter filter) is.canonical.normal (tree_of_filter again) k type
    is.canonical.is_normal (same_form facts text printed filter again is) in (
      λ has. from_node again schema n k type is.one_schema is.one_type
          (same.0 (record { at = has.at; part = has.part; numbered = has.numbered; typed = has.typed })),
      λ has. let there = same.1 (to_node again schema n k type is.one_schema is.one_type has) in
          record { at = there.at; part = there.part; numbered = there.numbered; typed = there.typed },
    )

pub one_type_of_both : TextFacts → OneTypeAt → OfCanonicalTexts HaveOneTypeAt
one_type_of_both facts one text printed filter again is k a b first second =
    one filter k a b first ((same_types_at facts text printed filter again is k b).1 second)

-- ---- what is expanded

both_true : (a b : Bool) → (a ≡ true → b ≡ true) → (b ≡ true → a ≡ true) → a ≡ b
both_true true b to from = sym (to refl)
both_true false true to from = from refl
both_true false false to from = refl

pub expand_the_same : TextFacts → OfCanonicalTexts ExpandTheSame
expand_the_same facts text printed filter again is needs also path =
    let schema = filter.schema in
    let n = filter.filtered in
    let tree = tree_of_filter again in
    let P : SchemaModel → Type 0 = λ (s : SchemaModel). (paths_in again.expansion path ≡ true) ↔ IsNeeded (slots_of s) (type_name_at s again.filtered) [] [] tree path in
    let Q : ℕ → Type 0 = λ (m : ℕ). (paths_in again.expansion path ≡ true) ↔ IsNeeded (slots_of schema) (type_name_at schema m) [] [] tree path in
    let later = subst Q is.one_type (subst P is.one_schema (also path)) in
    let earlier = needs path in
    let same = facts.needs (tree_of_filter filter) tree printed (expression facts text (tree_of_filter filter) is.of_text) is.canonical is.of_printed
    (slots_of schema) (type_name_at schema n) [] [] path in
    both_true (paths_in again.expansion path) (paths_in filter.expansion path)
    (λ in_again. earlier.1 (same.1 (later.0 in_again)))
    (λ in_filter. later.1 (same.0 (earlier.0 in_filter)))

pub covered_alike : TextFacts → OfCanonicalTexts AreCoveredAlike
covered_alike facts text printed filter again is needs also paths =
    let same = expand_the_same facts text printed filter again is needs also in (
      λ covers path in_again. covers path (sym (same path) ∙ in_again),
      λ covers path in_filter. covers path (same path ∙ in_filter),
    )
