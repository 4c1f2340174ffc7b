-- Two filters of which the second is the filter of the first one's canonical text (OData URL Conventions 4.01, sections
-- 5.1.1 and 5.1.3).
use Rattle.std.specs.Prelude.{◌≡◌, ◌↔◌, ℕ, List, length}
use Rattle.odata_syntax.specs.CanonicalText.{IsCanonicalText}
use Rattle.csdl_schema.specs.ExpansionView.{paths_in}
use Rattle.csdl_schema.specs.ExprType.{ExprType}
use Rattle.csdl_schema.specs.PathSet.{Covers, PathSet, PropertyPath}
use Rattle.odata_signatures.specs.HasTyping.{HasTree}
use Rattle.odata_signatures.specs.PreOrder.{pre_order}
use Rattle.odata_checked_filter.specs.Filter.{Filter, HasNeededPaths, IsTypeAt, tree_of_filter}

-- the first is of this text, and the second of that one's canonical text, for the same type of the same schema
pub record IsOfCanonicalText (text printed : List ℕ) (filter again : Filter) : Type 0 where
  pub one_schema : again.schema ≡ filter.schema
  pub one_type : again.filtered ≡ filter.filtered
  pub of_text : HasTree text (tree_of_filter filter)
  pub canonical : IsCanonicalText (tree_of_filter filter) printed
  pub of_printed : HasTree printed (tree_of_filter again)

-- P of each two such filters
abbrev pub OfCanonicalTexts : (Filter → Filter → Type 0) → Type 0
OfCanonicalTexts P =
    (text printed : List ℕ) (filter again : Filter) → IsOfCanonicalText text printed filter again → P filter again

-- their trees have as many nodes
abbrev pub HaveAsManyNodes : Filter → Filter → Type 0
HaveAsManyNodes filter again = length (pre_order (tree_of_filter again)) ≡ length (pre_order (tree_of_filter filter))

-- the nodes of one number have one type
abbrev pub HaveSameTypesAt : Filter → Filter → Type 0
HaveSameTypesAt filter again = (k : ℕ) (type : ExprType) → IsTypeAt filter k type ↔ IsTypeAt again k type

-- so whatever is the type of the one is that of the other
abbrev pub HaveOneTypeAt : Filter → Filter → Type 0
HaveOneTypeAt filter again = (k : ℕ) (a b : ExprType) → IsTypeAt filter k a → IsTypeAt again k b → a ≡ b

-- a filter's expansion has the paths that its tree needs, and no others
abbrev pub ExpandsNeeded : Filter → Type 0
ExpandsNeeded filter = HasNeededPaths filter.schema filter.filtered filter.list filter.expansion

-- the expansions have the same paths
abbrev pub ExpandTheSame : Filter → Filter → Type 0
ExpandTheSame filter again =
    ExpandsNeeded filter → ExpandsNeeded again
    → (path : PropertyPath) → paths_in again.expansion path ≡ paths_in filter.expansion path

-- a set of paths covers the one's expansion exactly if it covers the other's
abbrev pub AreCoveredAlike : Filter → Filter → Type 0
AreCoveredAlike filter again =
    ExpandsNeeded filter → ExpandsNeeded again
    → (paths : PathSet) → Covers paths (paths_in filter.expansion) ↔ Covers paths (paths_in again.expansion)
