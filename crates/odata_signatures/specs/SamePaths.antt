-- Trees that lead over the same navigation properties (OData URL Conventions 4.01, sections 5.1.1.13 to 5.1.1.15 and
-- 5.1.3).
use Rattle.std.specs.Prelude.{◌↔◌, ℕ, List}
use Rattle.odata_syntax.specs.CanonicalText.{IsCanonicalText}
use Rattle.odata_syntax.specs.NormalForm.{IsNormalForm, bare}
use Rattle.odata_syntax.specs.Parse.{IsExpression}
use Rattle.odata_syntax.specs.Tree.{Tree}
use Rattle.csdl_schema.specs.PathSet.{PropertyPath}
use Rattle.csdl_schema.specs.SchemaModel.{Slots}
use Rattle.odata_signatures.specs.HasTyping.{HasTree}
use Rattle.odata_signatures.specs.NeededPaths.{IsNeeded, VariablePaths}
use Rattle.odata_signatures.specs.Typed.{Scope}

-- each path that the one needs is needed by the other, in every schema, whatever variables are in scope and whatever
-- their paths are
abbrev pub NeedSamePaths : Tree → Tree → Type 0
NeedSamePaths first second =
    (slots : Slots) (root : List ℕ) (scope : Scope) (paths : VariablePaths) (path : PropertyPath)
    → IsNeeded slots root scope paths first path ↔ IsNeeded slots root scope paths second path

-- a tree and its normal form
abbrev pub NormalFormsNeedSamePaths : Type 0
NormalFormsNeedSamePaths = (tree normal : Tree) → IsNormalForm tree normal → NeedSamePaths tree normal

-- a tree and itself without its positions
abbrev pub PlacesNeedNoPaths : Type 0
PlacesNeedNoPaths = (tree : Tree) → NeedSamePaths tree (bare tree)

-- an expression and the tree of its canonical text
abbrev pub CanonicalTextsNeedSamePaths : Type 0
CanonicalTextsNeedSamePaths =
    (tree again : Tree) (printed : List ℕ) → IsExpression tree → IsCanonicalText tree printed → HasTree printed again
    → NeedSamePaths tree again
