-- Trees with the same outcomes (OData URL Conventions 4.01, section 5.1.1).
use Rattle.std.specs.Prelude.{◌↔◌, ℕ, List}
use Rattle.edm_values.specs.MomentParts.{MomentParts}
use Rattle.edm_values.specs.Val.{Val}
use Rattle.csdl_schema.specs.SchemaModel.{Slots}
use Rattle.odata_syntax.specs.CanonicalText.{IsCanonicalText}
use Rattle.odata_syntax.specs.NormalForm.{IsNormalForm}
use Rattle.odata_syntax.specs.Parse.{IsExpression}
use Rattle.odata_syntax.specs.Tree.{Tree}
use Rattle.odata_signatures.specs.HasTyping.{HasTree}
use Rattle.odata_meaning.specs.Environment.{Environment}
use Rattle.odata_meaning.specs.Means.{Means}
use Rattle.odata_filter_operations.specs.Outcome.{Outcome}

-- on every value, at every moment and whatever variables are around them
abbrev pub HaveOneMeaning : Tree → Tree → Type 0
HaveOneMeaning a b =
    (slots : Slots) (root : List ℕ) (now : MomentParts) (entity : Val) (environment : Environment) (o : Outcome)
    → Means slots root now entity environment a o ↔ Means slots root now entity environment b o

-- a tree and its normal form
abbrev pub NormalFormsKeepOutcomes : Type 0
NormalFormsKeepOutcomes = (tree normal : Tree) → IsNormalForm tree normal → HaveOneMeaning tree normal

-- an expression and the tree of its canonical text
abbrev pub CanonicalTextsKeepOutcomes : Type 0
CanonicalTextsKeepOutcomes =
    (tree again : Tree) (printed : List ℕ) → IsExpression tree → IsCanonicalText tree printed → HasTree printed again
    → HaveOneMeaning tree again
