-- For private clauses: operands that are taken where they are kept.
use Rattle.std.specs.Prelude.{◌⊎◌, ◌+◌, ℕ, List, [], ◌∷◌, Some}
use Rattle.edm_values.specs.Val.{text}
use Rattle.odata_functions.specs.LowerCase.{in_lower_case}
use Rattle.odata_signatures.specs.declared.function.Function.{Function}
use Rattle.odata_checked_filter.specs.FlatTree.{FlatTree}
use Rattle.odata_checked_filter.specs.declared.checked_node.NodeKind.{NodeKind}
use Rattle.odata_filter_operations.specs.FunctionGives.{FunctionGives}
use Rattle.odata_filter_operations.specs.Outcome.{Outcome, gives}
use Rattle.filter_context.specs.declared.walk_class.WalkClass.{WalkClass}
use Rattle.filter_context.specs.private.Place.{HasKind, IsClassAt}
use Rattle.filter_context.specs.private.ContextModel.{ContextModel}
use Rattle.filter_context.specs.private.AnswersAtPlace.{AnswersAtPlace}

-- a leaf stands there, or a step from one
abbrev pub IsPathAt : FlatTree → ℕ → Type 0
IsPathAt list place =
    IsClassAt list WalkClass.Leaf place
    ⊎ ((slot : ℕ) × HasKind list place (NodeKind.Member slot) × IsClassAt list WalkClass.Leaf (place + 1))

-- the text is what stands there evaluates to
abbrev pub AnswersText : ContextModel → ℕ → List ℕ → Type 0
AnswersText context place given = AnswersAtPlace context place (λ type. Some (gives (text given)))

-- what the function gives of that text is what its call there evaluates to
abbrev pub AnswersCall : ContextModel → ℕ → Function → List ℕ → Type 0
AnswersCall context place function given =
    (o : Outcome) → FunctionGives context.moment function (text given ∷ []) o
    → AnswersAtPlace context place (λ type. Some o)

-- so is what it gives of another text and that one, where the first argument evaluates to the other
abbrev pub AnswersLast : ContextModel → ℕ → Function → List ℕ → Type 0
AnswersLast context place function part =
    (given : List ℕ) (o : Outcome) → AnswersText context (place + 1) given
    → FunctionGives context.moment function (text given ∷ text part ∷ []) o
    → AnswersAtPlace context place (λ type. Some o)

-- that text in lower case is what stands there evaluates to
abbrev pub AnswersLowered : ContextModel → ℕ → List ℕ → Type 0
AnswersLowered context place given = AnswersText context place (in_lower_case given)
