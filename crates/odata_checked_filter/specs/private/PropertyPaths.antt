-- For private clauses: the paths of nodes as a walk over a list reaches them.
use Rattle.std.specs.Prelude.{◌≡◌, ℕ, List, [], ◌∷◌, ◌++◌, Option, None, Some, map, nat_eq, if◌then◌else◌}
use Rattle.std.specs.Cmp.Lexicographic.{pointwise}
use Rattle.odata_syntax.specs.Tree.{Tree}
use Rattle.odata_signatures.specs.NeededPaths.{VariablePaths}
use Rattle.odata_signatures.specs.Typed.{Scope}
use Rattle.odata_checked_filter.specs.FlatTree.{FlatTree}
use Rattle.odata_checked_filter.specs.PropertyPaths.{node_paths, path_text, unseen}
use Rattle.odata_checked_filter.specs.private.LambdaLines.{StandsBetween}
use Rattle.odata_checked_filter.specs.declared.property_paths.Variables.{Variables, fold-Variables}
use Rattle.odata_checked_filter.specs.declared.property_paths.Variables.TheOpen.{Variables-F}

-- the name of a range variable, and the text of its collection's path
pub record NamedText : Type 0 where
  pub name : List ℕ
  pub text : List ℕ

abbrev pub bound_step : Variables-F (List NamedText) → List NamedText
bound_step Variables-F.Empty = []
bound_step (Variables-F.Bound name text outer) = record { name = name.now; text = text.now } ∷ outer.now

-- the variables around, the innermost first
abbrev pub bound_in : Variables → List NamedText
bound_in = fold-Variables (List NamedText) bound_step

-- the text of the innermost variable of a name
abbrev pub text_named : List NamedText → List ℕ → Option (List ℕ)
text_named [] asked = None
text_named (bound ∷ outer) asked =
    if pointwise nat_eq asked bound.name then Some bound.text else text_named outer asked

-- the variables in scope are these, and have these paths
abbrev pub AreBound : Scope → VariablePaths → List NamedText → Type 0
AreBound [] [] [] = Unit {0}
AreBound (variable ∷ scope) (path ∷ paths) (bound ∷ outer) =
    (bound.name ≡ variable.name) × (bound.text ≡ path_text path) × AreBound scope paths outer
AreBound _ _ _ = ⊥

-- the texts of the paths of these trees' nodes
abbrev pub texts_among : Scope → VariablePaths → List Tree → List (List ℕ)
texts_among scope paths [] = []
texts_among scope paths (tree ∷ trees) = map path_text (node_paths scope paths tree) ++ texts_among scope paths trees

-- texts, and after them those of others that are not empty and not there yet, each once
abbrev pub with_texts : List (List ℕ) → List (List ℕ) → List (List ℕ)
with_texts found texts = found ++ unseen ([] ∷ found) texts

-- a tree stands there
pub record HasTree (list : FlatTree) (place : ℕ) : Type 0 where
  pub stop : ℕ
  pub tree : Tree
  pub stands : StandsBetween list place stop tree
