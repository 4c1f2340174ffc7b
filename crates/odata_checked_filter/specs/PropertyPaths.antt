-- The properties that a tree reads, by their paths from the filtered entity on (OData URL Conventions 4.01, sections
-- 5.1.1.13 to 5.1.1.15).
use Rattle.std.specs.Prelude.{ℕ, List, [], ◌∷◌, ◌++◌, map, nat_eq, if◌then◌else◌}
use Rattle.std.specs.Cmp.Lexicographic.{pointwise}
use Rattle.std.specs.List.{fold, list_any}
use Rattle.odata_syntax.specs.Tree.{Shape, Tree, Trees, any_item, binary, call, count, has, in_list, in_path, it, lambda, literal, logical_not, member, more_trees, name, negation, no_trees, node}
use Rattle.csdl_schema.specs.ExprType.{null_type}
use Rattle.csdl_schema.specs.PathSet.{PropertyPath}
use Rattle.odata_signatures.specs.NeededPaths.{VariablePaths, path_of}
use Rattle.odata_signatures.specs.Typed.{Scope, with_variable}

abbrev mutual
  -- the path of each node of a tree in pre-order, where the variables in scope have these paths; no path depends on the
  -- type of a variable
  pub node_paths : Scope → VariablePaths → Tree → List PropertyPath
  node_paths scope paths (node start stop shape) =
      path_of scope paths (node start stop shape) ∷ paths_below scope paths shape

  -- likewise of the nodes below one of that shape; the variable of a lambda operator goes over what its base leads to
  pub paths_below : Scope → VariablePaths → Shape → List PropertyPath
  paths_below scope paths (literal kind spelling) = []
  paths_below scope paths it = []
  paths_below scope paths (name asked) = []
  paths_below scope paths (member base asked) = node_paths scope paths base
  paths_below scope paths (count base) = node_paths scope paths base
  paths_below scope paths (negation operand) = node_paths scope paths operand
  paths_below scope paths (logical_not operand) = node_paths scope paths operand
  paths_below scope paths (binary operator left right) = node_paths scope paths left ++ node_paths scope paths right
  paths_below scope paths (has left right) = node_paths scope paths left ++ node_paths scope paths right
  paths_below scope paths (in_list left items) = node_paths scope paths left ++ paths_among scope paths items
  paths_below scope paths (in_path left path) = node_paths scope paths left ++ node_paths scope paths path
  paths_below scope paths (call asked arguments) = paths_among scope paths arguments
  paths_below scope paths (any_item base) = node_paths scope paths base
  paths_below scope paths (lambda quantifier base variable body) =
      node_paths scope paths base
      ++ node_paths (with_variable scope variable null_type) (path_of scope paths base ∷ paths) body

  -- likewise of trees one after another
  pub paths_among : Scope → VariablePaths → Trees → List PropertyPath
  paths_among scope paths no_trees = []
  paths_among scope paths (more_trees tree trees) = node_paths scope paths tree ++ paths_among scope paths trees

-- a name after the text of a path, with a slash (47) between where there is one
abbrev pub with_step : List ℕ → List ℕ → List ℕ
with_step [] asked = asked
with_step (code ∷ before) asked = (code ∷ before) ++ (47 ∷ asked)

-- the names of a path, joined by slashes
abbrev pub path_text : PropertyPath → List ℕ
path_text path = fold with_step [] path

-- of these texts, in their order, each that is not among those seen, once
abbrev pub unseen : List (List ℕ) → List (List ℕ) → List (List ℕ)
unseen seen [] = []
unseen seen (text ∷ texts) =
    if list_any (pointwise nat_eq text) seen then unseen seen texts else text ∷ unseen (seen ++ text ∷ []) texts

-- the paths of the properties that the nodes of a tree name, each once, in the order of the first node that does. A
-- node that names none has the empty path, which is left out
abbrev pub property_paths : Tree → List (List ℕ)
property_paths tree = unseen ([] ∷ []) (map path_text (node_paths [] [] tree))
