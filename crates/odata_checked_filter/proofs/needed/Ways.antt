-- Paths of steps: what they need, and what stands before their first step.
use Rattle.std.proofs.Common.{◌≡◌, ◌⊎◌, ℕ, ◌+◌, List, subst, inl, inr, arith}
use Rattle.odata_syntax.specs.Tree.{Tree, member, name, node}
use Rattle.csdl_schema.specs.PathSet.{PropertyPath}
use Rattle.csdl_schema.specs.SchemaModel.{SchemaModel, Slots}
use Rattle.odata_signatures.specs.NeededPaths.{IsNeeded, VariablePaths}
use Rattle.odata_signatures.specs.Typed.{Scope}
use Rattle.odata_checked_filter.specs.FlatTree.{FlatTree}
use Rattle.odata_checked_filter.specs.private.Layout.{Lies}
use Rattle.odata_checked_filter.specs.private.NeededPaths.{NeedsOnWay, base_of, steps_of}
use Rattle.odata_checked_filter.proofs.flat.Children.{one_there}

-- what stands before the first step
pub base_stands : (schema : SchemaModel) (n : ℕ) (scope : Scope) (list : FlatTree) (i j : ℕ) (tree : Tree) → Lies schema n scope list i j tree
    → Lies schema n scope list (i + steps_of tree) j (base_of tree)
base_stands schema n scope list i j (node start stop (member base asked)) stands =
    let further = base_stands schema n scope list (i + 1) j base (one_there schema n scope list (i + 1) j base stands.children) in
    let same : (i + 1) + steps_of base ≡ i + (steps_of base + 1) = omega arith in
    subst (λ (k : ℕ). Lies schema n scope list k j (base_of base)) same further
base_stands schema n scope list i j (node start stop shape) stands =
    let same : i ≡ i + 0 = omega arith in
    subst (λ (k : ℕ). Lies schema n scope list k j (node start stop shape)) same stands

-- what a tree needs is what its steps need, and what stands before them
pub needs_way : (slots : Slots) (root : List ℕ) (scope : Scope) (paths : VariablePaths) (tree : Tree) (path : PropertyPath) → IsNeeded slots root scope paths tree path
    → NeedsOnWay slots root scope paths tree path ⊎ IsNeeded slots root scope paths (base_of tree) path
needs_way slots root scope paths (node start stop (name asked)) path need = inl need
needs_way slots root scope paths (node start stop (member base asked)) path (inl below) =
    elim (needs_way slots root scope paths base path below) [ inl way ↦ inl (inl way) | inr rest ↦ inr rest ]
needs_way slots root scope paths (node start stop (member base asked)) path (inr step) = inl (inr step)
needs_way slots root scope paths (node start stop shape) path need = inr need

pub way_needed : (slots : Slots) (root : List ℕ) (scope : Scope) (paths : VariablePaths) (tree : Tree) (path : PropertyPath) → NeedsOnWay slots root scope paths tree path
    → IsNeeded slots root scope paths tree path
way_needed slots root scope paths (node start stop (name asked)) path need = need
way_needed slots root scope paths (node start stop (member base asked)) path (inl below) = inl (way_needed slots root scope paths base path below)
way_needed slots root scope paths (node start stop (member base asked)) path (inr step) = inr step
way_needed slots root scope paths (node start stop shape) path need = absurd need

pub base_needed : (slots : Slots) (root : List ℕ) (scope : Scope) (paths : VariablePaths) (tree : Tree) (path : PropertyPath)
    → IsNeeded slots root scope paths (base_of tree) path → IsNeeded slots root scope paths tree path
base_needed slots root scope paths (node start stop (member base asked)) path need = inl (base_needed slots root scope paths base path need)
base_needed slots root scope paths (node start stop shape) path need = need
