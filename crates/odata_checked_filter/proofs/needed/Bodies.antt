-- What a lambda operator needs: its base, the way to the base's path, and its body with the variable there.
use Rattle.std.proofs.Common.{◌≡◌, ◌⊎◌, ◌↔◌, ℕ, List, [], ◌∷◌, true, false, subst, inl, inr}
use Rattle.odata_syntax.specs.Tree.{Tree}
use Rattle.csdl_schema.specs.ExpansionView.{StepModel, paths_in}
use Rattle.csdl_schema.specs.ExprType.{ExprType, SingleType, collection, single}
use Rattle.csdl_schema.specs.PathSet.{PropertyPath}
use Rattle.csdl_schema.specs.SchemaModel.{Slots}
use Rattle.odata_signatures.specs.Laws.{OneType}
use Rattle.odata_signatures.specs.NeededPaths.{BodyNeeds, IsNeeded, VariablePaths, path_of}
use Rattle.odata_signatures.specs.Typed.{BindsVariable, Scope, Typed, with_variable}
use Rattle.odata_checked_filter.specs.private.NeededPaths.{LambdaNeeds, NeedsAmong, NeedsOnWay, Puts}
use Rattle.odata_checked_filter.proofs.flat.Nodes.{same_member}
use Rattle.odata_checked_filter.proofs.needed.Sets.{puts_as, puts_both}
use Rattle.odata_checked_filter.proofs.needed.Ways.{way_needed}

module _ (types : OneType) (slots : Slots) (root : List ℕ) (scope : Scope) (paths : VariablePaths) (base : Tree) (variable : List ℕ) (body : Tree) where
  abbrev Base : ExprType → Type 0
  Base = Typed slots root scope base

  abbrev InnerNeeds : SingleType → PropertyPath → Type 0
  InnerNeeds member path = IsNeeded slots root (with_variable scope variable (single member)) (path_of scope paths base ∷ paths) body path

  pub lambda_puts : (old mid way new : List StepModel) (member : SingleType) → BindsVariable scope variable Base member
      → Puts old mid (NeedsAmong slots root scope paths (base ∷ [])) → Puts mid way (NeedsOnWay slots root scope paths base)
      → Puts way new (NeedsAmong slots root (with_variable scope variable (single member)) (path_of scope paths base ∷ paths) (body ∷ []))
      → Puts old new (LambdaNeeds slots root scope paths base variable body)
  lambda_puts old mid way new member binds first steps second =
      puts_as old new (λ path. (NeedsAmong slots root scope paths (base ∷ []) path ⊎ NeedsOnWay slots root scope paths base path)
      ⊎ NeedsAmong slots root (with_variable scope variable (single member)) (path_of scope paths base ∷ paths) (body ∷ []) path) (LambdaNeeds slots root scope paths base variable body)
      forth back
      (puts_both old way new (λ path. NeedsAmong slots root scope paths (base ∷ []) path ⊎ NeedsOnWay slots root scope paths base path)
      (NeedsAmong slots root (with_variable scope variable (single member)) (path_of scope paths base ∷ paths) (body ∷ []))
      (puts_both old mid way (NeedsAmong slots root scope paths (base ∷ [])) (NeedsOnWay slots root scope paths base) first steps) second)
    where
      inside : (path : PropertyPath) → NeedsAmong slots root (with_variable scope variable (single member)) (path_of scope paths base ∷ paths) (body ∷ []) path
          → BodyNeeds scope variable Base (λ at. IsNeeded slots root at (path_of scope paths base ∷ paths) body path)
      inside path (inl need) = record { member_type = member; binds = binds; body_needs = need }
      inside path (inr none) = absurd none

      forth : (path : PropertyPath)
          → (NeedsAmong slots root scope paths (base ∷ []) path ⊎ NeedsOnWay slots root scope paths base path)
          ⊎ NeedsAmong slots root (with_variable scope variable (single member)) (path_of scope paths base ∷ paths) (body ∷ []) path
          → LambdaNeeds slots root scope paths base variable body path
      forth path (inl (inl (inl need))) = inl need
      forth path (inl (inl (inr none))) = absurd none
      forth path (inl (inr need)) = inl (way_needed slots root scope paths base path need)
      forth path (inr need) = inr (inside path need)

      back : (path : PropertyPath) → LambdaNeeds slots root scope paths base variable body path
          → (NeedsAmong slots root scope paths (base ∷ []) path ⊎ NeedsOnWay slots root scope paths base path)
          ⊎ NeedsAmong slots root (with_variable scope variable (single member)) (path_of scope paths base ∷ paths) (body ∷ []) path
      back path (inl need) = inl (inl (inl need))
      back path (inr need) = inr (inl (subst (λ (m : SingleType). InnerNeeds m path) (same_member need.member_type member (types slots root scope base (collection need.member_type) (collection member) need.binds.over binds.over)) need.body_needs))

-- of an empty set and one tree: what the tree needs, and nothing else
pub only_needed : (slots : Slots) (root : List ℕ) (tree : Tree) (old new : List StepModel) → ((path : PropertyPath) → paths_in old path ≡ false) → Puts old new (NeedsAmong slots root [] [] (tree ∷ []))
    → (path : PropertyPath) → (paths_in new path ≡ true) ↔ IsNeeded slots root [] [] tree path
only_needed slots root tree old new none puts path = (
  (λ in_new. elim ((puts.has path).0 in_new) [
    | inl before ↦ (let empty = none path in absurd (cc))
    | inr need ↦ elim need [ inl here ↦ here | inr nothing ↦ absurd nothing ]
  ]),
  (λ need. (puts.has path).1 (inr (inl need))),
)
