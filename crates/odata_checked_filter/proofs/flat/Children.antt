-- Children that lie one after another, one or two of them.
use Rattle.std.proofs.Common.{◌≡◌, subst, ℕ, List, [], ◌∷◌}
use Rattle.odata_syntax.specs.Tree.{Tree}
use Rattle.csdl_schema.specs.SchemaModel.{SchemaModel, slots_of, type_name_at}
use Rattle.odata_checked_filter.specs.FlatTree.{FlatTree}
use Rattle.odata_checked_filter.specs.private.Layout.{Lies}
use Rattle.odata_checked_filter.specs.Stands.{InBody, InLine, SideBySide}
use Rattle.odata_signatures.specs.Typed.{Scope, Typed}

only_part : (Part : ℕ → ℕ → Type 0) (i j : ℕ) → InLine (Part ∷ []) i j → Part i j
only_part Part i j stand = let same : stand.middle ≡ j = stand.right in subst (λ (k : ℕ). Part i k) same stand.left

two_parts : (First Second : ℕ → ℕ → Type 0) (i j : ℕ) → InLine (First ∷ Second ∷ []) i j → SideBySide (λ middle. First i middle) (λ middle. Second middle j)
two_parts First Second i j stand =
    record { middle = stand.middle; left = stand.left; right = only_part Second stand.middle j stand.right }

module _ (schema : SchemaModel) (n : ℕ) (scope : Scope) (list : FlatTree) (i j : ℕ) where
  pub one_there : (tree : Tree) → InLine ((λ a b. Lies schema n scope list a b tree) ∷ []) i j → Lies schema n scope list i j tree
  one_there tree = only_part (λ a b. Lies schema n scope list a b tree) i j

  pub two_there : (left right : Tree) → InLine ((λ a b. Lies schema n scope list a b left) ∷ (λ a b. Lies schema n scope list a b right) ∷ []) i j
      → SideBySide (λ middle. Lies schema n scope list i middle left) (λ middle. Lies schema n scope list middle j right)
  two_there left right = two_parts (λ a b. Lies schema n scope list a b left) (λ a b. Lies schema n scope list a b right) i j

  module _ (base : Tree) (variable : List ℕ) (body : Tree) where
    -- what lies as the body does, in the scope with its variable
    abbrev pub BodyLies : ℕ → ℕ → Type 0
    BodyLies a b = InBody scope variable (Typed (slots_of schema) (type_name_at schema n) scope base) (λ at. Lies schema n at list a b body)

    pub body_there : InLine ((λ a b. Lies schema n scope list a b base) ∷ BodyLies ∷ []) i j
        → SideBySide (λ middle. Lies schema n scope list i middle base) (λ middle. BodyLies middle j)
    body_there = two_parts (λ a b. Lies schema n scope list a b base) BodyLies i j
