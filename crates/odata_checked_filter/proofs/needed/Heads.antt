-- The tree at the head of a line, by the kind of its node.
use Rattle.std.proofs.Common.{◌≡◌, ℕ, ◌+◌, ◌<◌, List, [], ◌∷◌, Some, slice_get, refl, sym, subst, arith}
use Rattle.odata_syntax.specs.Tree.{Shape, Tree, lambda, member, name, node}
use Rattle.odata_syntax.specs.declared.node.Quantifier.{Quantifier}
use Rattle.csdl_schema.specs.SchemaModel.{SchemaModel, slots_of, type_name_at}
use Rattle.odata_signatures.specs.Typed.{Scope, Typed}
use Rattle.odata_checked_filter.specs.FlatTree.{FlatTree}
use Rattle.odata_checked_filter.specs.private.Layout.{Lies}
use Rattle.odata_checked_filter.specs.Stands.{InBody}
use Rattle.odata_checked_filter.specs.declared.checked_node.CheckedNode.{CheckedNode}
use Rattle.odata_checked_filter.specs.declared.checked_node.NodeKind.{NodeKind}
use Rattle.odata_checked_filter.specs.declared.needed_paths.NeedClass.{NeedClass}
use Rattle.odata_checked_filter.specs.private.NeededPaths.{StandInLine, need_class}
use Rattle.odata_checked_filter.proofs.flat.KindForms.{HasForm, form_there, lambda_form, member_form, property_form}

module _ (schema : SchemaModel) (n : ℕ) (scope : Scope) (list : FlatTree) where
  -- ---- the head

  -- the first tree of a line, and those after it
  pub record IsHead (place stop : ℕ) (trees : List Tree) : Type 0 where
    pub tree : Tree
    pub more : List Tree
    pub middle : ℕ
    pub stands : Lies schema n scope list place middle tree
    pub behind : StandInLine schema n scope list middle stop more
    pub is : trees ≡ tree ∷ more

  pub head_of : (place stop : ℕ) (trees : List Tree) → StandInLine schema n scope list place stop trees → place < stop → IsHead place stop trees
  head_of place stop [] line before = absurd (omega (arith, line, before))
  head_of place stop (tree ∷ more) line before = record { tree = tree; more = more; middle = line.0; stands = line.1; behind = line.2; is = refl }

  -- ---- a lambda operator

  pub record IsLambdaTree (place stop : ℕ) (tree : Tree) : Type 0 where
    pub start : ℕ
    pub end : ℕ
    pub quantifier : Quantifier
    pub base : Tree
    pub variable : List ℕ
    pub body : Tree
    pub middle : ℕ
    pub is : tree ≡ node start end (lambda quantifier base variable body)
    pub base_stands : Lies schema n scope list (place + 1) middle base
    pub body_stands : InBody scope variable (Typed (slots_of schema) (type_name_at schema n) scope base) (λ at. Lies schema n at list middle stop body)

  pub lambda_tree : (place stop : ℕ) (tree : Tree) (found : CheckedNode) → Lies schema n scope list place stop tree → slice_get list.nodes place ≡ Some found
      → need_class found.kind ≡ NeedClass.Lambda → IsLambdaTree place stop tree
  lambda_tree place stop (node start end shape) found stands at class = by shape found.kind (form_there schema n scope list place stop start end shape found stands at) class stands
    where
      by : (shape : Shape) (kind : NodeKind) → HasForm (slots_of schema) (type_name_at schema n) scope shape kind → need_class kind ≡ NeedClass.Lambda
          → Lies schema n scope list place stop (node start end shape) → IsLambdaTree place stop (node start end shape)
      by shape kind (lambda_form {quantifier = quantifier} {base = base} {variable = variable} {body = body}) class stands = record {
        start = start;
        end = end;
        quantifier = quantifier;
        base = base;
        variable = variable;
        body = body;
        middle = stands.children.middle;
        is = refl;
        base_stands = stands.children.left;
        body_stands = subst (λ (m : ℕ). InBody scope variable (Typed (slots_of schema) (type_name_at schema n) scope base) (λ at. Lies schema n at list stands.children.middle m body))
            stands.children.right.right stands.children.right.left;
      }
      by shape kind _ class _ = absurd (cc)

  -- ---- a path

  -- a name, with nothing after it; or a step
  abbrev pub IsWay : ℕ → ℕ → Tree → Type 0
  IsWay place stop (node start end (name asked)) = stop ≡ place + 1
  IsWay place stop (node start end (member base asked)) = Unit {0}
  IsWay place stop (node start end shape) = ⊥

  pub way_there : (place stop : ℕ) (tree : Tree) (found : CheckedNode) → Lies schema n scope list place stop tree → slice_get list.nodes place ≡ Some found
      → need_class found.kind ≡ NeedClass.Path → IsWay place stop tree
  way_there place stop (node start end shape) found stands at class = by shape found.kind (form_there schema n scope list place stop start end shape found stands at) class stands
    where
      by : (shape : Shape) (kind : NodeKind) → HasForm (slots_of schema) (type_name_at schema n) scope shape kind → need_class kind ≡ NeedClass.Path
          → Lies schema n scope list place stop (node start end shape) → IsWay place stop (node start end shape)
      by shape kind (property_form free named) class stands = sym stands.children
      by shape kind (member_form owner typed named) class stands = tt
      by shape kind _ class _ = absurd (cc)
