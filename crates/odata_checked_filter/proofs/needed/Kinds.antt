-- What stands where a path is walked, by the kind of its node.
use Rattle.std.proofs.Common.{◌≡◌, ℕ, ◌+◌, [], List, None, Some, slice_get, refl, sym, subst}
use Rattle.odata_syntax.specs.Tree.{Shape, Tree, member, name, node}
use Rattle.csdl_schema.specs.ExprType.{single, structured}
use Rattle.csdl_schema.specs.PathSet.{PropertyPath}
use Rattle.csdl_schema.specs.SchemaModel.{SchemaModel, properties_at, slot_named, slots_of, type_name_at}
use Rattle.odata_signatures.specs.NeededPaths.{VariablePaths, path_of}
use Rattle.odata_signatures.specs.Typed.{Scope, Typed}
use Rattle.odata_signatures.specs.TypeView.{expr_type}
use Rattle.odata_signatures.specs.declared.edm_type.EdmType.{EdmType}
use Rattle.odata_signatures.specs.declared.edm_type.ValueType.{ValueType}
use Rattle.odata_checked_filter.specs.FlatTree.{FlatTree}
use Rattle.odata_checked_filter.specs.Levels.{level_named}
use Rattle.odata_checked_filter.specs.private.Layout.{Lies}
use Rattle.odata_checked_filter.specs.Stands.{variable_names}
use Rattle.odata_checked_filter.specs.declared.checked_node.CheckedNode.{CheckedNode}
use Rattle.odata_checked_filter.specs.declared.checked_node.NodeKind.{NodeKind}
use Rattle.odata_checked_filter.specs.private.NeededPaths.{NeedsOnWay, steps_of}
use Rattle.odata_checked_filter.proofs.flat.Children.{one_there}
use Rattle.odata_checked_filter.proofs.flat.KindForms.{HasForm, form_at, form_there, member_form, property_form, variable_form}
use Rattle.odata_checked_filter.proofs.needed.Lines.{some_variable}

-- the structured type of one value
pub owner_type : (schema : SchemaModel) (type : EdmType) (owner : List ℕ) → expr_type schema type ≡ single (structured owner)
    → (id : ℕ) × ((type ≡ EdmType.Single (ValueType.Structured id)) × (owner ≡ type_name_at schema id))
owner_type schema (EdmType.Single (ValueType.Structured id)) owner is = (id, (refl, (let same : type_name_at schema id ≡ owner = cc in sym same)))
owner_type schema _ owner is = absurd (cc)

-- no step, and no path
abbrev pub IsNoWay : Tree → Type 0
IsNoWay (node start end (name asked)) = ⊥
IsNoWay (node start end (member base asked)) = ⊥
IsNoWay (node start end shape) = Unit {0}

module _ (schema : SchemaModel) (n : ℕ) (scope : Scope) (list : FlatTree) where
  -- the node of a tree has the tree's type
  pub typed_there : (place stop : ℕ) (tree : Tree) → Lies schema n scope list place stop tree
      → (found : CheckedNode) × ((slice_get list.nodes place ≡ Some found) × Typed (slots_of schema) (type_name_at schema n) scope tree (expr_type schema found.edm_type))
  typed_there place stop (node start end shape) stands = (stands.top.found, (stands.top.stands_at, stands.top.typed))

  -- ---- a step

  pub record IsStepThere (place stop slot : ℕ) (tree : Tree) : Type 0 where
    pub start : ℕ
    pub end : ℕ
    pub base : Tree
    pub asked : List ℕ
    pub is : tree ≡ node start end (member base asked)
    pub base_stands : Lies schema n scope list (place + 1) stop base
    pub owner : List ℕ
    pub base_typed : Typed (slots_of schema) (type_name_at schema n) scope base (single (structured owner))
    pub named : slot_named ((slots_of schema).properties owner) asked ≡ Some slot
    pub text_at : slice_get list.texts place ≡ Some asked

  pub step_there : (place stop slot : ℕ) (tree : Tree) (found : CheckedNode) → Lies schema n scope list place stop tree → slice_get list.nodes place ≡ Some found
      → found.kind ≡ NodeKind.Member slot → IsStepThere place stop slot tree
  step_there place stop slot (node start end shape) found stands at is = by shape (form_at schema n scope list place stop start end shape found (NodeKind.Member slot) stands at is) stands
    where
      by : (shape : Shape) → HasForm (slots_of schema) (type_name_at schema n) scope shape (NodeKind.Member slot) → Lies schema n scope list place stop (node start end shape)
          → IsStepThere place stop slot (node start end shape)
      by shape (member_form {base = base} {asked = asked} owner typed named) stands = record {
        start = start;
        end = end;
        base = base;
        asked = asked;
        is = refl;
        base_stands = one_there schema n scope list (place + 1) stop base stands.children;
        owner = owner;
        base_typed = typed;
        named = named;
        text_at = stands.top.text_at;
      }

  -- ---- a property of the filtered type

  pub record IsPropertyThere (place slot : ℕ) (tree : Tree) : Type 0 where
    pub start : ℕ
    pub end : ℕ
    pub asked : List ℕ
    pub is : tree ≡ node start end (name asked)
    pub unbound : level_named (variable_names scope) asked ≡ None
    pub named : slot_named (properties_at schema n) asked ≡ Some slot
    pub text_at : slice_get list.texts place ≡ Some asked

  pub property_there : (place stop slot : ℕ) (tree : Tree) (found : CheckedNode) → Lies schema n scope list place stop tree → slice_get list.nodes place ≡ Some found
      → found.kind ≡ NodeKind.Property slot → IsPropertyThere place slot tree
  property_there place stop slot (node start end shape) found stands at is = by shape (form_at schema n scope list place stop start end shape found (NodeKind.Property slot) stands at is) stands
    where
      by : (shape : Shape) → HasForm (slots_of schema) (type_name_at schema n) scope shape (NodeKind.Property slot) → Lies schema n scope list place stop (node start end shape)
          → IsPropertyThere place slot (node start end shape)
      by shape (property_form {asked = asked} free named) stands =
          record { start = start; end = end; asked = asked; is = refl; unbound = free; named = named; text_at = stands.top.text_at }

  -- ---- a variable

  pub record IsVariableThere (place level : ℕ) (tree : Tree) : Type 0 where
    pub start : ℕ
    pub end : ℕ
    pub asked : List ℕ
    pub is : tree ≡ node start end (name asked)
    pub bound : level_named (variable_names scope) asked ≡ Some level
    pub text_at : slice_get list.texts place ≡ Some asked

  pub variable_there : (place stop level : ℕ) (tree : Tree) (found : CheckedNode) → Lies schema n scope list place stop tree → slice_get list.nodes place ≡ Some found
      → found.kind ≡ NodeKind.Variable level → IsVariableThere place level tree
  variable_there place stop level (node start end shape) found stands at is = by shape (form_at schema n scope list place stop start end shape found (NodeKind.Variable level) stands at is) stands
    where
      by : (shape : Shape) → HasForm (slots_of schema) (type_name_at schema n) scope shape (NodeKind.Variable level) → Lies schema n scope list place stop (node start end shape)
          → IsVariableThere place level (node start end shape)
      by shape (variable_form {asked = asked} bound) stands = record { start = start; end = end; asked = asked; is = refl; bound = bound; text_at = stands.top.text_at }

  -- a variable needs nothing of itself
  pub variable_needs_none : (paths : VariablePaths) (place level : ℕ) (tree : Tree) (path : PropertyPath) → IsVariableThere place level tree
      → NeedsOnWay (slots_of schema) (type_name_at schema n) scope paths tree path → ⊥
  variable_needs_none paths place level tree path there need =
      let needs = subst (λ (t : Tree). NeedsOnWay (slots_of schema) (type_name_at schema n) scope paths t path) there.is need in
      some_variable scope there.asked level there.bound needs.free

  -- ---- any other tree

  pub way_none : (paths : VariablePaths) (tree : Tree) → IsNoWay tree
      → (steps_of tree ≡ 0) × ((path_of scope paths tree ≡ []) × ((path : PropertyPath) → NeedsOnWay (slots_of schema) (type_name_at schema n) scope paths tree path → ⊥))
  way_none paths (node start end (name asked)) plain = absurd plain
  way_none paths (node start end (member base asked)) plain = absurd plain
  way_none paths (node start end _) plain = (refl, (refl, λ path need. need))

  -- what stands where no step, no property and no variable does
  pub other_there : (place stop : ℕ) (tree : Tree) (found : CheckedNode) → Lies schema n scope list place stop tree → slice_get list.nodes place ≡ Some found
      → ((slot : ℕ) → found.kind ≡ NodeKind.Member slot → ⊥) → ((slot : ℕ) → found.kind ≡ NodeKind.Property slot → ⊥) → ((level : ℕ) → found.kind ≡ NodeKind.Variable level → ⊥)
      → IsNoWay tree
  other_there place stop (node start end shape) found stands at = by shape found.kind (form_there schema n scope list place stop start end shape found stands at)
    where
      by : (shape : Shape) (kind : NodeKind) → HasForm (slots_of schema) (type_name_at schema n) scope shape kind
          → ((slot : ℕ) → kind ≡ NodeKind.Member slot → ⊥) → ((slot : ℕ) → kind ≡ NodeKind.Property slot → ⊥) → ((level : ℕ) → kind ≡ NodeKind.Variable level → ⊥)
          → IsNoWay (node start end shape)
      by shape kind (member_form {slot = slot} owner typed named) step property variable = step slot refl
      by shape kind (property_form {slot = slot} free named) step property variable = property slot refl
      by shape kind (variable_form {level = level} bound) step property variable = variable level refl
      by shape kind _ step property variable = tt
