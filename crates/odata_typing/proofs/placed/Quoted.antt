-- A node quotes what its tree does.
use Rattle.odata_typing.proofs.Common.{◌≡◌, ◌∙◌, refl, ap, ℕ, List, Option, Some, slice_get, sym, same_Some, Shape, Tree, call, literal, name, node, SchemaModel, Slots, slots_of, type_name_at, quoted_text, Scope, CheckedNode, FlatTree, IsKindOf, IsLiteralNode, Stands, text_of_shape, quoted_beside, quoted_in}
use Rattle.odata_syntax.specs.Tree.{member}
use Rattle.odata_syntax.specs.declared.node.LiteralKind.{LiteralKind}
use Rattle.odata_checked_filter.specs.declared.checked_node.NodeKind.{NodeKind}

-- of a literal's kind it goes by that
resolved_literal : (kind : LiteralKind) (place start stop : ℕ) (spelling : List ℕ) (text : Option (List ℕ)) → text ≡ Some spelling
    → quoted_beside (NodeKind.Literal kind place) text ≡ quoted_text (node start stop (literal kind spelling))
resolved_literal LiteralKind.Str place start stop spelling text at = at
resolved_literal _ place start stop spelling text at = refl

module _ (slots : Slots) (root : List ℕ) (scope : Scope) (start stop : ℕ) (text : Option (List ℕ)) where
  literal_quoted : (kind : LiteralKind) (spelling : List ℕ) (k : NodeKind) → IsLiteralNode kind k → text ≡ Some spelling
      → quoted_beside k text ≡ quoted_text (node start stop (literal kind spelling))
  literal_quoted kind spelling (NodeKind.Literal l place) is at =
      ap (λ (m : LiteralKind). quoted_beside (NodeKind.Literal m place) text) is ∙ resolved_literal kind place start stop spelling text at
  literal_quoted kind spelling _ is at = absurd is

  pub quoted_of_kind : (shape : Shape) (k : NodeKind) → IsKindOf slots root scope shape k → text ≡ Some (text_of_shape shape)
      → quoted_beside k text ≡ quoted_text (node start stop shape)
  quoted_of_kind (literal kind spelling) k is at = literal_quoted kind spelling k is at
  quoted_of_kind (name asked) (NodeKind.Variable level) is at = refl
  quoted_of_kind (name asked) (NodeKind.Property slot) is at = refl
  quoted_of_kind (name asked) _ is at = absurd is
  quoted_of_kind (member base asked) (NodeKind.Member slot) is at = refl
  quoted_of_kind (member base asked) _ is at = absurd is
  quoted_of_kind (call asked arguments) NodeKind.Now is at = refl
  quoted_of_kind (call asked arguments) (NodeKind.Call function) is at = refl
  quoted_of_kind (call asked arguments) _ is at = absurd is
  quoted_of_kind _ k is at = rw is refl

pub quoted_standing : (schema : SchemaModel) (n : ℕ) (scope : Scope) (list : FlatTree) (i j : ℕ) (tree : Tree) (found : CheckedNode) → Stands schema n scope list i j tree → slice_get list.nodes i ≡ Some found
    → quoted_in list i found ≡ quoted_text tree
quoted_standing schema n scope list i j (node start stop shape) found stands at =
    let same : found ≡ stands.top.found = same_Some found stands.top.found (sym at ∙ stands.top.stands_at) in
    ap (λ (f : CheckedNode). quoted_in list i f) same
    ∙ quoted_of_kind (slots_of schema) (type_name_at schema n) scope start stop (slice_get list.texts i) shape stands.top.found.kind stands.top.kind stands.top.text_at
