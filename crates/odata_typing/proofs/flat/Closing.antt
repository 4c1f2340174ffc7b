-- A node that is put over its children stands there for its tree; or why it is not put.
use Rattle.odata_typing.proofs.Common.{◌≡◌, ◌∙◌, refl, sym, ℕ, ◌<◌, ◌+◌, List, [], ◌∷◌, Bool, true, false, None, Some, length, slice_get, arith, Option, IfSome, IfNone, IsSomeAnd, Shape, Tree, node, Slots, slots_of, type_name_at, IsTypeThere, expr_type, IsFirstUntypable, Typed, CheckedNode, FlatTree, IsKeptOutside, node_put, with_value, ChildrenStand, HasOwnValue, IsKindOf, text_of_shape, Judged, CheckContext, Walk, IsIdle, IsNodeJudged, LawsBelow, IsNodeReady, scope_of, checked, walk_put, walk_refused}
use Rattle.edm_values.specs.declared.value.Value.{Value}
use Rattle.odata_signatures.specs.declared.edm_type.EdmType.{EdmType}
use Rattle.odata_signatures.specs.declared.refusal.TypeFaultCode.{TypeFaultCode}
use Rattle.odata_checked_filter.specs.declared.checked_node.NodeKind.{NodeKind}
use Rattle.odata_typing.proofs.flat.Kept.{IsMore, IsOnward, kept_on, kept_wider}
use Rattle.odata_checked_filter.proofs.flat.Places.{get_front, get_last, get_put}

pub some_on : {X : Type 0} (o : Option X) (P Q : X → Type 0) → ((x : X) → P x → Q x) → IfSome o P → IfSome o Q
some_on None P Q f holds = tt
some_on (Some x) P Q f holds = f x holds

pub some_at : (P : Value → Type 0) (o : Option Value) (value : Value) → o ≡ Some value → P value → IsSomeAnd o P
some_at P o value same holds = rw same holds

-- after a value that is put all that stood in the list stands there still
pub value_kept : (i j : ℕ) (list : FlatTree) (value : Value) → IsKeptOutside i j list (with_value list value)
value_kept i j list value = record {
  nodes = λ k outside. refl;
  texts = λ k outside. refl;
  values = λ k held at. get_front list.values (value ∷ []) k held at;
  count = refl;
  beside = refl;
  source = refl;
}

-- the value that was put
pub value_put : (list : FlatTree) (value : Value) → slice_get (with_value list value).values (length list.values) ≡ Some value
value_put list value = get_last list.values (length list.values) value refl

-- the walk with a value more
pub valued_more : (old new : Walk) (value : Value) → new ≡ record old { list = with_value old.list value } → IsMore old new
valued_more old new value is = λ i j. rw is (record { kept = value_kept i j old.list value; navigates = λ idle. idle })

-- the tree of a node of that shape
abbrev pub tree_over : Judged → Shape → Tree
tree_over judged shape = node judged.node.now.span.start judged.node.now.span.stop shape

-- the types and the filtered type of a context
abbrev pub slots_in : CheckContext → Slots
slots_in context = slots_of context.schema.now

abbrev pub root_in : CheckContext → List ℕ
root_in context = type_name_at context.schema.now context.filtered_type

-- what is put where a type has been made, and the refusal where none has
pub record IsPutFor (made : Option EdmType) (result : Bool) (new : Walk) (put : EdmType → Walk) (refused : Walk) : Type 0 where
  pub some : IfSome made (λ type. result ≡ true)
  pub put_is : IfSome made (λ type. new ≡ put type)
  pub none : IfNone made (result ≡ false)
  pub refused_is : IfNone made (new ≡ refused)

module _ (context : CheckContext) (judged : Judged) where
  pub put_changed :
      LawsBelow → (old mid new : Walk) (shape : Shape) (kind : NodeKind) (type : EdmType) (result : Bool)
      → IsNodeReady context old judged
      → IsOnward judged.number judged.stop old mid
      → mid.fault ≡ None
      → result ≡ true
      → new ≡ walk_put mid judged kind type (text_of_shape shape)
      → IsTypeThere context.schema.now type
      → IsKindOf (slots_in context) (root_in context) (scope_of context) shape kind
      → HasOwnValue mid.list.values (slots_in context) shape kind
      → Typed (slots_in context) (root_in context) (scope_of context) (tree_over judged shape) (expr_type context.schema.now type)
      → ChildrenStand context.schema.now context.filtered_type (scope_of context) mid.list (judged.number + 1) judged.stop shape
      → (mid.navigates ≡ false → IsIdle (slots_in context) (root_in context) (scope_of context) (tree_over judged shape))
      → IsNodeJudged context judged shape old new result
  put_changed laws old mid new shape kind type result ready onward fresh goes_on is there of_kind valued typed children idle =
      let put : CheckedNode = checked judged kind type in
      let count : length mid.list.nodes ≡ length old.list.nodes = onward.kept.count in
      let inside : judged.number < length mid.list.nodes = let a = ready.order in let b = ready.inside in omega arith in
      let beside : length mid.list.texts ≡ length mid.list.nodes = onward.kept.beside ∙ ready.ready.beside ∙ sym count in
      rw (goes_on, is) (record {
        kept = kept_on judged.number judged.stop old.list mid.list (node_put mid.list judged.number put (text_of_shape shape))
            onward.kept
            (kept_wider judged.number (judged.number + 1) judged.number judged.stop mid.list (node_put mid.list judged.number put (text_of_shape shape)) (omega arith) (let a = ready.order in omega arith)
            (laws.changes mid.list judged.number put (text_of_shape shape)));
        stands = record {
          found = put;
          at = get_put mid.list.nodes judged.number put inside;
          order = ready.order;
          last = refl;
          there = there;
          typed = typed;
          stands = laws.put context.schema.now context.filtered_type (scope_of context) mid.list judged.number put shape inside beside of_kind valued typed children;
          idle = idle;
        };
        navigates = onward.navigates;
        fault = fresh;
      })

  -- the node has no type itself
  pub refused_tree :
      (old mid new : Walk) (shape : Shape) (code : TypeFaultCode) (result : Bool)
      → result ≡ false
      → new ≡ walk_refused mid judged.node.now.span code
      → IsFirstUntypable (slots_in context) (root_in context) (scope_of context) (tree_over judged shape) (record { code = code; span = judged.node.now.span })
      → IsNodeJudged context judged shape old new result
  refused_tree old mid new shape code result stops is found = rw (stops, is) found

  -- an allocation failed
  pub unjudged : (old new : Walk) (shape : Shape) (result : Bool) → result ≡ false → new.fault ≡ None → IsNodeJudged context judged shape old new result
  unjudged old new shape result stops none = rw (stops, none) tt
