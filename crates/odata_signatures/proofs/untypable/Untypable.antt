-- The first untypable node of a tree, from those of its children.
use Rattle.std.proofs.Common.{◌≡◌, refl, ap, inl, inr, ◌⊎◌, ℕ, ◌≤◌, List, [], ◌∷◌, subst, arith}
use Rattle.std.specs.List.{AllByRecursion}
use Rattle.odata_syntax.specs.Tree.{Shape, Tree, Trees, node, literal, it, name, member, count, negation, logical_not, binary, has, in_list, in_path, call, any_item, lambda, more_trees, no_trees, shape_of, start_of}
use Rattle.odata_syntax.specs.Spans.{list_of_trees}
use Rattle.csdl_schema.specs.ExprType.{ExprType, SingleType, collection, single}
use Rattle.csdl_schema.specs.SchemaModel.{Slots}
use Rattle.odata_signatures.specs.declared.refusal.TypeFault.{TypeFault}
use Rattle.odata_signatures.specs.Considered.{ChildrenTyped, IsConsideredBody, IsAmong, IsConsidered, IsConsideredChild, IsItself, children_in_scope, considers_below, considers_itself}
use Rattle.odata_signatures.specs.FirstUntypable.{IsUntypable, IsFirstUntypable, IsReason}
use Rattle.odata_signatures.specs.Typed.{AreTyped, BindsVariable, Scope, Typed, IsTyped, IsUntyped, with_variable}
use Rattle.odata_signatures.specs.FirstAmong.{IsFirstBelow}
use Rattle.odata_signatures.proofs.tree_types.OneType.{OneCallType, Typed-one}

-- trees in one scope that all have types
abbrev pub AllTyped : Slots → List ℕ → Scope → List Tree → Type 0
AllTyped slots root scope = AllByRecursion (IsTyped slots root scope)

pub among_typed :
    (slots : Slots) (root : List ℕ) (scope : Scope) (trees : List Tree) (at : Scope) (tree : Tree)
    → AllTyped slots root scope trees
    → IsAmong scope trees at tree
    → IsTyped slots root at tree
among_typed slots root scope [] at tree typed among = absurd among
among_typed slots root scope (t ∷ ts) at tree typed (inl here) = rw (here.0, here.1) typed.0
among_typed slots root scope (t ∷ ts) at tree typed (inr behind) = among_typed slots root scope ts at tree typed.1 behind

all_of_them :
    (slots : Slots) (root : List ℕ) (scope : Scope) (trees : Trees) (types : List ExprType)
    → AreTyped slots root scope trees types
    → AllTyped slots root scope (list_of_trees trees)
all_of_them slots root scope no_trees types typed = tt
all_of_them slots root scope (more_trees tree trees) [] typed = absurd typed
all_of_them slots root scope (more_trees tree trees) (type ∷ types) typed = ((type, typed.0), all_of_them slots root scope trees types typed.1)

-- in a node that has a type each considered child has one
children_typed :
    (slots : Slots) (root : List ℕ) (scope : Scope) (tree : Tree) (type : ExprType)
    → Typed slots root scope tree type
    → AllTyped slots root scope (children_in_scope (shape_of tree))
children_typed slots root scope (node start stop (literal kind spelling)) type typed = tt
children_typed slots root scope (node start stop it) type typed = tt
children_typed slots root scope (node start stop (name asked)) type typed = tt
children_typed slots root scope (node start stop (member base asked)) type typed = ((typed.operand, typed.operand_typed), tt)
children_typed slots root scope (node start stop (count base)) type typed = ((typed.operand, typed.operand_typed), tt)
children_typed slots root scope (node start stop (negation operand)) type typed = ((typed.operand, typed.operand_typed), tt)
children_typed slots root scope (node start stop (logical_not operand)) type typed = ((typed.operand, typed.operand_typed), tt)
children_typed slots root scope (node start stop (binary operator left right)) type typed =
    ((typed.left, typed.left_typed), ((typed.right, typed.right_typed), tt))
children_typed slots root scope (node start stop (has left right)) type typed =
    ((typed.left, typed.left_typed), ((typed.right, typed.right_typed), tt))
children_typed slots root scope (node start stop (in_list left items)) type typed =
    ((typed.left, typed.left_typed), all_of_them slots root scope items typed.items typed.items_typed)
children_typed slots root scope (node start stop (in_path left path)) type typed =
    ((typed.left, typed.left_typed), ((typed.right, typed.right_typed), tt))
children_typed slots root scope (node start stop (call asked arguments)) type typed = all_of_them slots root scope arguments typed.types typed.arguments_typed
children_typed slots root scope (node start stop (any_item base)) type typed = ((typed.operand, typed.operand_typed), tt)
children_typed slots root scope (node start stop (lambda quantifier base variable body)) type typed = ((collection typed.member_type, typed.binds.over), tt)

same_member : (a b : SingleType) → collection a ≡ collection b → a ≡ b
same_member a b same = cc

-- a lambda operator binds its variable to members of one type
pub one_member :
    OneCallType
    → (slots : Slots) (root : List ℕ) (scope : Scope) (base : Tree) (variable : List ℕ) (a b : SingleType)
    → BindsVariable scope variable (Typed slots root scope base) a
    → BindsVariable scope variable (Typed slots root scope base) b
    → a ≡ b
one_member one_call slots root scope base variable a b x y =
    same_member a b (Typed-one one_call slots root scope base (collection a) (collection b) x.over y.over)

-- in a node that has a type a body that is judged has one
body_typed :
    OneCallType
    → (slots : Slots) (root : List ℕ) (scope : Scope) (tree : Tree) (type : ExprType) (at : Scope) (body : Tree)
    → Typed slots root scope tree type
    → IsConsideredBody slots root scope (shape_of tree) at body
    → IsTyped slots root at body
body_typed one_call slots root scope (node start stop (lambda quantifier base variable tree)) type at body typed judged =
    let same : typed.member_type ≡ judged.member_type = one_member one_call slots root scope base variable typed.member_type judged.member_type typed.binds judged.binds in
    let here : Typed slots root (with_variable scope variable (single judged.member_type)) tree typed.body =
    subst (λ (m : SingleType). Typed slots root (with_variable scope variable (single m)) tree typed.body) same typed.body_typed in
    rw (judged.itself.0, judged.itself.1) (typed.body, here)
body_typed one_call slots root scope (node start stop _) type at body typed judged = absurd judged

child_typed :
    OneCallType
    → (slots : Slots) (root : List ℕ) (scope : Scope) (tree : Tree) (inner : Scope) (child : Tree)
    → IsTyped slots root scope tree
    → IsConsideredChild slots root scope (shape_of tree) inner child
    → IsTyped slots root inner child
child_typed one_call slots root scope tree inner child typed (inl among) =
    among_typed slots root scope (children_in_scope (shape_of tree)) inner child (children_typed slots root scope tree typed.0 typed.1) among
child_typed one_call slots root scope tree inner child typed (inr body) =
    body_typed one_call slots root scope tree typed.0 inner child typed.1 body

-- in a tree that has a type each considered node has one
pub considered_typed :
    OneCallType
    → (slots : Slots) (root : List ℕ) (scope : Scope) (tree : Tree) (at : Scope) (part : Tree)
    → IsTyped slots root scope tree
    → IsConsidered slots root scope tree at part
    → IsTyped slots root at part
considered_typed one_call slots root scope tree at part typed considers_itself = typed
considered_typed one_call slots root scope tree at part typed (considers_below {inner = inner} {child = child} is within) =
    considered_typed one_call slots root inner child at part (child_typed one_call slots root scope tree inner child typed is) within

-- a tree that has a type has no untypable node
pub typed_clear :
    OneCallType
    → (slots : Slots) (root : List ℕ) (scope : Scope) (tree : Tree) (at : Scope) (part : Tree)
    → IsTyped slots root scope tree
    → ¬ IsUntypable slots root scope tree at part
typed_clear one_call slots root scope tree at part typed found =
    let t = considered_typed one_call slots root scope tree at part typed found.considered in found.untyped t.0 t.1

-- a tree with an untypable node has no type
pub untypable_blocks :
    OneCallType
    → (slots : Slots) (root : List ℕ) (scope : Scope) (tree : Tree) (fault : TypeFault)
    → IsFirstUntypable slots root scope tree fault
    → ¬ IsTyped slots root scope tree
untypable_blocks one_call slots root scope tree fault found typed = typed_clear one_call slots root scope tree found.at found.part typed found.untypable

-- where an untypable node stands: it is the tree itself, or one of a considered child
pub record IsBelow (slots : Slots) (root : List ℕ) (scope : Scope) (tree : Tree) (at : Scope) (part : Tree) : Type 0 where
  pub inner : Scope
  pub child : Tree
  pub is : IsConsideredChild slots root scope (shape_of tree) inner child
  pub within : IsConsidered slots root inner child at part

pub itself_or_below :
    (slots : Slots) (root : List ℕ) (scope : Scope) (tree : Tree) (at : Scope) (part : Tree)
    → IsConsidered slots root scope tree at part
    → IsItself scope tree at part ⊎ IsBelow slots root scope tree at part
itself_or_below slots root scope tree at part considers_itself = inl (refl, refl)
itself_or_below slots root scope tree at part (considers_below {inner = inner} {child = child} is within) =
    inr (record { inner = inner; child = child; is = is; within = within })

-- the first fault below a node is that of the node
pub first_below :
    OneCallType
    → (slots : Slots) (root : List ℕ) (scope : Scope) (tree : Tree) (fault : TypeFault)
    → IsFirstBelow slots root scope tree fault
    → IsFirstUntypable slots root scope tree fault
first_below one_call slots root scope tree fault first =
    let found = first.found in
    let e : fault.span.start ≡ start_of found.part = found.starts in
    record {
      at = found.at;
      part = found.part;
      untypable = record { considered = considers_below first.is found.untypable.considered; untyped = found.untypable.untyped; children = found.untypable.children };
      first = λ at other is. elim (itself_or_below slots root scope tree at other is.considered) [
        | inl here ↦
            let own : ChildrenTyped slots root scope tree =
            subst (λ (t : Tree). ChildrenTyped slots root scope t) here.1 (subst (λ (s : Scope). ChildrenTyped slots root s other) here.0 is.children) in
            absurd (untypable_blocks one_call slots root first.at first.child fault found (own first.at first.child first.is))
        | inr below ↦
            let le : fault.span.start ≤ start_of other =
            first.others below.inner below.child below.is at other (record { considered = below.within; untyped = is.untyped; children = is.children }) in
            omega arith
      ];
      reason = found.reason;
      starts = found.starts;
      stops = found.stops;
    }

-- a node whose children have types, and that has none itself
pub first_itself :
    OneCallType
    → (slots : Slots) (root : List ℕ) (scope : Scope) (start stop : ℕ) (shape : Shape) (fault : TypeFault)
    → ChildrenTyped slots root scope (node start stop shape)
    → IsUntyped slots root scope (node start stop shape)
    → IsReason slots root scope (node start stop shape) fault.code
    → fault.span.start ≡ start
    → fault.span.stop ≡ stop
    → IsFirstUntypable slots root scope (node start stop shape) fault
first_itself one_call slots root scope start stop shape fault typed untyped reason starts stops = record {
  at = scope;
  part = node start stop shape;
  untypable = record { considered = considers_itself; untyped = untyped; children = typed };
  first = λ at other is. elim (itself_or_below slots root scope (node start stop shape) at other is.considered) [
    | inl here ↦ let same : start_of other ≡ start = ap start_of here.1 in omega arith
    | inr below ↦
        absurd (typed_clear one_call slots root below.inner below.child at other (typed below.inner below.child below.is)
        (record { considered = below.within; untyped = is.untyped; children = is.children }))
  ];
  reason = reason;
  starts = starts;
  stops = stops;
}
