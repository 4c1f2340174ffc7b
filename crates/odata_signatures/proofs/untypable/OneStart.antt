-- Of an expression at most one untypable node starts in a place.
use Rattle.std.proofs.Common.{◌≡◌, sym, ap, ◌∙◌, subst, inl, inr, ◌⊎◌, ℕ, ◌<◌, List, [], ◌∷◌, arith}
use Rattle.std.specs.List.{Contains}
use Rattle.std.proofs.lemmas.List.Elements.{Contains-append_left, Contains-append_right, Contains-push}
use Rattle.odata_syntax.specs.Parse.{IsExpression}
use Rattle.odata_syntax.specs.Spans.{HoldsSpan, IsWithin, SharesNoByte, children_of, in_child, is_root}
use Rattle.odata_syntax.specs.Tree.{Shape, Tree, lambda, shape_of, start_of, stop_of}
use Rattle.csdl_schema.specs.ExprType.{SingleType, collection, single}
use Rattle.csdl_schema.specs.SchemaModel.{Slots}
use Rattle.odata_signatures.specs.Considered.{ChildrenTyped, IsAmong, IsConsidered, IsConsideredBody, IsConsideredChild, children_in_scope, considers_below, considers_itself}
use Rattle.odata_signatures.specs.FirstUntypable.{IsUntypable}
use Rattle.odata_signatures.specs.Typed.{IsTyped, IsUntyped, Scope, with_variable}
use Rattle.odata_signatures.proofs.tree_types.OneType.{OneCallType}
use Rattle.odata_signatures.proofs.untypable.Untypable.{IsBelow, itself_or_below, one_member, typed_clear}

-- what is known of the nodes of expressions
pub record Places : Type 0 where
  pub one_call : OneCallType
  pub apart :
      (tree parent child other : Tree)
      → IsExpression tree
      → IsWithin parent tree
      → Contains (children_of (shape_of parent)) child
      → Contains (children_of (shape_of parent)) other
      → (child ≡ other) ⊎ SharesNoByte child other
  pub hold : (tree outer inner : Tree) → IsExpression tree → IsWithin outer tree → IsWithin inner outer → HoldsSpan outer inner
  pub solid : (tree part : Tree) → IsExpression tree → IsWithin part tree → start_of part < stop_of part

-- one of some trees is contained in them
among_contained : (scope : Scope) (trees : List Tree) (at : Scope) (tree : Tree) → IsAmong scope trees at tree → Contains trees tree
among_contained scope [] at tree among = absurd among
among_contained scope (x ∷ xs) at tree (inl here) =
    let head : Contains (x ∷ xs) x = Contains-append_left (x ∷ []) xs x (Contains-push [] x) in
    subst (λ (t : Tree). Contains (x ∷ xs) t) (sym here.1) head
among_contained scope (x ∷ xs) at tree (inr behind) = Contains-append_right (x ∷ []) xs tree (among_contained scope xs at tree behind)

among_scope : (scope : Scope) (trees : List Tree) (at : Scope) (tree : Tree) → IsAmong scope trees at tree → at ≡ scope
among_scope scope [] at tree among = absurd among
among_scope scope (x ∷ xs) at tree (inl here) = here.0
among_scope scope (x ∷ xs) at tree (inr behind) = among_scope scope xs at tree behind

child_among : (scope : Scope) (shape : Shape) (at : Scope) (child : Tree) → IsAmong scope (children_in_scope shape) at child → Contains (children_of shape) child
child_among scope (lambda quantifier base variable body) at child among =
    Contains-append_left (base ∷ []) (body ∷ []) child (among_contained scope (base ∷ []) at child among)
child_among scope shape at child among = among_contained scope (children_of shape) at child among

body_contained : (slots : Slots) (root : List ℕ) (scope : Scope) (shape : Shape) (at : Scope) (part : Tree) → IsConsideredBody slots root scope shape at part → Contains (children_of shape) part
body_contained slots root scope (lambda quantifier base variable body) at part judged =
    let head : Contains (body ∷ []) body = Contains-append_left (body ∷ []) [] body (Contains-push [] body) in
    subst (λ (t : Tree). Contains (base ∷ body ∷ []) t) (sym judged.itself.1) (Contains-append_right (base ∷ []) (body ∷ []) body head)
body_contained slots root scope _ at part judged = absurd judged

-- a considered child is a child
considered_child : (slots : Slots) (root : List ℕ) (scope : Scope) (shape : Shape) (at : Scope) (child : Tree) → IsConsideredChild slots root scope shape at child → Contains (children_of shape) child
considered_child slots root scope shape at child (inl among) = child_among scope shape at child among
considered_child slots root scope shape at child (inr body) = body_contained slots root scope shape at child body

-- the base of a body that is judged has a type
base_typed :
    (slots : Slots) (root : List ℕ) (scope : Scope) (shape : Shape) (at inner : Scope) (child body : Tree)
    → IsAmong scope (children_in_scope shape) at child
    → IsConsideredBody slots root scope shape inner body
    → IsTyped slots root at child
base_typed slots root scope (lambda quantifier base variable tree) at inner child body (inl here) judged =
    rw (here.0, here.1) (collection judged.member_type, judged.binds.over)
base_typed slots root scope (lambda quantifier base variable tree) at inner child body (inr none) judged = absurd none
base_typed slots root scope _ at inner child body among judged = absurd judged

-- a body is judged in one scope
body_scope :
    OneCallType
    → (slots : Slots) (root : List ℕ) (scope : Scope) (shape : Shape) (at at' : Scope) (body body' : Tree)
    → IsConsideredBody slots root scope shape at body
    → IsConsideredBody slots root scope shape at' body'
    → at' ≡ at
body_scope one_call slots root scope (lambda quantifier base variable tree) at at' body body' x y =
    let same : y.member_type ≡ x.member_type = one_member one_call slots root scope base variable y.member_type x.member_type y.binds x.binds in
    y.itself.0 ∙ ap (λ (m : SingleType). with_variable scope variable (single m)) same ∙ sym x.itself.0
body_scope one_call slots root scope _ at at' body body' x y = absurd x

-- two children are considered in one scope, unless one is a body; then the other, its base, has a type
one_scope :
    OneCallType
    → (slots : Slots) (root : List ℕ) (scope : Scope) (shape : Shape) (at at' : Scope) (child child' : Tree)
    → IsConsideredChild slots root scope shape at child
    → IsConsideredChild slots root scope shape at' child'
    → (at' ≡ at) ⊎ (IsTyped slots root at child ⊎ IsTyped slots root at' child')
one_scope one_call slots root scope shape at at' child child' (inl x) (inl y) =
    inl (among_scope scope (children_in_scope shape) at' child' y ∙ sym (among_scope scope (children_in_scope shape) at child x))
one_scope one_call slots root scope shape at at' child child' (inl x) (inr y) = inr (inl (base_typed slots root scope shape at at' child child' x y))
one_scope one_call slots root scope shape at at' child child' (inr x) (inl y) = inr (inr (base_typed slots root scope shape at' at child' child y x))
one_scope one_call slots root scope shape at at' child child' (inr x) (inr y) = inl (body_scope one_call slots root scope shape at at' child child' x y)

-- a node of a node is one of the whole
within_whole : {part outer whole : Tree} → IsWithin part outer → IsWithin outer whole → IsWithin part whole
within_whole inner is_root = inner
within_whole inner (in_child c outer) = in_child c (within_whole inner outer)

-- so is a considered one
considered_within : {slots : Slots} {root : List ℕ} {scope at : Scope} {tree part : Tree} → IsConsidered slots root scope tree at part → IsWithin part tree
considered_within considers_itself = is_root
considered_within {slots = slots} {root = root} {scope = scope} {tree = tree} (considers_below {inner = inner} {child = child} is within) =
    in_child (considered_child slots root scope (shape_of tree) inner child is) (considered_within within)

abbrev IsOne : Scope → Tree → Scope → Tree → Type 0
IsOne at part at' part' = (at ≡ at') × (part ≡ part')

-- nodes of two children start in two places
apart_starts : (whole child other part part' : Tree) → Places → IsExpression whole → IsWithin child whole → IsWithin other whole → IsWithin part child → IsWithin part' other → SharesNoByte child other → ¬ (start_of part ≡ start_of part')
apart_starts whole child other part part' places e inside beside within within' apart same =
    let first = places.hold whole child part e inside within in
    let second = places.hold whole other part' e beside within' in
    let long : start_of part < stop_of part = places.solid whole part e (within_whole within inside) in
    let long' : start_of part' < stop_of part' = places.solid whole part' e (within_whole within' beside) in
    let a = first.starts in
    let b = first.stops in
    let c = second.starts in
    let d = second.stops in
    elim apart [ inl le ↦ omega arith | inr le ↦ omega arith ]

-- the same node, if the one stands below a child and the other below a child as well
Same : Slots → List ℕ → Tree → Scope → Tree → Scope → Tree → Type 0
Same slots root whole inner child at part =
    (at' : Scope) (part' : Tree) → IsWithin child whole → IsUntypable slots root inner child at' part' → start_of part ≡ start_of part' → IsOne at part at' part'

one_below :
    {slots : Slots} {root : List ℕ} {scope inner at : Scope} {tree child part : Tree}
    → IsConsideredChild slots root scope (shape_of tree) inner child
    → IsConsidered slots root inner child at part
    → (whole : Tree) (at' : Scope) (part' : Tree)
    → Places
    → IsExpression whole
    → IsUntyped slots root at part
    → ChildrenTyped slots root at part
    → IsWithin tree whole
    → IsUntypable slots root scope tree at' part'
    → IsBelow slots root scope tree at' part'
    → start_of part ≡ start_of part'
    → Same slots root whole inner child at part
    → IsOne at part at' part'
unfolding Same
one_below {slots = slots} {root = root} {scope = scope} {inner = inner} {at = at} {tree = tree} {child = child} {part = part} among within whole at' part' places e untyped children inside is below same further =
    let c = considered_child slots root scope (shape_of tree) inner child among in
    let d = considered_child slots root scope (shape_of tree) below.inner below.child below.is in
    let first : IsWithin child whole = within_whole (in_child c is_root) inside in
    let second : IsWithin below.child whole = within_whole (in_child d is_root) inside in
    elim (places.apart whole tree child below.child e inside c d) [
      | inl one ↦
          elim (one_scope places.one_call slots root scope (shape_of tree) inner below.inner child below.child among below.is) [
            | inl scopes ↦
                let there : IsConsidered slots root inner child at' part' =
                subst (λ (t : Tree). IsConsidered slots root inner t at' part') (sym one) (subst (λ (s : Scope). IsConsidered slots root s below.child at' part') scopes below.within) in
                further at' part' first (record { considered = there; untyped = is.untyped; children = is.children }) same
            | inr typed ↦ elim typed [
              | inl own ↦ absurd (typed_clear places.one_call slots root inner child at part own (record { considered = within; untyped = untyped; children = children }))
              | inr other ↦
                  absurd (typed_clear places.one_call slots root below.inner below.child at' part' other
                  (record { considered = below.within; untyped = is.untyped; children = is.children }))
            ]
          ]
      | inr apart ↦
          absurd (apart_starts whole child below.child part part' places e first second (considered_within within) (considered_within below.within) apart same)
    ]

one_start :
    {slots : Slots} {root : List ℕ} {scope at : Scope} {tree part : Tree}
    → IsConsidered slots root scope tree at part
    → (whole : Tree)
    → Places
    → IsExpression whole
    → IsUntyped slots root at part
    → ChildrenTyped slots root at part
    → Same slots root whole scope tree at part
unfolding Same
one_start {slots = slots} {root = root} {scope = scope} {tree = tree} considers_itself whole places e untyped children at' part' inside is same =
    elim (itself_or_below slots root scope tree at' part' is.considered) [
      | inl here ↦ (sym here.0, sym here.1)
      | inr below ↦
          absurd (typed_clear places.one_call slots root below.inner below.child at' part' (children below.inner below.child below.is)
          (record { considered = below.within; untyped = is.untyped; children = is.children }))
    ]
one_start {slots = slots} {root = root} {scope = scope} {at = at} {tree = tree} {part = part} (considers_below {inner = inner} {child = child} among within) whole places e untyped children at' part' inside is same =
    elim (itself_or_below slots root scope tree at' part' is.considered) [
      | inl here ↦
          let own : ChildrenTyped slots root scope tree =
          subst (λ (t : Tree). ChildrenTyped slots root scope t) here.1 (subst (λ (s : Scope). ChildrenTyped slots root s part') here.0 is.children) in
          absurd (typed_clear places.one_call slots root inner child at part (own inner child among) (record { considered = within; untyped = untyped; children = children }))
      | inr below ↦
          one_below among within whole at' part' places e untyped children inside is below same
          (λ a p w u s. one_start within whole places e untyped children a p w u s)
    ]

-- an untypable node with the start of another is that
pub one_untypable_start :
    Places
    → (slots : Slots) (root : List ℕ) (scope : Scope) (tree : Tree) (at at' : Scope) (part part' : Tree)
    → IsExpression tree
    → IsUntypable slots root scope tree at part
    → IsUntypable slots root scope tree at' part'
    → start_of part ≡ start_of part'
    → (at ≡ at') × (part ≡ part')
unfolding Same
one_untypable_start places slots root scope tree at at' part part' e a b same =
    one_start a.considered tree places e a.untyped a.children at' part' is_root b same
