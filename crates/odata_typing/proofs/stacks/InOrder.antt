-- Of children in the order of the text: what is untypable in a later one starts after what is in an earlier one.
use Rattle.odata_typing.proofs.Common.{◌≡◌, sym, subst, ◌∙◌, inl, inr, ℕ, ◌<◌, ◌≤◌, List, [], ◌∷◌, ◌++◌, arith, Contains, IsWithin, children_of, in_child, is_root, Shape, Tree, lambda, shape_of, start_of, stop_of, Slots, IsAmong, IsConsidered, IsConsideredBody, IsConsideredChild, children_in_scope, considers_below, considers_itself, IsFirstUntypable, FirstBelow, TypedIsClear, Scope, TypeFault}
use Rattle.std.proofs.lemmas.List.Elements.{Contains-append_left, Contains-append_right, Contains-push}
use Rattle.odata_syntax.specs.Parse.{IsExpression}
use Rattle.odata_typing.specs.private.FirstAmong.{IsFirstAmong}
use Rattle.odata_typing.specs.private.SpanLaws.{SpanLaws}
use Rattle.odata_typing.proofs.stacks.Onward.{within_whole}
use Rattle.odata_typing.proofs.untypable.Untypable.{AllStartFrom, AllTyped, IsBodiless, below_node, first_in_back, first_in_front, one_of, typed_start}

-- one of some trees is contained in them
pub among_contained : (scope : Scope) (trees : List Tree) (at : Scope) (tree : Tree) → IsAmong scope trees at tree → Contains trees tree
among_contained scope [] at tree among = absurd among
among_contained scope (x ∷ xs) at tree (inl here) =
    let head : Contains (x ∷ xs) x = Contains-append_left (x ∷ []) xs x (Contains-push [] x) in
    subst (λ (t : Tree). Contains (x ∷ xs) t) (sym here.1) head
among_contained scope (x ∷ xs) at tree (inr behind) = Contains-append_right (x ∷ []) xs tree (among_contained scope xs at tree behind)

child_among : (scope : Scope) (shape : Shape) (at : Scope) (child : Tree) → IsAmong scope (children_in_scope shape) at child → Contains (children_of shape) child
child_among scope (lambda quantifier base variable body) at child among =
    Contains-append_left (base ∷ []) (body ∷ []) child (among_contained scope (base ∷ []) at child among)
child_among scope shape at child among = among_contained scope (children_of shape) at child among

body_contained : (slots : Slots) (root : List ℕ) (scope : Scope) (shape : Shape) (at : Scope) (part : Tree) → IsConsideredBody slots root scope shape at part → Contains (children_of shape) part
body_contained slots root scope (lambda quantifier base variable body) at part judged =
    let head : Contains (body ∷ []) body = Contains-append_left (body ∷ []) [] body (Contains-push [] body) in
    subst (λ (t : Tree). Contains (base ∷ body ∷ []) t) (sym judged.itself.1) (Contains-append_right (base ∷ []) (body ∷ []) body head)
body_contained slots root scope _ at part judged = absurd judged

-- a considered child is a child
considered_child : (slots : Slots) (root : List ℕ) (scope : Scope) (shape : Shape) (at : Scope) (child : Tree) → IsConsideredChild slots root scope shape at child → Contains (children_of shape) child
considered_child slots root scope shape at child (inl among) = child_among scope shape at child among
considered_child slots root scope shape at child (inr body) = body_contained slots root scope shape at child body

-- a considered node is a part of its tree
pub considered_within : {slots : Slots} {root : List ℕ} {scope at : Scope} {tree part : Tree} → IsConsidered slots root scope tree at part → IsWithin part tree
considered_within considers_itself = is_root
considered_within {slots = slots} {root = root} {scope = scope} {tree = tree} (considers_below {inner = inner} {child = child} is within) =
    in_child (considered_child slots root scope (shape_of tree) inner child is) (considered_within within)

module _ (spans : SpanLaws) where
  -- what is untypable in the children after a tree starts after what is untypable in that
  later_start :
      (slots : Slots) (root : List ℕ) (scope : Scope) (whole parent : Tree) (before : List Tree) (tree : Tree) (after : List Tree) (fault : TypeFault)
      → IsExpression whole
      → IsWithin parent whole
      → children_of (shape_of parent) ≡ before ++ (tree ∷ after)
      → IsFirstUntypable slots root scope tree fault
      → AllStartFrom slots root scope after fault.span.start
  later_start slots root scope whole parent before tree after fault e within children found at other among inner part is =
      let contained : Contains after other = among_contained scope after at other among in
      let contained_tree = Contains-append_right before (tree ∷ after) tree (Contains-append_left (tree ∷ []) after tree (Contains-push [] tree)) in
      let contained_other = Contains-append_right before (tree ∷ after) other (Contains-append_right (tree ∷ []) after other contained) in
      let own : IsWithin tree whole =
      within_whole (in_child (subst (λ (ts : List Tree). Contains ts tree) (sym children) contained_tree) is_root) within in
      let beside : IsWithin other whole =
      within_whole (in_child (subst (λ (ts : List Tree). Contains ts other) (sym children) contained_other) is_root) within in
      let first : IsWithin found.part tree = considered_within found.untypable.considered in
      let apart : stop_of tree ≤ start_of other = spans.in_order whole parent tree other before after e within children contained in
      let held = spans.hold whole tree found.part e own first in
      let held_other = spans.hold whole other part e beside (considered_within is.considered) in
      let solid : start_of found.part < stop_of found.part = spans.solid whole found.part e (within_whole first own) in
      let starts : fault.span.start ≡ start_of found.part = found.starts in
      omega (arith, held.stops, held_other.starts)

  -- a node all of whose children stand in its scope: the first fault of one of them, after typed ones, is that of the
  -- node
  pub first_of_children :
      TypedIsClear → FirstBelow
      → (slots : Slots) (root : List ℕ) (scope : Scope) (whole parent : Tree) (before : List Tree) (tree : Tree) (after : List Tree) (fault : TypeFault)
      → IsExpression whole
      → IsWithin parent whole
      → IsBodiless slots root scope (shape_of parent)
      → children_in_scope (shape_of parent) ≡ children_of (shape_of parent)
      → children_of (shape_of parent) ≡ before ++ (tree ∷ after)
      → AllTyped slots root scope before
      → IsFirstUntypable slots root scope tree fault
      → IsFirstUntypable slots root scope parent fault
  first_of_children clear below slots root scope whole parent before tree after fault e within bodiless in_scope children typed found =
      let later = later_start slots root scope whole parent before tree after fault e within children found in
      let front = first_in_front slots root scope (tree ∷ []) after fault (one_of slots root scope tree fault found) later in
      let among = first_in_back slots root scope before (tree ∷ after) fault (typed_start clear slots root scope before fault.span.start typed) front in
      below slots root scope parent fault
      (below_node slots root scope parent fault bodiless
      (subst (λ (ts : List Tree). IsFirstAmong slots root scope ts fault) (sym (in_scope ∙ children)) among))
