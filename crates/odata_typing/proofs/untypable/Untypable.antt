-- The first untypable node among trees one after another.
use Rattle.odata_typing.proofs.Common.{◌≡◌, refl, inl, inr, ◌⊎◌, ℕ, ◌≤◌, List, [], ◌∷◌, ◌++◌, subst, arith, AllByRecursion, Shape, Tree, node, shape_of, start_of, Slots, TypeFault, ChildrenTyped, IsAmong, IsConsideredBody, children_in_scope, IsFirstUntypable, IsReason, IsUntypable, TypedIsClear, IsTyped, IsUntyped, Scope, LawsBelow}
use Rattle.odata_signatures.specs.FirstAmong.{IsFirstBelow, StartFrom}
use Rattle.odata_typing.specs.private.FirstAmong.{IsFirstAmong}

-- trees in one scope that all have types
abbrev pub AllTyped : Slots → List ℕ → Scope → List Tree → Type 0
AllTyped slots root scope = AllByRecursion (IsTyped slots root scope)

pub among_typed :
    (slots : Slots) (root : List ℕ) (scope : Scope) (trees : List Tree) (at : Scope) (tree : Tree)
    → AllTyped slots root scope trees
    → IsAmong scope trees at tree
    → IsTyped slots root at tree
among_typed slots root scope [] at tree typed among = absurd among
among_typed slots root scope (t ∷ ts) at tree typed (inl here) = rw (here.0, here.1) typed.0
among_typed slots root scope (t ∷ ts) at tree typed (inr behind) = among_typed slots root scope ts at tree typed.1 behind

-- each untypable node of these trees starts at k or later
abbrev pub AllStartFrom : Slots → List ℕ → Scope → List Tree → ℕ → Type 0
AllStartFrom slots root scope trees k = (at : Scope) (other : Tree) → IsAmong scope trees at other → StartFrom slots root at other k

pub typed_start :
    TypedIsClear → (slots : Slots) (root : List ℕ) (scope : Scope) (trees : List Tree) (k : ℕ) → AllTyped slots root scope trees → AllStartFrom slots root scope trees k
typed_start clear slots root scope trees k typed = λ at other among inner part found.
    absurd (clear slots root at other inner part (among_typed slots root scope trees at other typed among) found)

-- a tree, as one of several
pub one_of : (slots : Slots) (root : List ℕ) (scope : Scope) (tree : Tree) (fault : TypeFault) → IsFirstUntypable slots root scope tree fault → IsFirstAmong slots root scope (tree ∷ []) fault
one_of slots root scope tree fault found = record {
  tree = tree;
  among = inl (refl, refl);
  found = found;
  others = λ at other among inner part is. elim among [
    | inl here ↦
        let P : Scope → Type 0 = λ (s : Scope). IsUntypable slots root s other inner part in
        let Q : Tree → Type 0 = λ (t : Tree). IsUntypable slots root scope t inner part in
        let le : start_of found.part ≤ start_of part = found.first inner part (subst Q here.1 (subst P here.0 is)) in
        let e : fault.span.start ≡ start_of found.part = found.starts in
        omega arith
    | inr none ↦ absurd none
  ];
}

in_front : (scope : Scope) (xs ys : List Tree) (at : Scope) (tree : Tree) → IsAmong scope xs at tree → IsAmong scope (xs ++ ys) at tree
in_front scope [] ys at tree among = absurd among
in_front scope (x ∷ xs) ys at tree (inl here) = inl here
in_front scope (x ∷ xs) ys at tree (inr behind) = inr (in_front scope xs ys at tree behind)

in_back : (scope : Scope) (xs ys : List Tree) (at : Scope) (tree : Tree) → IsAmong scope ys at tree → IsAmong scope (xs ++ ys) at tree
in_back scope [] ys at tree among = among
in_back scope (x ∷ xs) ys at tree among = inr (in_back scope xs ys at tree among)

front_or_back :
    (scope : Scope) (xs ys : List Tree) (at : Scope) (tree : Tree) → IsAmong scope (xs ++ ys) at tree → IsAmong scope xs at tree ⊎ IsAmong scope ys at tree
front_or_back scope [] ys at tree among = inr among
front_or_back scope (x ∷ xs) ys at tree (inl here) = inl (inl here)
front_or_back scope (x ∷ xs) ys at tree (inr behind) =
    elim (front_or_back scope xs ys at tree behind) [ inl front ↦ inl (inr front) | inr back ↦ inr back ]

all_start :
    (slots : Slots) (root : List ℕ) (scope : Scope) (xs ys : List Tree) (k : ℕ)
    → AllStartFrom slots root scope xs k
    → AllStartFrom slots root scope ys k
    → AllStartFrom slots root scope (xs ++ ys) k
all_start slots root scope xs ys k first second = λ at other among.
    elim (front_or_back scope xs ys at other among) [ inl front ↦ first at other front | inr back ↦ second at other back ]

-- the first fault of the trees in front is that of all, if none after starts before it, and the other way round
pub first_in_front :
    (slots : Slots) (root : List ℕ) (scope : Scope) (xs ys : List Tree) (fault : TypeFault)
    → IsFirstAmong slots root scope xs fault
    → AllStartFrom slots root scope ys fault.span.start
    → IsFirstAmong slots root scope (xs ++ ys) fault
first_in_front slots root scope xs ys fault first later = record {
  tree = first.tree;
  among = in_front scope xs ys scope first.tree first.among;
  found = first.found;
  others = all_start slots root scope xs ys fault.span.start first.others later;
}

pub first_in_back :
    (slots : Slots) (root : List ℕ) (scope : Scope) (xs ys : List Tree) (fault : TypeFault)
    → AllStartFrom slots root scope xs fault.span.start
    → IsFirstAmong slots root scope ys fault
    → IsFirstAmong slots root scope (xs ++ ys) fault
first_in_back slots root scope xs ys fault later first = record {
  tree = first.tree;
  among = in_back scope xs ys scope first.tree first.among;
  found = first.found;
  others = all_start slots root scope xs ys fault.span.start later first.others;
}

-- the node has no body that is judged
abbrev pub IsBodiless : Slots → List ℕ → Scope → Shape → Type 0
IsBodiless slots root scope shape = (at : Scope) (body : Tree) → ¬ IsConsideredBody slots root scope shape at body

-- of such a node the first fault among the children in its scope is the first below it
pub below_node :
    (slots : Slots) (root : List ℕ) (scope : Scope) (tree : Tree) (fault : TypeFault)
    → IsBodiless slots root scope (shape_of tree)
    → IsFirstAmong slots root scope (children_in_scope (shape_of tree)) fault
    → IsFirstBelow slots root scope tree fault
below_node slots root scope tree fault bodiless first = record {
  at = scope;
  child = first.tree;
  is = inl first.among;
  found = first.found;
  others = λ inner other is. elim is [ inl among ↦ first.others inner other among | inr body ↦ absurd (bodiless inner other body) ];
}

-- and where these have types, all children that are judged have
pub children_typed :
    (slots : Slots) (root : List ℕ) (scope : Scope) (start stop : ℕ) (shape : Shape)
    → IsBodiless slots root scope shape
    → AllTyped slots root scope (children_in_scope shape)
    → ChildrenTyped slots root scope (node start stop shape)
children_typed slots root scope start stop shape bodiless typed = λ at child is.
    elim is [ inl among ↦ among_typed slots root scope (children_in_scope shape) at child typed among | inr body ↦ absurd (bodiless at child body) ]

-- a node whose children have types, and that has none itself, is the first
pub first_itself :
    LawsBelow → (slots : Slots) (root : List ℕ) (scope : Scope) (start stop : ℕ) (shape : Shape) (fault : TypeFault)
    → IsBodiless slots root scope shape
    → AllTyped slots root scope (children_in_scope shape)
    → IsUntyped slots root scope (node start stop shape)
    → IsReason slots root scope (node start stop shape) fault.code
    → fault.span.start ≡ start
    → fault.span.stop ≡ stop
    → IsFirstUntypable slots root scope (node start stop shape) fault
first_itself laws slots root scope start stop shape fault bodiless typed =
    laws.itself slots root scope start stop shape fault (children_typed slots root scope start stop shape bodiless typed)
