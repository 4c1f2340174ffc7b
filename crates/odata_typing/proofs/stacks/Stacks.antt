-- The trees of a run of nodes, each node after its children, and where they begin. Of nodes, of trees and of roots the
-- last comes first.
use Rattle.odata_typing.proofs.Common.{ℕ, ◌+◌, List, [], ◌∷◌, drop, length, reverse, child_count, SyntaxNode, slice_range}
use Rattle.odata_syntax.specs.declared.syntax_list.SyntaxKind.{SyntaxKind}

-- nodes, and those that follow them in their order
abbrev pub onward : List SyntaxNode → List SyntaxNode → List SyntaxNode
onward [] earlier = earlier
onward (n ∷ later) earlier = onward later (n ∷ earlier)

-- the nodes from one index up to another
abbrev pub run_before : List SyntaxNode → ℕ → ℕ → List SyntaxNode
run_before nodes from index = reverse (slice_range nodes from index)

-- the indices of the roots of the trees, where the run begins with the node of an index
abbrev pub roots_from : ℕ → List SyntaxNode → List ℕ
roots_from from [] = []
roots_from from (n ∷ earlier) = (from + length earlier) ∷ drop (child_count n.kind n.count) (roots_from from earlier)

-- the index of the first node of the last tree: the one after the root before it
abbrev pub begin_of : ℕ → List ℕ → ℕ
begin_of from [] = from
begin_of from (root ∷ []) = from
begin_of from (root ∷ (before ∷ more)) = before + 1

-- P, if the node is a lambda expression
abbrev pub IfLambda : SyntaxKind → Type 0 → Type 0
IfLambda (SyntaxKind.Lambda quantifier) P = P
IfLambda _ P = Unit {0}

-- where the body of a lambda expression of the run begins, this holds
abbrev pub BodiesBegin : (ℕ → Type 0) → ℕ → List SyntaxNode → Type 0
BodiesBegin Begins from [] = Unit {0}
BodiesBegin Begins from (n ∷ earlier) =
    IfLambda n.kind (Begins (begin_of from (roots_from from earlier))) × BodiesBegin Begins from earlier

-- where one of the trees begins, but for the first one, this does not hold
abbrev pub NoneBegins : (ℕ → Type 0) → List ℕ → Type 0
NoneBegins Begins [] = Unit {0}
NoneBegins Begins (root ∷ []) = Unit {0}
NoneBegins Begins (root ∷ (before ∷ more)) = (¬ Begins (before + 1)) × NoneBegins Begins (before ∷ more)
