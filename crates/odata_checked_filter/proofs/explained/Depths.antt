-- A node lies as deep as many nodes before it stop after it.
use Rattle.std.proofs.Common.{◌≡◌, refl, sym, ap, ◌∙◌, ℕ, ◌<◌, ◌≤◌, ◌+◌, List, [], ◌∷◌, ◌++◌, append-nil, append_assoc, drop, length, length-append, nat_lt, arith}
use Rattle.std.specs.List.{AllByRecursion, flat_map}
use Rattle.std.proofs.lemmas.List.Elements.{filter-append}
use Rattle.odata_syntax.specs.Spans.{children_of, list_of_trees}
use Rattle.odata_syntax.specs.Tree.{Tree, Trees, node, Shape, member, count, negation, logical_not, binary, has, in_list, in_path, call, any_item, lambda, no_trees, more_trees}
use Rattle.csdl_schema.specs.SchemaModel.{SchemaModel}
use Rattle.odata_checked_filter.specs.declared.checked_node.CheckedNode.{CheckedNode}
use Rattle.odata_checked_filter.specs.Depths.{depths, depths_among, depths_below}
use Rattle.odata_checked_filter.specs.FlatTree.{FlatTree}
use Rattle.odata_checked_filter.specs.private.LambdaLines.{AreInLine, StandsBetween}
use Rattle.odata_checked_filter.specs.private.Layout.{OfAnyValue}
use Rattle.odata_checked_filter.specs.Stands.{IsTop}
use Rattle.odata_signatures.specs.Typed.{Scope}
use Rattle.odata_checked_filter.specs.private.Explanation.{still_around}
use Rattle.odata_checked_filter.proofs.flat.Below.{alone_flat, both_flat, by_children, children_line}
use Rattle.odata_checked_filter.proofs.flat.Places.{above, below, drop_at}
use Rattle.odata_checked_filter.proofs.flat.Standing.{between_onward, line_onward}

-- the depths that the walk reports of nodes from an index on, by where those before them stop
abbrev pub reported_depths : ℕ → List CheckedNode → List ℕ → List ℕ
reported_depths place [] stops = []
reported_depths place (found ∷ rest) stops =
    length (still_around place stops) ∷ reported_depths (place + 1) rest (still_around place stops ++ found.stop ∷ [])

-- what stops there no longer counts
reported_alike : (place : ℕ) (nodes : List CheckedNode) (stops others : List ℕ) → still_around place stops ≡ still_around place others → reported_depths place nodes stops ≡ reported_depths place nodes others
reported_alike place [] stops others same = refl
reported_alike place (found ∷ rest) stops others same =
    ap (λ (around : List ℕ). length around ∷ reported_depths (place + 1) rest (around ++ found.stop ∷ [])) same

-- none of these stops before that
abbrev pub StopBehind : ℕ → List ℕ → Type 0
StopBehind place stops = AllByRecursion (λ stop. place ≤ stop) stops

earlier_too : (i j : ℕ) (stops : List ℕ) → i ≤ j → StopBehind j stops → StopBehind i stops
earlier_too i j [] before all = tt
earlier_too i j (stop ∷ stops) before all = (let h : j ≤ stop = all.0 in omega arith, earlier_too i j stops before all.1)

one_more : (j : ℕ) (stops : List ℕ) → StopBehind j stops → StopBehind j (stops ++ j ∷ [])
one_more j [] all = (omega arith, tt)
one_more j (stop ∷ stops) all = (all.0, one_more j stops all.1)

-- all of them are around a node before that
all_around : (i j : ℕ) (stops : List ℕ) → i < j → StopBehind j stops → still_around i stops ≡ stops
all_around i j [] before all = refl
all_around i j (stop ∷ stops) before all =
    let h : j ≤ stop = all.0 in
    let behind : i < stop = omega arith in
    rw (above i stop behind) (ap (λ (xs : List ℕ). stop ∷ xs) (all_around i j stops before all.1))

-- where a node stops, it is not around
stopped_alone : (j : ℕ) → still_around j (j ∷ []) ≡ []
stopped_alone j = rw (below j j (omega arith)) refl

passed : (j : ℕ) (stops : List ℕ) → still_around j (stops ++ j ∷ []) ≡ still_around j stops
passed j stops =
    filter-append (λ stop. nat_lt j stop) stops (j ∷ [])
    ∙ ap (λ (xs : List ℕ). still_around j stops ++ xs) (stopped_alone j)
    ∙ append-nil (still_around j stops)

-- a node at its index, and what is reported after it
top_reported :
    (schema : SchemaModel) (n : ℕ) (scope : Scope) (list : FlatTree) (i j start stop : ℕ) (shape : Shape) (stops : List ℕ)
    → IsTop schema n scope list i j start stop shape OfAnyValue → i < j → StopBehind j stops
    → reported_depths i (drop i list.nodes) stops ≡ length stops ∷ reported_depths (i + 1) (drop (i + 1) list.nodes) (stops ++ j ∷ [])
top_reported schema n scope list i j start stop shape stops top before all =
    ap (λ (nodes : List CheckedNode). reported_depths i nodes stops) (drop_at list.nodes i top.found top.stands_at)
    ∙ ap (λ (around : List ℕ). length around ∷ reported_depths (i + 1) (drop (i + 1) list.nodes) (around ++ top.found.stop ∷ [])) (all_around i j stops before all)
    ∙ ap (λ (last : ℕ). length stops ∷ reported_depths (i + 1) (drop (i + 1) list.nodes) (stops ++ last ∷ [])) top.last

-- where its children have been reported, the node has
closed :
    (list : FlatTree) (i j : ℕ) (stops below : List ℕ)
    → reported_depths i (drop i list.nodes) stops ≡ length stops ∷ reported_depths (i + 1) (drop (i + 1) list.nodes) (stops ++ j ∷ [])
    → reported_depths (i + 1) (drop (i + 1) list.nodes) (stops ++ j ∷ []) ≡ below ++ reported_depths j (drop j list.nodes) (stops ++ j ∷ [])
    → reported_depths i (drop i list.nodes) stops ≡ (length stops ∷ below) ++ reported_depths j (drop j list.nodes) stops
closed list i j stops below first rest =
    first
    ∙ ap (λ (xs : List ℕ). length stops ∷ xs)
    (rest ∙ ap (λ (xs : List ℕ). below ++ xs) (reported_alike j (drop j list.nodes) (stops ++ j ∷ []) stops (passed j stops)))

-- what is reported of two parts, one after the other
both_reported :
    (list : FlatTree) (i m j : ℕ) (stops first second : List ℕ)
    → reported_depths i (drop i list.nodes) stops ≡ first ++ reported_depths m (drop m list.nodes) stops
    → reported_depths m (drop m list.nodes) stops ≡ second ++ reported_depths j (drop j list.nodes) stops
    → reported_depths i (drop i list.nodes) stops ≡ (first ++ second) ++ reported_depths j (drop j list.nodes) stops
both_reported list i m j stops first second here behind =
    here ∙ ap (λ (xs : List ℕ). first ++ xs) behind ∙ sym (append_assoc first second (reported_depths j (drop j list.nodes) stops))

-- ---- the depths of a tree's nodes, by its children

among_depths : (around : ℕ) (trees : Trees) → depths_among around trees ≡ flat_map (depths around) (list_of_trees trees)
among_depths around no_trees = refl
among_depths around (more_trees tree trees) = ap (λ (xs : List ℕ). depths around tree ++ xs) (among_depths around trees)

below_depths : (around : ℕ) (shape : Shape) → depths_below around shape ≡ flat_map (depths around) (children_of shape)
below_depths around (member base asked) = alone_flat (depths around) base
below_depths around (count base) = alone_flat (depths around) base
below_depths around (negation operand) = alone_flat (depths around) operand
below_depths around (logical_not operand) = alone_flat (depths around) operand
below_depths around (any_item base) = alone_flat (depths around) base
below_depths around (binary operator left right) = both_flat (depths around) left right
below_depths around (has left right) = both_flat (depths around) left right
below_depths around (in_path left path) = both_flat (depths around) left path
below_depths around (lambda quantifier base variable body) = both_flat (depths around) base body
below_depths around (in_list left items) = ap (λ (xs : List ℕ). depths around left ++ xs) (among_depths around items)
below_depths around (call asked arguments) = among_depths around arguments
below_depths around _ = refl

-- ---- the walk reports the depths of the nodes of a tree, and then those after it

abbrev HasDepths : Tree → Type 0
HasDepths tree =
    (list : FlatTree) (i j : ℕ) (stops : List ℕ) → StandsBetween list i j tree → StopBehind j stops
    → reported_depths i (drop i list.nodes) stops ≡ depths (length stops) tree ++ reported_depths j (drop j list.nodes) stops

line_reported :
    (trees : List Tree) → AllByRecursion HasDepths trees
    → (list : FlatTree) (i j : ℕ) (stops : List ℕ) → AreInLine list i j trees → StopBehind j stops
    → reported_depths i (drop i list.nodes) stops ≡ flat_map (depths (length stops)) trees ++ reported_depths j (drop j list.nodes) stops
line_reported [] reported list i j stops line all = ap (λ (k : ℕ). reported_depths k (drop k list.nodes) stops) line
line_reported (tree ∷ trees) reported list i j stops line all =
    both_reported list i line.middle j stops (depths (length stops) tree) (flat_map (depths (length stops)) trees)
    (reported.0 list i line.middle stops line.left (earlier_too line.middle j stops (line_onward list line.middle j trees line.right) all))
    (line_reported trees reported.1 list line.middle j stops line.right all)

node_reported : (start stop : ℕ) (shape : Shape) → AllByRecursion HasDepths (children_of shape) → HasDepths (node start stop shape)
node_reported start stop shape reported list i j stops between all =
    let line = children_line between.schema between.filtered list between.scope (i + 1) j shape between.stands.children in
    let deep : flat_map (depths (length (stops ++ j ∷ []))) (children_of shape) ≡ depths_below (length stops + 1) shape =
    ap (λ (k : ℕ). flat_map (depths k) (children_of shape)) (length-append stops (j ∷ [])) ∙ sym (below_depths (length stops + 1) shape) in
    closed list i j stops (depths_below (length stops + 1) shape)
    (top_reported between.schema between.filtered between.scope list i j start stop shape stops between.stands.top (between_onward list i j (node start stop shape) between) all)
    (line_reported (children_of shape) reported list (i + 1) j (stops ++ j ∷ []) line (one_more j stops all)
    ∙ ap (λ (xs : List ℕ). xs ++ reported_depths j (drop j list.nodes) (stops ++ j ∷ [])) deep)

pub tree_reported : (tree : Tree) → HasDepths tree
tree_reported = by_children HasDepths node_reported
