-- A list of trees of boxes as a stack of trees.
use Rattle.std.proofs.Common.{◌≡◌, refl, ap, sym, ◌∙◌, ℕ, zero, suc, ◌+◌, ◌<◌, ◌≤◌, List, [], ◌∷◌, ◌++◌, map, reverse, take, drop, get_or, length, arith}
use Rattle.std.proofs.lemmas.List.{length-map, length-reverse, map-append, reverse-append, take_more}
use Rattle.odata_syntax.specs.declared.node.Node.{Node}
use Rattle.odata_syntax.specs.declared.syntax_list.SyntaxNode.{SyntaxNode}
use Rattle.odata_syntax.specs.declared.syntax_list.SyntaxKind.{SyntaxKind}
use Rattle.odata_syntax.specs.PostOrder.{AreFed, Texts, child_count, shape_over, trees_in, trees_left, trees_with}
use Rattle.odata_syntax.specs.Tree.{Shape, Tree, node}
use Rattle.odata_syntax.specs.TreeView.{tree_of}
use Rattle.odata_syntax.specs.private.Forests.{kept_text, shape_kept, trees_grown}
use Rattle.odata_syntax.proofs.lists.Counts.{trees_length}
use Rattle.odata_syntax.proofs.lists.Fronts.{next_fed}
use Rattle.odata_syntax.proofs.lists.Pushed.{trees_push}

-- the last tree comes first
pub trees_more : (boxes : List Node) (box : Node) → reverse (map tree_of (boxes ++ box ∷ [])) ≡ tree_of box ∷ reverse (map tree_of boxes)
trees_more boxes box =
    ap (λ (ts : List Tree). reverse ts) (map-append tree_of boxes (box ∷ []))
    ∙ reverse-append (map tree_of boxes) (tree_of box ∷ [])

-- as many as boxes
pub trees_size : (boxes : List Node) → length (reverse (map tree_of boxes)) ≡ length boxes
trees_size boxes = length-reverse (map tree_of boxes) ∙ length-map boxes tree_of

-- one more of the last trees is taken
pub drop_next : {X : Type 0} (taken : ℕ) (trees rest : List X) (tree : X) → drop taken trees ≡ tree ∷ rest → drop (suc taken) trees ≡ rest
drop_next zero trees rest tree e = ap (λ ts. drop (suc zero) ts) e
drop_next (suc taken) [] rest tree e = absurd (cc)
drop_next (suc taken) (t ∷ trees) rest tree e = drop_next taken trees rest tree e

pub take_next : {X : Type 0} (taken : ℕ) (trees rest : List X) (tree : X) → drop taken trees ≡ tree ∷ rest → take (suc taken) trees ≡ take taken trees ++ tree ∷ []
take_next zero trees rest tree e = ap (λ ts. take (suc zero) ts) e
take_next (suc taken) [] rest tree e = absurd (cc)
take_next (suc taken) (t ∷ trees) rest tree e = ap (λ ts. t ∷ ts) (take_next taken trees rest tree e)

-- the items, once they are turned round
map_turned : (boxes : List Node) → map tree_of (reverse boxes) ≡ reverse (map tree_of boxes)
map_turned [] = refl
map_turned (box ∷ boxes) =
    ap (λ (bs : List Node). map tree_of bs) (reverse-append (box ∷ []) boxes)
    ∙ map-append tree_of (reverse boxes) (box ∷ [])
    ∙ ap (λ (ts : List Tree). ts ++ tree_of box ∷ []) (map_turned boxes)
    ∙ sym (reverse-append (tree_of box ∷ []) (map tree_of boxes))

pub items_turned : (boxes : List Node) (wanted : ℕ) (trees : List Tree) → map tree_of boxes ≡ take wanted trees → map tree_of (reverse boxes) ≡ reverse (take wanted trees)
items_turned boxes wanted trees e = map_turned boxes ∙ ap (λ (ts : List Tree). reverse ts) e

-- The trees of boxes that grow with a list.

-- the next node has its children among them
pub boxes_fed :
    (texts : Texts) (nodes : List SyntaxNode) (k : ℕ) (d : SyntaxNode) (boxes : List Node)
    → AreFed nodes
    → k < length nodes
    → reverse (map tree_of boxes) ≡ trees_in texts (take k nodes)
    → child_count (get_or nodes k d).kind (get_or nodes k d).count ≤ length boxes
boxes_fed texts nodes k d boxes fed inside trees =
    let children = next_fed nodes k d fed inside in
    let many = ap (λ (ts : List Tree). length ts) trees in
    let size = trees_size boxes in
    let counted = trees_length texts (take k nodes) in
    omega arith

-- the trees with one more node, by the text that it keeps
kept_over : (kind : SyntaxKind) (text : List ℕ) (items : ℕ) (trees : List Tree) → shape_kept kind (kept_text kind text) items trees ≡ shape_over kind text items trees
kept_over (SyntaxKind.Lit kind) text items trees = refl
kept_over SyntaxKind.It text items trees = refl
kept_over SyntaxKind.Name text items trees = refl
kept_over SyntaxKind.Member text items trees = refl
kept_over SyntaxKind.Count text items trees = refl
kept_over SyntaxKind.Neg text items trees = refl
kept_over SyntaxKind.Not text items trees = refl
kept_over (SyntaxKind.Binary operator) text items trees = refl
kept_over SyntaxKind.Has text items trees = refl
kept_over SyntaxKind.InList text items trees = refl
kept_over SyntaxKind.InPath text items trees = refl
kept_over SyntaxKind.Call text items trees = refl
kept_over SyntaxKind.AnyItem text items trees = refl
kept_over (SyntaxKind.Lambda quantifier) text items trees = refl

grown_with : (texts : Texts) (n : SyntaxNode) (text : List ℕ) (trees : List Tree) → text ≡ kept_text n.kind (texts n.text)
    → trees_grown n.kind n.span n.count text trees ≡ trees_with texts n trees
grown_with texts n text trees same =
    ap (λ (t : List ℕ). trees_grown n.kind n.span n.count t trees) same
    ∙ ap (λ (shape : Shape). node n.span.start n.span.stop shape ∷ trees_left n.kind n.count trees) (kept_over n.kind (texts n.text) n.count trees)

-- and with it they are those of one more node
pub boxes_grown :
    (texts : Texts) (nodes : List SyntaxNode) (k : ℕ) (d : SyntaxNode) (text : List ℕ) (boxes grown : List Node)
    → k < length nodes
    → text ≡ kept_text (get_or nodes k d).kind (texts (get_or nodes k d).text)
    → reverse (map tree_of boxes) ≡ trees_in texts (take k nodes)
    → reverse (map tree_of grown) ≡ trees_grown (get_or nodes k d).kind (get_or nodes k d).span (get_or nodes k d).count text (reverse (map tree_of boxes))
    → reverse (map tree_of grown) ≡ trees_in texts (take (k + 1) nodes)
boxes_grown texts nodes k d text boxes grown inside same trees grow =
    let n : SyntaxNode = get_or nodes k d in
    grow
    ∙ grown_with texts n text (reverse (map tree_of boxes)) same
    ∙ ap (λ (ts : List Tree). trees_with texts n ts) trees
    ∙ sym (trees_push texts (take k nodes) n)
    ∙ ap (λ (ns : List SyntaxNode). trees_in texts ns) (sym (take_more nodes k d inside))
