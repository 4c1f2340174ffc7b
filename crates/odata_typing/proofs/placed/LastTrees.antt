-- The children of a node, as the last of the trees before it.
use Rattle.odata_typing.proofs.Common.{◌≡◌, ◌∙◌, refl, sym, ap, subst, ℕ, ◌≤◌, ◌+◌, List, [], ◌∷◌, Bool, length, reverse, take, drop, reverse-append, child_count, last_tree, last_trees, shape_over, trees_before, HasText, Tree, Judged, CheckContext, Walk, AreChildren, AreLastTrees, IsNodeJudged, name_of}
use Rattle.odata_syntax.specs.declared.syntax_list.SyntaxKind.{SyntaxKind}
use Rattle.odata_typing.proofs.stacks.Children.{more_are, one_is, two_are}

-- the last trees, and one more before them
pub last_one_more : (k : ℕ) (trees : List Tree) → k + 1 ≤ length trees → last_trees (k + 1) trees ≡ last_tree (drop k trees) ∷ last_trees k trees
last_one_more k trees enough = ap reverse (more_are k trees enough) ∙ reverse-append (take k trees) (last_tree (drop k trees) ∷ [])

module _ (context : CheckContext) (walk : Walk) (judged : Judged) (trees : List Tree) (are : AreLastTrees context walk judged trees) where
  -- by the kind of the node
  counted : (kind : SyntaxKind) (k : ℕ) → judged.node.now.kind ≡ kind → child_count kind judged.node.now.count ≡ k → child_count judged.node.now.kind judged.node.now.count ≡ k
  counted kind k is count = ap (λ (other : SyntaxKind). child_count other judged.node.now.count) is ∙ count

  some_are : (kind : SyntaxKind) (k : ℕ) → judged.node.now.kind ≡ kind → child_count kind judged.node.now.count ≡ k → AreChildren context walk judged (last_trees k trees)
  some_are kind k is count = subst (λ (m : ℕ). AreChildren context walk judged (last_trees m trees)) (counted kind k is count) are.children

  enough_are : (kind : SyntaxKind) (k : ℕ) → judged.node.now.kind ≡ kind → child_count kind judged.node.now.count ≡ k → k ≤ length trees
  enough_are kind k is count = subst (λ (m : ℕ). m ≤ length trees) (counted kind k is count) are.enough

  pub no_children : (kind : SyntaxKind) → judged.node.now.kind ≡ kind → child_count kind judged.node.now.count ≡ 0 → judged.stop ≡ judged.number + 1
  no_children kind is count = let e : judged.number + 1 ≡ judged.stop = some_are kind 0 is count in sym e

  pub one_child_of : (kind : SyntaxKind) → judged.node.now.kind ≡ kind → child_count kind judged.node.now.count ≡ 1 → AreChildren context walk judged (last_tree trees ∷ [])
  one_child_of kind is count = subst (AreChildren context walk judged) (sym (one_is trees (enough_are kind 1 is count))) (some_are kind 1 is count)

  pub two_children_of : (kind : SyntaxKind) → judged.node.now.kind ≡ kind → child_count kind judged.node.now.count ≡ 2 → AreChildren context walk judged (last_tree (trees_before trees) ∷ last_tree trees ∷ [])
  two_children_of kind is count = subst (AreChildren context walk judged) (sym (two_are trees (enough_are kind 2 is count))) (some_are kind 2 is count)

  pub list_children_of : judged.node.now.kind ≡ SyntaxKind.InList → AreChildren context walk judged (last_tree (drop judged.node.now.count trees) ∷ last_trees judged.node.now.count trees)
  list_children_of is =
      subst (AreChildren context walk judged) (last_one_more judged.node.now.count trees (enough_are SyntaxKind.InList (judged.node.now.count + 1) is refl)) (some_are SyntaxKind.InList (judged.node.now.count + 1) is refl)

  pub call_children_of : judged.node.now.kind ≡ SyntaxKind.Call → AreChildren context walk judged (last_trees judged.node.now.count trees)
  call_children_of is = some_are SyntaxKind.Call judged.node.now.count is refl

-- what is judged of a node goes by its kind
pub of_kind :
    (context : CheckContext) (judged : Judged) (trees : List Tree) (old new : Walk) (result : Bool) (kind : SyntaxKind)
    → judged.node.now.kind ≡ kind
    → IsNodeJudged context judged (shape_over kind (name_of context judged) judged.node.now.count trees) old new result
    → IsNodeJudged context judged (shape_over judged.node.now.kind (name_of context judged) judged.node.now.count trees) old new result
of_kind context judged trees old new result kind is holds =
    subst (λ (k : SyntaxKind). IsNodeJudged context judged (shape_over k (name_of context judged) judged.node.now.count trees) old new result) (sym is) holds

-- so does whether it has a text
pub text_of_kind : (judged : Judged) (P : Type 0) (kind : SyntaxKind) → judged.node.now.kind ≡ kind → HasText kind → (HasText judged.node.now.kind → P) → P
text_of_kind judged P kind is has holds = holds (subst HasText (sym is) has)
