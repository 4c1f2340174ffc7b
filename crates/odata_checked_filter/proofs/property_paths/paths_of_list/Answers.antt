use Rattle.std.proofs.Common.{◌≡◌, ◌∙◌, ◌∷◌, [], ℕ, List, ap, length, map, refl, string_bytes, subst, sym}
use Rattle.odata_syntax.specs.Tree.{Tree}
use Rattle.odata_checked_filter.specs.FlatTree.{FlatTree}
use Rattle.odata_checked_filter.specs.PropertyPaths.{unseen}
use Rattle.odata_checked_filter.specs.declared.checked_node.CheckedNode.{CheckedNode}
use Rattle.odata_checked_filter.specs.private.LambdaLines.{AreInLine, StandsBetween}
use Rattle.odata_checked_filter.specs.private.PropertyPaths.{AreBound, NamedText, texts_among, with_texts}
use Rattle.odata_checked_filter.proofs.named.Texts.{bound_in-Empty}
use Rattle.odata_checked_filter.proofs.named.Trees.{base_line, one_text}
use Rattle.odata_checked_filter.proofs.property_paths.paths_of_list.Goals as goal

-- the whole list is one tree
whole_line : (list : FlatTree) (nodes : List CheckedNode) (tree : Tree) → nodes ≡ list.nodes → StandsBetween list 0 (length list.nodes) tree → AreInLine list 0 (length nodes) (tree ∷ [])
whole_line list nodes tree same = base_line list 0 (length list.nodes) 0 (length nodes) tree refl (ap (λ (ns : List CheckedNode). length ns) same)

pub put_paths-requires : goal.put_paths-requires
put_paths-requires c =
    let tree = c.requires.0 in
    (tree ∷ [], whole_line c.args.list.now c.nodes.result.now tree c.nodes.ensures.same c.requires.1)

pub returns : goal.returns
returns c tree stands =
    let line = whole_line c.args.list.now c.nodes.result.now tree c.nodes.ensures.same stands in
    let none = subst (λ (bound : List NamedText). AreBound [] [] bound) (sym bound_in-Empty) tt in
    c.in_ok-put_paths.ensures [] [] (tree ∷ []) line none
    ∙ ap (λ (found : List (List ℕ)). with_texts found (texts_among [] [] (tree ∷ []))) (ap (map string_bytes) c.new-found.ensures.items)
    ∙ ap (unseen ([] ∷ [])) (sym (one_text [] [] tree))
