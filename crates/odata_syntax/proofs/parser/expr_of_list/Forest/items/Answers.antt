use Rattle.std.proofs.Common.{◌≡◌, ◌∷◌, ◌++◌, [], ◌+◌, ap, sym, suc, map, drop, take, reverse, ◌∙◌, arith}
use Rattle.std.proofs.lemmas.List.{map-append}
use Rattle.odata_syntax.specs.TreeView.{tree_of}
use Rattle.odata_syntax.specs.private.Forests.{forest_trees}
use Rattle.odata_syntax.proofs.lists.Boxes.{drop_next, items_turned, take_next, trees_more}
use Rattle.odata_syntax.proofs.parser.expr_of_list.Forest.items.Goals as goal

pub loop-preserved : goal.loop-preserved
loop-preserved c =
    let i = c.loop.invariant in
    let k = c.loop.counter in
    let all = forest_trees c.args.self.now in
    let tree = c.take_last.result in
    let rest = reverse (map tree_of c.take_last.new.self.items) in
    let next : suc k ≡ k + 1 = omega arith in
    let at : drop k all ≡ tree_of tree ∷ rest =
    sym i.left ∙ ap (λ boxes. reverse (map tree_of boxes)) c.take_last.ensures.items ∙ trees_more c.take_last.new.self.items tree in
    record {
      taken =
          ap (λ boxes. map tree_of boxes) c.in_ok-push.ensures.items
          ∙ map-append tree_of c.loop.items.items (tree ∷ [])
          ∙ ap (λ trees. trees ++ tree_of tree ∷ []) i.taken
          ∙ sym (take_next k all rest (tree_of tree) at)
          ∙ ap (λ n. take n all) next;
      left = sym (drop_next k all rest (tree_of tree) at) ∙ ap (λ n. drop n all) next;
    }

pub returns-clause-items : goal.returns-clause-items
returns-clause-items c =
    let all = forest_trees c.args.self.now in
    let whole : c.loop.counter ≡ c.args.count = omega arith in
    ap (λ boxes. map tree_of boxes) c.reverse.ensures.items
    ∙ items_turned c.loop.items.items c.args.count all (c.loop.invariant.taken ∙ ap (λ n. take n all) whole)
