use Rattle.std.proofs.Common.{◌≡◌, ◌∙◌, ◌<◌, ◌+◌, ◌-◌, ◌∷◌, [], ℕ, List, drop, length, reverse, sym, ap, subst, arith}
use Rattle.std.proofs.lemmas.List.{drop_all}
use Rattle.sql_tree.specs.declared.sql_node.SqlNode.{SqlNode}
use Rattle.sql_tree.proofs.Deepest.{AreCounted, none_counted, one_counted, pushed, whole_counted}
use Rattle.sql_tree.proofs.Printing.{from_node}
use Rattle.sql_tree.proofs.depth.parser_depth.Goals as goal

pub loop-at-init : goal.loop-at-init
loop-at-init c =
    let long = ap length c.as_slice-nodes.ensures.value in
    record {
      inside = omega (arith, long);
      counted = λ table. none_counted table c.args.tree.now.paths.items (drop (length c.as_slice-nodes.result.now) c.args.tree.now.nodes.items) (reverse c.new-depths.result.items)
          (drop_all (length c.as_slice-nodes.result.now) c.args.tree.now.nodes.items (omega (arith, long))) (ap reverse c.new-depths.ensures.items);
    }

pub loop-at-preserved : goal.loop-at-preserved
loop-at-preserved c =
    let nodes = c.args.tree.now.nodes.items in
    let before = c.loop-at-test.true in
    let inside = c.loop-at.invariant.inside in
    let long = ap length c.as_slice-nodes.ensures.value in
    let back : c.loop-at.at - 1 + 1 ≡ c.loop-at.at = omega (arith, before) in
    let below : c.loop-at.at - 1 < length c.as_slice-nodes.result.now = omega (arith, before, inside, long) in
    let at : drop (c.loop-at.at - 1) nodes ≡ c.index-nodes-at.result ∷ drop c.loop-at.at nodes =
    from_node nodes c.as_slice-nodes.result.now (c.loop-at.at - 1) c.index-nodes-at.result c.as_slice-nodes.ensures.value below c.index-nodes-at.is
    ∙ ap (λ (n : ℕ). c.index-nodes-at.result ∷ drop n nodes) back in
    record {
      inside = omega (arith, inside);
      counted = λ table.
          subst (λ (ns : List SqlNode). AreCounted table c.args.tree.now.paths.items ns (reverse c.push.new.self.items)) (sym at)
          (subst (λ (ds : List ℕ). AreCounted table c.args.tree.now.paths.items (c.index-nodes-at.result ∷ drop c.loop-at.at nodes) ds)
          (sym (pushed c.push.new.self.items c.depth_with_children-depth.new.depths.items c.depth_with_children-depth.result c.in_ok-push.ensures.items))
          (one_counted table c.args.tree.now.paths.items c.index-nodes-at.result (drop c.loop-at.at nodes) c.depth_with_children-depth.result (reverse c.loop-at.depths.items)
          (reverse c.depth_with_children-depth.new.depths.items) (c.loop-at.invariant.counted table) (c.depth_with_children-depth.ensures table c.args.tree.now.paths.items)));
    }

pub returns : goal.returns
returns c = λ table t is.
    let nodes = c.args.tree.now.nodes.items in
    let past = c.loop-at-test.false in
    let first : c.loop-at.at ≡ 0 = omega (arith, past) in
    whole_counted table c.args.tree.now.paths.items (drop c.loop-at.at nodes) (reverse c.loop-at.depths.items) t (ap (λ (n : ℕ). drop n nodes) first ∙ is.nodes_are) is.whole (c.loop-at.invariant.counted table)
    c.take_depth.result (reverse c.take_depth.new.depths.items) c.take_depth.ensures
