use Rattle.std.proofs.Common.{[], ◌∷◌, ◌∙◌, sym}
use Rattle.odata_checked_filter.specs.Filter.{tree_of_filter}
use Rattle.odata_checked_filter.proofs.nesting.Lines.{one_deepest, whole_line}
use Rattle.odata_checked_filter.proofs.checked.Checked.lambda_depth.Goals as goal

pub deepest-requires : goal.deepest-requires
deepest-requires c =
    let filter = c.args.self.now in
    (tree_of_filter filter ∷ [], whole_line filter c.list-list.result.now c.nodes.result.now c.list-list.ensures.right c.list-list.ensures.same c.nodes.ensures.same)

pub returns : goal.returns
returns c =
    let filter = c.args.self.now in
    c.deepest.ensures.depth (tree_of_filter filter ∷ []) (whole_line filter c.list-list.result.now c.nodes.result.now c.list-list.ensures.right c.list-list.ensures.same c.nodes.ensures.same)
    ∙ sym (one_deepest (tree_of_filter filter))
