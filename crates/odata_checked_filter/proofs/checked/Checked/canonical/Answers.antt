use Rattle.std.proofs.Common.{[], length, subst, sym}
use Rattle.odata_checked_filter.specs.FlatTree.{FlatTree, tree_of_nodes}
use Rattle.odata_checked_filter.specs.private.PrintedList.{HasTreeAt}
use Rattle.odata_checked_filter.proofs.flat.Lying.{filter_lies}
use Rattle.odata_checked_filter.proofs.checked.Checked.canonical.Goals as goal

pub print_tree-requires : goal.print_tree-requires
print_tree-requires c =
    let filter = c.args.self.now in
    subst (λ (list : FlatTree). HasTreeAt list 0) (sym c.list-list.ensures.same) (
      length filter.list.nodes,
      tree_of_nodes filter.list,
      record { schema = filter.schema; filtered = filter.filtered; scope = []; stands = filter_lies filter c.list-list.ensures.right },
    )
