use Rattle.std.proofs.Common.{◌≡◌, [], length, subst, sym}
use Rattle.odata_checked_filter.specs.Filter.{Filter, IsFilter, tree_of_filter}
use Rattle.odata_checked_filter.specs.FlatTree.{FlatTree}
use Rattle.odata_checked_filter.specs.private.LambdaLines.{StandsBetween}
use Rattle.odata_checked_filter.proofs.flat.Lying.{filter_lies}
use Rattle.odata_checked_filter.proofs.checked.Checked.property_paths.Goals as goal

whole_between : (filter : Filter) (list : FlatTree) → IsFilter filter → list ≡ filter.list → StandsBetween list 0 (length list.nodes) (tree_of_filter filter)
whole_between filter list is same =
    subst (λ (l : FlatTree). StandsBetween l 0 (length l.nodes) (tree_of_filter filter)) (sym same)
    (record { schema = filter.schema; filtered = filter.filtered; scope = []; stands = filter_lies filter is })

pub paths_of_list-requires : goal.paths_of_list-requires
paths_of_list-requires c =
    let filter = c.args.self.now in
    (tree_of_filter filter, whole_between filter c.list.result.now c.list.ensures.right c.list.ensures.same)

pub returns : goal.returns
returns c =
    let filter = c.args.self.now in
    c.paths_of_list.ensures (tree_of_filter filter) (whole_between filter c.list.result.now c.list.ensures.right c.list.ensures.same)
