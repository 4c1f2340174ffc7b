use Rattle.std.proofs.Common.{◌≡◌, ◌∷◌, [], ℕ, List, length, sym, ◌∙◌, subst}
use Rattle.csdl_schema.specs.SchemaModel.{SchemaModel, slots_of, type_name_at}
use Rattle.odata_checked_filter.specs.Filter.{HasNeededPaths}
use Rattle.odata_checked_filter.specs.FlatTree.{FlatTree, tree_of_nodes}
use Rattle.odata_checked_filter.specs.Stands.{Stands}
use Rattle.odata_checked_filter.specs.declared.checked_node.CheckedNode.{CheckedNode}
use Rattle.odata_checked_filter.specs.private.NeededPaths.{LeadThere, StandInLine}
use Rattle.odata_checked_filter.proofs.flat.Lying.{stands_lie}
use Rattle.odata_checked_filter.proofs.needed.Bodies.{only_needed}
use Rattle.odata_checked_filter.proofs.needed.Levels.{nodes_in-Empty}
use Rattle.odata_checked_filter.proofs.needed.Lines.{one_line}
use Rattle.odata_checked_filter.proofs.needed_paths.expansion_of.Goals as goal

-- the whole list is one tree
whole_line : (schema : SchemaModel) (n : ℕ) (list : FlatTree) (nodes : List CheckedNode) → nodes ≡ list.nodes → Stands schema n [] list 0 (length list.nodes) (tree_of_nodes list)
    → StandInLine schema n [] list 0 (length nodes) (tree_of_nodes list ∷ [])
whole_line schema n list nodes same stands =
    subst (λ (ns : List CheckedNode). StandInLine schema n [] list 0 (length ns) (tree_of_nodes list ∷ [])) (sym same)
    (one_line schema n [] list 0 (length list.nodes) (tree_of_nodes list) (stands_lie schema n [] list 0 (length list.nodes) (tree_of_nodes list) stands))

-- with no variables around it
pub expand-requires : goal.expand-requires
expand-requires c =
    let list = c.args.list.now in
    let schema = c.args.schema.now in
    record {
      scope = [];
      paths = [];
      trees = tree_of_nodes list ∷ [];
      line = whole_line schema c.args.filtered_type list c.nodes-stop.result.now c.nodes-stop.ensures.same c.requires;
      lead = subst (λ (nodes : List ℕ). LeadThere c.none-expansion.result [] [] nodes) (sym nodes_in-Empty) tt;
    }

pub returns : goal.returns
returns c path =
    let list = c.args.list.now in
    let schema = c.args.schema.now in
    let tree = tree_of_nodes list in
    let put : HasNeededPaths schema c.args.filtered_type list c.expand.new.expansion =
    only_needed (slots_of schema) (type_name_at schema c.args.filtered_type) tree c.none-expansion.result c.expand.new.expansion c.none-expansion.ensures
    (c.in_ok-expand.ensures [] [] (tree ∷ []) (whole_line schema c.args.filtered_type list c.nodes-stop.result.now c.nodes-stop.ensures.same c.requires)
    (subst (λ (nodes : List ℕ). LeadThere c.none-expansion.result [] [] nodes) (sym nodes_in-Empty) tt)) in
    let same = c.without_idle_steps.ensures path in
    (λ is. (put path).0 (sym same ∙ is), λ needed. same ∙ (put path).1 needed)
