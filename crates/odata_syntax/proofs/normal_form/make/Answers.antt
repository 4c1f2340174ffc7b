use Rattle.std.proofs.Common.{arith, string_bytes}
use Rattle.odata_syntax.specs.TreeView.{tree_of}
use Rattle.odata_syntax.specs.declared.normal_form.Task.TheVariants.{Items}
use Rattle.odata_syntax.specs.private.Forests.{forest_trees}
use Rattle.odata_syntax.specs.private.NormalForm.{all_wanted}
use Rattle.odata_syntax.proofs.lists.Boxes.{trees_size}
use Rattle.odata_syntax.proofs.normal_forms.Making.{fed, no_items_made, on_if, over_made, put_task, put_tree_over, some_items_made, whole_made}
use Rattle.odata_syntax.proofs.printing.Appended.{on_ok}
use Rattle.odata_syntax.proofs.normal_form.make.Goals as goal

pub returns-in-Whole : goal.returns-in-Whole
returns-in-Whole c =
    rw c.in-Whole.is (on_ok c.begin.result
    (λ same. whole_made (tree_of c.in-Whole.node.now) (all_wanted c.args.pending.now.items) (all_wanted c.begin.new.pending.items)
    (forest_trees c.args.forest.now) same) c.begin.ensures)

pub grow-requires : goal.grow-requires
grow-requires c =
    let ready = rw c.in-Over.is at c.requires.1 in
    let many = fed (tree_of c.in-Over.node.now) (forest_trees c.args.forest.now) ready.0 ready.1 in
    let size = trees_size c.args.forest.now.trees.items in
    rw (c.kind_of-kind.ensures.kind, c.kind_of-kind.ensures.items) (omega (arith, many, size))

pub returns-in_default : goal.returns-in_default
returns-in_default c =
    rw c.in-Items.is
    (no_items_made c.in-Items.nodes.now (all_wanted c.args.pending.now.items) (forest_trees c.args.forest.now) c.in_default.ensures.cases)

pub returns-in_ok-push-in-Items : goal.returns-in_ok-push-in-Items
returns-in_ok-push-in-Items c =
    let below = put_task c.args.pending.now.items c.push.new.self.items (Items c.in-Some.rest) c.in_ok-push-in-Items.ensures.items in
    rw c.in-Items.is
    (on_ok c.begin_one.result
    (λ top. some_items_made c.in-Items.nodes.now c.in-Some.first.now c.in-Some.rest.now (all_wanted c.args.pending.now.items) (all_wanted c.push.new.self.items)
    (all_wanted c.begin_one.new.pending.items) (forest_trees c.args.forest.now) c.in-Some.ensures.cases below top) c.begin_one.ensures)

pub returns-in_ok-text-in-Over : goal.returns-in_ok-text-in-Over
returns-in_ok-text-in-Over c =
    let tree = tree_of c.in-Over.node.now in
    let made = forest_trees c.args.forest.now in
    let new = forest_trees c.grow.new.self in
    let put = rw (c.kind_of-kind.ensures.kind, c.kind_of-kind.ensures.items) at c.grow.ensures in
    rw c.in-Over.is
    (on_if c.grow.result
    (λ grown. over_made tree (all_wanted c.args.pending.now.items) made new (λ earlier kids.
    put_tree_over tree c.span.result (string_bytes c.in_ok-text-in-Over.text) made new earlier c.span.ensures.starts c.span.ensures.stops c.in_ok-text-in-Over.ensures grown kids)) put)
