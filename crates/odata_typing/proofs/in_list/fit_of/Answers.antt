use Rattle.std.proofs.Common.{◌<◌, ◌≤◌, refl, sym, subst, arith, [], ◌∷◌, ◌++◌}
use Rattle.std.proofs.lemmas.Option.{slice_get_within}
use Rattle.csdl_schema.specs.SchemaModel.{slots_of}
use Rattle.odata_signatures.specs.ComparableTypes.{AreComparable}
use Rattle.odata_signatures.specs.TypeThere.{IsTypeThere}
use Rattle.odata_signatures.specs.TypeView.{expr_type}
use Rattle.odata_signatures.specs.declared.edm_type.EdmType.{EdmType}
use Rattle.odata_typing.specs.declared.in_list.ItemsFit.{ItemsFit}
use Rattle.odata_typing.proofs.placed.ItemLoops.{all_fit, fit_not, fit_on, items_none, next_item}
use Rattle.odata_typing.proofs.placed.Loops.{types_next}
use Rattle.odata_typing.proofs.in_list.fit_of.Goals as goal

pub loop-item-init : goal.loop-item-init
loop-item-init c =
    let schema = c.args.schema.now in
    record {
      single = λ many. let is = (c.is_collection.ensures schema).1 many in cc;
      so_far = ([], items_none (slots_of schema) schema (expr_type schema c.args.left.now) c.args.walk.now.list c.args.items c.args.stop c.requires.items.0 c.requires.items.1 c.requires.items.2);
    }

pub type_at-requires : goal.type_at-requires
type_at-requires c =
    let schema = c.args.schema.now in
    let next = next_item (slots_of schema) schema (expr_type schema c.args.left.now) c.args.walk.now.list c.args.items c.args.stop c.loop-item.item c.loop-item.invariant.so_far.0 ItemsFit.All c.loop-item.invariant.so_far.1 c.loop-item-test.true in
    slice_get_within c.args.walk.now.list.nodes c.loop-item.item next.found next.at

pub are_comparable-requires-clause-right : goal.are_comparable-requires-clause-right
are_comparable-requires-clause-right c =
    let schema = c.args.schema.now in
    let so_far = c.loop-item.invariant.so_far in
    let next = next_item (slots_of schema) schema (expr_type schema c.args.left.now) c.args.walk.now.list c.args.items c.args.stop c.loop-item.item so_far.0 ItemsFit.All so_far.1 c.loop-item-test.true in
    subst (IsTypeThere schema) (sym (c.type_at.ensures next.found next.at)) (types_next schema c.args.walk.now.list.nodes so_far.1.rest c.loop-item.item c.args.stop next so_far.1.there).0

pub returns-then-not-are_comparable : goal.returns-then-not-are_comparable
returns-then-not-are_comparable c = λ row are both.
    let schema = c.args.schema.now in
    let left = expr_type schema c.args.left.now in
    let so_far = c.loop-item.invariant.so_far in
    let next = next_item (slots_of schema) schema left c.args.walk.now.list c.args.items c.args.stop c.loop-item.item so_far.0 ItemsFit.All so_far.1 c.loop-item-test.true in
    fit_not (slots_of schema) schema left c.args.walk.now.list c.args.items c.args.stop c.loop-item.item so_far.0 row so_far.1 next c.requires.unread
    (λ comparable. let yes = c.if-not-are_comparable.ensures.1 (subst (λ (t : EdmType). AreComparable left (expr_type schema t)) (sym (c.type_at.ensures next.found next.at)) comparable) in cc)
    are both.1

pub stop_at-item-requires : goal.stop_at-item-requires
stop_at-item-requires c =
    let schema = c.args.schema.now in
    let next = next_item (slots_of schema) schema (expr_type schema c.args.left.now) c.args.walk.now.list c.args.items c.args.stop c.loop-item.item c.loop-item.invariant.so_far.0 ItemsFit.All c.loop-item.invariant.so_far.1 c.loop-item-test.true in
    slice_get_within c.args.walk.now.list.nodes c.loop-item.item next.found next.at

pub loop-item-smaller : goal.loop-item-smaller
loop-item-smaller c =
    let schema = c.args.schema.now in
    let next = next_item (slots_of schema) schema (expr_type schema c.args.left.now) c.args.walk.now.list c.args.items c.args.stop c.loop-item.item c.loop-item.invariant.so_far.0 ItemsFit.All c.loop-item.invariant.so_far.1 c.loop-item-test.true in
    let same = c.stop_at-item.ensures next.found next.at in
    let order : c.loop-item.item < next.found.stop = next.order in
    let inside : next.found.stop ≤ c.args.stop = next.inside in
    omega arith

pub loop-item-preserved : goal.loop-item-preserved
loop-item-preserved c =
    let schema = c.args.schema.now in
    let left = expr_type schema c.args.left.now in
    let so_far = c.loop-item.invariant.so_far in
    let next = next_item (slots_of schema) schema left c.args.walk.now.list c.args.items c.args.stop c.loop-item.item so_far.0 ItemsFit.All so_far.1 c.loop-item-test.true in
    let comparable = c.if-not-are_comparable.ensures.0 refl in
    record {
      single = c.loop-item.invariant.single;
      so_far = rw (c.stop_at-item.ensures next.found next.at) (
        so_far.0 ++ next.found ∷ [],
        fit_on (slots_of schema) schema left c.args.walk.now.list c.args.items c.args.stop c.loop-item.item so_far.0 so_far.1 next c.requires.unread
            (subst (λ (t : EdmType). AreComparable left (expr_type schema t)) (c.type_at.ensures next.found next.at) comparable),
      );
    }

pub returns : goal.returns
returns c = λ row are.
    let schema = c.args.schema.now in (
      c.loop-item.invariant.single,
      (all_fit (slots_of schema) schema (expr_type schema c.args.left.now) c.args.walk.now.list c.args.items c.args.stop c.loop-item.item c.loop-item.invariant.so_far.0 row ItemsFit.All c.loop-item.invariant.so_far.1 c.loop-item-test.false are).0,
    )
