use Rattle.std.proofs.Common.{length, refl, inr}
use Rattle.std.proofs.lemmas.Option.{slice_get_read}
use Rattle.csdl_schema.specs.ExprType.{single}
use Rattle.odata_filter_operations.proofs.values.Members.{compared_to_first, differs_all, differs_further, first_equal, may_compare_member, member_differs, member_equals}
use Rattle.odata_filter_operations.proofs.collections.among_members.Goals as goal

pub compare-requires : goal.compare-requires
compare-requires c =
    let there = c.requires in
    may_compare_member c.comparisons_are_decided.ensures.any_reading there.0 there.1 (single there.2) c.args.left.now c.datum_of.result c.index-members-at.result c.datum_of.ensures
    (there.3 c.loop-at.at c.index-members-at.result
    (slice_get_read c.args.members.now (length c.args.members.now) c.loop-at.at c.index-members-at.result refl c.loop-at-test.true c.index-members-at.is))

pub returns-then-compare-clause-truth : goal.returns-then-compare-clause-truth
returns-then-compare-clause-truth c =
    first_equal c.args.left.now c.args.members.now c.loop-at.at c.index-members-at.result
    (slice_get_read c.args.members.now (length c.args.members.now) c.loop-at.at c.index-members-at.result refl c.loop-at-test.true c.index-members-at.is)
    (member_equals c.args.left.now c.datum_of.result c.index-members-at.result c.compare.result c.datum_of.ensures c.compare.ensures c.if-compare.true) c.loop-at.invariant

pub returns-then-compare-clause-compared : goal.returns-then-compare-clause-compared
returns-then-compare-clause-compared c =
    compared_to_first c.args.left.now c.args.members.now c.loop-at.at c.index-members-at.result
    (slice_get_read c.args.members.now (length c.args.members.now) c.loop-at.at c.index-members-at.result refl c.loop-at-test.true c.index-members-at.is)
    (member_equals c.args.left.now c.datum_of.result c.index-members-at.result c.compare.result c.datum_of.ensures c.compare.ensures c.if-compare.true) c.loop-at.invariant

pub loop-at-preserved : goal.loop-at-preserved
loop-at-preserved c =
    differs_further c.args.left.now c.args.members.now c.loop-at.at c.index-members-at.result
    (slice_get_read c.args.members.now (length c.args.members.now) c.loop-at.at c.index-members-at.result refl c.loop-at-test.true c.index-members-at.is)
    (member_differs c.args.left.now c.datum_of.result c.index-members-at.result c.compare.result c.datum_of.ensures c.compare.ensures c.if-compare.false) c.loop-at.invariant

pub returns-clause-truth : goal.returns-clause-truth
returns-clause-truth c = differs_all c.args.left.now c.args.members.now c.loop-at.at c.loop-at-test.false c.loop-at.invariant

pub returns-clause-compared : goal.returns-clause-compared
returns-clause-compared c = inr (differs_all c.args.left.now c.args.members.now c.loop-at.at c.loop-at-test.false c.loop-at.invariant, refl)
