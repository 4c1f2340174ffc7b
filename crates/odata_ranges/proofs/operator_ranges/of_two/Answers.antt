use Rattle.odata_ranges.proofs.Common.{◌∙◌, refl, subst, arith, NodeKind, MakesNone}
use Rattle.odata_ranges.proofs.Flags.{both_faults, neither, of_left, of_right}
use Rattle.odata_ranges.proofs.HoldingNodes.{has_holds, in_path_holds, lambda_holds, operator_holds}
use Rattle.odata_ranges.proofs.Inside.{lambda_kind, two_inside}
use Rattle.odata_ranges.proofs.Quiet.{own_above, two_known}
use Rattle.odata_ranges.proofs.Numeric.{operator_numeric}
use Rattle.odata_ranges.proofs.operator_ranges.of_two.Goals as goal

pub node_at-next-requires : goal.node_at-next-requires
node_at-next-requires c = (two_inside c.args.checked.now c.requires.form.right c.args.place c.args.node c.requires.form.at c.args.node.kind refl c.requires.form.is).0

pub range_in-left-requires : goal.range_in-left-requires
range_in-left-requires c =
    let there = two_inside c.args.checked.now c.requires.form.right c.args.place c.args.node c.requires.form.at c.args.node.kind refl c.requires.form.is in
    omega (arith, there.0, c.requires.known.as_many)

pub range_in-right-requires : goal.range_in-right-requires
range_in-right-requires c =
    let there = two_inside c.args.checked.now c.requires.form.right c.args.place c.args.node c.requires.form.at c.args.node.kind refl c.requires.form.is in
    let right = there.1 c.node_at-next.result c.node_at-next.ensures.found in
    omega (arith, right.0, c.requires.known.as_many)

pub of_operator-requires : goal.of_operator-requires
of_operator-requires c =
    let known = two_known c.requires.form c.requires.known c.node_at-next.ensures.found c.range_in-left.ensures c.range_in-right.ensures in
    record {
      left = known.first.bounded;
      right = known.second.bounded;
      numeric = operator_numeric c.args.checked.now c.requires.form.right c.args.place c.args.node c.requires.form.at c.in-Binary.operator c.in-Binary.is;
    }

pub returns-in-Binary : goal.returns-in-Binary
returns-in-Binary c =
    let known = two_known c.requires.form c.requires.known c.node_at-next.ensures.found c.range_in-left.ensures c.range_in-right.ensures in
    own_above c.requires.form tt (record {
      bounded = c.of_operator.ensures.bounded;
      holds = operator_holds c.trees_have_one_type.ensures c.args.checked.now c.args.place c.args.node c.node_at-next.result c.requires.form.at
          c.node_at-next.ensures.found c.range_in-left.result c.range_in-right.result c.of_operator.result known.first.holds known.second.holds
          c.in-Binary.operator c.in-Binary.is c.of_operator.ensures.holds;
    })
    (λ makes quiet.
    c.of_operator.ensures.quiet (subst (λ (k : NodeKind). MakesNone k c.args.node.edm_type) c.in-Binary.is makes) (known.quiet quiet).0 (known.quiet quiet).1)

pub returns-in-Has : goal.returns-in-Has
returns-in-Has c =
    let known = two_known c.requires.form c.requires.known c.node_at-next.ensures.found c.range_in-left.ensures c.range_in-right.ensures in
    own_above c.requires.form tt (record {
      bounded = c.truth.ensures.bounded;
      holds = has_holds c.trees_have_one_type.ensures c.args.checked.now c.args.place c.args.node c.node_at-next.result c.requires.form.at
          c.node_at-next.ensures.found c.range_in-left.result c.range_in-right.result c.truth.result known.first.holds known.second.holds
          c.in-Has.is (both_faults c.truth.result c.range_in-left.result c.range_in-right.result c.either-faults.result c.either-faults.ensures (λ may. c.truth.ensures.fault ∙ may))
          (λ may. c.truth.ensures.null ∙ of_left c.either-nulls.result c.range_in-left.result.may_be_null c.range_in-right.result.may_be_null c.either-nulls.ensures may)
          (λ may. c.truth.ensures.null ∙ of_right c.either-nulls.result c.range_in-left.result.may_be_null c.range_in-right.result.may_be_null c.either-nulls.ensures may);
    })
    (λ makes quiet.
    c.truth.ensures.fault ∙ neither c.either-faults.result c.range_in-left.result.may_fault c.range_in-right.result.may_fault c.either-faults.ensures (known.quiet quiet).0 (known.quiet quiet).1)

pub returns-in-InPath : goal.returns-in-InPath
returns-in-InPath c =
    let known = two_known c.requires.form c.requires.known c.node_at-next.ensures.found c.range_in-left.ensures c.range_in-right.ensures in
    own_above c.requires.form tt (record {
      bounded = c.truth-in-InPath.ensures.bounded;
      holds = in_path_holds c.trees_have_one_type.ensures c.args.checked.now c.args.place c.args.node c.node_at-next.result c.requires.form.at
          c.node_at-next.ensures.found c.range_in-left.result c.range_in-right.result c.truth-in-InPath.result known.first.holds known.second.holds
          c.in-InPath.is (both_faults c.truth-in-InPath.result c.range_in-left.result c.range_in-right.result c.either-faults.result c.either-faults.ensures (λ may. c.truth-in-InPath.ensures.fault ∙ may))
          (λ may. c.truth-in-InPath.ensures.null ∙ may);
    })
    (λ makes quiet.
    c.truth-in-InPath.ensures.fault ∙ neither c.either-faults.result c.range_in-left.result.may_fault c.range_in-right.result.may_fault c.either-faults.ensures (known.quiet quiet).0 (known.quiet quiet).1)

pub returns-in_default : goal.returns-in_default
returns-in_default c =
    let known = two_known c.requires.form c.requires.known c.node_at-next.ensures.found c.range_in-left.ensures c.range_in-right.ensures in
    let lambda = lambda_kind c.args.node.kind c.requires.form.is c.in_default.not-Binary c.in_default.not-Has c.in_default.not-InPath in
    own_above c.requires.form tt (record {
      bounded = c.truth-in_default.ensures.bounded;
      holds = lambda_holds c.trees_have_one_type.ensures c.args.checked.now c.args.place c.args.node c.node_at-next.result c.requires.form.at
          c.node_at-next.ensures.found c.range_in-left.result c.range_in-right.result c.truth-in_default.result known.first.holds known.second.holds
          c.typed_trees_end_once.ensures lambda.0 lambda.1 (λ may. c.truth-in_default.ensures.null ∙ may)
          (λ may. c.truth-in_default.ensures.fault ∙ of_right c.either-faults.result c.range_in-left.result.may_fault c.range_in-right.result.may_fault c.either-faults.ensures may);
    })
    (λ makes quiet.
    c.truth-in_default.ensures.fault ∙ neither c.either-faults.result c.range_in-left.result.may_fault c.range_in-right.result.may_fault c.either-faults.ensures (known.quiet quiet).0 (known.quiet quiet).1)
