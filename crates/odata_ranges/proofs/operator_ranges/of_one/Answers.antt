use Rattle.odata_ranges.proofs.Common.{◌∙◌, ap, subst, arith, rules, ints, NodeKind, MakesNone, Range}
use Rattle.odata_ranges.proofs.HoldingOne.{any_item_holds, count_holds, negation_holds, not_holds}
use Rattle.odata_ranges.proofs.Inside.{not_kind, one_inside}
use Rattle.odata_ranges.proofs.Quiet.{one_known, own_above}
use Rattle.odata_ranges.proofs.Numeric.{negation_numeric}
use Rattle.odata_ranges.proofs.operator_ranges.of_one.Goals as goal

pub range_in-operand-requires : goal.range_in-operand-requires
range_in-operand-requires c =
    let there = one_inside c.args.checked.now c.requires.form.right c.args.place c.args.node c.requires.form.at c.requires.form.is in
    omega (arith, there, c.requires.known.as_many)

pub of_arithmetic-requires : goal.of_arithmetic-requires
of_arithmetic-requires c =
    let operand = one_known c.requires.form c.requires.known c.range_in-operand.ensures in
    record {
      left = search rules;
      right = operand.right.bounded;
      numeric = negation_numeric c.args.checked.now c.requires.form.right c.args.place c.args.node c.requires.form.at c.in-Neg.is;
    }

pub returns-in-Count : goal.returns-in-Count
returns-in-Count c =
    let operand = one_known c.requires.form c.requires.known c.range_in-operand.ensures in
    own_above c.requires.form tt (record {
      bounded = search rules;
      holds = count_holds c.trees_have_one_type.ensures c.args.checked.now c.args.place c.args.node c.requires.form.at c.range_in-operand.result c.between.result operand.right.holds
          c.in-Count.is (λ may. ap (λ (r : Range). r.may_be_null) c.between.ensures ∙ may) (omega (arith, ints, ap (λ (r : Range). r.low) c.between.ensures)) (omega (arith, ints, ap (λ (r : Range). r.high) c.between.ensures));
    })
    (λ makes quiet. ap (λ (r : Range). r.may_fault) c.between.ensures)

pub returns-in-AnyItem : goal.returns-in-AnyItem
returns-in-AnyItem c =
    let operand = one_known c.requires.form c.requires.known c.range_in-operand.ensures in
    own_above c.requires.form tt (record {
      bounded = search rules;
      holds = any_item_holds c.trees_have_one_type.ensures c.args.checked.now c.args.place c.args.node c.requires.form.at c.range_in-operand.result c.plain.result operand.right.holds
          c.in-AnyItem.is (λ may. ap (λ (r : Range). r.may_be_null) c.plain.ensures ∙ may);
    })
    (λ makes quiet. ap (λ (r : Range). r.may_fault) c.plain.ensures)

pub returns-in-Neg : goal.returns-in-Neg
returns-in-Neg c =
    let operand = one_known c.requires.form c.requires.known c.range_in-operand.ensures in
    own_above c.requires.form tt (record {
      bounded = c.of_arithmetic.ensures.bounded;
      holds = negation_holds c.trees_have_one_type.ensures c.args.checked.now c.args.place c.args.node c.requires.form.at c.range_in-operand.result c.of_arithmetic.result operand.right.holds
          c.plain-zero.result c.in-Neg.is (omega (arith, ints, ap (λ (r : Range). r.low) c.plain-zero.ensures), omega (arith, ints, ap (λ (r : Range). r.high) c.plain-zero.ensures)) c.of_arithmetic.ensures.holds;
    })
    (λ makes quiet. c.of_arithmetic.ensures.quiet (subst (λ (k : NodeKind). MakesNone k c.args.node.edm_type) c.in-Neg.is makes)
    (ap (λ (r : Range). r.may_fault) c.plain-zero.ensures) (operand.quiet quiet))

pub returns-in_default : goal.returns-in_default
returns-in_default c =
    let operand = one_known c.requires.form c.requires.known c.range_in-operand.ensures in
    let is_not = not_kind c.args.node.kind c.requires.form.is c.in_default.not-Count c.in_default.not-AnyItem c.in_default.not-Neg in
    own_above c.requires.form tt (record {
      bounded = operand.right.bounded;
      holds = not_holds c.trees_have_one_type.ensures c.args.checked.now c.args.place c.args.node c.requires.form.at c.range_in-operand.result c.range_in-operand.result operand.right.holds
          is_not (λ may. may) (λ may. may);
    })
    (λ makes quiet. operand.quiet quiet)
