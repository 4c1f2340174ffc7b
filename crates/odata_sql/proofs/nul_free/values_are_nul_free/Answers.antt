use Rattle.std.proofs.Common.{length, refl}
use Rattle.std.proofs.lemmas.Option.{slice_get_read}
use Rattle.sql_tree.proofs.Elements.{left_end, left_first, left_not, left_on}
use Rattle.odata_sql.specs.Refusals.{HasNoNul}
use Rattle.odata_sql.proofs.nul_free.values_are_nul_free.Goals as goal

pub loop-value-init : goal.loop-value-init
loop-value-init c = left_first HasNoNul c.args.values.now

pub loop-value-preserved : goal.loop-value-preserved
loop-value-preserved c =
    let values = c.args.values.now in
    let at = slice_get_read values (length values) c.loop-value.value-index c.value-item.result refl c.loop-value-test.true c.value-item.is in
    left_on HasNoNul values c.loop-value.value-index c.value-item.result at c.loop-value.invariant (c.value_is_nul_free.ensures.0 c.if-not-value_is_nul_free.false)

pub returns-then-not-value_is_nul_free : goal.returns-then-not-value_is_nul_free
returns-then-not-value_is_nul_free c =
    let values = c.args.values.now in
    let at = slice_get_read values (length values) c.loop-value.value-index c.value-item.result refl c.loop-value-test.true c.value-item.is in
    left_not HasNoNul values c.loop-value.value-index c.value-item.result at c.loop-value.invariant c.value_is_nul_free.result c.value_is_nul_free.ensures c.if-not-value_is_nul_free.true

pub returns : goal.returns
returns c = left_end HasNoNul c.args.values.now c.loop-value.value-index c.loop-value-test.false c.loop-value.invariant
