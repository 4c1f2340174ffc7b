use Rattle.csdl_schema.specs.ExprType.{primitive, single}
use Rattle.edm_values.specs.declared.primitive.PrimitiveType.TheVariants as prim
use Rattle.edm_rows.proofs.LeavesKept.{literal_puts, text_is}
use Rattle.edm_rows.proofs.kept_leaf.take_any_text.Goals as goal

pub returns-then-write_text-clause-taken : goal.returns-then-write_text-clause-taken
returns-then-write_text-clause-taken c =
    let f = c.in-Some.ensures in
    literal_puts c.args.line.now c.args.place c.in-Some.end c.write_text.new.value prim.String c.in-Some.text.now f.further f.text
    (λ slots. text_is c.write_text.new.value c.in-Some.text.now (c.write_text.ensures.put c.if-write_text.true) c.write_text.ensures.utf8 slots (single (primitive prim.String)))
