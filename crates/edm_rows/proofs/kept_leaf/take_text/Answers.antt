use Rattle.std.proofs.Common.{refl}
use Rattle.csdl_schema.specs.ExprType.{primitive, single}
use Rattle.edm_values.specs.declared.primitive.PrimitiveType.TheVariants as prim
use Rattle.edm_rows.proofs.LeavesKept.{literal_puts, text_rejected, text_is}
use Rattle.edm_rows.proofs.kept_leaf.take_text.Goals as goal

pub returns-then-is_text_rejected : goal.returns-then-is_text_rejected
returns-then-is_text_rejected c =
    let f = c.in-Some.ensures in (
      λ slots depth.
          text_rejected c.args.line.now c.args.place c.in-Some.end c.args.slot.now.sieve slots depth c.in-Some.text.now f.further f.text c.is_text_rejected.ensures.utf8 (c.is_text_rejected.ensures.rejected c.if-is_text_rejected.true),
      refl,
    )

pub returns-then-overwrite_text : goal.returns-then-overwrite_text
returns-then-overwrite_text c =
    let f = c.in-Some.ensures in
    literal_puts c.args.line.now c.args.place c.in-Some.end c.overwrite_text.new.value prim.String c.in-Some.text.now f.further f.text
    (λ slots. text_is c.overwrite_text.new.value c.in-Some.text.now (c.overwrite_text.ensures c.if-overwrite_text.true) c.is_text_rejected.ensures.utf8 slots (single (primitive prim.String)))
