use Rattle.csdl_schema.specs.ExprType.{primitive, single}
use Rattle.edm_rows.proofs.LeavesKept.{literal_puts}
use Rattle.edm_rows.proofs.literals.literal_at.Goals as goal

pub returns-in-Some-literal_of : goal.returns-in-Some-literal_of
returns-in-Some-literal_of c =
    let f = c.in-Some.ensures in
    let type = c.args.prim in
    literal_puts c.args.line.now c.args.place c.in-Some.end c.in-Some-literal_of.value type c.in-Some.text.now f.further f.text (λ slots. c.in-Some-literal_of.ensures slots (single (primitive type)))
