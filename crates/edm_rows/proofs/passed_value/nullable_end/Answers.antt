use Rattle.json.specs.Token.{null}
use Rattle.csdl_schema.specs.ExprType.{single}
use Rattle.json_room.specs.Lexemes.{StandsTo}
use Rattle.edm_rows.specs.private.Passed.{FitsSome}
use Rattle.json_room.specs.ValueStands.{ValueStands}
use Rattle.edm_rows.proofs.Values.{null_held, some_by}
use Rattle.edm_rows.proofs.passed_value.nullable_end.Goals as goal

pub returns-then-is_nullable : goal.returns-then-is_nullable
returns-then-is_nullable c slots type depth =
    let d = c.args.line.now in
    let i = c.args.place in
    let may = c.args.is_nullable in
    some_by c.null_end.result (λ to. StandsTo d i null to) (λ to. ValueStands depth d i to (FitsSome slots may may (single type)))
    (λ to stands. null_held slots may type depth d i to c.if-is_nullable.true stands) c.null_end.ensures
