use Rattle.std.proofs.Common.{sym, subst}
use Rattle.csdl_schema.specs.ExprType.{enumeration, single}
use Rattle.csdl_schema.specs.SchemaModel.{slots_of, type_name_at}
use Rattle.edm_rows.specs.private.Passed.{FitsSomeHowever}
use Rattle.json_room.specs.ValueStands.{ValueStands}
use Rattle.edm_rows.specs.private.RowSlots.{name_at}
use Rattle.edm_rows.proofs.LeavesKept.{member_fits}
use Rattle.edm_rows.proofs.passed_value.member_text_end.Goals as goal

pub returns-in-Some-member_at-clause-read : goal.returns-in-Some-member_at-clause-read
returns-in-Some-member_at-clause-read c depth =
    let schema = c.args.context.now.schema.now in
    let found = c.in-Some-member_at in
    subst (λ o. ValueStands depth c.args.context.now.line c.args.place found.end (FitsSomeHowever (slots_of schema) (single (enumeration (name_at schema o))))) (sym c.in-Some.is)
    (member_fits (slots_of schema) (type_name_at schema c.in-Some.id) depth c.args.context.now.line _ c.args.place found.end found.ensures)
