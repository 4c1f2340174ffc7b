use Rattle.std.proofs.Common.{◌++◌, arith, string_bytes}
use Rattle.csdl_schema.specs.EnumerationText.{members_in}
use Rattle.csdl_schema.specs.SchemaModel.{enumeration_at}
use Rattle.sql_tree.specs.LeafText.{cases_text}
use Rattle.sql_tree.proofs.MemberTexts.{case_step}
use Rattle.sql_tree.proofs.leaf_text.write_cases.Goals as goal

pub loop-place-preserved : goal.loop-place-preserved
loop-place-preserved c =
    let members = members_in (enumeration_at c.args.schema.now c.args.id) in
    case_step (string_bytes c.loop-place.out) (string_bytes c.write_case_at.new.out) (string_bytes c.args.out.now ++ cases_text members) members c.loop-place.place
    (omega arith) c.in_ok-write_case_at.ensures c.loop-place.invariant
