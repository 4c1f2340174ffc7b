use Rattle.std.proofs.Common.{IfSome, subst, arith}
use Rattle.csdl_schema.specs.SchemaModel.{properties_at}
use Rattle.json_room.specs.ValueStands.{ValueStands}
use Rattle.edm_rows.specs.private.Members.{NextMember}
use Rattle.edm_rows.proofs.NextMembers.{as_many, name_next, other_next}
use Rattle.edm_rows.proofs.Values.{some_by}
use Rattle.edm_rows.proofs.members.other_member.Goals as goal

pub returns-then-cache-len-clause-found : goal.returns-then-cache-len-clause-found
returns-then-cache-len-clause-found c =
    let context = c.args.context.now in
    let type = c.args.plan.now in
    let ps = properties_at context.schema.now type.type_id in
    let count = as_many context.schema.now context.plan.now.expansion context.plan.now.plans.items c.requires.plan.0 type c.requires.plan.1 in
    name_next c.args.cache.now.depth context.line ps c.next_name.new.cache.slot c.args.from c.past_blanks-place.result c.in-Some.value c.past_blanks-place.ensures (omega (arith, count)) c.in-Some.ensures.name

pub returns-clause-found : goal.returns-clause-found
returns-clause-found c =
    let context = c.args.context.now in
    let type = c.args.plan.now in
    let ps = properties_at context.schema.now type.type_id in
    let depth = c.args.cache.now.depth in
    let count = as_many context.schema.now context.plan.now.expansion context.plan.now.plans.items c.requires.plan.0 type c.requires.plan.1 in
    let reads = subst (λ n. IfSome c.any_value_end.result (λ to. ValueStands n context.line c.past_blanks.result to (λ json. Unit {0}))) c.next_name.ensures.depth c.any_value_end.ensures in
    some_by c.any_value_end.result (λ to. ValueStands depth context.line c.past_blanks.result to (λ json. Unit {0})) (NextMember depth context.line ps c.next_name.new.cache.slot c.args.from)
    (λ to at_to. other_next depth context.line ps c.next_name.new.cache.slot c.args.from c.past_blanks-place.result c.in-Some.value c.past_blanks.result to c.past_blanks-place.ensures (omega (arith, count))
    c.in-Some.ensures.name c.past_blanks.ensures at_to) reads
