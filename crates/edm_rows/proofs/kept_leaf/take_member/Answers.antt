use Rattle.std.proofs.Common.{ℕ, ℤ, Option, sym, subst, rules}
use Rattle.std.proofs.lemmas.Int.{to_z-of_z}
use Rattle.std.specs.Prelude.{FitsSigned}
use Rattle.std.specs.Int.{w64}
use Rattle.csdl_schema.specs.SchemaModel.{slots_of}
use Rattle.edm_values.specs.declared.value.Value.{Enum}
use Rattle.edm_rows.specs.private.KeptLeaves.{PutsMember}
use Rattle.edm_rows.specs.private.RowSlots.{name_at}
use Rattle.edm_rows.proofs.kept_leaf.take_member.Goals as goal

pub returns-in-Some-member_at-clause-taken : goal.returns-in-Some-member_at-clause-taken
returns-in-Some-member_at-clause-taken c =
    let schema = c.args.context.now.schema.now in
    let slots = slots_of schema in
    let found = c.in-Some-member_at in
    let line = c.args.context.now.line in
    let name = name_at schema c.args.slot.now.member_of in
    let fits : FitsSigned w64 found.number = search rules in
    subst (λ (z : ℤ). PutsMember line slots name (Enum z) c.args.place found.end) (sym (to_z-of_z w64 found.number fits))
    (subst (λ (o : Option ℕ). PutsMember line slots (name_at schema o) (Enum found.number) c.args.place found.end) (sym c.in-Some.is) found.ensures)
