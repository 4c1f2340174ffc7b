use Rattle.std.proofs.Common.{ℤ, sym, subst, rules}
use Rattle.std.proofs.lemmas.Int.{to_z-of_z}
use Rattle.std.specs.Prelude.{FitsSigned}
use Rattle.std.specs.Int.{w64}
use Rattle.csdl_schema.specs.EnumerationText.{IsOfUnderlying, IsValueIn}
use Rattle.csdl_schema.specs.SchemaModel.{slots_of, type_name_at}
use Rattle.edm_values.specs.declared.value.Value.{Enum}
use Rattle.edm_rows.specs.private.KeptLeaves.{PutsMember}
use Rattle.edm_rows.proofs.LeavesKept.{member_puts}
use Rattle.edm_rows.proofs.literals.member_at.Goals as goal

pub returns-in-Some-enum_value : goal.returns-in-Some-enum_value
returns-in-Some-enum_value c =
    let schema = c.args.schema.now in
    let slots = slots_of schema in
    let name = type_name_at schema c.args.id in
    let n = c.in-Some-enum_value.number in
    let there = c.in-Some in
    let line = c.args.line.now in
    let value = subst (λ e. IsValueIn e there.text.now n) c.enum_value.ensures.by_name c.in-Some-enum_value.ensures.value in
    let within = subst (λ e. IsOfUnderlying e n) c.enum_value.ensures.by_name c.in-Some-enum_value.ensures.within in
    let fits : FitsSigned w64 n = search rules in
    subst (λ (z : ℤ). PutsMember line slots name (Enum z) c.args.place there.end) (sym (to_z-of_z w64 n fits))
    (member_puts slots name there.text.now line c.args.place there.end n there.ensures.further there.ensures.text value within)
