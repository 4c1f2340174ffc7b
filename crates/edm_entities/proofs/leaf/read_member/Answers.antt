use Rattle.std.proofs.Common.{◌≡◌, ℤ, ap, sym, subst, rules}
use Rattle.std.proofs.lemmas.Int.{to_z-of_z}
use Rattle.std.specs.Prelude.{FitsSigned}
use Rattle.std.specs.Int.{w64}
use Rattle.serde_json.specs.Data.{boolean, string}
use Rattle.serde_json.specs.Find.{as_str}
use Rattle.csdl_schema.specs.SchemaModel.{enumeration_at, slots_of, type_name_at}
use Rattle.edm_values.specs.declared.value.Value.{Enum}
use Rattle.edm_entities.specs.FitsPrimitive.{FitsText, IsMemberText}
use Rattle.edm_entities.specs.Row.{val_of}
use Rattle.edm_entities.proofs.FitLemmas.Numbers.{none_some, val_of-Enum}
use Rattle.edm_entities.proofs.FitLemmas.ScalarKinds.{number_no_text, member_read, member_none}
use Rattle.edm_entities.proofs.leaf.read_member.Goals as goal

pub returns-in-Some-clause-fits : goal.returns-in-Some-clause-fits
returns-in-Some-clause-fits c json slots type is =
    let same : json ≡ string c.in-Text.text.now = rw c.in-Text.is at is in
    let fits : FitsSigned w64 c.in-Some.n = search rules in
    let named = (slots_of c.args.schema.now).enumerations (type_name_at c.args.schema.now c.args.id) in
    subst (λ (n : ℤ). FitsText (IsMemberText named) json (val_of (Enum n) slots.properties type)) (sym (to_z-of_z w64 c.in-Some.n fits))
    (member_read (enumeration_at c.args.schema.now c.args.id) named json c.in-Text.text.now c.in-Some.n (val_of (Enum c.in-Some.n) slots.properties type)
    c.enum_value.ensures.by_name same c.in-Some.ensures.value c.in-Some.ensures.within (val_of-Enum slots type c.in-Some.n))

pub returns-in-None-clause-flaw : goal.returns-in-None-clause-flaw
returns-in-None-clause-flaw c json is =
    let same : json ≡ string c.in-Text.text.now = rw c.in-Text.is at is in
    member_none (enumeration_at c.args.schema.now c.args.id) ((slots_of c.args.schema.now).enumerations (type_name_at c.args.schema.now c.args.id)) json
    c.in-Text.text.now c.enum_value.ensures.by_name same (λ n value. none_some (c.in-None.ensures.only n value))

pub returns-in-Truth-clause-flaw : goal.returns-in-Truth-clause-flaw
returns-in-Truth-clause-flaw c json is =
    let same : json ≡ boolean c.in-Truth.field-0 = rw c.in-Truth.is at is in ap as_str same

pub returns-in-Number-clause-flaw : goal.returns-in-Number-clause-flaw
returns-in-Number-clause-flaw c json is = number_no_text c.in-Number.field-0 json (rw c.in-Number.is at is)

pub returns-in-Other-clause-flaw : goal.returns-in-Other-clause-flaw
returns-in-Other-clause-flaw c json is = let here = rw c.in-Other.is at is in here.2
