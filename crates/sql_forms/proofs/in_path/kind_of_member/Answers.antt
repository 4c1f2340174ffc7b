use Rattle.sql_forms.proofs.Common.{◌≡◌, ◌∙◌, ap, sym, goes_there, inside, slice_get, EdmType, ValueType, CheckedNode, SqlType, Kind, kind_of_single, single_of}
use Rattle.sql_outcomes.proofs.nodes.Given.{field_kind, structured_members}
use Rattle.sql_forms.proofs.in_path.kind_of_member.Goals as goal

pub member_type-requires : goal.member_type-requires
member_type-requires c = inside (λ (n : CheckedNode). (type : ValueType) × (n.edm_type ≡ EdmType.Collection type)) c.args.context.now.checked.now.list.nodes c.args.collection c.requires

pub returns-in-Some : goal.returns-in-Some
returns-in-Some c =
    goes_there (slice_get c.args.context.now.checked.now.list.nodes c.args.collection) (λ (n : CheckedNode). n.edm_type ≡ EdmType.Collection (single_of c.in-Some.value_type))
    (λ (n : CheckedNode). (t : ValueType) × (n.edm_type ≡ EdmType.Collection t) × (Kind.Value c.type_of_field.result ≡ kind_of_single t))
    (λ n is. (single_of c.in-Some.value_type, is, ap (λ (t : SqlType). Kind.Value t) c.type_of_field.ensures ∙ sym (field_kind c.in-Some.value_type))) c.in-Some.ensures.some

pub returns-in-None : goal.returns-in-None
returns-in-None c = structured_members c.args.context.now.checked.now c.args.collection c.requires c.in-None.ensures.none
