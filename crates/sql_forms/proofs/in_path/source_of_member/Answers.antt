use Rattle.sql_forms.proofs.Common.{◌≡◌, refl, sym, subst, goes_there, inside, slice_get, type_of_field, EdmType, ValueType, CheckedNode, Kind, Source, kind_of_single, single_of, IsAtPath}
use Rattle.sql_outcomes.proofs.nodes.Given.{field_kind, structured_members}
use Rattle.sql_forms.proofs.in_path.source_of_member.Goals as goal

pub member_type-requires : goal.member_type-requires
member_type-requires c = inside (λ (n : CheckedNode). (type : ValueType) × (n.edm_type ≡ EdmType.Collection type)) c.args.context.now.checked.now.list.nodes c.args.collection c.requires

pub returns-in-Some : goal.returns-in-Some
returns-in-Some c =
    let here : IsAtPath c.args.path (Kind.Value (type_of_field c.in-Some.value_type)) (Source.Field c.args.path c.in-Some.value_type) = (refl, refl) in
    goes_there (slice_get c.args.context.now.checked.now.list.nodes c.args.collection) (λ (n : CheckedNode). n.edm_type ≡ EdmType.Collection (single_of c.in-Some.value_type))
    (λ (n : CheckedNode). (t : ValueType) × (n.edm_type ≡ EdmType.Collection t) × IsAtPath c.args.path (kind_of_single t) (Source.Field c.args.path c.in-Some.value_type))
    (λ n is. (single_of c.in-Some.value_type, is, subst (λ (k : Kind). IsAtPath c.args.path k (Source.Field c.args.path c.in-Some.value_type)) (sym (field_kind c.in-Some.value_type)) here)) c.in-Some.ensures.some

pub returns-in-None : goal.returns-in-None
returns-in-None c =
    goes_there (slice_get c.args.context.now.checked.now.list.nodes c.args.collection)
    (λ (n : CheckedNode). (t : ValueType) × (n.edm_type ≡ EdmType.Collection t) × (Kind.Structured ≡ kind_of_single t))
    (λ (n : CheckedNode). (t : ValueType) × (n.edm_type ≡ EdmType.Collection t) × IsAtPath c.args.path (kind_of_single t) (Source.Place c.args.path))
    (λ n is. (is.0, is.1, subst (λ (k : Kind). IsAtPath c.args.path k (Source.Place c.args.path)) is.2 refl))
    (structured_members c.args.context.now.checked.now c.args.collection c.requires c.in-None.ensures.none)
