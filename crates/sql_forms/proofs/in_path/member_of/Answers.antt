use Rattle.sql_forms.proofs.Common.{◌≡◌, ◌∙◌, ap, some_there, found_there, subst, sym, slice_get, EdmType, ValueType, CheckedNode, Range, Kind, kind_of_single, IsAtPath}
use Rattle.sql_forms.proofs.in_path.member_of.Goals as goal

same_members : (a b : ValueType) → EdmType.Collection a ≡ EdmType.Collection b → a ≡ b
same_members a b same = cc

pub returns : goal.returns
returns c =
    let nodes = c.args.context.now.checked.now.list.nodes in
    let at = some_there (λ (n : CheckedNode). (t : ValueType) × (n.edm_type ≡ EdmType.Collection t) × IsAtPath c.args.path (kind_of_single t) c.source_of_member.result) (slice_get nodes c.args.collection) c.source_of_member.ensures in
    let kind = found_there (λ (n : CheckedNode). (t : ValueType) × (n.edm_type ≡ EdmType.Collection t) × (c.kind_of_member.result ≡ kind_of_single t)) (slice_get nodes c.args.collection) at.0 at.1.0 c.kind_of_member.ensures in
    let same = same_members at.1.1.0 kind.0 (sym at.1.1.1 ∙ kind.1) in
    record {
      at = subst (λ (k : Kind). IsAtPath c.args.path k c.source_of_member.result) (ap kind_of_single same ∙ sym kind.2) at.1.1.2;
      kind = c.kind_of_member.ensures;
      nullable = ap (λ (r : Range). r.may_be_null) c.plain.ensures;
      plain = ap (λ (r : Range). r.may_fault) c.plain.ensures;
    }
