use Rattle.std.proofs.Common.{◌+◌, ◌∙◌, sym, ap, drop}
use Rattle.std.specs.List.{flat_map}
use Rattle.csdl_declarations.specs.Faults.{namespace_faults, is_schema}
use Rattle.serde_json.specs.View.{view}
use Rattle.csdl_declarations.specs.Members.{declared_in}
use Rattle.csdl_declarations.specs.Fault.{bad_type}
use Rattle.csdl_declarations.specs.private.DocumentView.{members_of, member_view}
use Rattle.csdl_declarations.specs.FaultView.{fault_of}
use Rattle.csdl_declarations.proofs.Reading.{at_index, found_among, unless_first}
use Rattle.csdl_declarations.proofs.namespaces.check_namespaces.Goals as goal

pub returns-then-not-is_schema : goal.returns-then-not-is_schema
returns-then-not-is_schema c =
    let schemas = c.args.schemas.now in
    let all = declared_in (view c.args.document.now) in
    let i = c.loop-schema.schema-index in
    let m = c.schema-item.result in
    let step = at_index schemas i m c.loop-schema-test.true c.schema-item.is in
    found_among (namespace_faults all) (fault_of c.bad_type.result) (member_view m) (members_of (drop (i + 1) schemas)) _
    (ap (λ ms. flat_map (namespace_faults all) (members_of ms)) (sym step) ∙ c.loop-schema.invariant)
    (unless_first (is_schema all (member_view m)) (bad_type m.name.now) _ (sym c.is_schema.ensures ∙ c.if-not-is_schema.true) c.bad_type.ensures)
