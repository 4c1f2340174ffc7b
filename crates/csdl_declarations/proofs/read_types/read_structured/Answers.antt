use Rattle.std.proofs.Common.{◌∙◌, sym, ap, map, codes}
use Rattle.std.specs.List.{flat_map}
use Rattle.serde_json.specs.Find.{get}
use Rattle.serde_json.specs.View.{view}
use Rattle.csdl_declarations.specs.Members.{declared_in, is_text_if_given}
use Rattle.csdl_declarations.specs.DeclaredType.{declared_property}
use Rattle.csdl_declarations.specs.Fault.{bad_type}
use Rattle.csdl_declarations.specs.FaultView.{fault_of}
use Rattle.csdl_declarations.specs.Faults.{property_faults}
use Rattle.csdl_declarations.specs.private.DocumentView.{members_of}
use Rattle.csdl_declarations.proofs.Reading.{in_order, first_of_more, unless_first}
use Rattle.csdl_declarations.proofs.read_types.read_structured.Goals as goal

pub returns-clause-ordered : goal.returns-clause-ordered
returns-clause-ordered c =
    in_order _ (declared_in (view c.args.value.now))
    (c.in_ok-properties.ensures.1 ∙ ap (map declared_property) (ap members_of c.deref.ensures.value ∙ c.in_ok-members.ensures.members))
    c.in_ok-members.ensures.ordered

pub returns-then-not-is_text_if_given-clause-read : goal.returns-then-not-is_text_if_given-clause-read
returns-then-not-is_text_if_given-clause-read c =
    let d = view c.args.value.now in
    let owner = c.args.owner.now in
    first_of_more (fault_of c.bad_type.result) _ (flat_map (property_faults owner) (declared_in d))
    (unless_first (is_text_if_given (get (codes "$BaseType") d)) (bad_type owner) _ (sym c.is_text_if_given.ensures ∙ c.if-not-is_text_if_given.true) c.bad_type.ensures)
