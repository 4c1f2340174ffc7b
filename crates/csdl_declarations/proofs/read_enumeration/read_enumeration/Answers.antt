use Rattle.std.proofs.Common.{◌∙◌, ◌&&◌, is_some, sym, ap, codes}
use Rattle.std.specs.List.{flat_map}
use Rattle.serde_json.specs.View.{view}
use Rattle.serde_json.specs.Find.{get}
use Rattle.csdl_declarations.specs.Fault.{bad_type, unless}
use Rattle.csdl_declarations.specs.FaultView.{fault_of}
use Rattle.csdl_declarations.specs.Members.{declared_in, is_truth_if_given}
use Rattle.csdl_declarations.specs.EnumerationDeclaration.{is_enumeration_object, member_faults, underlying_at, underlying_of}
use Rattle.csdl_declarations.proofs.Reading.{first_of_more, unless_first}
use Rattle.csdl_declarations.proofs.EnumerationNumbers.{other_fails}
use Rattle.csdl_declarations.proofs.read_enumeration.read_enumeration.Goals as goal

pub returns-then-not-is_truth_if_given : goal.returns-then-not-is_truth_if_given
returns-then-not-is_truth_if_given c =
    let d = view c.args.value.now in
    let owner = c.args.owner.now in
    let reported = fault_of c.bad_type.result in
    first_of_more reported (unless (is_enumeration_object d) (bad_type owner)) (flat_map (member_faults owner (underlying_of d)) (declared_in d))
    (unless_first (is_enumeration_object d) (bad_type owner) reported
    (other_fails (is_some (underlying_at d)) (is_truth_if_given (get (codes "$IsFlags") d)) (sym c.is_truth_if_given.ensures ∙ c.if-not-is_truth_if_given.true))
    c.bad_type.ensures)

pub returns-in-None : goal.returns-in-None
returns-in-None c =
    let d = view c.args.value.now in
    let owner = c.args.owner.now in
    let reported = fault_of c.bad_type-in-None.result in
    first_of_more reported (unless (is_enumeration_object d) (bad_type owner)) (flat_map (member_faults owner (underlying_of d)) (declared_in d))
    (unless_first (is_enumeration_object d) (bad_type owner) reported
    (ap (λ o. is_some o && is_truth_if_given (get (codes "$IsFlags") d)) (sym c.underlying_at.ensures.value ∙ c.in-None.is))
    c.bad_type-in-None.ensures)
