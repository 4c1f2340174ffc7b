use Rattle.std.proofs.Common.{◌∙◌, sym, subst, List, ℕ, chars}
use Rattle.odata_text.specs.Identifier.{is_identifier}
use Rattle.csdl_declarations.specs.Declarations.{full_name}
use Rattle.csdl_declarations.specs.Fault.{bad_type}
use Rattle.csdl_declarations.specs.FaultView.{fault_of}
use Rattle.csdl_declarations.specs.private.FaultView.{ReportsFault}
use Rattle.csdl_declarations.specs.Faults.{body_faults}
use Rattle.csdl_declarations.specs.private.DocumentView.{declaration_view}
use Rattle.csdl_declarations.proofs.Reading.{first_of_more, unless_first}
use Rattle.csdl_declarations.proofs.read_types.read_type.Goals as goal

pub returns-then-not-is_identifier-clause-read : goal.returns-then-not-is_identifier-clause-read
returns-then-not-is_identifier-clause-read c =
    let t = declaration_view c.args.declaration.now in
    let e = c.bad_type.result in
    let P : List ℕ → Type 0 = λ name. ReportsFault e (bad_type name) in
    first_of_more (fault_of e) _ (body_faults (full_name t) t.body)
    (unless_first (is_identifier (chars t.name)) _ _ (sym c.is_identifier.ensures ∙ c.if-not-is_identifier.true) (subst P (c.as_str.ensures.value ∙ c.requires) c.bad_type.ensures))
