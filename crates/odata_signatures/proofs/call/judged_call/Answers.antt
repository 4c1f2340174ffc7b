use Rattle.std.proofs.Common.{map}
use Rattle.std.proofs.lemmas.List.{length-map}
use Rattle.std.specs.Str.{str_to_ascii_lowercase}
use Rattle.odata_signatures.specs.TypeView.{expr_type}
use Rattle.odata_signatures.specs.declared.call.CallFault.{CallFault}
use Rattle.odata_signatures.proofs.functions.Calls.{function_typed, other_types, refuted, untyped}
use Rattle.odata_signatures.proofs.call.judged_call.Goals as goal

pub returns-then-are_argument_types-clause-typed :
    goal.returns-then-are_argument_types-clause-typed
returns-then-are_argument_types-clause-typed c = λ schema.
    let types = map (expr_type schema) c.args.types.now in
    function_typed c.in-Some.function c.signature-signature.result types c.signature-signature.ensures
    (rw length-map (c.if-count-signature.false)) (rw length-map (c.if-signature-count.false))
    ((c.are_argument_types.ensures schema).0 c.if-are_argument_types.true)

pub returns-else-are_argument_types-clause-reason :
    goal.returns-else-are_argument_types-clause-reason
returns-else-are_argument_types-clause-reason c = λ schema.
    let types = map (expr_type schema) c.args.types.now in
    other_types c.in-Some.function c.signature-signature.result types c.signature-signature.ensures (str_to_ascii_lowercase c.args.name.now) c.in-Some.ensures.some
    (rw length-map (c.if-count-signature.false)) (rw length-map (c.if-signature-count.false))
    (refuted c.are_argument_types.result c.if-are_argument_types.false (c.are_argument_types.ensures schema))

pub returns-else-are_argument_types-clause-none : goal.returns-else-are_argument_types-clause-none
returns-else-are_argument_types-clause-none c = λ schema.
    let types = map (expr_type schema) c.args.types.now in
    untyped (str_to_ascii_lowercase c.args.name.now) types CallFault.ArgumentType (returns-else-are_argument_types-clause-reason c schema)
