use Rattle.std.proofs.Common.{ℤ, Some, Ok, Err, SFits, w64, ap, refl, rules}
use Rattle.std.proofs.lemmas.Int.{to_z-of_z}
use Rattle.edm_values.specs.Val.{whole}
use Rattle.edm_values.specs.NumberTypes.{IsNumberOf}
use Rattle.edm_values.specs.declared.primitive.PrimitiveType.{PrimitiveType}
use Rattle.odata_functions.specs.declared.arithmetic.ArithFault.{ArithFault}
use Rattle.odata_filter_operations.specs.Outcome.{gives}
use Rattle.odata_filter_operations.proofs.function_calls.int32.Goals as goal

pub returns-in-Ok : goal.returns-in-Ok
returns-in-Ok c = λ s.
    let within : IsNumberOf PrimitiveType.Int32 c.args.n = search rules in
    let fits : SFits w64 c.args.n = search rules in
    (Ok (Some c.args.n), (refl, within), ap (λ (n : ℤ). gives (whole n)) (to_z-of_z w64 c.args.n fits))

pub returns-in-Err : goal.returns-in-Err
returns-in-Err c = λ s.
    let outside : ¬ (IsNumberOf PrimitiveType.Int32 c.args.n) = search rules in
    (Err ArithFault.Overflow, (refl, outside), refl)
