use Rattle.std.proofs.Common.{◌∷◌, [], ℤ, Ok, Some, SFits, refl, rules, subst, sym, w64}
use Rattle.std.proofs.lemmas.Int.{to_z-of_z}
use Rattle.edm_values.specs.Val.{text}
use Rattle.odata_signatures.specs.declared.function.Function.{Function}
use Rattle.odata_filter_operations.specs.CalculationGives.{number_val}
use Rattle.odata_filter_operations.specs.FunctionGives.{FunctionGives}
use Rattle.odata_filter_operations.specs.Outcome.{gives}
use Rattle.odata_eval.specs.private.WalkAnswer.{AnswersNumber}
use Rattle.odata_eval.proofs.kept_operands.length_at.Goals as goal

pub returns-in-Ok : goal.returns-in-Ok
returns-in-Ok c =
    let fits : SFits w64 c.in-Ok.count = search rules in
    let counted : FunctionGives c.args.context.now.moment c.args.function (text c.in-Some.text.now ∷ []) (gives (number_val (Some c.in-Ok.count))) =
    subst (λ (f : Function). FunctionGives c.args.context.now.moment f (text c.in-Some.text.now ∷ []) (gives (number_val (Some c.in-Ok.count)))) (sym c.in-Length.is)
    (Ok (Some c.in-Ok.count), c.in-Ok.ensures, refl) in
    subst (λ (n : ℤ). AnswersNumber c.args.context.now c.args.place (Ok (Some n))) (sym (to_z-of_z w64 c.in-Ok.count fits))
    (c.in-Some.ensures (gives (number_val (Some c.in-Ok.count))) counted)
