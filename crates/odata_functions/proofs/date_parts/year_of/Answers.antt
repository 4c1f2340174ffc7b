use Rattle.std.proofs.Common.{◌≡◌, ◌∙◌, ℤ, sym, subst, FitsSigned, to_z, of_z}
use Rattle.std.proofs.lemmas.Int.{to_z-of_z}
use Rattle.std.specs.Int.{w16, w64}
use Rattle.edm_values.specs.Civil.{epoch_day}
use Rattle.odata_functions.specs.Gregorian.{IsDateOf}
use Rattle.odata_functions.proofs.Calendar.{date_there}
use Rattle.odata_functions.proofs.date_parts.year_of.Goals as goal

pub returns : goal.returns
returns c =
    let d = c.args.date in
    let part : FitsSigned w16 c.year.result = record { sfits = c.year.type_inv } in
    let wide : FitsSigned w64 c.from.result = record { sfits = c.from.type_inv } in
    let same : to_z w64 (of_z w64 c.from.result) ≡ d.year =
    to_z-of_z w64 c.from.result wide ∙ c.from.ensures ∙ to_z-of_z w16 c.year.result part ∙ c.year.ensures in
    (d.month, d.day, subst (λ (y : ℤ). IsDateOf (epoch_day d) y d.month d.day) (sym same) (date_there d))
