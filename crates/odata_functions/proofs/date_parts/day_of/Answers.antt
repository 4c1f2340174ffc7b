use Rattle.std.proofs.Common.{◌≡◌, ◌∙◌, pos, FitsSigned, to_z, of_z}
use Rattle.std.proofs.lemmas.Int.{to_z-of_z}
use Rattle.std.specs.Int.{w8, w64}
use Rattle.odata_functions.proofs.Calendar.{date_there}
use Rattle.odata_functions.proofs.date_parts.day_of.Goals as goal

pub returns : goal.returns
returns c =
    let d = c.args.date in
    let part : FitsSigned w8 c.day.result = record { sfits = c.day.type_inv } in
    let wide : FitsSigned w64 c.from.result = record { sfits = c.from.type_inv } in
    let same : to_z w64 (of_z w64 c.from.result) ≡ pos d.day =
    to_z-of_z w64 c.from.result wide ∙ c.from.ensures ∙ to_z-of_z w8 c.day.result part ∙ c.day.ensures in
    (d.year, d.month, d.day, same, date_there d)
