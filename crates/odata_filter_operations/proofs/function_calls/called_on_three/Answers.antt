use Rattle.std.proofs.Common.{◌≡◌, ◌∷◌, [], SFits, w64, rules}
use Rattle.std.proofs.lemmas.Int.{to_z-of_z}
use Rattle.std.specs.Str.{chars}
use Rattle.std.specs.Cow.{cow_str_bytes}
use Rattle.odata_functions.specs.DatumVal.{datum_val}
use Rattle.odata_functions.specs.Texts.{part_from}
use Rattle.odata_filter_operations.proofs.values.CallValues.{null_behind, null_gives, null_here, null_number, null_text, of_three, part_gives, second_of_three, text_first}
use Rattle.odata_filter_operations.proofs.function_calls.called_on_three.Goals as goal

pub returns-in-Int-third : goal.returns-in-Int-third
returns-in-Int-third c = λ now r s.
    let start_fits : SFits w64 c.in-Int.start = search rules in
    let most_fits : SFits w64 c.in-Int-third.most = search rules in
    let part : chars (cow_str_bytes c.part_of_text.result) ≡ part_from c.in-Int.start c.in-Int-third.most (chars (cow_str_bytes c.in-Text.text)) =
    rw (to_z-of_z w64 c.in-Int.start start_fits, to_z-of_z w64 c.in-Int-third.most most_fits) at c.part_of_text.ensures in
    part_gives now r s c.args.function c.args.first c.args.second c.args.third c.text_datum.result c.in-Text.text (cow_str_bytes c.part_of_text.result) c.in-Int.start c.in-Int-third.most
    (of_three c.args.function (datum_val r c.args.first) (datum_val r c.args.second) (datum_val r c.args.third) (c.requires r)) c.in-Text.is c.in-Int.is c.in-Int-third.is
    (c.text_datum.ensures s) part

pub returns-in-Int : goal.returns-in-Int
returns-in-Int c = λ now r s.
    let kinds = second_of_three c.args.function (datum_val r c.args.first) (datum_val r c.args.second) (datum_val r c.args.third) (c.requires r) in
    null_gives now c.args.function (datum_val r c.args.first ∷ datum_val r c.args.second ∷ datum_val r c.args.third ∷ [])
    (null_behind (datum_val r c.args.first) (datum_val r c.args.second ∷ datum_val r c.args.third ∷ []) (null_behind (datum_val r c.args.second) (datum_val r c.args.third ∷ [])
    (null_here (datum_val r c.args.third) [] (null_number r c.args.third kinds.1 c.in_default-third.not-Int))))

pub returns-in-Text : goal.returns-in-Text
returns-in-Text c = λ now r s.
    let kinds = second_of_three c.args.function (datum_val r c.args.first) (datum_val r c.args.second) (datum_val r c.args.third) (c.requires r) in
    null_gives now c.args.function (datum_val r c.args.first ∷ datum_val r c.args.second ∷ datum_val r c.args.third ∷ [])
    (null_behind (datum_val r c.args.first) (datum_val r c.args.second ∷ datum_val r c.args.third ∷ [])
    (null_here (datum_val r c.args.second) (datum_val r c.args.third ∷ []) (null_number r c.args.second kinds.0 c.in_default-second.not-Int)))

pub returns : goal.returns
returns c = λ now r s.
    null_gives now c.args.function (datum_val r c.args.first ∷ datum_val r c.args.second ∷ datum_val r c.args.third ∷ [])
    (null_here (datum_val r c.args.first) (datum_val r c.args.second ∷ datum_val r c.args.third ∷ [])
    (null_text r c.args.first (text_first c.args.function (datum_val r c.args.first) (datum_val r c.args.second) (datum_val r c.args.third ∷ []) (c.requires r)) c.in_default.not-Text))
