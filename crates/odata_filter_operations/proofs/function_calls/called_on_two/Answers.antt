use Rattle.std.proofs.Common.{◌≡◌, ◌∷◌, [], SFits, w64, rules}
use Rattle.std.proofs.lemmas.Int.{to_z-of_z}
use Rattle.std.specs.Str.{chars}
use Rattle.std.specs.Cow.{cow_str_bytes}
use Rattle.odata_functions.specs.DatumVal.{datum_val}
use Rattle.odata_functions.specs.Texts.{rest_from}
use Rattle.odata_filter_operations.specs.FunctionCalls.{MakesText}
use Rattle.odata_filter_operations.specs.DatumView.{answer_outcome}
use Rattle.odata_filter_operations.proofs.values.CallValues.{asked_substring, null_behind, null_gives, null_here, null_text, null_text_or_number, rest_gives, text_first, text_or_number, texts_apply, texts_report}
use Rattle.odata_filter_operations.proofs.values.OneReading.{one_reading}
use Rattle.odata_filter_operations.proofs.function_calls.called_on_two.Goals as goal

pub called_on_texts-requires : goal.called_on_texts-requires
called_on_texts-requires c =
    texts_apply one_reading c.args.function c.args.first c.args.second c.in-Text.text c.in-Text-second.part c.as_str.result.now c.as_str-in-Text-second.result.now c.in-Text.is c.in-Text-second.is
    c.as_str.ensures.value c.as_str-in-Text-second.ensures.value (c.requires one_reading)

pub returns-in-Text-second : goal.returns-in-Text-second
returns-in-Text-second c = λ now r s.
    texts_report now r c.args.function c.args.first c.args.second c.in-Text.text c.in-Text-second.part c.as_str.result.now c.as_str-in-Text-second.result.now (MakesText c.args.function)
    (answer_outcome (datum_val s) c.called_on_texts.result) c.in-Text.is c.in-Text-second.is c.as_str.ensures.value c.as_str-in-Text-second.ensures.value (c.called_on_texts.ensures now s)

pub returns-in-Int : goal.returns-in-Int
returns-in-Int c = λ now r s.
    let fits : SFits w64 c.in-Int.start = search rules in
    let rest : chars (cow_str_bytes c.rest_of_text.result) ≡ rest_from c.in-Int.start (chars (cow_str_bytes c.in-Text.text)) =
    rw (to_z-of_z w64 c.in-Int.start fits) at c.rest_of_text.ensures in
    rest_gives now r s c.args.function c.args.first c.args.second c.text_datum.result c.in-Text.text (cow_str_bytes c.rest_of_text.result) c.in-Int.start
    (asked_substring r c.args.function c.args.first c.args.second c.in-Text.text c.in-Int.start c.in-Text.is c.in-Int.is (c.requires r)) c.in-Text.is c.in-Int.is
    (c.text_datum.ensures s) rest

pub returns-in-Text : goal.returns-in-Text
returns-in-Text c = λ now r s.
    null_gives now c.args.function (datum_val r c.args.first ∷ datum_val r c.args.second ∷ [])
    (null_behind (datum_val r c.args.first) (datum_val r c.args.second ∷ [])
    (null_here (datum_val r c.args.second) [] (null_text_or_number r c.args.second
    (text_or_number c.args.function (datum_val r c.args.first) (datum_val r c.args.second) [] (c.requires r))
    c.in_default-second.not-Text c.in_default-second.not-Int)))

pub returns : goal.returns
returns c = λ now r s.
    null_gives now c.args.function (datum_val r c.args.first ∷ datum_val r c.args.second ∷ [])
    (null_here (datum_val r c.args.first) (datum_val r c.args.second ∷ [])
    (null_text r c.args.first (text_first c.args.function (datum_val r c.args.first) (datum_val r c.args.second) [] (c.requires r)) c.in_default.not-Text))
