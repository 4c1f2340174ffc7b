use Rattle.sql_forms.proofs.Common.{◌∷◌, [], ℤ, OnOk, arith, length, refl, rules, subst, w64, FitsSigned, string_bytes, Value, SqlNode, SqlType, Parameter, GrowsBy, question_of}
use Rattle.std.proofs.lemmas.Int.{to_z-of_z}
use Rattle.sql_forms.proofs.answers.LiteralAnswers.{literal_at, ok_date, ok_guid, ok_member, ok_moment, ok_other, ok_text, ok_truth, ok_whole}
use Rattle.sql_forms.proofs.value_forms.put_literal.Goals as goal

pub returns-in-Bool : goal.returns-in-Bool
returns-in-Bool c =
    ok_truth (question_of c.args.context.now) c.args.value c.args.draft.now c.put.new.self c.put.result c.in-Bool.value (literal_at c.args.context.now.checked.now.list.values c.values.result.now c.args.value c.index-values-value.result (Value.Bool c.in-Bool.value) c.values.ensures c.requires.there c.index-values-value.is c.in-Bool.is)
    c.put.ensures.ok

pub returns-in-Int : goal.returns-in-Int
returns-in-Int c =
    let fits : FitsSigned w64 c.in-Int.number = search (rules, arith) in
    ok_whole (question_of c.args.context.now) c.args.value c.args.draft.now c.put_parameter.new.self c.put_parameter.result c.in-Int.number (literal_at c.args.context.now.checked.now.list.values c.values.result.now c.args.value c.index-values-value.result (Value.Int c.in-Int.number) c.values.ensures c.requires.there c.index-values-value.is c.in-Int.is)
    (subst
    (λ (n : ℤ). OnOk c.put_parameter.result (GrowsBy c.args.draft.now c.put_parameter.new.self (SqlNode.Parameter (length c.args.draft.now.tree.parameters.items) SqlType.Whole ∷ []) [] (Parameter.Whole n ∷ [])))
    (to_z-of_z w64 c.in-Int.number fits) c.put_parameter.ensures.ok)

pub returns-in_ok-text-in-Text : goal.returns-in_ok-text-in-Text
returns-in_ok-text-in-Text c =
    ok_text (question_of c.args.context.now) c.args.value c.args.draft.now c.put_parameter-in-Text.new.self c.put_parameter-in-Text.result c.in-Text.text c.in_ok-text-in-Text.text (literal_at c.args.context.now.checked.now.list.values c.values.result.now c.args.value c.index-values-value.result (Value.Text c.in-Text.text) c.values.ensures c.requires.there c.index-values-value.is c.in-Text.is) c.in_ok-text-in-Text.ensures.cases
    c.requires.nul_free c.put_parameter-in-Text.ensures.ok

pub returns-in_ok-write_date-in-Date : goal.returns-in_ok-write_date-in-Date
returns-in_ok-write_date-in-Date c =
    let at = (literal_at c.args.context.now.checked.now.list.values c.values.result.now c.args.value c.index-values-value.result (Value.Date c.in-Date.date) c.values.ensures c.requires.there c.index-values-value.is c.in-Date.is) in
    ok_date (question_of c.args.context.now) c.args.value c.args.draft.now c.put_parameter-in-Date.new.self c.put_parameter-in-Date.result c.in-Date.date (string_bytes c.new-text.result) c.write_date.new.out at
    (c.dates_read_back.ensures.value c.in-Date.date (c.requires.spelled.0 c.in-Date.date at)) c.new-text.ensures.bytes c.in_ok-write_date-in-Date.ensures.ok c.put_parameter-in-Date.ensures.ok

pub returns-in-Moment : goal.returns-in-Moment
returns-in-Moment c =
    ok_moment (question_of c.args.context.now) c.args.value c.args.draft.now c.put_moment.new.draft c.put_moment.result c.in-Moment.moment (literal_at c.args.context.now.checked.now.list.values c.values.result.now c.args.value c.index-values-value.result (Value.Moment c.in-Moment.moment) c.values.ensures c.requires.there c.index-values-value.is c.in-Moment.is)
    c.put_moment.ensures

pub returns-in_ok-write_guid-in-Guid : goal.returns-in_ok-write_guid-in-Guid
returns-in_ok-write_guid-in-Guid c =
    let at = (literal_at c.args.context.now.checked.now.list.values c.values.result.now c.args.value c.index-values-value.result (Value.Guid c.in-Guid.guid) c.values.ensures c.requires.there c.index-values-value.is c.in-Guid.is) in
    let sixteen = c.requires.spelled.1 c.in-Guid.guid at in
    ok_guid (question_of c.args.context.now) c.args.value c.args.draft.now c.put_parameter-in-Guid.new.self c.put_parameter-in-Guid.result c.in-Guid.guid (string_bytes c.new-text-in-Guid.result) c.write_guid.new.out at
    (c.guids_read_back.ensures c.in-Guid.guid sixteen.0 sixteen.1) c.new-text-in-Guid.ensures.bytes c.in_ok-write_guid-in-Guid.ensures.ok c.put_parameter-in-Guid.ensures.ok

pub returns-in-Enum : goal.returns-in-Enum
returns-in-Enum c =
    let fits : FitsSigned w64 c.in-Enum.number = search (rules, arith) in
    ok_member (question_of c.args.context.now) c.args.value c.args.draft.now c.put_parameter-in-Enum.new.self c.put_parameter-in-Enum.result c.in-Enum.number (literal_at c.args.context.now.checked.now.list.values c.values.result.now c.args.value c.index-values-value.result (Value.Enum c.in-Enum.number) c.values.ensures c.requires.there c.index-values-value.is c.in-Enum.is)
    (subst
    (λ (n : ℤ). OnOk c.put_parameter-in-Enum.result (GrowsBy c.args.draft.now c.put_parameter-in-Enum.new.self (SqlNode.Parameter (length c.args.draft.now.tree.parameters.items) SqlType.Member ∷ []) [] (Parameter.Whole n ∷ [])))
    (to_z-of_z w64 c.in-Enum.number fits) c.put_parameter-in-Enum.ensures.ok)

pub returns-in_default : goal.returns-in_default
returns-in_default c =
    ok_other (question_of c.args.context.now) c.args.value c.args.draft.now c.put-in_default.new.self c.put-in_default.result c.index-values-value.result (literal_at c.args.context.now.checked.now.list.values c.values.result.now c.args.value c.index-values-value.result (c.index-values-value.result) c.values.ensures c.requires.there c.index-values-value.is refl)
    c.in_default.not-Bool c.in_default.not-Int c.in_default.not-Text c.in_default.not-Date c.in_default.not-Moment c.in_default.not-Guid c.in_default.not-Enum c.put-in_default.ensures.ok
