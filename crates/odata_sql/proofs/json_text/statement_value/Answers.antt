use Rattle.std.proofs.Common.{◌≡◌, ◌∷◌, ◌++◌, ◌∙◌, [], List, length, take, arith, refl, subst}
use Rattle.std.proofs.lemmas.Grind.{common_steps}
use Rattle.std.proofs.lemmas.List.{take_all}
use Rattle.std.proofs.lemmas.Option.{slice_get_read}
use Rattle.serde_json.specs.View.{items_view}
use Rattle.sql_tree.specs.declared.parameter.Parameter.{Parameter}
use Rattle.odata_sql.specs.JsonText.{AreParameters}
use Rattle.odata_sql.proofs.JsonAnswers.{is_data, parameters_go_on}
use Rattle.odata_sql.proofs.json_text.statement_value.Goals as goal

pub loop-parameter-preserved : goal.loop-parameter-preserved
loop-parameter-preserved c =
    let ps = c.as_slice-parameter-items.result.now in
    let i = c.loop-parameter.parameter-index in
    let value = c.in_ok-parameter_value.field-0 in
    let pushed : c.push.new.self.items ≡ c.loop-parameter.parameters.items ++ value ∷ [] = grind (arith, common_steps) in
    let here = slice_get_read ps (length ps) i c.parameter-item.result refl c.loop-parameter-test.true c.parameter-item.is in
    parameters_go_on c.args.dialect ps i c.parameter-item.result c.loop-parameter.parameters.items c.push.new.self.items value here c.loop-parameter.invariant c.in_ok-parameter_value.ensures pushed

pub returns : goal.returns
returns c =
    let ps = c.as_slice-parameter-items.result.now in
    let values = c.loop-parameter.parameters.items in
    let all : take c.loop-parameter.parameter-index ps ≡ c.args.statement.now.parameters.items = take_all c.loop-parameter.parameter-index ps (omega arith) ∙ c.as_slice-parameter-items.ensures.value in
    is_data c.args.dialect c.args.statement.now values c.as_str.result.now c.statement_object.result c.as_str.ensures.value
    (subst (λ (xs : List Parameter). AreParameters c.args.dialect xs (items_view values)) all c.loop-parameter.invariant) c.statement_object.ensures
