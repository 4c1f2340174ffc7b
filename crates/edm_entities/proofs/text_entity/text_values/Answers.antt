use Rattle.std.proofs.Common.{◌≡◌, ℕ, List, Some, IfErr, IfOk, subst}
use Rattle.csdl_schema.specs.SchemaModel.{type_name_at}
use Rattle.edm_entities.specs.TextFaults.{IsTextFault}
use Rattle.edm_entities.specs.private.TextValues.{AreValuesOf}
use Rattle.edm_entities.specs.private.Walk.{slots_in}
use Rattle.edm_entities.proofs.text_entity.text_values.Goals as goal

pub returns-then-text-gt-MAX_LEN-clause-values : goal.returns-then-text-gt-MAX_LEN-clause-values
returns-then-text-gt-MAX_LEN-clause-values c =
    subst (λ (text : List ℕ). IfOk c.tree_values.result (λ values. AreValuesOf c.args.context.now c.args.type_id text values.items)) c.in-Ok.ensures.cases.0 c.tree_values.ensures.values

pub returns-then-text-gt-MAX_LEN-clause-fault : goal.returns-then-text-gt-MAX_LEN-clause-fault
returns-then-text-gt-MAX_LEN-clause-fault c =
    let context = c.args.context.now in
    subst (λ (text : List ℕ). IfErr c.tree_values.result (IsTextFault (slots_in context (Some 0)) (type_name_at context.schema.now c.args.type_id) text)) c.in-Ok.ensures.cases.0 c.tree_values.ensures.fault

pub returns-else-text-gt-MAX_LEN-clause-values : goal.returns-else-text-gt-MAX_LEN-clause-values
returns-else-text-gt-MAX_LEN-clause-values c =
    subst (λ (text : List ℕ). IfOk c.tape_values.result (λ values. AreValuesOf c.args.context.now c.args.type_id text values.items)) c.in-Ok.ensures.cases.0 c.tape_values.ensures.values

pub returns-else-text-gt-MAX_LEN-clause-fault : goal.returns-else-text-gt-MAX_LEN-clause-fault
returns-else-text-gt-MAX_LEN-clause-fault c =
    let context = c.args.context.now in
    subst (λ (text : List ℕ). IfErr c.tape_values.result (IsTextFault (slots_in context (Some 0)) (type_name_at context.schema.now c.args.type_id) text)) c.in-Ok.ensures.cases.0 c.tape_values.ensures.fault
