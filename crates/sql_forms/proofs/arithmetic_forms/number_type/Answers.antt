use Rattle.sql_tree.specs.declared.sql_node.FieldType.{FieldType}
use Rattle.sql_forms.proofs.answers.NumberAnswers.{computed_in, computed_in_no_enumeration}
use Rattle.sql_forms.proofs.arithmetic_forms.number_type.Goals as goal

pub returns-in_default : goal.returns-in_default
returns-in_default c = absurd (c.in_default.ensures.none (FieldType.Prim c.requires.number.0) c.requires.number.1.1)

pub returns-in-Prim : goal.returns-in-Prim
returns-in-Prim c = computed_in c.args.context.now.checked.now c.args.place c.requires.number c.in-Some.value_type c.in-Some.ensures.some c.in-Prim.prim c.in-Prim.is

pub returns-in-Enum : goal.returns-in-Enum
returns-in-Enum c = absurd (computed_in_no_enumeration c.args.context.now.checked.now c.args.place c.requires.number c.in-Some.value_type c.in-Some.ensures.some _ c.in-Enum.is)
