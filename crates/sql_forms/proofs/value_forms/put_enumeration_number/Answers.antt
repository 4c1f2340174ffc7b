use Rattle.sql_forms.proofs.Common.{◌≡◌, ◌∙◌, Some, sym, Value}
use Rattle.sql_draft.specs.Translated.{question_of}
use Rattle.sql_forms.proofs.answers.LiteralAnswers.{ok_enumeration}
use Rattle.sql_forms.proofs.value_forms.put_enumeration_number.Goals as goal

-- a number is no text
pub put_literal-requires-clause-nul_free : goal.put_literal-requires-clause-nul_free
put_literal-requires-clause-nul_free c = λ text at.
    let both : Some (Value.Enum c.requires.0) ≡ Some (Value.Text text) = sym c.requires.1 ∙ at in absurd (cc)

pub returns : goal.returns
returns c = ok_enumeration (question_of c.args.context.now) c.args.value c.args.draft.now c.put_literal.new.draft c.put_literal.result c.put_literal.ensures
