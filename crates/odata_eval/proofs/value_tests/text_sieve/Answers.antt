use Rattle.std.proofs.Common.{subst, sym}
use Rattle.edm_values.specs.Val.{text}
use Rattle.edm_values.specs.declared.sieve.Sieve.{Sieve}
use Rattle.odata_syntax.specs.declared.binary_operator.ComparisonOperator.{ComparisonOperator}
use Rattle.odata_eval.specs.private.ValueTests.{Decides}
use Rattle.odata_eval.proofs.walking.SievedComparisons.{other_text_affirmed, other_text_refuted, text_affirmed, text_refuted}
use Rattle.odata_eval.proofs.value_tests.text_sieve.Goals as goal

pub returns-in-Eq : goal.returns-in-Eq
returns-in-Eq c =
    subst (λ (o : ComparisonOperator). Decides o (text c.args.text.now) (Sieve.Text c.in-Ok.copy)) (sym c.in-Eq.is)
    (record {
      refutes = λ value rejected. text_refuted c.in-Ok.copy c.args.text.now value c.in-Ok.ensures.ok rejected;
      affirms = λ value passes. text_affirmed c.in-Ok.copy c.args.text.now value c.in-Ok.ensures.ok passes;
    })

pub returns-in-Ne : goal.returns-in-Ne
returns-in-Ne c =
    subst (λ (o : ComparisonOperator). Decides o (text c.args.text.now) (Sieve.BesidesText c.in-Ok.copy)) (sym c.in-Ne.is)
    (record {
      refutes = λ value rejected. other_text_refuted c.in-Ok.copy c.args.text.now value c.in-Ok.ensures.ok rejected;
      affirms = λ value passes. other_text_affirmed c.in-Ok.copy c.args.text.now value c.in-Ok.ensures.ok passes;
    })

pub returns-in-Gt : goal.returns-in-Gt
returns-in-Gt c = record { refutes = λ value rejected. absurd rejected; affirms = λ value passes. absurd passes }

pub returns-in-Ge : goal.returns-in-Ge
returns-in-Ge c = record { refutes = λ value rejected. absurd rejected; affirms = λ value passes. absurd passes }

pub returns-in-Lt : goal.returns-in-Lt
returns-in-Lt c = record { refutes = λ value rejected. absurd rejected; affirms = λ value passes. absurd passes }

pub returns-in-Le : goal.returns-in-Le
returns-in-Le c = record { refutes = λ value rejected. absurd rejected; affirms = λ value passes. absurd passes }
