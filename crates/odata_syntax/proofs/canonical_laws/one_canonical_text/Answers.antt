use Rattle.odata_syntax.proofs.normal_forms.NormalDerived.{normal_expression}
use Rattle.odata_syntax.proofs.normal_forms.NormalTrees.{AreSpellings, normal-again, normal-one}
use Rattle.odata_syntax.proofs.printing.ReadBack.{one_text}
use Rattle.odata_syntax.proofs.canonical_laws.one_canonical_text.Goals as goal

pub returns-clause-normal : goal.returns-clause-normal
returns-clause-normal c =
    let law : AreSpellings = record { one = c.literals_have_one_spelling.ensures.one; spelled = c.literals_have_one_spelling.ensures.spelled; again = c.literals_have_one_spelling.ensures.again } in
    normal-one law

pub returns-clause-text : goal.returns-clause-text
returns-clause-text c =
    let law : AreSpellings = record { one = c.literals_have_one_spelling.ensures.one; spelled = c.literals_have_one_spelling.ensures.spelled; again = c.literals_have_one_spelling.ensures.again } in
    one_text law

pub returns-clause-again : goal.returns-clause-again
returns-clause-again c =
    let law : AreSpellings = record { one = c.literals_have_one_spelling.ensures.one; spelled = c.literals_have_one_spelling.ensures.spelled; again = c.literals_have_one_spelling.ensures.again } in
    normal-again law

pub returns-clause-expression : goal.returns-clause-expression
returns-clause-expression c =
    let law : AreSpellings = record { one = c.literals_have_one_spelling.ensures.one; spelled = c.literals_have_one_spelling.ensures.spelled; again = c.literals_have_one_spelling.ensures.again } in
    normal_expression law
