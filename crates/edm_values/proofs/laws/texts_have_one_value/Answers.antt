use Rattle.edm_values.proofs.literals.OneValue.{IntValue-same, DateValue-same, MomentValue-same, GuidValue-same}
use Rattle.edm_values.proofs.literals.Quotes.{StringValue-same}
use Rattle.edm_values.proofs.laws.texts_have_one_value.Goals as goal

pub returns-clause-int : goal.returns-clause-int
returns-clause-int c = λ text m n first second. IntValue-same text m n first second

pub returns-clause-date : goal.returns-clause-date
returns-clause-date c = λ text a b first second. DateValue-same text a b first second

pub returns-clause-moment : goal.returns-clause-moment
returns-clause-moment c = λ text a b first second. MomentValue-same text a b first second

pub returns-clause-guid : goal.returns-clause-guid
returns-clause-guid c = λ text a b first second. GuidValue-same text a b first second

pub returns-clause-string : goal.returns-clause-string
returns-clause-string c = λ text a b first second. StringValue-same text a b first second
