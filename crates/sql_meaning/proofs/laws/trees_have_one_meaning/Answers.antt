use Rattle.sql_meaning.proofs.OneMeaning.{SqlMeans-one}
use Rattle.sql_meaning.proofs.OneParameter.{OneLiteral}
use Rattle.sql_meaning.proofs.OneStep.{OneDivision, OneEach}
use Rattle.sql_meaning.proofs.laws.trees_have_one_meaning.Goals as goal

pub returns : goal.returns
returns c =
    let known : OneEach = record {
      values = c.values_have_one_outcome.ensures;
      place = c.texts_have_one_answer.ensures.place;
    } in
    let divided : OneDivision = record {
      quotient = c.divisions_are_unique.ensures.quotient;
      remainder = c.divisions_are_unique.ensures.remainder;
    } in
    let literals : OneLiteral = record {
      dates = c.texts_have_one_value.ensures.date;
      moments = c.texts_have_one_value.ensures.moment;
      guids = c.texts_have_one_value.ensures.guid;
    } in
    λ asked bound t x y p q. SqlMeans-one known divided literals asked bound t x y p q
