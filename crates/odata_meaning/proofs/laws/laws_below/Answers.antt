use Rattle.odata_meaning.proofs.laws.laws_below.Goals as goal

pub returns-clause-one : goal.returns-clause-one
returns-clause-one c = record {
  values = c.literals_have_one_value.ensures;
  types = c.trees_have_one_type.ensures;
  answer = c.arithmetic_has_one_answer.ensures.one;
  negation = c.arithmetic_has_one_answer.ensures.negation;
  place = c.texts_have_one_answer.ensures.place;
  trimmed = c.texts_have_one_answer.ensures.trimmed;
  dates = c.day_numbers_have_one_date.ensures.one;
  names = c.calls_have_one_type.ensures.named;
  numbers = c.quoted_texts_have_one_number.ensures;
}

pub returns-clause-some : goal.returns-clause-some
returns-clause-some c = record {
  decided = c.comparisons_are_decided.ensures.decided;
  answer = c.arithmetic_has_one_answer.ensures.there;
  negation = c.arithmetic_has_one_answer.ensures.negation_there;
  part = c.texts_have_one_answer.ensures.part;
  start = c.texts_have_one_answer.ensures.start;
  end = c.texts_have_one_answer.ensures.end;
  place = c.texts_have_one_answer.ensures.place_there;
  trimmed = c.texts_have_one_answer.ensures.trimmed_there;
  dates = c.day_numbers_have_one_date.ensures.there;
  bits = c.bits_are_decided.ensures;
  moments = c.spelled_values_lie_within.ensures.moments;
  guids = c.spelled_values_lie_within.ensures.guids;
  reads = record {
    types = c.trees_have_one_type.ensures;
    quotes = c.quoting_trees_are_texts.ensures;
    apart = c.unread_operands_go_by_types.ensures.apart;
  };
}

pub returns-clause-promotes : goal.returns-clause-promotes
returns-clause-promotes c = record {
  left = c.operands_lie_within_promotion.ensures.left;
  right = c.operands_lie_within_promotion.ensures.right;
  negation = c.operands_lie_within_promotion.ensures.negation;
  three = c.operands_lie_within_promotion.ensures.three;
}
