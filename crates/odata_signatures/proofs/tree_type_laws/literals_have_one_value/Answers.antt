use Rattle.odata_signatures.proofs.tree_types.OneValue.{one_literal_value}
use Rattle.odata_signatures.proofs.tree_type_laws.literals_have_one_value.Goals as goal

pub returns : goal.returns
returns c = one_literal_value (record {
  int = c.texts_have_one_value.ensures.int;
  date = c.texts_have_one_value.ensures.date;
  moment = c.texts_have_one_value.ensures.moment;
  guid = c.texts_have_one_value.ensures.guid;
  string = c.texts_have_one_value.ensures.string;
  enumeration = c.texts_have_one_value-2.ensures;
})
