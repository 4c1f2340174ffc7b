use Rattle.odata_signatures.proofs.untypable.OneRefusal.{one_refusal, refused_untyped}
use Rattle.odata_signatures.proofs.tree_type_laws.texts_have_one_refusal.Goals as goal

pub returns-clause-one : goal.returns-clause-one
returns-clause-one c = one_refusal (record {
  text_fault = c.one_reading.ensures.fault;
  list = c.one_reading.ensures.list;
  not_both = c.one_reading.ensures.not_both;
  spelled = c.tokens_are_spelled.ensures;
  tree = c.one_tree.ensures;
  syntax_fault = c.one_fault.ensures;
  faults_have_no_tree = c.faults_have_no_tree.ensures;
  start = c.untypable_nodes_start_apart.ensures;
  call_type = c.calls_have_one_type.ensures.one;
  call_reason = c.calls_have_one_type.ensures.reason;
})

pub returns-clause-untyped : goal.returns-clause-untyped
returns-clause-untyped c = refused_untyped (record {
  text_fault = c.one_reading.ensures.fault;
  list = c.one_reading.ensures.list;
  not_both = c.one_reading.ensures.not_both;
  spelled = c.tokens_are_spelled.ensures;
  tree = c.one_tree.ensures;
  syntax_fault = c.one_fault.ensures;
  faults_have_no_tree = c.faults_have_no_tree.ensures;
  start = c.untypable_nodes_start_apart.ensures;
  call_type = c.calls_have_one_type.ensures.one;
  call_reason = c.calls_have_one_type.ensures.reason;
})
