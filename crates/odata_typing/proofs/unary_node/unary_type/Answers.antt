use Rattle.odata_typing.proofs.unary_node.unary_type.Goals as goal

pub returns-in-Negation-clause-typed : goal.returns-in-Negation-clause-typed
returns-in-Negation-clause-typed c = λ schema. rw c.in-Negation.is (c.negated_type.ensures.typed schema)

pub returns-in-Negation-clause-none : goal.returns-in-Negation-clause-none
returns-in-Negation-clause-none c = λ schema. rw c.in-Negation.is (c.negated_type.ensures.none schema)

pub returns-in-Not-clause-typed : goal.returns-in-Not-clause-typed
returns-in-Not-clause-typed c = λ schema. rw c.in-Not.is (c.not_type.ensures.typed schema)

pub returns-in-Not-clause-none : goal.returns-in-Not-clause-none
returns-in-Not-clause-none c = λ schema. rw c.in-Not.is (c.not_type.ensures.none schema)

pub returns-in-Count-clause-typed : goal.returns-in-Count-clause-typed
returns-in-Count-clause-typed c = λ schema. rw c.in-Count.is (c.count_type.ensures.typed schema)

pub returns-in-Count-clause-none : goal.returns-in-Count-clause-none
returns-in-Count-clause-none c = λ schema. rw c.in-Count.is (c.count_type.ensures.none schema)

pub returns-in-AnyItem-clause-typed : goal.returns-in-AnyItem-clause-typed
returns-in-AnyItem-clause-typed c = λ schema. rw c.in-AnyItem.is (c.any_item_type.ensures.typed schema)

pub returns-in-AnyItem-clause-none : goal.returns-in-AnyItem-clause-none
returns-in-AnyItem-clause-none c = λ schema. rw c.in-AnyItem.is (c.any_item_type.ensures.none schema)
