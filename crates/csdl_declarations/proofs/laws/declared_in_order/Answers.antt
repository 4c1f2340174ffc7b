use Rattle.csdl_declarations.proofs.MemberOrder.{members_ordered, namespaces_ordered, schemas_ordered, types_ordered}
use Rattle.csdl_declarations.proofs.laws.declared_in_order.Goals as goal

pub returns-clause-namespaces : goal.returns-clause-namespaces
returns-clause-namespaces c = namespaces_ordered

pub returns-clause-schemas : goal.returns-clause-schemas
returns-clause-schemas c = schemas_ordered

pub returns-clause-members : goal.returns-clause-members
returns-clause-members c = members_ordered

pub returns-clause-types : goal.returns-clause-types
returns-clause-types c = types_ordered
