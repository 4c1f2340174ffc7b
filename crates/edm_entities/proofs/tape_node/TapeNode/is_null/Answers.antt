use Rattle.std.proofs.Common.{◌≡◌, List, is_some, subst}
use Rattle.json.specs.Token.{Token}
use Rattle.serde_json.specs.Find.{as_null}
use Rattle.edm_entities.specs.private.TapeNodes.{data_on}
use Rattle.edm_entities.proofs.TapeLemmas.Nodes.{null_is}
use Rattle.edm_entities.proofs.tape_node.TapeNode.is_null.Goals as goal

pub returns : goal.returns
returns c =
    subst (λ (ts : List Token). c.is_null.result ≡ is_some (as_null (data_on ts))) c.self.view_is
    (null_is c.self.inside.element c.self.invariant c.is_null.result c.is_null.ensures)
