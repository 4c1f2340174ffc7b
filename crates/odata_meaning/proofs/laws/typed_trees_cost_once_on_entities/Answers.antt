use Rattle.odata_meaning.proofs.costs.OneCost.{costs_once_on_entities}
use Rattle.odata_meaning.proofs.costs.WithoutLambdas.{nothing_without}
use Rattle.odata_meaning.proofs.laws.typed_trees_cost_once_on_entities.Goals as goal

pub returns-clause-once : goal.returns-clause-once
returns-clause-once c =
    costs_once_on_entities c.laws_below.ensures.one c.laws_below.ensures.some c.typed_trees_end_once.ensures c.what_fits_has_its_type.ensures

pub returns-clause-nothing : goal.returns-clause-nothing
returns-clause-nothing c = nothing_without
