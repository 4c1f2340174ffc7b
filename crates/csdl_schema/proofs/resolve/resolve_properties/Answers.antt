use Rattle.indexmap.specs.IndexMap.{get_by_text}
use Rattle.csdl_schema.proofs.Properties.{property_put}
use Rattle.csdl_schema.proofs.resolve.resolve_properties.Goals as goal

pub loop-property-preserved : goal.loop-property-preserved
loop-property-preserved c =
    property_put c.args.kinds.now (get_by_text c.args.index_by_name.now) c.args.declared.now c.loop-property.property-index _ c.loop-property.properties.entries c.insert.new.self.entries
    c.in_ok-name.name c.property_of.result c.loop-property-test.true c.in_ok-name.ensures.ok c.property_of.ensures c.requires c.in_ok-insert.ensures.entries c.loop-property.invariant
