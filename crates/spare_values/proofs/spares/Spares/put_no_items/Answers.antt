use Rattle.std.proofs.Common.{[], ◌≡◌, refl, rules}
use Rattle.spare_values.proofs.spares.Spares.put_no_items.Goals as goal

pub returns-in-List : goal.returns-in-List
returns-in-List c =
    let none : c.cut.new.items.items ≡ [] = c.cut.ensures in
    (c.cut.new.items, search rules, none)

pub returns-in_default : goal.returns-in_default
returns-in_default c = (c.new.result, refl, c.new.ensures.items)
