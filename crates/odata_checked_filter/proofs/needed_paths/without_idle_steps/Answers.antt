use Rattle.std.proofs.Common.{◌≡◌, Bool, true, false, refl, sym, ◌∙◌}
use Rattle.csdl_schema.specs.PathSet.{PathSet, PropertyPath, Covers}
use Rattle.csdl_schema.specs.ExpansionView.{paths_in}
use Rattle.odata_checked_filter.proofs.needed_paths.without_idle_steps.Goals as goal

-- a set that one without paths covers has none
none_covered : (nothing paths : PathSet) → ((path : PropertyPath) → nothing path ≡ false) → Covers nothing paths → (path : PropertyPath) → paths path ≡ false
none_covered nothing paths none covers path = by (paths path) refl
  where
    by : (b : Bool) → paths path ≡ b → b ≡ false
    by true is = sym (covers path is) ∙ none path
    by false is = refl

pub returns-then-covers : goal.returns-then-covers
returns-then-covers c path =
    c.none-nothing.ensures path ∙ sym (none_covered (paths_in c.none-nothing.result) (paths_in c.args.expansion) c.none-nothing.ensures (c.covers.ensures.0 c.if-covers.true) path)
