-- Values that differ only under names that are passed over, in records at any depth.
use Rattle.std.specs.Prelude.{ℕ, List}
use Rattle.edm_values.specs.Val.{FieldVal, Val, Vals, absent, fields, item, items, no_items, present}

-- some names
abbrev pub Names : Type 1
Names = List ℕ → Type 0

mutual
  -- the same value, records that have alike values under each other name, or lists of members that are alike
  pub data AreAlike (Passed : Names) : Val → Val → Type 0 where
    alike_same : (v : Val) → AreAlike Passed v v
    alike_records :
        (f g : List ℕ → FieldVal) → ((name : List ℕ) → ¬ Passed name → FieldsAlike Passed (f name) (g name))
        → AreAlike Passed (fields f) (fields g)
    alike_lists : (vs ws : Vals) → AllAlike Passed vs ws → AreAlike Passed (items vs) (items ws)

  -- nothing under a name, or values that are alike
  pub data FieldsAlike (Passed : Names) : FieldVal → FieldVal → Type 0 where
    both_absent : FieldsAlike Passed absent absent
    both_present : (v w : Val) → AreAlike Passed v w → FieldsAlike Passed (present v) (present w)

  -- each member and its counterpart
  pub data AllAlike (Passed : Names) : Vals → Vals → Type 0 where
    no_members : AllAlike Passed no_items no_items
    one_member :
        (v w : Val) (vs ws : Vals) → AreAlike Passed v w → AllAlike Passed vs ws
        → AllAlike Passed (item v vs) (item w ws)
