-- Values that are alike, each way.
use Rattle.std.proofs.Common.{◌≡◌, ℕ, List, ap, subst}
use Rattle.edm_values.specs.Val.{FieldVal, Val, Vals, absent, present}
use Rattle.csdl_schema.specs.SchemaModel.{PropertyType, Slots}
use Rattle.edm_entities.specs.Row.{ValAtType, field_of}
use Rattle.edm_rows.specs.private.Passed.{SeenAlike}
use Rattle.edm_rows.specs.Alike.{AllAlike, AreAlike, FieldsAlike, Names, alike_lists, alike_records, alike_same, both_absent, both_present, no_members, one_member}

-- what is the same under a name is alike
pub fields_alike : (Passed : Names) (f g : FieldVal) → f ≡ g → FieldsAlike Passed f g
fields_alike Passed absent g same = subst (FieldsAlike Passed absent) same both_absent
fields_alike Passed (present v) g same = subst (FieldsAlike Passed (present v)) same (both_present v v (alike_same v))

-- what is seen the same is alike at each type
pub seen_alike : (slots : Slots) (Passed : Names) (type : PropertyType) (stored seen : ValAtType) → stored ≡ seen → SeenAlike slots Passed type stored seen
seen_alike slots Passed type stored seen same =
    fields_alike Passed (field_of slots.properties type stored) (field_of slots.properties type seen) (ap (field_of slots.properties type) same)

-- what is alike but for some names is so but for more
module _ (Passed More : Names) (more : (name : List ℕ) → Passed name → More name) where
  mutual
    pub alike_but : (v w : Val) → AreAlike Passed v w → AreAlike More v w
    alike_but v w (alike_same u) = alike_same u
    alike_but v w (alike_records f g each) = alike_records f g (λ name unnamed. fields_but (f name) (g name) (each name (λ passed. unnamed (more name passed))))
    alike_but v w (alike_lists vs ws all) = alike_lists vs ws (all_but vs ws all)

    pub fields_but : (f g : FieldVal) → FieldsAlike Passed f g → FieldsAlike More f g
    fields_but f g both_absent = both_absent
    fields_but f g (both_present v w alike) = both_present v w (alike_but v w alike)

    all_but : (vs ws : Vals) → AllAlike Passed vs ws → AllAlike More vs ws
    all_but vs ws no_members = no_members
    all_but vs ws (one_member v w others rest alike all) = one_member v w others rest (alike_but v w alike) (all_but others rest all)

module _ (Passed : Names) where
  mutual
    pub alike_back : (v w : Val) → AreAlike Passed v w → AreAlike Passed w v
    alike_back v w (alike_same u) = alike_same u
    alike_back v w (alike_records f g each) = alike_records g f (λ name unnamed. fields_back (f name) (g name) (each name unnamed))
    alike_back v w (alike_lists vs ws all) = alike_lists ws vs (all_back vs ws all)

    fields_back : (f g : FieldVal) → FieldsAlike Passed f g → FieldsAlike Passed g f
    fields_back f g both_absent = both_absent
    fields_back f g (both_present v w alike) = both_present w v (alike_back v w alike)

    all_back : (vs ws : Vals) → AllAlike Passed vs ws → AllAlike Passed ws vs
    all_back vs ws no_members = no_members
    all_back vs ws (one_member v w more others alike all) = one_member w v others more (alike_back v w alike) (all_back more others all)
