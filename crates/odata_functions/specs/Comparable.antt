-- Which values an operator compares (OData URL Conventions 4.01, sections 5.1.1.1.1 to 5.1.1.1.6).
use Rattle.edm_values.specs.Val.{Val, null, boolean, whole, text, date, moment, guid, member, items}
use Rattle.odata_syntax.specs.declared.binary_operator.ComparisonOperator.{ComparisonOperator}
use Rattle.odata_syntax.specs.declared.binary_operator.ComparisonOperator.TheVariants.{Eq, Ne, Gt, Ge, Lt, Le}

-- for `eq` and `ne`: two values of one kind, neither a record nor a list, or null and anything but a list; which
-- enumeration a number is of, a value does not hold
abbrev pub HaveEquality : Val → Val → Type 0
HaveEquality null (items _) = ⊥
HaveEquality null _ = Unit {0}
HaveEquality (items _) null = ⊥
HaveEquality _ null = Unit {0}
HaveEquality (boolean _) (boolean _) = Unit {0}
HaveEquality (whole _) (whole _) = Unit {0}
HaveEquality (text _) (text _) = Unit {0}
HaveEquality (date _) (date _) = Unit {0}
HaveEquality (moment _) (moment _) = Unit {0}
HaveEquality (guid _) (guid _) = Unit {0}
HaveEquality (member _) (member _) = Unit {0}
HaveEquality _ _ = ⊥

-- a value of a kind that has an order
abbrev pub IsOrderedKind : Val → Type 0
IsOrderedKind (boolean _) = Unit {0}
IsOrderedKind (whole _) = Unit {0}
IsOrderedKind (text _) = Unit {0}
IsOrderedKind (date _) = Unit {0}
IsOrderedKind (moment _) = Unit {0}
IsOrderedKind _ = ⊥

-- for the others: two values of one kind that has an order, or null beside such a value or null
abbrev pub HaveOrder : Val → Val → Type 0
HaveOrder null null = Unit {0}
HaveOrder null v = IsOrderedKind v
HaveOrder v null = IsOrderedKind v
HaveOrder (boolean _) (boolean _) = Unit {0}
HaveOrder (whole _) (whole _) = Unit {0}
HaveOrder (text _) (text _) = Unit {0}
HaveOrder (date _) (date _) = Unit {0}
HaveOrder (moment _) (moment _) = Unit {0}
HaveOrder _ _ = ⊥

-- the operator compares these two values
abbrev pub AreComparableBy : ComparisonOperator → Val → Val → Type 0
AreComparableBy Eq v w = HaveEquality v w
AreComparableBy Ne v w = HaveEquality v w
AreComparableBy Gt v w = HaveOrder v w
AreComparableBy Ge v w = HaveOrder v w
AreComparableBy Lt v w = HaveOrder v w
AreComparableBy Le v w = HaveOrder v w
