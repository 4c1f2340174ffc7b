-- Some outcome of a type.
use Rattle.std.proofs.Common.{◌≡◌, refl, sym, subst}
use Rattle.edm_values.specs.Val.{Val}
use Rattle.csdl_schema.specs.ExprType.{ExprType}
use Rattle.csdl_schema.specs.SchemaModel.{Slots}
use Rattle.edm_entities.specs.HasType.{HasType}
use Rattle.odata_meaning.specs.EndsOnce.{IsOutcomeOf}
use Rattle.odata_filter_operations.specs.LeftFirst.{After}
use Rattle.odata_filter_operations.specs.Outcome.{Outcome, gives, overflow, divides_by_zero}

-- some outcome of the type
abbrev pub Ends : Slots → ExprType → (Outcome → Type 0) → Type 0
Ends slots type Gives = (o : Outcome) × (Gives o × IsOutcomeOf slots type o)

-- what follows an operand's outcome, by the slots of the operand and of what it stands in: a fault stays
pub after_ends : (inside outside : Slots) (operand type : ExprType) (Operand : Outcome → Type 0) (Goes : Val → Outcome → Type 0)
    → Ends inside operand Operand → ((v : Val) → HasType inside operand v → Ends outside type (Goes v)) → Ends outside type (After Operand Goes)
after_ends inside outside operand type Operand Goes (gives v, ends) goes = let e = goes v ends.1 in (e.0, ((gives v, (ends.0, e.1.0)), e.1.1))
after_ends inside outside operand type Operand Goes (overflow, ends) goes = (overflow, ((overflow, (ends.0, refl)), tt))
after_ends inside outside operand type Operand Goes (divides_by_zero, ends) goes = (divides_by_zero, ((divides_by_zero, (ends.0, refl)), tt))

pub typed_value : (slots : Slots) (given type : ExprType) (v : Val) → type ≡ given → HasType slots given v → HasType slots type v
typed_value slots given type v same has = subst (λ (t : ExprType). HasType slots t v) (sym same) has
