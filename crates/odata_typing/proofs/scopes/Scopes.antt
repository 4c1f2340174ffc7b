-- The scope of range variables, and what a name stands for in it.
use Rattle.odata_typing.proofs.Common.{◌≡◌, ◌∙◌, ◌+◌, ℕ, suc, Bor, IfSome, SomeIff, arith, List, [], Option, Some, None, MatchOption, Result, Ok, Err, IfOk, true, false, length, refl, sym, ap, subst, rules, variable_names, ExprType, SchemaModel, Slots, expr_type, NameTyped, PropertyTyped, Scope, variable_type, with_variable, AreThere, IsNamedBy, scope_in, types_in, ◌↔◌}
use Rattle.std.proofs.Common.{nat_eq}
use Rattle.std.specs.Cmp.Lexicographic.{pointwise}
use Rattle.std.specs.declared.alloc.AllocError.{AllocError}
use Rattle.odata_signatures.specs.declared.edm_type.EdmType.{EdmType}
use Rattle.odata_typing.specs.declared.variables.Variables.{Variables, Bound, Empty, the_lemmas}
use Rattle.odata_typing.specs.declared.variables.NamedVariable.{NamedVariable}

more_by_one : (n : ℕ) → n + 1 ≡ suc n
more_by_one n = omega arith

pub scope_in-Empty : (schema : SchemaModel) → scope_in schema Empty ≡ []
scope_in-Empty schema = search (rules, the_lemmas)

pub scope_in-Bound : (schema : SchemaModel) (name : Bor (List ℕ)) (type : EdmType) (outer : Bor Variables) → scope_in schema (Bound name type outer) ≡ with_variable (scope_in schema outer.now) name.now (expr_type schema type)
scope_in-Bound schema name type outer = search (rules, the_lemmas)

-- one more variable
pub count_more :
    (schema : SchemaModel) (name : Bor (List ℕ)) (type : EdmType) (outer : Bor Variables) (n : ℕ) (fits : Type 0) (counted : Option ℕ)
    → n ≡ length (variable_names (scope_in schema outer.now))
    → SomeIff counted fits (n + 1)
    → IfSome counted (λ k. k ≡ length (variable_names (scope_in schema (Bound name type outer))))
count_more schema name type outer n fits (Some k) of_outer is = rw (scope_in-Bound schema name type outer) (is.1 ∙ ap (λ (x : ℕ). x + 1) of_outer ∙ more_by_one (length (variable_names (scope_in schema outer.now))))
count_more schema name type outer n fits None of_outer is = tt

types_in-Empty : types_in Empty ≡ []
types_in-Empty = search (rules, the_lemmas)

pub none_there : (schema : SchemaModel) → AreThere schema Empty
none_there schema = rw types_in-Empty tt

pub named_outside :
    (schema : SchemaModel) (name : Bor (List ℕ)) (type : EdmType) (outer : Bor Variables) (asked : List ℕ) (found : Result (Option NamedVariable) AllocError)
    → pointwise nat_eq asked name.now ≡ false
    → IfOk found (IsNamedBy schema (scope_in schema outer.now) asked)
    → IfOk found (IsNamedBy schema (scope_in schema (Bound name type outer)) asked)
named_outside schema name type outer asked (Ok (Some v)) other is = rw (scope_in-Bound schema name type outer, other) is
named_outside schema name type outer asked (Ok None) other is = rw (scope_in-Bound schema name type outer, other) is
named_outside schema name type outer asked (Err refused) other is = tt

-- one of that name is what it stands for
pub same_named : (schema : SchemaModel) (name : Bor (List ℕ)) (type : EdmType) (outer : Bor Variables) (asked : List ℕ) (variable : NamedVariable)
    → pointwise nat_eq asked name.now ≡ true
    → variable.level ≡ length (variable_names (scope_in schema outer.now))
    → variable.edm_type ≡ type
    → IsNamedBy schema (scope_in schema (Bound name type outer)) asked (Some variable)
same_named schema name type outer asked variable same level is =
    rw (scope_in-Bound schema name type outer, same) (ap (λ (n : ℕ). Some n) (sym level), ap (λ (t : EdmType). Some (expr_type schema t)) (sym is))

-- a name that no variable has is a property's
pub unbound_types :
    (slots : Slots) (root : List ℕ) (scope : Scope) (asked : List ℕ) (type : ExprType)
    → variable_type scope asked ≡ None
    → NameTyped slots root scope asked type ↔ PropertyTyped (slots.properties root) asked type
unbound_types slots root scope asked type none =
    let Property : Type 0 = PropertyTyped (slots.properties root) asked type in
    subst (λ (o : Option ExprType). MatchOption o Property (λ t. type ≡ t) ↔ Property) (sym none) (λ typed. typed, λ typed. typed)

-- one that a variable has is of its type
pub bound_typed :
    (slots : Slots) (root : List ℕ) (scope : Scope) (asked : List ℕ) (type : ExprType)
    → variable_type scope asked ≡ Some type
    → NameTyped slots root scope asked type
bound_typed slots root scope asked type some =
    subst (λ (o : Option ExprType). MatchOption o (PropertyTyped (slots.properties root) asked type) (λ t. type ≡ t)) (sym some) refl
