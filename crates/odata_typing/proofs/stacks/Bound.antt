-- A lambda operator whose body has been judged, in the scope with its variable.
use Rattle.odata_typing.proofs.Common.{◌≡◌, sym, ap, subst, ◌∙◌, inl, ℕ, ◌+◌, ◌-◌, ◌<◌, ◌≤◌, List, Bool, true, false, None, Bor, arith, Option, same_Some, number_at, places_of, stop_at, Tree, Quantifier, single, SchemaModel, single_type, Scope, variable_type, with_variable, CheckedNode, Judged, CheckContext, Walk, IsJudged, IsPut, IsStanding, LawsBelow, name_of, run_tree, IsNamedBy, scope_in, scope_of}
use Rattle.odata_signatures.specs.declared.edm_type.EdmType.{EdmType}
use Rattle.odata_signatures.specs.declared.edm_type.ValueType.{ValueType}
use Rattle.odata_typing.specs.declared.variables.NamedVariable.{NamedVariable}
use Rattle.odata_typing.specs.declared.variables.Variables.{Bound}
use Rattle.odata_typing.specs.private.LambdaNode.{IsLambdaReady, IsOverBody}
use Rattle.odata_typing.proofs.flat.Kept.{IsOnward, kept_on, kept_wider, standing_kept}
use Rattle.odata_typing.proofs.scopes.Scopes.{scope_in-Bound}

-- the scope of the body
abbrev pub scope_within : CheckContext → Judged → ValueType → Scope
scope_within context judged member = with_variable (scope_of context) (name_of context judged) (single (single_type context.schema.now member))

-- that of the context with the variable
pub scope_is :
    (context : CheckContext) (judged : Judged) (name : Bor (List ℕ)) (member : ValueType)
    → name.now ≡ name_of context judged
    → scope_in context.schema.now (Bound name (EdmType.Single member) context.variables) ≡ scope_within context judged member
scope_is context judged name member same =
    scope_in-Bound context.schema.now name (EdmType.Single member) context.variables
    ∙ ap (λ (asked : List ℕ). with_variable (scope_of context) asked (single (single_type context.schema.now member))) same

-- a variable that no name in scope stands for is new
pub fresh_variable :
    (context : CheckContext) (judged : Judged) (asked : List ℕ) (found : Option NamedVariable)
    → found ≡ None
    → IsNamedBy context.schema.now (scope_of context) asked found
    → asked ≡ name_of context judged
    → variable_type (scope_of context) (name_of context judged) ≡ None
fresh_variable context judged asked found none named same =
    let unbound : IsNamedBy context.schema.now (scope_of context) asked None = subst (λ (o : Option NamedVariable). IsNamedBy context.schema.now (scope_of context) asked o) none named in
    subst (λ (name : List ℕ). variable_type (scope_of context) name ≡ None) same unbound.1

-- the body has been put over the base
pub over_body :
    LawsBelow → (context : CheckContext) (old mid : Walk) (from index : ℕ) (judged : Judged) (quantifier : Quantifier) (base : Tree) (member : ValueType) (name : Bor (List ℕ)) (type : EdmType)
    → (ready : IsLambdaReady context old from index judged quantifier base)
    → type ≡ ready.base_stands.found.edm_type
    → type ≡ EdmType.Collection member
    → variable_type (scope_of context) (name_of context judged) ≡ None
    → name.now ≡ name_of context judged
    → IsPut context.schema.now context.filtered_type (scope_in context.schema.now (Bound name (EdmType.Single member) context.variables))
    (number_at (places_of context.nodes.now) (index - 1)) (stop_at (places_of context.nodes.now) (index - 1)) (run_tree context from index) old mid
    → IsOverBody context mid judged base (run_tree context from index)
over_body laws context old mid from index judged quantifier base member name type ready type_is of_member fresh same put =
    let schema = context.schema.now in
    let n = context.filtered_type in
    let i = number_at (places_of context.nodes.now) (index - 1) in
    let j = stop_at (places_of context.nodes.now) (index - 1) in
    let onward : IsOnward i j old mid = record { kept = put.kept; navigates = put.navigates } in
    let body = run_tree context from index in
    let Body : Scope → ℕ → Type 0 = λ (scope : Scope) (k : ℕ). IsStanding schema n scope mid i k body in
    let stands = standing_kept laws schema n (scope_of context) i j old mid onward (judged.number + 1) i base (inl (omega arith)) ready.base_stands in
    let order : judged.number + 1 < i = ready.base_stands.order in
    let found : stands.found ≡ ready.base_stands.found =
    same_Some stands.found ready.base_stands.found (sym stands.at ∙ (put.kept.nodes (judged.number + 1) (inl order) ∙ ready.base_stands.at)) in
    record {
      middle = i;
      member = member;
      base_stands = stands;
      base_type = ap (λ (f : CheckedNode). f.edm_type) found ∙ sym type_is ∙ of_member;
      fresh = fresh;
      body_stands =
          subst (λ (k : ℕ). Body (scope_within context judged member) k) ready.body_stop
          (subst (λ (scope : Scope). Body scope j) (scope_is context judged name member same) put.stands);
    }

-- what is put after the body has been put since before it
pub judged_since :
    (schema : SchemaModel) (n : ℕ) (scope : Scope) (i j from to : ℕ) (tree : Tree) (old mid new : Walk) (result : Bool)
    → IsOnward i j old mid
    → from ≤ i
    → j ≤ to
    → IsJudged schema n scope from to tree mid new result
    → IsJudged schema n scope from to tree old new result
judged_since schema n scope i j from to tree old mid new true onward below above put = record {
  kept = kept_on from to old.list mid.list new.list (kept_wider i j from to old.list mid.list below above onward.kept) put.kept;
  stands = put.stands;
  navigates = λ idle. onward.navigates (put.navigates idle);
  fault = put.fault;
}
judged_since schema n scope i j from to tree old mid new false onward below above found = found

-- the nodes of the body are among those of the operator
pub body_places :
    (context : CheckContext) (walk : Walk) (from index : ℕ) (judged : Judged) (quantifier : Quantifier) (base : Tree)
    → (ready : IsLambdaReady context walk from index judged quantifier base)
    → judged.number ≤ number_at (places_of context.nodes.now) (index - 1)
body_places context walk from index judged quantifier base ready =
    let order : judged.number + 1 < number_at (places_of context.nodes.now) (index - 1) = ready.base_stands.order in
    omega arith
