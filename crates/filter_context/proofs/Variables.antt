-- What a name stands for among range variables: the innermost one of that name, or none of them.
use Rattle.std.proofs.Common.{◌≡◌, ◌∙◌, ℕ, ◌<◌, Bor, List, [], ◌∷◌, Option, Some, None, MatchOption, cond, true, false, find, length, nat_eq, refl, sym, ap, subst, rules, arith}
use Rattle.std.specs.Prelude.{option_map}
use Rattle.std.specs.Cmp.Lexicographic.{pointwise}
use Rattle.edm_values.specs.Val.{Val}
use Rattle.edm_values.specs.declared.value.Value.{Value}
use Rattle.csdl_schema.specs.ExprType.{ExprType}
use Rattle.csdl_schema.specs.SchemaModel.{SchemaModel, Slots, slots_of}
use Rattle.edm_entities.specs.Row.{val_of}
use Rattle.odata_signatures.specs.Typed.{variable_type}
use Rattle.odata_checked_filter.specs.Levels.{level_named}
use Rattle.odata_meaning.specs.Environment.{Bound as BoundVariable, Environment, scope_of, variable_value}
use Rattle.odata_meaning.specs.NameGives.{FoundGives}
use Rattle.odata_filter_operations.specs.Outcome.{gives}
use Rattle.filter_context.specs.declared.frames.Frames.{Frames, Bound, Empty, the_lemmas}
use Rattle.filter_context.specs.declared.frames.RangeVariable.{RangeVariable}
use Rattle.filter_context.specs.Frames.{Frame, StandsAtLevel, VariableHolds, bound_of, environment_in, frame_of, frames_in, names_of}

pub frames_in-Empty : frames_in Empty ≡ []
frames_in-Empty = search (rules, the_lemmas)

pub frames_in-Bound : (variable : Bor RangeVariable) (value : Bor Value) (outer : Bor Frames)
    → frames_in (Bound variable value outer) ≡ frame_of variable.now value.now ∷ frames_in outer.now
frames_in-Bound variable value outer = search (rules, the_lemmas)

-- what a reference to frames with a variable holds
pub bound_frames : (frames : Frames) (variable : Bor RangeVariable) (value : Bor Value) (outer : Bor Frames) → frames ≡ Bound variable value outer
    → frames_in frames ≡ frame_of variable.now value.now ∷ frames_in outer.now
bound_frames frames variable value outer is = ap frames_in is ∙ frames_in-Bound variable value outer

pub level_below : (names : List (List ℕ)) (asked : List ℕ) (level : ℕ) → level_named names asked ≡ Some level → level < length names
level_below [] asked level is = absurd (cc)
level_below (bound ∷ outer) asked level is =
    elim (pointwise nat_eq asked bound) as (λ is_it. cond is_it (Some (length outer)) (level_named outer asked) ≡ Some level → level < length (bound ∷ outer)) [
      | true ↦ λ there. let same : length outer ≡ level = cc in omega arith
      | false ↦ λ there. let below : level < length outer = level_below outer asked level there in omega arith
    ] is

-- a name that no variable has
pub unbound : (environment : Environment) (asked : List ℕ) → level_named (names_of environment) asked ≡ None
    → (variable_value environment asked ≡ None) × (variable_type (scope_of environment) asked ≡ None)
unbound [] asked none = (refl, refl)
unbound (bound ∷ more) asked none =
    elim (pointwise nat_eq asked bound.variable.name) as (λ is_it. cond is_it (Some (length (names_of more))) (level_named (names_of more) asked) ≡ None
    → (option_map (λ b. b.value) (cond is_it (Some bound) (find (λ b. pointwise nat_eq asked b.variable.name) more)) ≡ None)
    × (option_map (λ v. v.type_of) (cond is_it (Some bound.variable) (find (λ v. pointwise nat_eq asked v.name) (scope_of more))) ≡ None)) [
      | true ↦ λ there. absurd (cc)
      | false ↦ λ there. unbound more asked there
    ] none

-- one that a variable has evaluates to the variable's value
pub variable_gives : (slots : Slots) (in_scope : Option ExprType) (value : Option Val) (entity : Val) (asked : List ℕ) (Otherwise : Type 0) (type : ExprType) (v : Value)
    → VariableHolds slots in_scope value v → MatchOption in_scope Otherwise (λ t. type ≡ t) → FoundGives value entity asked (gives (val_of v slots.properties type))
variable_gives slots (Some t) (Some w) entity asked Otherwise type v holds typed = ap (λ (u : ExprType). gives (val_of v slots.properties u)) typed ∙ ap gives (sym holds)
variable_gives slots (Some t) None entity asked Otherwise type v holds typed = absurd holds
variable_gives slots None value entity asked Otherwise type v holds typed = absurd holds

module _ (slots : Slots) (environment : Environment) (bound : BoundVariable) (level : ℕ) (value : Value) where
  -- the innermost variable
  pub at_innermost : level ≡ length (names_of environment) → bound.value ≡ val_of value slots.properties bound.variable.type_of → StandsAtLevel slots (bound ∷ environment) level value
  at_innermost same is = record {
    within = omega (arith, same);
    holds = λ asked named.
        elim (pointwise nat_eq asked bound.variable.name) as (λ is_it. cond is_it (Some (length (names_of environment))) (level_named (names_of environment) asked) ≡ Some level
        → VariableHolds slots (option_map (λ v. v.type_of) (cond is_it (Some bound.variable) (find (λ v. pointwise nat_eq asked v.name) (scope_of environment))))
        (option_map (λ b. b.value) (cond is_it (Some bound) (find (λ b. pointwise nat_eq asked b.variable.name) environment))) value) [
          | true ↦ λ there. is
          | false ↦ λ there. let below : level < length (names_of environment) = level_below (names_of environment) asked level there in absurd (omega (arith, same))
        ] named;
  }

  -- one around it
  pub at_outer : StandsAtLevel slots environment level value → StandsAtLevel slots (bound ∷ environment) level value
  at_outer stands =
      let below : level < length (names_of environment) = stands.within in
      record {
        within = omega (arith, below);
        holds = λ asked named.
            elim (pointwise nat_eq asked bound.variable.name) as (λ is_it. cond is_it (Some (length (names_of environment))) (level_named (names_of environment) asked) ≡ Some level
            → VariableHolds slots (option_map (λ v. v.type_of) (cond is_it (Some bound.variable) (find (λ v. pointwise nat_eq asked v.name) (scope_of environment))))
            (option_map (λ b. b.value) (cond is_it (Some bound) (find (λ b. pointwise nat_eq asked b.variable.name) environment))) value) [
              | true ↦ λ there. let same : length (names_of environment) ≡ level = cc in absurd (omega (arith, below))
              | false ↦ λ there. stands.holds asked there
            ] named;
      }

-- the only variable is the innermost
pub only_variable : (schema : SchemaModel) (frames : List Frame) (frame : Frame) (level : ℕ) → frames ≡ frame ∷ [] → level < length (names_of (environment_in schema frames))
    → StandsAtLevel (slots_of schema) (environment_in schema frames) level frame.value
only_variable schema frames frame level is within =
    let below : level < 1 = subst (λ (fs : List Frame). level < length (names_of (environment_in schema fs))) is within in
    let first : level ≡ 0 = omega arith in
    subst (λ (fs : List Frame). StandsAtLevel (slots_of schema) (environment_in schema fs) level frame.value) (sym is)
    (at_innermost (slots_of schema) [] (bound_of schema frame) level frame.value first refl)
