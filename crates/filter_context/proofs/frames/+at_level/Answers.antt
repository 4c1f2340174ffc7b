use Rattle.std.proofs.Common.{◌≡◌, ◌∙◌, ℕ, suc, ◌+◌, ◌≤◌, List, [], arith, inl, inr, length, refl, subst, sym}
use Rattle.std.proofs.lemmas.Bool.{cases_lt}
use Rattle.csdl_schema.specs.SchemaModel.{SchemaModel, slots_of}
use Rattle.filter_context.specs.Frames.{Frame, StandsAtLevel, bound_of, environment_in, frame_of, frames_in, names_of}
use Rattle.filter_context.proofs.Variables.{at_innermost, bound_frames}
use Rattle.filter_context.proofs.frames.+at_level.Goals as goal

-- a schema, for a fact of all of them
one_schema : SchemaModel
one_schema = record { types = [] }

-- so many variables, not more than a level and not as many
fewer : (count level : ℕ) → count ≤ level → ¬ (count ≡ level) → count + 1 ≤ level
fewer count level most other = elim (cases_lt count level) [
  | inl before ↦ omega arith
  | inr after ↦ absurd (other (let same : count ≡ level = omega arith in same))
]

pub overflow_add-result : goal.overflow_add-result
overflow_add-result t c =
    let most : c.in-Fewer.count + 1 ≤ c.args.level = fewer c.in-Fewer.count c.args.level (c.in-Fewer.ensures one_schema).1 c.if-count-level.false in
    omega (arith, most, c.ranges.level.fits)

pub returns-then-count-level : goal.returns-then-count-level
returns-then-count-level t c = λ schema.
    let outer = frames_in c.in-Bound.outer.now in
    let frame : Frame = frame_of c.in-Bound.field-0.now c.in-Bound.value.now in
    subst (λ (frames : List Frame). StandsAtLevel (slots_of schema) (environment_in schema frames) c.args.level c.in-Bound.value.now)
    (sym (bound_frames c.args.frames.now c.in-Bound.field-0 c.in-Bound.value c.in-Bound.outer c.in-Bound.is))
    (at_innermost (slots_of schema) (environment_in schema outer) (bound_of schema frame) c.args.level c.in-Bound.value.now
    (sym c.if-count-level.true ∙ (c.in-Fewer.ensures schema).0) refl)

pub returns-else-count-level : goal.returns-else-count-level
returns-else-count-level t c = λ schema.
    let most : c.in-Fewer.count + 1 ≤ c.args.level = fewer c.in-Fewer.count c.args.level (c.in-Fewer.ensures schema).1 c.if-count-level.false in
    let counted : c.in-Fewer.count ≡ length (names_of (environment_in schema (frames_in c.in-Bound.outer.now))) = (c.in-Fewer.ensures schema).0 in
    subst (λ (frames : List Frame). (c.in-Fewer.count + 1 ≡ length (names_of (environment_in schema frames))) × (c.in-Fewer.count + 1 ≤ c.args.level))
    (sym (bound_frames c.args.frames.now c.in-Bound.field-0 c.in-Bound.value c.in-Bound.outer c.in-Bound.is)) ((let e : c.in-Fewer.count + 1 ≡ suc (length (names_of (environment_in schema (frames_in c.in-Bound.outer.now)))) = omega arith in e), most)
