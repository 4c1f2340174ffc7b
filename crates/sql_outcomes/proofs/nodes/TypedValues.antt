-- A value that a tree evaluates to in a world has the tree's type.
use Rattle.sql_outcomes.proofs.Common.{ℕ, sym, subst, IsMoment, MomentParts, Val, ExprType, SchemaModel, slots_of, type_name_at, HasType, Tree, Typed, EndsOnceOnEntities, IsOutcomeOf, scope_of, gives, IsAskedOf, Question, World, MeansOf, means_in}

module _ (question : Question) (ends : EndsOnceOnEntities) (is_moment : IsMoment question.now.civil question.now.offset_minutes) (world : World) (seen : IsAskedOf question world) where
  pub has_type : (tree : Tree) (type : ExprType) (v : Val)
      → Typed (slots_of question.filter.schema) (type_name_at question.filter.schema question.filter.filtered) (scope_of world.environment) tree type
      → MeansOf question world seen tree (gives v) → HasType (slots_of world.row.schema) type v
  has_type tree type v typed means =
      let e =
      ends world.row world.now world.environment tree type (subst (λ (m : MomentParts). IsMoment m.civil m.offset_minutes) (sym seen.moment_is) is_moment) seen.row_is.entity seen.fitting
      (subst (λ (n : ℕ). Typed (slots_of world.row.schema) (type_name_at world.row.schema n) (scope_of world.environment) tree type) (sym seen.row_is.type_is)
      (subst (λ (s : SchemaModel). Typed (slots_of s) (type_name_at s question.filter.filtered) (scope_of world.environment) tree type) (sym seen.row_is.schema_is) typed)) in
      subst (IsOutcomeOf (slots_of world.row.schema) type) (sym (e.only (gives v) (means_in question world seen tree (gives v) means))) e.of_type
