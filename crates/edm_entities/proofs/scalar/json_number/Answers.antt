use Rattle.std.proofs.Common.{◌∙◌, ℤ, Some, refl, sym, ap, rules}
use Rattle.std.proofs.lemmas.Int.{to_z-of_z}
use Rattle.std.specs.Prelude.{FitsSigned}
use Rattle.std.specs.Int.{w64}
use Rattle.serde_json.specs.Data.{Num}
use Rattle.serde_json.specs.View.{number_view}
use Rattle.edm_entities.proofs.FitLemmas.ScalarKinds.{whole_is, outside_is, fraction_is}
use Rattle.edm_entities.proofs.scalar.json_number.Goals as goal

pub returns-in-Some : goal.returns-in-Some
returns-in-Some c =
    let fits : FitsSigned w64 c.in-Some.n = search rules in
    let m : Num = number_view c.args.held.now in
    (m, record { is_number = refl; holds = whole_is m c.in-Some.n (sym c.as_i64.ensures ∙ c.in-Some.is) ∙ ap (λ (z : ℤ). Some z) (sym (to_z-of_z w64 c.in-Some.n fits)) })

pub returns-then-is_u64 : goal.returns-then-is_u64
returns-then-is_u64 c = (
  number_view c.args.held.now,
  record { is_number = refl; holds = outside_is (number_view c.args.held.now) (sym c.as_i64.ensures ∙ c.in-None.is) (sym c.is_u64.ensures ∙ c.if-is_u64.true) },
)

pub returns-else-is_u64 : goal.returns-else-is_u64
returns-else-is_u64 c = (
  number_view c.args.held.now,
  record { is_number = refl; holds = fraction_is (number_view c.args.held.now) (sym c.as_i64.ensures ∙ c.in-None.is) (sym c.is_u64.ensures ∙ c.if-is_u64.false) },
)
