-- Numbers in pre-order by how many trees begin before an index.
use Rattle.std.proofs.Common.{◌≡◌, ◌≢◌, refl, ap, sym, subst, ◌∙◌, ℕ, ◌+◌, ◌-◌, ◌<◌, ◌≤◌, List, [], ◌∷◌, length, length-set, slice_set, arith, inl, inr}
use Rattle.std.proofs.lemmas.Bool.{cases_eq, cases_lt}
use Rattle.odata_syntax.specs.declared.node_places.Place.{Place}
use Rattle.odata_syntax.specs.Places.{first_at, lambda_at, number_at, stop_at}
use Rattle.odata_syntax.specs.private.PlaceGrowth.{HasRoom, IsNumbered, begun_before}
use Rattle.odata_syntax.proofs.numbering.Writes.{begun_next, begun_rises, first_set, lambda_set, number_other, number_own}

-- the trees of the first nodes are numbered
pub record IsNumberedUntil (old new : List Place) (index : ℕ) : Type 0 where
  pub size : length new ≡ length old
  pub firsts : (k : ℕ) → first_at new k ≡ first_at old k
  pub lambdas : (k : ℕ) → lambda_at new k ≡ lambda_at old k
  pub stops : (k : ℕ) → k < index → stop_at new k ≡ begun_before old (k + 1)
  pub later : (k : ℕ) → index ≤ k → number_at new k ≡ number_at old k

pub numbered_none : (places : List Place) → IsNumberedUntil places places 0
numbered_none places = record {
  size = refl;
  firsts = λ k. refl;
  lambdas = λ k. refl;
  stops = λ k before. absurd (omega (arith, before));
  later = λ k from. refl;
}

pub numbered_all : (old new : List Place) (index : ℕ) → length old ≤ index → IsNumberedUntil old new index → IsNumbered old new
numbered_all old new index all is = record {
  size = is.size;
  firsts = is.firsts;
  lambdas = is.lambdas;
  stops = λ k inside. is.stops k (omega (arith, inside, all));
}

-- as many trees begin within a tree as fit
pub fits_before : (old : List Place) (k : ℕ) → HasRoom old k → k + 1 - first_at old k ≤ begun_before old (k + 1)
fits_before old k has = omega (arith, has.order, has.room)

pub numbered_more : (old new : List Place) (index : ℕ) (place : Place) → index < length old → HasRoom old index → IsNumberedUntil old new index
    → place.number ≡ begun_before old (index + 1) - (index + 1 - first_at old index) → place.first ≡ first_at new index → place.lambda ≡ lambda_at new index
    → IsNumberedUntil old (slice_set new index place) (index + 1)
numbered_more old new index place inside has is own same_first same_lambda =
    let firsts : (k : ℕ) → first_at (slice_set new index place) k ≡ first_at old k = λ k. first_set new index k place same_first ∙ is.firsts k in
    let here : stop_at (slice_set new index place) index ≡ begun_before old (index + 1) =
    let number : number_at (slice_set new index place) index ≡ place.number = number_own new index place (omega (arith, inside, is.size)) in
    let first = firsts index in
    omega (arith, number, first, own, fits_before old index has) in
    record {
      size = length-set new index place ∙ is.size;
      firsts = firsts;
      lambdas = λ k. lambda_set new index k place same_lambda ∙ is.lambdas k;
      stops = λ k until. elim (cases_eq k index) [
        | inl same ↦ subst (λ (i : ℕ). stop_at (slice_set new index place) i ≡ begun_before old (i + 1)) (sym same) here
        | inr other ↦ let before : k < index = omega (arith, until, other) in
            let first : first_at (slice_set new index place) k ≡ first_at new k = first_set new index k place same_first in
            let number : number_at (slice_set new index place) k ≡ number_at new k = number_other new index k place other in
            let was : stop_at new k ≡ begun_before old (k + 1) = is.stops k before in
            omega (arith, first, number, was)
      ];
      later = λ k from. number_other new index k place (λ same. absurd (omega (arith, same, from))) ∙ is.later k (omega (arith, from));
    }
