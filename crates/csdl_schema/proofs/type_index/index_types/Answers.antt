use Rattle.std.proofs.Common.{◌≡◌, ◌∙◌, ◌<◌, ◌+◌, ◌-◌, ◌∷◌, ℕ, suc, List, Some, cond, sym, ap, map, drop, get_or, length, arith, add-one}
use Rattle.std.proofs.Math.Seq.{drop-cons}
use Rattle.std.specs.List.{position_from}
use Rattle.std.proofs.lemmas.Iterator.Adapters.{position_from-zero}
use Rattle.csdl_declarations.specs.DeclaredTypeView.{type_view}
use Rattle.csdl_schema.specs.Resolution.{goes_by}
use Rattle.csdl_schema.proofs.Placing.{position_from-map}
use Rattle.csdl_schema.proofs.type_index.index_types.Goals as goal

-- the rest at an index begins with the item there
at_index : {X : Type 0} (xs : List X) (i : ℕ) (x : X) → i < length xs → x ≡ get_or xs i x → drop i xs ≡ x ∷ drop (i + 1) xs
at_index xs i x within is = rw (add-one, drop-cons xs i x within) (ap (λ y. y ∷ drop (suc i) xs) (sym is))

pub loop-index-preserved : goal.loop-index-preserved
loop-index-preserved c =
    let types = c.args.types.now in
    let i = c.loop-index.index in
    let t = c.index-types-index.result in
    let past : i - 1 + 1 ≡ i = omega arith in
    let within : i - 1 < length types = omega (arith, c.loop-index.invariant.0) in
    let step : drop (i - 1) types ≡ t ∷ drop (i - 1 + 1) types = at_index types (i - 1) t within c.index-types-index.is in (
      omega (arith, c.loop-index.invariant.0),
      λ asked.
          c.in_ok-add_names.ensures.added asked
          ∙ ap (cond (goes_by (type_view t) asked) (Some (i - 1)))
          (c.loop-index.invariant.1 asked ∙ ap (λ n. position_from (λ u. goes_by (type_view u) asked) n (drop n types)) (sym past))
          ∙ ap (position_from (λ u. goes_by (type_view u) asked) (i - 1)) (sym step),
    )

pub returns-clause-indexed : goal.returns-clause-indexed
returns-clause-indexed c = λ asked.
    let types = c.args.types.now in
    let at_front : c.loop-index.index ≡ 0 = omega arith in
    c.loop-index.invariant.1 asked
    ∙ ap (λ n. position_from (λ t. goes_by (type_view t) asked) n (drop n types)) at_front
    ∙ sym (position_from-map type_view (λ t. goes_by t asked) 0 types)
    ∙ sym (position_from-zero (λ t. goes_by t asked) (map type_view types))
