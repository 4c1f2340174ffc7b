use Rattle.std.proofs.Common.{◌≡◌, true, ℕ, [], ◌∷◌, ◌++◌, length, IfSome, slice_get, sym, ap, ◌∙◌, subst, arith}
use Rattle.std.proofs.lemmas.Grind.{common_steps}
use Rattle.edm_rows.specs.declared.row_types.RowType.{RowType}
use Rattle.edm_rows.specs.private.RowSlots.{AreFew, IsFreshType, IsRowType}
use Rattle.edm_rows.proofs.RowLemmas.RowTypes.{each_push, long_push, none_each}
use Rattle.edm_rows.proofs.TypesChanged.{says_few}
use Rattle.edm_rows.proofs.Values.{some_by}
use Rattle.edm_rows.proofs.row_types.row_types.Goals as goal

pub loop-place-init : goal.loop-place-init
loop-place-init c =
    let plans = c.args.plan.now.plans.items in
    let Q : (ℕ → RowType → Type 0) = λ k t. IfSome (slice_get plans k) (λ p. IsRowType c.args.schema.now c.args.plan.now.expansion plans p t) in (
      ap length c.new-types.ensures.items,
      omega arith,
      subst (λ items. (k : ℕ) → IfSome (slice_get items k) (Q k)) (sym c.new-types.ensures.items) (none_each Q),
      subst (λ items. (k : ℕ) → IfSome (slice_get items k) IsFreshType) (sym c.new-types.ensures.items) (none_each (λ k. IsFreshType)),
    )

pub loop-place-preserved : goal.loop-place-preserved
loop-place-preserved c =
    let l = c.loop-place in
    let plans = c.args.plan.now.plans.items in
    let made = c.in-Some.row_type in
    let few = c.have_few_slots-all_few.result in
    let type : RowType = record made { all_few = few } in
    let said : few ≡ true → AreFew plans = λ is. subst AreFew c.as_slice.ensures.value (c.have_few_slots-all_few.ensures is) in
    let Q : (ℕ → RowType → Type 0) = λ k t. IfSome (slice_get plans k) (λ p. IsRowType c.args.schema.now c.args.plan.now.expansion plans p t) in
    let pushed : c.push.new.self.items ≡ l.types.items ++ type ∷ [] = grind (arith, common_steps) in
    let here : Q (length l.types.items) type = subst (λ n. Q n type) (sym l.invariant.0)
    (some_by (slice_get plans l.place) (λ p. IsRowType c.args.schema.now c.args.plan.now.expansion plans p made) (λ p. IsRowType c.args.schema.now c.args.plan.now.expansion plans p type)
    (λ p is. says_few c.args.schema.now c.args.plan.now.expansion plans p made few said is) c.in-Some.ensures.planned) in (
      ap length pushed ∙ long_push l.types.items type ∙ omega (arith, l.invariant.0),
      omega arith,
      subst (λ items. (k : ℕ) → IfSome (slice_get items k) (Q k)) (sym pushed) (each_push Q l.types.items type l.invariant.2 here),
      subst (λ items. (k : ℕ) → IfSome (slice_get items k) IsFreshType) (sym pushed) (each_push (λ k. IsFreshType) l.types.items type l.invariant.3 c.in-Some.ensures.fresh),
    )

pub returns-clause-planned : goal.returns-clause-planned
returns-clause-planned c = record { count = omega (arith, c.loop-place.invariant.0); each = c.loop-place.invariant.2 }

pub returns-clause-fresh : goal.returns-clause-fresh
returns-clause-fresh c = c.loop-place.invariant.3
