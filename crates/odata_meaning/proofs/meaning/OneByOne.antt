-- Members and items taken one by one evaluate to what their indexes say.
use Rattle.std.proofs.Common.{◌≡◌, ◌⊎◌, ◌<◌, ℕ, zero, suc, List, length, true, false, inl, inr, arith}
use Rattle.edm_values.specs.MomentParts.{MomentParts}
use Rattle.edm_values.specs.Val.{Val, null, boolean, Vals, no_items, item}
use Rattle.csdl_schema.specs.ExprType.{ExprType}
use Rattle.csdl_schema.specs.SchemaModel.{Slots}
use Rattle.odata_syntax.specs.declared.binary_operator.ComparisonOperator.{ComparisonOperator}
use Rattle.odata_syntax.specs.Spans.{list_of_trees}
use Rattle.odata_syntax.specs.Tree.{Trees, no_trees, more_trees}
use Rattle.odata_syntax.specs.declared.node.Quantifier.{Quantifier}
use Rattle.odata_signatures.specs.Typed.{Typed}
use Rattle.odata_filter_operations.specs.CollectionGives.{members_of}
use Rattle.odata_filter_operations.specs.CompareGives.{CompareGives}
use Rattle.odata_meaning.specs.Environment.{Environment, bound_over, scope_of}
use Rattle.odata_filter_operations.specs.LambdaGives.{ItemsGive, MemberGives, MembersGive}
use Rattle.odata_filter_operations.specs.LeftFirst.{After}
use Rattle.odata_meaning.specs.Means.{ItemMeans, Means}
use Rattle.odata_meaning.specs.OneByOne.{ComparedOneByOne, GoesOn, ItemsGo, ItemsOneByOne, MembersGo, MembersOneByOne, ItemAlone}
use Rattle.odata_filter_operations.specs.Outcome.{Outcome, gives, overflow, divides_by_zero}
use Rattle.odata_filter_operations.specs.QuantifierGives.{DecisionGives, IsUndecided, Passes, QuantifierGives, undecided_val}
use Rattle.odata_meaning.proofs.meaning.SameGives.{Both, Goes, after_both, after_goes, back, both, in_turn, itself, there}

-- ---- one value of the body

pub decided_on : (quantifier : Quantifier) (More : Outcome → Type 0) (v : Val) → Goes (DecisionGives quantifier v) (GoesOn quantifier More v)
decided_on Quantifier.Any More (boolean true) o is = is
decided_on Quantifier.All More (boolean false) o is = is
decided_on Quantifier.All More null o is = is
decided_on _ More _ o is = absurd is

pub passes_on : (quantifier : Quantifier) (More : Outcome → Type 0) (v : Val) → IsUndecided quantifier v → Goes More (GoesOn quantifier More v)
passes_on Quantifier.Any More (boolean false) undecided o more = more
passes_on Quantifier.Any More null undecided o more = more
passes_on Quantifier.All More (boolean true) undecided o more = more
passes_on _ More _ undecided o more = absurd undecided

-- it decides, or it does not
decides_or_passes : (quantifier : Quantifier) (More : Outcome → Type 0) (v : Val) (o : Outcome) → GoesOn quantifier More v o
    → DecisionGives quantifier v o ⊎ (IsUndecided quantifier v × More o)
decides_or_passes Quantifier.Any More (boolean true) o goes = inl goes
decides_or_passes Quantifier.Any More (boolean false) o goes = inr (tt, goes)
decides_or_passes Quantifier.Any More null o goes = inr (tt, goes)
decides_or_passes Quantifier.All More (boolean true) o goes = inr (tt, goes)
decides_or_passes Quantifier.All More (boolean false) o goes = inl goes
decides_or_passes Quantifier.All More null o goes = inl goes
decides_or_passes _ More _ o goes = absurd goes

goes_goes : (quantifier : Quantifier) (P Q : Outcome → Type 0) (v : Val) → Goes P Q → Goes (GoesOn quantifier P v) (GoesOn quantifier Q v)
goes_goes Quantifier.Any P Q (boolean true) goes o is = is
goes_goes Quantifier.Any P Q (boolean false) goes o is = goes o is
goes_goes Quantifier.Any P Q null goes o is = goes o is
goes_goes Quantifier.All P Q (boolean true) goes o is = goes o is
goes_goes Quantifier.All P Q (boolean false) goes o is = is
goes_goes Quantifier.All P Q null goes o is = is
goes_goes _ P Q _ goes o is = absurd is

pub goes_both : (quantifier : Quantifier) (P Q : Outcome → Type 0) (v : Val) → Both P Q → Both (GoesOn quantifier P v) (GoesOn quantifier Q v)
goes_both quantifier P Q v same =
    both (GoesOn quantifier P v) (GoesOn quantifier Q v)
    (goes_goes quantifier P Q v (there P Q same)) (goes_goes quantifier Q P v (back P Q same))

-- ---- one index, and those after it

-- the first, and those after it
before : (P : ℕ → Type 0) (n : ℕ) → P zero → ((k : ℕ) → k < n → P (suc k)) → (k : ℕ) → k < suc n → P k
before P n first rest zero less = first
before P n first rest (suc k) less = rest k (omega arith)

module _ (quantifier : Quantifier) (n : ℕ) (At : ℕ → Outcome → Type 0) where
  abbrev Rest : Outcome → Type 0
  Rest = QuantifierGives quantifier n (λ k. At (suc k))

  -- from the first index on
  abbrev FromFirst : Outcome → Type 0
  FromFirst = After (At zero) (GoesOn quantifier Rest)

  passing : Passes quantifier (At zero) → Goes Rest FromFirst
  passing (v, is, undecided) o rest = (gives v, (is, passes_on quantifier Rest v undecided o rest))

  decides_first : (place : ℕ) (o : Outcome) → After (At place) (DecisionGives quantifier) o → ((k : ℕ) → k < place → Passes quantifier (At k)) → FromFirst o
  decides_first zero o here earlier =
      after_goes (At zero) (At zero) (DecisionGives quantifier) (GoesOn quantifier Rest) (λ first is. is) (decided_on quantifier Rest) o here
  decides_first (suc place) o here earlier =
      passing (earlier zero (omega arith)) o
      (inl (record { place = place; here = here; earlier = λ k less. earlier (suc k) (omega arith) }))

  pub to_first : Goes (QuantifierGives quantifier (suc n) At) FromFirst
  to_first o (inl decides) = decides_first decides.place o decides.here decides.earlier
  to_first o (inr passes) =
      passing (passes.each zero (omega arith)) o
      (inr (record { each = λ k less. passes.each (suc k) (omega arith); is = passes.is }))

  -- the first index decides or has a fault
  at_first : (o : Outcome) → After (At zero) (DecisionGives quantifier) o → QuantifierGives quantifier (suc n) At o
  at_first o here = inl (record { place = zero; here = here; earlier = λ k less. absurd (omega arith) })

  behind_first : Passes quantifier (At zero) → Goes Rest (QuantifierGives quantifier (suc n) At)
  behind_first passes o (inl decides) =
      inl (record { place = suc decides.place; here = decides.here; earlier = before (λ k. Passes quantifier (At k)) decides.place passes decides.earlier })
  behind_first passes o (inr rest) =
      inr (record { each = before (λ k. Passes quantifier (At k)) n passes rest.each; is = rest.is })

  pub from_first : Goes FromFirst (QuantifierGives quantifier (suc n) At)
  from_first o (gives v, (here, goes)) =
      elim (decides_or_passes quantifier Rest v o goes) [
        | inl decides ↦ at_first o (gives v, (here, decides))
        | inr on ↦ behind_first (v, here, on.0) o on.1
      ]
  from_first o (overflow, (here, is)) = at_first o (overflow, (here, is))
  from_first o (divides_by_zero, (here, is)) = at_first o (divides_by_zero, (here, is))

  pub first_both : Both (QuantifierGives quantifier (suc n) At) FromFirst
  first_both = both (QuantifierGives quantifier (suc n) At) FromFirst to_first from_first

-- where there is no index
none_there : (quantifier : Quantifier) (At : ℕ → Outcome → Type 0) → ((k : ℕ) (o : Outcome) → ¬ At k o)
    → Goes (QuantifierGives quantifier zero At) (λ o. o ≡ gives (undecided_val quantifier))
none_there quantifier At none o (inl decides) = absurd (none decides.place decides.here.0 decides.here.1.0)
none_there quantifier At none o (inr passes) = passes.is

none_back : (quantifier : Quantifier) (At : ℕ → Outcome → Type 0) → Goes (λ o. o ≡ gives (undecided_val quantifier)) (QuantifierGives quantifier zero At)
none_back quantifier At o is = inr (record { each = λ k less. absurd (omega arith); is = is })

none_both : (quantifier : Quantifier) (At : ℕ → Outcome → Type 0) → ((k : ℕ) (o : Outcome) → ¬ At k o)
    → Both (QuantifierGives quantifier zero At) (λ o. o ≡ gives (undecided_val quantifier))
none_both quantifier At none =
    both (QuantifierGives quantifier zero At) (λ o. o ≡ gives (undecided_val quantifier)) (none_there quantifier At none) (none_back quantifier At)

-- ---- all of them

pub members_both : (quantifier : Quantifier) (Body : Val → Outcome → Type 0) (values : Vals) → Both (MembersGive quantifier Body values) (MembersGo quantifier Body values)
members_both quantifier Body no_items = none_both quantifier (MemberGives Body no_items) (λ k o is. is)
members_both quantifier Body (item v more) =
    in_turn (MembersGive quantifier Body (item v more)) (After (Body v) (GoesOn quantifier (MembersGive quantifier Body more))) (MembersGo quantifier Body (item v more))
    (first_both quantifier (length (members_of more)) (MemberGives Body (item v more)))
    (after_both (Body v) (Body v) (GoesOn quantifier (MembersGive quantifier Body more)) (GoesOn quantifier (MembersGo quantifier Body more)) (itself (Body v))
    (λ w. goes_both quantifier (MembersGive quantifier Body more) (MembersGo quantifier Body more) w (members_both quantifier Body more)))

module _ (slots : Slots) (root : List ℕ) (now : MomentParts) (entity : Val) (environment : Environment) (OtherSide : ExprType → Type 0) (l : Val) where
  abbrev Equal : (Outcome → Type 0) → Outcome → Type 0
  Equal Item = After Item (CompareGives ComparisonOperator.Eq l)

  abbrev Given : Trees → Outcome → Type 0
  Given items = ItemsGive l (length (list_of_trees items)) (ItemMeans slots root now entity environment OtherSide items)

  abbrev Taken : Trees → Outcome → Type 0
  Taken items = ItemsGo (ItemAlone slots root now entity environment OtherSide) l items

  pub items_both : (items : Trees) → Both (Given items) (Taken items)
  items_both no_trees = none_both Quantifier.Any (λ place. Equal (ItemMeans slots root now entity environment OtherSide no_trees place)) (λ k o is. is.1.0)
  items_both (more_trees tree more) =
      let Item : Outcome → Type 0 = Equal (ItemAlone slots root now entity environment OtherSide tree) in
      in_turn (Given (more_trees tree more)) (After Item (GoesOn Quantifier.Any (Given more))) (Taken (more_trees tree more))
      (first_both Quantifier.Any (length (list_of_trees more)) (λ place. Equal (ItemMeans slots root now entity environment OtherSide (more_trees tree more) place)))
      (after_both Item Item (GoesOn Quantifier.Any (Given more)) (GoesOn Quantifier.Any (Taken more)) (itself Item)
      (λ w. goes_both Quantifier.Any (Given more) (Taken more) w (items_both more)))

pub members_one_by_one : MembersOneByOne
members_one_by_one slots root now entity environment quantifier variable type body values =
    members_both quantifier (λ v. Means slots root now entity (bound_over environment variable type v) body) values

pub compared_one_by_one : ComparedOneByOne
compared_one_by_one l values = members_both Quantifier.Any (CompareGives ComparisonOperator.Eq l) values

pub items_one_by_one : ItemsOneByOne
items_one_by_one slots root now entity environment left l items = items_both slots root now entity environment (Typed slots root (scope_of environment) left) l items
