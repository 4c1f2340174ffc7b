-- The code of a comparison a side of which may be a fault.
use Rattle.sql_forms.proofs.Common.{◌≡◌, ◌≢◌, inl, inr, ◌∷◌, [], ℕ, List, Bool, true, Option, Some, map, length, refl, sym, ap, subst, ◌∙◌, slice_get, Val, boolean, null, Filter, CompareGives, Then, Outcome, gives, overflow, divides_by_zero, ComparisonOperator, without_fault, code_of_truth, truth, NodeMeans, SqlMeans, Asked, Bound, bound_value, Term, no_terms, more_terms, SqlNode, SqlType, IsFault, Draft, Operand, Source, Kind, ComparisonHas, FaultyHave, HasOrCode, NoTruth, Grows, IsOfKind, AllHave, AreChosen, chosen_of, fault_else, faults_of, within_let, ArePlain, Fits, HasLoosely, OperandHas, SomeNull, SourceHas, Puts, Question, World, extended, puts_one}
use Rattle.sql_outcomes.specs.private.ValueForms.{Itself, OrTruth}
use Rattle.sql_outcomes.proofs.outcomes.Apart.{is_faulted, null_kind, stays_fault}
use Rattle.sql_outcomes.proofs.outcomes.CodeTables.{coded, Coded}
use Rattle.sql_outcomes.proofs.outcomes.Comparisons.{compared_truth}
use Rattle.sql_outcomes.proofs.outcomes.LiftedFaults.{IsInner, TwoInner, lifted_values, two_inner, inner_fits}
use Rattle.sql_outcomes.proofs.outcomes.LiftedValues.{body_have}
use Rattle.sql_forms.proofs.puts.OperandsPut.{fault_itself, given_itself}
use Rattle.sql_outcomes.proofs.outcomes.Operators.{truth_code_means}

-- the code of a value; instead of a fault that of some truth value
abbrev pub OrCode : Outcome → Outcome → Type 0
OrCode (gives v) x = x ≡ coded (gives v)
OrCode o x = (t : Option Bool) × (x ≡ coded (truth t))

pub or_code_value : (q : Outcome) (v : Val) (y : Outcome) → q ≡ gives v → OrCode q y → Coded q y
or_code_value (gives w) v y same form = form
or_code_value _ v y same form = absurd (cc)

pub code_is : (t : Option Bool) → code_of_truth t ≡ coded (truth t)
code_is (Some true) = refl
code_is _ = refl

value_code : (o : Outcome) (b : Bool) (x : Outcome) → o ≡ gives (boolean b) → x ≡ coded o → OrCode o x
value_code (gives v) b x is same = same
value_code _ b x is same = absurd (cc)

fault_code_form : (o : Outcome) (t : Option Bool) (x : Outcome) → IsFault o → x ≡ coded (truth t) → OrCode o x
fault_code_form (gives v) t x fault same = absurd fault
fault_code_form _ t x fault same = (t, same)

code_value : (o : Outcome) (b : Bool) (x : Outcome) → o ≡ gives (boolean b) → OrCode o x → x ≡ coded o
code_value (gives v) b x is form = form
code_value _ b x is form = absurd (cc)

code_fault : (o x : Outcome) → IsFault o → OrCode o x → (t : Option Bool) × (x ≡ coded (truth t))
code_fault (gives v) x fault form = absurd fault
code_fault _ x fault form = form

pub truth_code_node : (asked : Asked) (bound : Bound) (a : Term) (x y : Outcome) → SqlMeans asked bound a x → (t : Option Bool) × (x ≡ truth t) × (y ≡ code_of_truth t)
    → NodeMeans asked bound SqlNode.TruthCode (more_terms a no_terms) y
truth_code_node asked bound a x y term op =
    subst (NodeMeans asked bound SqlNode.TruthCode (more_terms a no_terms)) (sym op.2) (truth_code_means asked bound a op.0 (subst (SqlMeans asked bound a) op.1 term))

-- without its fault an outcome is a value of the kind
pub unfaulted_value : (operand : Operand) (o : Outcome) → ((v : Val) → o ≡ gives v → Fits operand v) → (w : Val) × (without_fault o ≡ gives w) × IsOfKind operand.kind w
unfaulted_value operand (gives v) fits = (v, refl, (fits v refl).kind)
unfaulted_value operand _ fits = (null, refl, null_kind operand.kind)

then_fault : {o : Outcome} (f : Outcome) (Goes : Val → Outcome → Type 0) → IsFault f → Then f Goes o → o ≡ f
then_fault (gives v) Goes fault given = absurd fault
then_fault _ Goes fault given = given

pub plain_has : (filter : Filter) (kind : Kind) (source : Source) (world : World) (o : Outcome) → kind ≢ Kind.Value SqlType.Truth → HasOrCode filter kind source world o → SourceHas filter source world o
plain_has filter (Kind.Value SqlType.Truth) source world o other has = absurd (other refl)
plain_has filter kind source world o other has = has

module _ (question : Question) (operator : ComparisonOperator) (left right first second : Operand) where
  pub truth_code_put : (old middle new : Draft) → Grows old middle (SqlNode.TruthCode ∷ []) → Puts question middle new (ComparisonHas question.filter operator first second) (OrTruth Itself)
      → Puts question old new (ComparisonHas question.filter operator first second) OrCode
  truth_code_put old middle new grows inner =
      puts_one question SqlNode.TruthCode refl (λ x y. (t : Option Bool) × (x ≡ truth t) × (y ≡ code_of_truth t)) old middle new (ComparisonHas question.filter operator first second)
      (ComparisonHas question.filter operator first second) (OrTruth Itself) OrCode truth_code_node grows inner
      (λ world o is has. (o, has, λ x form. code_of_form world o x has form))
    where
      code_of_form : (world : World) (o x : Outcome) → ComparisonHas question.filter operator first second world o → OrTruth Itself o x
          → (y : Outcome) × ((t : Option Bool) × (x ≡ truth t) × (y ≡ code_of_truth t)) × OrCode o y
      code_of_form world o x (inl given) form =
          let b = compared_truth operator given.0 given.1 o given.4 in
          let same = given_itself o (boolean b.0) x b.1 form in
          (code_of_truth (Some b.0), (Some b.0, same, refl), value_code o b.0 (code_of_truth (Some b.0)) b.1 (code_is (Some b.0) ∙ ap coded (sym b.1)))
      code_of_form world o x (inr fault) form =
          let t = fault_itself o x fault.0 form in
          (code_of_truth t.0, (t.0, t.1, refl), fault_code_form o t.0 (code_of_truth t.0) fault.0 (code_is t.0))

  module _ (level : ℕ) (choices : List Bool) (are : AreChosen choices (left ∷ right ∷ [])) (is_first : slice_get (within_let level choices (left ∷ right ∷ [])) 0 ≡ Some first)
      (is_second : slice_get (within_let level choices (left ∷ right ∷ [])) 1 ≡ Some second) (world : World) (o : Outcome) (at : level ≡ length world.bound)
      (no_left : NoTruth left) (no_right : NoTruth right) (has : FaultyHave question.filter operator left right world o) where
    abbrev pub os : List Outcome
    os = has.left_outcome ∷ has.right_outcome ∷ []

    abbrev pub within : World
    within = extended world (map bound_value (chosen_of choices os))

    pub have : AllHave question.filter (left ∷ right ∷ []) world os
    have = (
      plain_has question.filter left.kind left.source world has.left_outcome no_left has.left_has,
      (plain_has question.filter right.kind right.source world has.right_outcome no_right has.right_has, refl),
    )

    pub plain : ArePlain (left ∷ right ∷ []) os
    plain = (has.left_plain no_left, (has.right_plain no_right, tt))

    inner : TwoInner question.filter left right first second within (without_fault has.left_outcome) (without_fault has.right_outcome)
    inner =
        two_inner question.filter left right first second level choices within (without_fault has.left_outcome) (without_fault has.right_outcome) are is_first is_second
        (subst (AllHave question.filter (within_let level choices (left ∷ right ∷ [])) within) (lifted_values choices (left ∷ right ∷ []) os are refl plain)
        (body_have question.filter world level choices (left ∷ right ∷ []) os at are have))

    loose_in : (outer within_it : Operand) (i : Outcome) (v : Val) → IsInner outer within_it → OperandHas question.filter within_it within i → i ≡ gives v → IsOfKind outer.kind v → HasLoosely question.filter within_it within v
    loose_in outer within_it i v is has_it same kind = record {
      has = subst (OperandHas question.filter within_it within) same has_it;
      kind = subst (λ (k : Kind). IsOfKind k v) (sym is.kind) kind;
    }

    -- what comes of the comparison in the body
    pub record Body : Type 0 where
      pub marked : Outcome
      pub marked_has : ComparisonHas question.filter operator first second within marked
      pub goes : (x : Outcome) → OrCode marked x → (rest : Outcome) × Coded rest x × (o ≡ faults_of os rest)

    pub body : Body
    body = by_sides has.left_outcome has.right_outcome refl refl
      where
        -- one of them is a fault
        of_fault : (f : Outcome) → IsFault f → o ≡ f → SomeNull question.filter first second within → ((rest : Outcome) → f ≡ faults_of os rest) → Body
        of_fault f fault same some stays = record {
          marked = f;
          marked_has = inr (fault, some);
          goes = λ x form. let t = code_fault f x fault form in (truth t.0, t.1, same ∙ stays (truth t.0));
        }

        left_fault : (f : Outcome) → IsFault f → has.left_outcome ≡ f → Body
        left_fault f fault is =
            let v = unfaulted_value left has.left_outcome has.left_fits in
            let w = unfaulted_value right has.right_outcome has.right_fits in
            let null_it : without_fault has.left_outcome ≡ gives null = ap without_fault is ∙ is_faulted f fault in
            let same : o ≡ f = then_fault f (λ l. Then has.right_outcome (CompareGives operator l)) fault (subst (λ (x : Outcome). Then x (λ l. Then has.right_outcome (CompareGives operator l)) o) is has.given) in
            of_fault f fault same (
              null,
              w.0,
              loose_in left first (without_fault has.left_outcome) null inner.first_is inner.first_has null_it (null_kind left.kind),
              loose_in right second (without_fault has.right_outcome) w.0 inner.second_is inner.second_has w.1 w.2,
              inl refl,
            )
            (λ rest. sym (ap (λ (x : Outcome). fault_else x (faults_of (has.right_outcome ∷ []) rest)) is ∙ stays_fault f (faults_of (has.right_outcome ∷ []) rest) fault))

        right_fault : (l : Val) (f : Outcome) → IsFault f → has.left_outcome ≡ gives l → has.right_outcome ≡ f → Body
        right_fault l f fault is there =
            let null_it : without_fault has.right_outcome ≡ gives null = ap without_fault there ∙ is_faulted f fault in
            let after : Then (gives l) (λ v. Then has.right_outcome (CompareGives operator v)) o = subst (λ (x : Outcome). Then x (λ v. Then has.right_outcome (CompareGives operator v)) o) is has.given in
            let same : o ≡ f = then_fault f (CompareGives operator l) fault (subst (λ (x : Outcome). Then x (CompareGives operator l) o) there after) in
            of_fault f fault same (
              l,
              null,
              loose_in left first (without_fault has.left_outcome) l inner.first_is inner.first_has (ap without_fault is) (has.left_fits l is).kind,
              loose_in right second (without_fault has.right_outcome) null inner.second_is inner.second_has null_it (null_kind right.kind),
              inr refl,
            )
            (λ rest. sym (ap (λ (x : Outcome). fault_else x (faults_of (has.right_outcome ∷ []) rest)) is ∙ ap (λ (x : Outcome). fault_else x rest) there ∙ stays_fault f rest fault))

        both_values : (l r : Val) → has.left_outcome ≡ gives l → has.right_outcome ≡ gives r → Body
        both_values l r is there =
            let given : CompareGives operator l r o =
            subst (λ (x : Outcome). Then x (CompareGives operator l) o) there
            (subst (λ (x : Outcome). Then x (λ v. Then has.right_outcome (CompareGives operator v)) o) is has.given) in
            let b = compared_truth operator l r o given in
            record {
              marked = o;
              marked_has = inl (
                l,
                r,
                record { has = subst (OperandHas question.filter first within) (ap without_fault is) inner.first_has; fits = inner_fits left first l inner.first_is (has.left_fits l is) },
                record { has = subst (OperandHas question.filter second within) (ap without_fault there) inner.second_has; fits = inner_fits right second r inner.second_is (has.right_fits r there) },
                given,
              );
              goes = λ x form. (
                o,
                code_value o b.0 x b.1 form,
                sym (ap (λ (y : Outcome). fault_else y (faults_of (has.right_outcome ∷ []) o)) is ∙ ap (λ (y : Outcome). fault_else y o) there),
              );
            }

        by_sides : (i j : Outcome) → has.left_outcome ≡ i → has.right_outcome ≡ j → Body
        by_sides (gives l) (gives r) is there = both_values l r is there
        by_sides (gives l) overflow is there = right_fault l overflow tt is there
        by_sides (gives l) divides_by_zero is there = right_fault l divides_by_zero tt is there
        by_sides overflow j is there = left_fault overflow tt is
        by_sides divides_by_zero j is there = left_fault divides_by_zero tt is
