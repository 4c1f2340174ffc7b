-- What the functions return that put lambda operators.
use Rattle.sql_forms.proofs.Common.{◌≡◌, ◌≢◌, ◌+◌, ◌-◌, ◌++◌, ◌∷◌, ◌∙◌, inl, inr, [], ℕ, List, Option, None, Some, Bool, true, false, Result, OnOk, length, refl, sym, ap, subst, take, arith, MatchOption, slice_get, IsMoment, Val, boolean, null, whole, Tree, Quantifier, Filter, NodeKind, EndsOnceOnEntities, HasKind, OneType, Outcome, gives, QuantifierGives, undecided_val, Range, AreMembers, nodes_of, number_of, Digit, SqlNode, Draft, Form, Grows, GrowsBy, AtMembers, IsStopAt, LambdaHas, OverHas, PutsBody, body_form, coded_undecided, missing_front, IsPathTo, PutsPath, AreRanges, IsFaultless, IsTruthAt, Has, IsAskedOf, OfPlace, Puts, Question, World, by_node, grows_then, puts_as, path_on, where_ok}
use Rattle.sql_forms.specs.Forms.{IsInForm}
use Rattle.sql_outcomes.specs.private.ValueForms.{Itself}
use Rattle.std.specs.Option.{option_to_list}
use Rattle.odata_signatures.specs.Typed.{Variable as RangeVariable}
use Rattle.sql_outcomes.proofs.nodes.MemberWorlds.{PathsAreKept, lambda_comes}
use Rattle.sql_forms.proofs.puts.BodyPut.{init_same}
use Rattle.sql_forms.proofs.puts.LambdaCodePut.{lambda_code_put}
use Rattle.sql_forms.proofs.puts.LambdaPut.{all_put, any_put, over_truth}
use Rattle.sql_forms.proofs.puts.MissingPut.{given_code_put, kept_all_put, kept_put, missing_code_put, missing_truth_put}

-- ---- drafts one after another

-- after what adds no node
pub after_nothing : (question : Question) (old middle new : Draft) (Outcomes : Has) (F : Outcome → Outcome → Type 0) → Grows old middle [] → Puts question middle new Outcomes F → Puts question old new Outcomes F
after_nothing question old middle new Outcomes F grows put = record { t = put.t; shaped = put.shaped; grows = grows_then old middle new [] (nodes_of put.t) grows put.grows; says = put.says }

-- ---- the body

module _ (question : Question) {T E : Type 0} (r : Result T E) where
  -- by its code or not
  pub ok_by : (by_code own : Bool) (place : ℕ) (old new : Draft) → by_code ≡ own → OnOk r (Puts question old new (OfPlace question.filter place) (IsInForm (body_form own)))
      → OnOk r (Puts question old new (OfPlace question.filter place) (IsInForm (body_form by_code)))
  ok_by by_code own place old new is put = subst (λ (b : Bool). OnOk r (Puts question old new (OfPlace question.filter place) (IsInForm (body_form b)))) (sym is) put

-- what is pushed last is popped
not_empty : (xs : List ℕ) (x : ℕ) → xs ++ x ∷ [] ≡ [] → ⊥
not_empty [] x is = cc
not_empty (y ∷ xs) x is = cc

pub popped_one : (xs all new : List ℕ) (x n m : ℕ) (r : Option ℕ) → all ≡ xs ++ x ∷ [] → all ≡ new ++ option_to_list r → MatchOption r ((n ≡ 0) × (m ≡ 0)) (λ _. m + 1 ≡ n) → new ≡ take (n - 1) all
    → (last : ℕ) × (all ≡ new ++ last ∷ [])
popped_one xs all new x n m (Some last) own items cases rest = (last, items)
popped_one xs all new x n m None own items cases rest =
    let none : n ≡ 0 = cases.0 in
    let emptied : new ≡ [] = rest ∙ ap (λ (k : ℕ). take (k - 1) all) none in
    let gone : all ≡ [] = items ∙ ap (λ (ys : List ℕ). ys ++ []) emptied in
    absurd (not_empty xs x (sym own ∙ gone))

-- between the draft that has the member bound and the one that has it no more
pub body_made : (question : Question) (old before after new : Draft) (body last : ℕ) (F : Outcome → Outcome → Type 0) → before.tree ≡ old.tree → before.members.items ≡ old.members.items ++ old.depth ∷ []
    → before.depth ≡ old.depth + 1 → Puts question before after (OfPlace question.filter body) F → new.tree ≡ after.tree → after.members.items ≡ new.members.items ++ last ∷ [] → new.depth + 1 ≡ after.depth
    → PutsBody question old new (OfPlace question.filter body) F
body_made question old before after new body last F tree members depth put new_tree popped new_depth =
    let both : old.members.items ++ old.depth ∷ [] ≡ new.members.items ++ last ∷ [] = sym (put.grows.members ∙ members) ∙ popped in
    let same : old.members.items ≡ new.members.items = init_same old.members.items new.members.items old.depth last both in
    let grown : after.depth ≡ before.depth = put.grows.depth in
    let depth_is : old.depth ≡ new.depth = omega (arith, grown, depth, new_depth) in
    record {
      before = before;
      after = after;
      begins = record { tree = tree; members = members; depth = depth };
      ends = record {
        tree = sym new_tree;
        members = put.grows.members ∙ members ∙ ap (λ (ls : List ℕ). ls ++ old.depth ∷ []) same ∙ ap (λ (n : ℕ). new.members.items ++ n ∷ []) depth_is;
        depth = sym new_depth;
      };
      put = put;
    }

-- ---- the members

module _ (question : Question) (ranges : List Range) (are : AreRanges question ranges) (ends : EndsOnceOnEntities) (is_moment : IsMoment question.now.civil question.now.offset_minutes)
    (quantifier : Quantifier) (place path body : ℕ) (is_truth : IsTruthAt question.filter body) (stops : IsStopAt question.filter (place + 1) body) {T E : Type 0} (r : Result T E) where
  module _ (faultless : IsFaultless ranges body) where
    pub ok_any : (old middle new : Draft) → quantifier ≡ Quantifier.Any → GrowsBy old middle (SqlNode.Exists path old.depth ∷ []) [] [] → IsPathTo question old (place + 1) path
        → OnOk r (PutsBody question middle new (OfPlace question.filter body) (IsInForm Form.Keeps)) → OnOk r (Puts question old new (OverHas question.filter quantifier place) Itself)
    ok_any old middle new is grows leads put =
        subst (λ (q : Quantifier). OnOk r (Puts question old new (OverHas question.filter q place) Itself)) (sym is)
        (where_ok (any_put question ends is_moment ranges are body is_truth faultless place path old.depth stops old middle new refl (by_node old middle (SqlNode.Exists path old.depth) refl grows) leads) r put)

    pub ok_all : (old d1 d2 d3 d4 new : Draft) → quantifier ≡ Quantifier.All → GrowsBy old d1 (SqlNode.Not ∷ []) [] [] → GrowsBy d1 d2 (SqlNode.Exists path old.depth ∷ []) [] []
        → GrowsBy d2 d3 (SqlNode.Not ∷ []) [] [] → GrowsBy d3 d4 (SqlNode.IsTrue ∷ []) [] [] → IsPathTo question old (place + 1) path
        → OnOk r (PutsBody question d4 new (OfPlace question.filter body) (IsInForm Form.Keeps)) → OnOk r (Puts question old new (OverHas question.filter quantifier place) Itself)
    ok_all old d1 d2 d3 d4 new is first second third fourth leads put =
        let grows = by_node old d1 SqlNode.Not refl first in
        subst (λ (q : Quantifier). OnOk r (Puts question old new (OverHas question.filter q place) Itself)) (sym is)
        (where_ok (all_put question ends is_moment ranges are body is_truth faultless place path old.depth stops old d1 d2 d3 d4 new (sym first.depth) grows (by_node d1 d2 (SqlNode.Exists path old.depth) refl second)
        (by_node d2 d3 SqlNode.Not refl third) (by_node d3 d4 SqlNode.IsTrue refl fourth) (path_on question old (place + 1) path leads d1 (SqlNode.Not ∷ []) grows)) r put)

  pub ok_decided : (n : Digit) → gives (whole (number_of n)) ≡ coded_undecided quantifier → (d0 d1 d2 d3 d4 d5 d6 new : Draft) → GrowsBy d0 d1 (SqlNode.Coalesce ∷ []) [] [] → GrowsBy d1 d2 (SqlNode.Bits ∷ []) [] []
      → GrowsBy d2 d3 (SqlNode.Least path d0.depth ∷ []) [] [] → GrowsBy d3 d4 (SqlNode.Decided quantifier d0.depth ∷ []) [] [] → IsPathTo question d0 (place + 1) path
      → PutsBody question d4 d5 (OfPlace question.filter body) (IsInForm Form.Code) → GrowsBy d5 d6 (SqlNode.Number Digit.Seven ∷ []) [] [] → OnOk r (GrowsBy d6 new (SqlNode.Number n ∷ []) [] [])
      → OnOk r (Puts question d0 new (OverHas question.filter quantifier place) (IsInForm Form.Code))
  ok_decided n is d0 d1 d2 d3 d4 d5 d6 new g1 g2 g3 g4 leads b g6 put =
      let two = grows_then d0 d1 d2 (SqlNode.Coalesce ∷ []) (SqlNode.Bits ∷ []) (by_node d0 d1 SqlNode.Coalesce refl g1) (by_node d1 d2 SqlNode.Bits refl g2) in
      where_ok (λ (g : GrowsBy d6 new (SqlNode.Number n ∷ []) [] []). lambda_code_put question ends is_moment quantifier place body is_truth path d0.depth n is d0 d1 d2 d3 d4 d5 d6 new stops (sym two.depth) (by_node d0 d1 SqlNode.Coalesce refl g1)
      (by_node d1 d2 SqlNode.Bits refl g2) (by_node d2 d3 (SqlNode.Least path d0.depth) refl g3) (by_node d3 d4 (SqlNode.Decided quantifier d0.depth) refl g4)
      (path_on question d0 (place + 1) path leads d2 (SqlNode.Coalesce ∷ SqlNode.Bits ∷ []) two) b (by_node d5 d6 (SqlNode.Number Digit.Seven) refl g6) (by_node d6 new (SqlNode.Number n) refl g)) r put

-- ---- the operator

pub any_of : (quantifier : Quantifier) → quantifier ≢ Quantifier.All → quantifier ≡ Quantifier.Any
any_of Quantifier.Any other = refl
any_of Quantifier.All other = absurd (other refl)

none_decides : (quantifier : Quantifier) (filter : Filter) (body : ℕ) (tree : Tree) (world : World) (variable : RangeVariable) (members : List Val) (o : Outcome) → members ≡ []
    → QuantifierGives quantifier (length members) (AtMembers filter body tree world variable members) o → o ≡ gives (undecided_val quantifier)
none_decides quantifier filter body tree world variable members o none given =
    by (subst (λ (ms : List Val). QuantifierGives quantifier (length ms) (AtMembers filter body tree world variable ms) o) none given)
  where
    by : QuantifierGives quantifier 0 (AtMembers filter body tree world variable []) o → o ≡ gives (undecided_val quantifier)
    by (inl decides) = absurd decides.here.1.0
    by (inr passes) = passes.is

module _ (question : Question) (types : OneType) (ends : EndsOnceOnEntities) (is_moment : IsMoment question.now.civil question.now.offset_minutes) (paths : PathsAreKept question)
    (ranges : List Range) (are : AreRanges question ranges) (quantifier : Quantifier) (place : ℕ) (here : HasKind question.filter.list place (NodeKind.Lambda quantifier)) (path : ℕ)
    {T E : Type 0} (r : Result T E) (d0 d1 : Draft) (leads : PutsPath question d0 d1 (place + 1) path) where
  -- what the operator evaluates to, after the path
  of_lambda : (F : Outcome → Outcome → Type 0) (new : Draft) → Puts question d1 new (LambdaHas question.filter quantifier place) F → Puts question d0 new (OfPlace question.filter place) F
  of_lambda F new put =
      after_nothing question d0 d1 new (OfPlace question.filter place) F leads.grows
      (puts_as question d1 new (LambdaHas question.filter quantifier place) (OfPlace question.filter place) F F put
      (λ world o is has. (o, lambda_comes question types ends is_moment paths quantifier place here world is.seen o has, λ x form. form)))

  module _ (range : Range) (at : slice_get ranges (place + 1) ≡ Some range) where
    pub ok_lambda : (d2 new : Draft) → Grows d1 d2 (missing_front range.may_be_null path) → OnOk r (Puts question d2 new (OverHas question.filter quantifier place) Itself)
        → OnOk r (Puts question d0 new (OfPlace question.filter place) (IsInForm Form.Truth))
    ok_lambda d2 new front put =
        where_ok (λ (p : Puts question d2 new (OverHas question.filter quantifier place) Itself). of_lambda (IsInForm Form.Truth) new (missing_truth_put question quantifier place path ranges are range at d1 d2 new leads.leads front p)) r put

    pub ok_given_code : range.may_be_null ≡ false → (new : Draft) → OnOk r (Puts question d1 new (OverHas question.filter quantifier place) (IsInForm Form.Code))
        → OnOk r (Puts question d0 new (OfPlace question.filter place) (IsInForm Form.Code))
    ok_given_code none new put =
        where_ok (λ (p : Puts question d1 new (OverHas question.filter quantifier place) (IsInForm Form.Code)). of_lambda (IsInForm Form.Code) new (given_code_put question quantifier place path ranges are range at none d1 new p)) r put

  pub ok_missing_code : (d2 d3 d4 new : Draft) → GrowsBy d1 d2 (SqlNode.Case ∷ []) [] [] → GrowsBy d2 d3 (SqlNode.IsMissing path ∷ []) [] [] → GrowsBy d3 d4 (SqlNode.Number Digit.Two ∷ []) [] []
      → OnOk r (Puts question d4 new (OverHas question.filter quantifier place) (IsInForm Form.Code)) → OnOk r (Puts question d0 new (OfPlace question.filter place) (IsInForm Form.Code))
  ok_missing_code d2 d3 d4 new g1 g2 g3 put =
      let front : Grows d1 d4 (SqlNode.Case ∷ SqlNode.IsMissing path ∷ SqlNode.Number Digit.Two ∷ []) =
      grows_then d1 d2 d4 (SqlNode.Case ∷ []) (SqlNode.IsMissing path ∷ SqlNode.Number Digit.Two ∷ []) (by_node d1 d2 SqlNode.Case refl g1)
      (grows_then d2 d3 d4 (SqlNode.IsMissing path ∷ []) (SqlNode.Number Digit.Two ∷ []) (by_node d2 d3 (SqlNode.IsMissing path) refl g2) (by_node d3 d4 (SqlNode.Number Digit.Two) refl g3)) in
      where_ok (λ (p : Puts question d4 new (OverHas question.filter quantifier place) (IsInForm Form.Code)). of_lambda (IsInForm Form.Code) new (missing_code_put question quantifier place path d1 d4 new leads.leads front p)) r put

  -- ---- true exactly where it is

  module _ (body : ℕ) (is_truth : IsTruthAt question.filter body) (faultless : IsFaultless ranges body) (stops : IsStopAt question.filter (place + 1) body) where
    truths : (world : World) (seen : IsAskedOf question world) (o : Outcome) → OverHas question.filter quantifier place world o → (b : Bool) × (o ≡ gives (boolean b))
    truths world seen o over = over_truth question ends is_moment ranges are body is_truth faultless place path 0 stops quantifier world seen o over

    pub ok_kept_given : ((world : World) (seen : IsAskedOf question world) (o : Outcome) (over : OverHas question.filter quantifier place world o) → over.collection ≡ null → o ≡ gives (boolean false)) → (new : Draft)
        → OnOk r (Puts question d1 new (OverHas question.filter quantifier place) Itself) → OnOk r (Puts question d0 new (OfPlace question.filter place) (IsInForm Form.Keeps))
    ok_kept_given of_null new put =
        where_ok (λ (p : Puts question d1 new (OverHas question.filter quantifier place) Itself). of_lambda (IsInForm Form.Keeps) new (kept_put question quantifier place path truths of_null d1 new p)) r put

    pub ok_kept_all : (d2 d3 d4 new : Draft) → GrowsBy d1 d2 (SqlNode.And ∷ []) [] [] → GrowsBy d2 d3 (SqlNode.Not ∷ []) [] [] → GrowsBy d3 d4 (SqlNode.IsMissing path ∷ []) [] []
        → OnOk r (Puts question d4 new (OverHas question.filter quantifier place) Itself) → OnOk r (Puts question d0 new (OfPlace question.filter place) (IsInForm Form.Keeps))
    ok_kept_all d2 d3 d4 new g1 g2 g3 put =
        where_ok (λ (p : Puts question d4 new (OverHas question.filter quantifier place) Itself). of_lambda (IsInForm Form.Keeps) new
        (kept_all_put question quantifier place path truths d1 d2 d3 d4 new leads.leads (by_node d1 d2 SqlNode.And refl g1) (by_node d2 d3 SqlNode.Not refl g2) (by_node d3 d4 (SqlNode.IsMissing path) refl g3) p)) r put

  -- over null `any` is false
  pub null_any : quantifier ≡ Quantifier.Any → (world : World) (seen : IsAskedOf question world) (o : Outcome) (over : OverHas question.filter quantifier place world o) → over.collection ≡ null → o ≡ gives (boolean false)
  null_any is world seen o over none =
      let members : over.members ≡ [] = subst (λ (v : Val). AreMembers v over.members) none over.are in
      none_decides quantifier question.filter over.body over.tree world over.variable over.members o members over.given ∙ ap (λ (q : Quantifier). gives (undecided_val q)) is

  -- and where the collection is never null, nothing comes of null
  pub null_never : (range : Range) → slice_get ranges (place + 1) ≡ Some range → range.may_be_null ≡ false → (world : World) (seen : IsAskedOf question world) (o : Outcome)
      (over : OverHas question.filter quantifier place world o) → over.collection ≡ null → o ≡ gives (boolean false)
  null_never range at given world seen o over none =
      let of_null : OfPlace question.filter (place + 1) world (gives null) = subst (λ (v : Val). OfPlace question.filter (place + 1) world (gives v)) none over.has in
      let may : range.may_be_null ≡ true = are.within (place + 1) range world (gives null) at seen of_null in
      let clash : false ≡ true = sym given ∙ may in
      absurd (cc)
