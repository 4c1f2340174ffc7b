-- Terms joined to chains.
use Rattle.sql_forms.proofs.Common.{◌≡◌, ◌++◌, ◌∷◌, [], ℕ, List, Bool, true, false, Option, Some, None, refl, sym, ap, subst, ◌∙◌, slice_get, AllByRecursion, boolean, Filter, some_there, Then, Outcome, gives, LogicalGives, and3, or3, IsWithin, Range, LogicalOperator, IsCoded, truth, NodeMeans, SqlMeans, Asked, Bound, IsTableOf, Term, no_terms, more_terms, LookUp, SqlNode, Draft, Form, ChainHas, IsChain, IsJoin, IsOfBoth, IsOfValues, TermsHave, chained, connected, Grows, AreRanges, IsFaultless, IsAskedOf, OfPlace, Puts, Question, World, puts_as, puts_two, arity}
use Rattle.sql_forms.specs.Forms.{IsInForm}
use Rattle.sql_outcomes.proofs.outcomes.ChainValues.{Code, IsValue, and_is_false, and_is_true, chained_both, chained_code, code_in, coded_in, connected_code, is_by_zero, is_false, is_null, is_overflow, is_true, or_is_false, or_is_true}
use Rattle.sql_outcomes.proofs.outcomes.CodeTables.{coded, looked_connective}
use Rattle.sql_outcomes.proofs.outcomes.Operators.{looked_two_means}
use Rattle.sql_forms.proofs.puts.OrNullsPut.{and_node, or_node}
use Rattle.sql_outcomes.proofs.outcomes.Truths.{kept_and, kept_or}
use Rattle.sql_outcomes.proofs.outcomes.Elements.{front_all, rest_all}

-- ---- two outcomes

-- a truth value or null
pub value_truth : (o : Outcome) → Code o → IsValue o → (s : Option Bool) × (o ≡ truth s)
value_truth _ is_false value = (Some false, refl)
value_truth _ is_true value = (Some true, refl)
value_truth _ is_null value = (None, refl)
value_truth _ _ value = absurd value

and_of : (s t : Option Bool) → connected LogicalOperator.And (truth s) (truth t) ≡ truth (and3 s t)
and_of (Some false) (Some false) = refl
and_of (Some true) (Some false) = refl
and_of None (Some false) = refl
and_of s t = refl

or_of : (s t : Option Bool) → connected LogicalOperator.Or (truth s) (truth t) ≡ truth (or3 s t)
or_of (Some false) (Some false) = refl
or_of (Some true) (Some false) = refl
or_of None (Some false) = refl
or_of s t = refl

-- the outcome is what the filter's connective makes
pub gives_connected : (c : LogicalOperator) (a b : Outcome) → Code a → Code b → Then a (λ l. LogicalGives c l (λ r. r ≡ b)) (connected c a b)
gives_connected LogicalOperator.And _ _ is_true is_false = (gives (boolean false), (refl, refl))
gives_connected LogicalOperator.And _ b is_true _ = (b, (refl, refl))
gives_connected LogicalOperator.And _ _ is_null is_false = (gives (boolean false), (refl, refl))
gives_connected LogicalOperator.And _ b is_null _ = (b, (refl, refl))
gives_connected LogicalOperator.Or _ _ is_false is_false = (gives (boolean false), (refl, refl))
gives_connected LogicalOperator.Or _ b is_false _ = (b, (refl, refl))
gives_connected LogicalOperator.Or _ _ is_null is_false = (gives (boolean false), (refl, refl))
gives_connected LogicalOperator.Or _ b is_null _ = (b, (refl, refl))
gives_connected _ _ b _ q = refl

-- what a node makes of the terms below it
abbrev pub Joins : SqlNode → Outcome → Outcome → Outcome → Type 0
Joins join x y z =
    (asked : Asked) (bound : Bound) (a b : Term) → SqlMeans asked bound a x → SqlMeans asked bound b y → NodeMeans asked bound join (more_terms a (more_terms b no_terms)) z

and_joins : (s t : Option Bool) (x y : Outcome) → x ≡ truth s → y ≡ truth t → Joins SqlNode.And x y (truth (and3 s t))
and_joins s t x y one two asked bound a b first second = and_node asked bound a b x y (truth (and3 s t)) first second (s, t, one, two, refl)

or_joins : (s t : Option Bool) (x y : Outcome) → x ≡ truth s → y ≡ truth t → Joins SqlNode.Or x y (truth (or3 s t))
or_joins s t x y one two asked bound a b first second = or_node asked bound a b x y (truth (or3 s t)) first second (s, t, one, two, refl)

code_joins : (table : LookUp) (c : LogicalOperator) → IsTableOf table c → (p q x y : Outcome) → Code p → Code q → x ≡ coded p → y ≡ coded q
    → Joins (SqlNode.LookUp table) x y (coded (connected c p q))
code_joins table c law p q x y is_p is_q one two asked bound a b first second =
    looked_two_means asked bound table a b (coded p) (coded q) (coded (connected c p q)) (subst (SqlMeans asked bound a) one first) (subst (SqlMeans asked bound b) two second)
    (looked_connective table c law p q (connected c p q) (coded_in p is_p) (coded_in q is_q) (gives_connected c p q is_p is_q))

-- the laws of the tables
pub record TableLaws : Type 0 where
  pub and_table : IsTableOf LookUp.And LogicalOperator.And
  pub or_table : IsTableOf LookUp.Or LogicalOperator.Or

abbrev Joined : Form → SqlNode → LogicalOperator → Outcome → Outcome → Type 0
Joined form join c p q =
    (x y : Outcome) → IsInForm form p x → IsInForm form q y → (z : Outcome) × Joins join x y z × IsInForm form (connected c p q) z

joined_truths : (join : SqlNode) (c : LogicalOperator) (joint : Option Bool → Option Bool → Option Bool) → ((s t : Option Bool) → connected c (truth s) (truth t) ≡ truth (joint s t))
    → ((s t : Option Bool) (x y : Outcome) → x ≡ truth s → y ≡ truth t → Joins join x y (truth (joint s t))) → (p q : Outcome) → Code p → Code q → IsValue p × IsValue q → Joined Form.Truth join c p q
joined_truths join c joint connected_is joins p q is_p is_q values x y one two =
    let s = value_truth p is_p values.0 in
    let t = value_truth q is_q values.1 in (
      truth (joint s.0 t.0),
      joins s.0 t.0 x y (one ∙ s.1) (two ∙ t.1),
      sym (ap (λ (o : Outcome). connected c o q) s.1 ∙ ap (λ (o : Outcome). connected c (truth s.0) o) t.1 ∙ connected_is s.0 t.0),
    )

joined_by : TableLaws → (form : Form) (join : SqlNode) (c : LogicalOperator) → IsJoin form join c → (p q : Outcome) → Code p → Code q → (IsOfValues form join → IsValue p) → (IsOfBoth form → IsValue q) → Joined form join c p q
joined_by laws Form.Truth SqlNode.And LogicalOperator.And is p q is_p is_q first second = joined_truths SqlNode.And LogicalOperator.And and3 and_of and_joins p q is_p is_q (first tt, second tt)
joined_by laws Form.Truth SqlNode.Or LogicalOperator.Or is p q is_p is_q first second = joined_truths SqlNode.Or LogicalOperator.Or or3 or_of or_joins p q is_p is_q (first tt, second tt)
joined_by laws Form.Code (SqlNode.LookUp LookUp.And) LogicalOperator.And is p q is_p is_q first second =
    λ x y one two. (coded (connected LogicalOperator.And p q), code_joins LookUp.And LogicalOperator.And laws.and_table p q x y is_p is_q one two, refl)
joined_by laws Form.Code (SqlNode.LookUp LookUp.Or) LogicalOperator.Or is p q is_p is_q first second =
    λ x y one two. (coded (connected LogicalOperator.Or p q), code_joins LookUp.Or LogicalOperator.Or laws.or_table p q x y is_p is_q one two, refl)
joined_by laws Form.Keeps SqlNode.And LogicalOperator.And is p q is_p is_q first second = λ x y one two.
    let k = kept_and (p ≡ gives (boolean true)) (q ≡ gives (boolean true)) (connected LogicalOperator.And p q ≡ gives (boolean true)) x y (and_is_true p q is_p is_q).0 (and_is_true p q is_p is_q).1 one two in
    (truth (and3 k.0 k.1), and_joins k.0 k.1 x y k.2 k.3, k.4)
joined_by laws Form.Denies SqlNode.And LogicalOperator.Or is p q is_p is_q first second = λ x y one two.
    let k = kept_and (p ≡ gives (boolean false)) (q ≡ gives (boolean false)) (connected LogicalOperator.Or p q ≡ gives (boolean false)) x y (or_is_false p q is_p is_q).0 (or_is_false p q is_p is_q).1 one two in
    (truth (and3 k.0 k.1), and_joins k.0 k.1 x y k.2 k.3, k.4)
joined_by laws Form.Keeps SqlNode.Or LogicalOperator.Or is p q is_p is_q first second = λ x y one two.
    let e = or_is_true p q is_p is_q (first tt) in
    let k = kept_or (p ≡ gives (boolean true)) (q ≡ gives (boolean true)) (connected LogicalOperator.Or p q ≡ gives (boolean true)) x y e.0 e.1 one two in
    (truth (or3 k.0 k.1), or_joins k.0 k.1 x y k.2 k.3, k.4)
joined_by laws Form.Denies SqlNode.Or LogicalOperator.And is p q is_p is_q first second = λ x y one two.
    let e = and_is_false p q is_p is_q (first tt) in
    let k = kept_or (p ≡ gives (boolean false)) (q ≡ gives (boolean false)) (connected LogicalOperator.And p q ≡ gives (boolean false)) x y e.0 e.1 one two in
    (truth (or3 k.0 k.1), or_joins k.0 k.1 x y k.2 k.3, k.4)
joined_by laws form join c is p q is_p is_q first second = absurd is

-- ---- two chains

-- outcomes of the front and of the rest
record Parted (filter : Filter) (front rest : List ℕ) (world : World) (first : Outcome) (more : List Outcome) : Type 0 where
  front_more : List Outcome
  next : Outcome
  next_more : List Outcome
  is : more ≡ front_more ++ next ∷ next_more
  front_have : TermsHave filter front world (first ∷ front_more)
  rest_have : TermsHave filter rest world (next ∷ next_more)

parted : (filter : Filter) (place : ℕ) (front : List ℕ) (other : ℕ) (rest : List ℕ) (world : World) (first : Outcome) (more : List Outcome)
    → TermsHave filter ((place ∷ front) ++ other ∷ rest) world (first ∷ more) → Parted filter (place ∷ front) (other ∷ rest) world first more
parted filter place [] other rest world first [] have = absurd have.1
parted filter place [] other rest world first (next ∷ more) have = record {
  front_more = [];
  next = next;
  next_more = more;
  is = refl;
  front_have = (have.0, refl);
  rest_have = have.1;
}
parted filter place (second ∷ front) other rest world first [] have = absurd have.1
parted filter place (second ∷ front) other rest world first (o ∷ more) have =
    let p = parted filter second front other rest world o more have.1 in
    record {
      front_more = o ∷ p.front_more;
      next = p.next;
      next_more = p.next_more;
      is = ap (λ (os : List Outcome). o ∷ os) p.is;
      front_have = (have.0, p.front_have);
      rest_have = p.rest_have;
    }

-- a chain of values evaluates to a value
connected_value : (c : LogicalOperator) (a b : Outcome) → Code a → Code b → IsValue a → IsValue b → IsValue (connected c a b)
connected_value LogicalOperator.And _ _ is_true is_false one two = two
connected_value LogicalOperator.And _ _ is_null is_false one two = two
connected_value LogicalOperator.Or _ _ is_false is_false one two = two
connected_value LogicalOperator.Or _ _ is_null is_false one two = two
connected_value LogicalOperator.And _ _ is_false q one two = tt
connected_value LogicalOperator.Or _ _ is_true q one two = tt
connected_value d _ _ is_overflow q one two = absurd one
connected_value d _ _ is_by_zero q one two = absurd one
connected_value d _ _ _ q one two = two

chained_value : (c : LogicalOperator) (o : Outcome) (ps : List Outcome) → Code o → IsValue o → AllByRecursion IsCoded ps → AllByRecursion IsValue ps → IsValue (chained c o ps)
chained_value c o [] is value coded_all values = value
chained_value c o (p ∷ ps) is value coded_all values =
    chained_value c (connected c o p) ps (connected_code c o p is (code_in p coded_all.0)) (connected_value c o p is (code_in p coded_all.0) value values.0) coded_all.1 values.1

-- what joins terms joins two
join_two : (form : Form) (join : SqlNode) (c : LogicalOperator) → IsJoin form join c → arity join ≡ 2
join_two Form.Truth SqlNode.And LogicalOperator.And is = refl
join_two Form.Truth SqlNode.Or LogicalOperator.Or is = refl
join_two Form.Code (SqlNode.LookUp LookUp.And) LogicalOperator.And is = refl
join_two Form.Code (SqlNode.LookUp LookUp.Or) LogicalOperator.Or is = refl
join_two Form.Keeps SqlNode.And LogicalOperator.And is = refl
join_two Form.Keeps SqlNode.Or LogicalOperator.Or is = refl
join_two Form.Denies SqlNode.And LogicalOperator.Or is = refl
join_two Form.Denies SqlNode.Or LogicalOperator.And is = refl
join_two form node c is = absurd is

module _ (question : Question) (laws : TableLaws) (form : Form) (join : SqlNode) (c : LogicalOperator) (is_join : IsJoin form join c) where
  -- terms at these indices evaluate to no faults
  abbrev pub Valued : List ℕ → Type 0
  Valued places =
      (world : World) (first : Outcome) (more : List Outcome) → IsAskedOf question world → TermsHave question.filter places world (first ∷ more) → IsValue first × AllByRecursion IsValue more

  pub joined_put : (place : ℕ) (front : List ℕ) (other : ℕ) (rest : List ℕ) (old middle next new : Draft) → (IsOfValues form join → Valued (place ∷ front)) → (IsOfBoth form → Valued (other ∷ rest))
      → Grows old middle (join ∷ []) → Puts question middle next (ChainHas question.filter c (place ∷ front)) (IsInForm form)
      → Puts question next new (ChainHas question.filter c (other ∷ rest)) (IsInForm form)
      → Puts question old new (ChainHas question.filter c ((place ∷ front) ++ other ∷ rest)) (IsInForm form)
  joined_put place front other rest old middle next new front_valued rest_valued grows first second =
      puts_two question join (join_two form join c is_join) (Joins join) old middle next new (ChainHas question.filter c (place ∷ front)) (ChainHas question.filter c (other ∷ rest))
      (ChainHas question.filter c ((place ∷ front) ++ other ∷ rest)) (IsInForm form) (IsInForm form) (IsInForm form)
      (λ asked bound a b x y z one two op. op asked bound a b one two) grows first second
      (λ world o is has.
      let p = parted question.filter place front other rest world has.first has.rest has.have in
      let all = subst (AllByRecursion IsCoded) p.is has.coded.1 in
      let first_code = code_in has.first has.coded.0 in
      let front_coded = front_all IsCoded p.front_more (p.next ∷ p.next_more) all in
      let rest_coded = rest_all IsCoded p.front_more (p.next ∷ p.next_more) all in
      let next_code = code_in p.next rest_coded.0 in
      let l = chained c has.first p.front_more in
      let r = chained c p.next p.next_more in
      let same : o ≡ connected c l r = has.is ∙ ap (λ (os : List Outcome). chained c has.first os) p.is ∙ chained_both c has.first p.front_more p.next p.next_more first_code front_coded next_code rest_coded.1 in (
        l,
        r,
        record { first = has.first; rest = p.front_more; have = p.front_have; coded = (has.coded.0, front_coded); is = refl },
        record { first = p.next; rest = p.next_more; have = p.rest_have; coded = rest_coded; is = refl },
        λ x y one two.
            let j = joined_by laws form join c is_join l r (chained_code c has.first p.front_more first_code front_coded) (chained_code c p.next p.next_more next_code rest_coded.1)
            (λ of_values. let v = front_valued of_values world has.first p.front_more is.seen p.front_have in chained_value c has.first p.front_more first_code v.0 front_coded v.1)
            (λ of_both. let v = rest_valued of_both world p.next p.next_more is.seen p.rest_have in chained_value c p.next p.next_more next_code v.0 rest_coded.1 v.1) x y one two in
            (j.0, j.1, subst (λ (q : Outcome). IsInForm form q j.0) (sym same) j.2),
      ))

-- a chain of one term
pub single_chain : (question : Question) (form : Form) (c : LogicalOperator) (place : ℕ) (old new : Draft) → Puts question old new (OfPlace question.filter place) (IsInForm form)
    → Puts question old new (ChainHas question.filter c (place ∷ [])) (IsInForm form)
single_chain question form c place old new inner =
    puts_as question old new (OfPlace question.filter place) (ChainHas question.filter c (place ∷ [])) (IsInForm form) (IsInForm form) inner
    (λ world o is has.
    let none : has.rest ≡ [] = has.have.1 in
    let same : o ≡ has.first = has.is ∙ ap (λ (os : List Outcome). chained c has.first os) none in
    (has.first, has.have.0, λ x form_of. subst (λ (p : Outcome). IsInForm form p x) (sym same) form_of))

-- a node that is the top of a chain
pub chain_put : (question : Question) (form : Form) (c : LogicalOperator) (place : ℕ) (terms : List ℕ) (old new : Draft) → IsChain question c place terms
    → Puts question old new (ChainHas question.filter c terms) (IsInForm form) → Puts question old new (OfPlace question.filter place) (IsInForm form)
chain_put question form c place terms old new chain inner =
    puts_as question old new (ChainHas question.filter c terms) (OfPlace question.filter place) (IsInForm form) (IsInForm form) inner
    (λ world o is has. (o, chain.says world o is.seen has, λ x form_of. form_of))

-- terms that are faultless evaluate to values
pub faultless_valued : (question : Question) (ranges : List Range) → AreRanges question ranges → (places : List ℕ) → AllByRecursion (IsFaultless ranges) places
    → (world : World) (os : List Outcome) → IsAskedOf question world → TermsHave question.filter places world os → AllByRecursion IsValue os
faultless_valued question ranges are [] all world os seen have = subst (AllByRecursion IsValue) (sym have) tt
faultless_valued question ranges are (place ∷ places) all world [] seen have = absurd have
faultless_valued question ranges are (place ∷ places) all world (o ∷ os) seen have = (value_of_place o have.0, faultless_valued question ranges are places all.1 world os seen have.1)
  where
    value_of_place : (p : Outcome) → OfPlace question.filter place world p → IsValue p
    value_of_place p has =
        let r = some_there (λ (range : Range). range.may_fault ≡ false) (slice_get ranges place) all.0 in
        of_within p r.0 r.1.1 (are.within place r.0 world p r.1.0 seen has)
      where
        of_within : (q : Outcome) (range : Range) → range.may_fault ≡ false → IsWithin range q → IsValue q
        of_within (gives v) range plain within = tt
        of_within _ range plain within = let clash : false ≡ true = sym plain ∙ within in absurd (cc)
