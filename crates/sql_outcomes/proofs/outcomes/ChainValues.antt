-- What connectives make of outcomes, one after another.
use Rattle.sql_outcomes.proofs.Common.{◌≡◌, ◌⊎◌, inl, inr, ◌++◌, ◌∷◌, [], List, true, false, Some, None, refl, sym, ap, subst, ◌∙◌, AllByRecursion, Val, boolean, null, After, Then, Outcome, gives, overflow, divides_by_zero, LogicalGives, JoinGives, LogicalOperator, IsCoded, chained, connected}

-- the outcomes that have codes
pub data Code : Outcome → Type 0 where
  is_false : Code (gives (boolean false))
  is_true : Code (gives (boolean true))
  is_null : Code (gives null)
  is_overflow : Code overflow
  is_by_zero : Code divides_by_zero

pub code_in : (o : Outcome) → IsCoded o → Code o
code_in (gives (boolean false)) is = is_false
code_in (gives (boolean true)) is = is_true
code_in (gives null) is = is_null
code_in overflow is = is_overflow
code_in divides_by_zero is = is_by_zero
code_in _ is = absurd is

pub coded_in : (o : Outcome) → Code o → IsCoded o
coded_in _ is_false = tt
coded_in _ _ = tt

-- a connective makes an outcome with a code
pub connected_code : (c : LogicalOperator) (a b : Outcome) → Code a → Code b → Code (connected c a b)
connected_code LogicalOperator.And _ b is_false q = is_false
connected_code LogicalOperator.Or _ b is_true q = is_true
connected_code _ _ b is_overflow q = is_overflow
connected_code _ _ b is_by_zero q = is_by_zero
connected_code LogicalOperator.And _ _ is_null is_true = is_null
connected_code LogicalOperator.Or _ _ is_null is_false = is_null
connected_code LogicalOperator.And _ _ is_true is_true = is_true
connected_code LogicalOperator.Or _ _ is_false is_false = is_false
connected_code _ _ b _ q = q

-- ---- however they are grouped

-- true before `and`, and false before `or`, change nothing
pub and_true_first : (b : Outcome) → Code b → connected LogicalOperator.And (gives (boolean true)) b ≡ b
and_true_first _ is_false = refl
and_true_first _ _ = refl

pub or_false_first : (b : Outcome) → Code b → connected LogicalOperator.Or (gives (boolean false)) b ≡ b
or_false_first _ is_false = refl
or_false_first _ _ = refl

and_null_first : (b d : Outcome) → Code b → Code d
    → connected LogicalOperator.And (connected LogicalOperator.And (gives null) b) d ≡ connected LogicalOperator.And (gives null) (connected LogicalOperator.And b d)
and_null_first _ d is_true q = ap (λ (o : Outcome). connected LogicalOperator.And (gives null) o) (sym (and_true_first d q))
and_null_first _ _ is_null is_false = refl
and_null_first _ d _ q = refl

or_null_first : (b d : Outcome) → Code b → Code d
    → connected LogicalOperator.Or (connected LogicalOperator.Or (gives null) b) d ≡ connected LogicalOperator.Or (gives null) (connected LogicalOperator.Or b d)
or_null_first _ d is_false q = ap (λ (o : Outcome). connected LogicalOperator.Or (gives null) o) (sym (or_false_first d q))
or_null_first _ _ is_null is_false = refl
or_null_first _ d _ q = refl

pub grouped : (c : LogicalOperator) (a b d : Outcome) → Code a → Code b → Code d → connected c (connected c a b) d ≡ connected c a (connected c b d)
grouped LogicalOperator.And _ b d is_true q r =
    ap (λ (o : Outcome). connected LogicalOperator.And o d) (and_true_first b q) ∙ sym (and_true_first (connected LogicalOperator.And b d) (connected_code LogicalOperator.And b d q r))
grouped LogicalOperator.And _ b d is_null q r = and_null_first b d q r
grouped LogicalOperator.Or _ b d is_false q r =
    ap (λ (o : Outcome). connected LogicalOperator.Or o d) (or_false_first b q) ∙ sym (or_false_first (connected LogicalOperator.Or b d) (connected_code LogicalOperator.Or b d q r))
grouped LogicalOperator.Or _ b d is_null q r = or_null_first b d q r
grouped _ _ b d _ q r = refl

pub chained_code : (c : LogicalOperator) (o : Outcome) (ps : List Outcome) → Code o → AllByRecursion IsCoded ps → Code (chained c o ps)
chained_code c o [] is all = is
chained_code c o (p ∷ ps) is all = chained_code c (connected c o p) ps (connected_code c o p is (code_in p all.0)) all.1

-- one more before a chain
before_chain : (c : LogicalOperator) (a o : Outcome) (ps : List Outcome) → Code a → Code o → AllByRecursion IsCoded ps → chained c (connected c a o) ps ≡ connected c a (chained c o ps)
before_chain c a o [] p q all = refl
before_chain c a o (b ∷ ps) p q all =
    ap (λ (x : Outcome). chained c x ps) (grouped c a o b p q (code_in b all.0)) ∙ before_chain c a (connected c o b) ps p (connected_code c o b q (code_in b all.0)) all.1

-- two chains, one after the other
pub chained_both : (c : LogicalOperator) (o : Outcome) (ps : List Outcome) (q : Outcome) (qs : List Outcome) → Code o → AllByRecursion IsCoded ps → Code q → AllByRecursion IsCoded qs
    → chained c o (ps ++ q ∷ qs) ≡ connected c (chained c o ps) (chained c q qs)
chained_both c o [] q qs is all other more = before_chain c o q qs is other more
chained_both c o (p ∷ ps) q qs is all other more = chained_both c (connected c o p) ps q qs (connected_code c o p is (code_in p all.0)) all.1 other more

-- ---- what the filter's connectives make

after_right : (b o : Outcome) (Goes : Val → Outcome → Type 0) → After (λ r. r ≡ b) Goes o → Then b Goes o
after_right b o Goes given = subst (λ (r : Outcome). Then r Goes o) given.1.0 given.1.1

pub connective_is : (c : LogicalOperator) (a b o : Outcome) → Code a → Code b → Then a (λ l. LogicalGives c l (λ r. r ≡ b)) o → o ≡ connected c a b
connective_is LogicalOperator.And _ _ o is_true is_false given = after_right (gives (boolean false)) o (JoinGives LogicalOperator.And (Some true)) given
connective_is LogicalOperator.And _ b o is_true _ given = after_right b o (JoinGives LogicalOperator.And (Some true)) given
connective_is LogicalOperator.And _ _ o is_null is_false given = after_right (gives (boolean false)) o (JoinGives LogicalOperator.And None) given
connective_is LogicalOperator.And _ b o is_null _ given = after_right b o (JoinGives LogicalOperator.And None) given
connective_is LogicalOperator.Or _ _ o is_false is_false given = after_right (gives (boolean false)) o (JoinGives LogicalOperator.Or (Some false)) given
connective_is LogicalOperator.Or _ b o is_false _ given = after_right b o (JoinGives LogicalOperator.Or (Some false)) given
connective_is LogicalOperator.Or _ _ o is_null is_false given = after_right (gives (boolean false)) o (JoinGives LogicalOperator.Or None) given
connective_is LogicalOperator.Or _ b o is_null _ given = after_right b o (JoinGives LogicalOperator.Or None) given
connective_is _ _ b o _ q given = given

-- a value, which is no fault
abbrev pub IsValue : Outcome → Type 0
IsValue (gives v) = Unit {0}
IsValue o = ⊥

-- ---- where a chain is true, and where it is false

-- `and` is true where both are
pub and_is_true : (a b : Outcome) → Code a → Code b → (connected LogicalOperator.And a b ≡ gives (boolean true) → (a ≡ gives (boolean true)) × (b ≡ gives (boolean true)))
    × (a ≡ gives (boolean true) → b ≡ gives (boolean true) → connected LogicalOperator.And a b ≡ gives (boolean true))
and_is_true _ _ is_true is_true = (λ is. (refl, refl), λ here there. refl)
and_is_true _ _ is_null is_false = (λ is. absurd (cc), λ here there. absurd (cc))
and_is_true _ b _ q = (λ is. absurd (cc), λ here there. absurd (cc))

-- `or` is false where both are
pub or_is_false : (a b : Outcome) → Code a → Code b → (connected LogicalOperator.Or a b ≡ gives (boolean false) → (a ≡ gives (boolean false)) × (b ≡ gives (boolean false)))
    × (a ≡ gives (boolean false) → b ≡ gives (boolean false) → connected LogicalOperator.Or a b ≡ gives (boolean false))
or_is_false _ _ is_false is_false = (λ is. (refl, refl), λ here there. refl)
or_is_false _ _ is_null is_false = (λ is. absurd (cc), λ here there. absurd (cc))
or_is_false _ b _ q = (λ is. absurd (cc), λ here there. absurd (cc))

-- after a value `or` is true where one side is
pub or_is_true : (a b : Outcome) → Code a → Code b → IsValue a → (connected LogicalOperator.Or a b ≡ gives (boolean true) → (a ≡ gives (boolean true)) ⊎ (b ≡ gives (boolean true)))
    × ((a ≡ gives (boolean true)) ⊎ (b ≡ gives (boolean true)) → connected LogicalOperator.Or a b ≡ gives (boolean true))
or_is_true _ _ is_false is_true here = (λ is. inr refl, λ either. refl)
or_is_true _ _ is_true is_false here = (λ is. inl refl, λ either. refl)
or_is_true _ _ is_null is_true here = (λ is. inr refl, λ either. refl)
or_is_true _ _ is_false _ here = (λ is. absurd (cc), λ either. elim either [ inl e ↦ absurd (cc) | inr e ↦ absurd (cc) ])
or_is_true _ _ is_true _ here = (λ is. inl refl, λ either. refl)
or_is_true _ _ is_null _ here = (λ is. absurd (cc), λ either. elim either [ inl e ↦ absurd (cc) | inr e ↦ absurd (cc) ])
or_is_true _ b _ q here = absurd here

-- after a value `and` is false where one side is
pub and_is_false : (a b : Outcome) → Code a → Code b → IsValue a → (connected LogicalOperator.And a b ≡ gives (boolean false) → (a ≡ gives (boolean false)) ⊎ (b ≡ gives (boolean false)))
    × ((a ≡ gives (boolean false)) ⊎ (b ≡ gives (boolean false)) → connected LogicalOperator.And a b ≡ gives (boolean false))
and_is_false _ _ is_false is_false here = (λ is. inl refl, λ either. refl)
and_is_false _ _ is_true is_false here = (λ is. inr refl, λ either. refl)
and_is_false _ _ is_null is_false here = (λ is. inr refl, λ either. refl)
and_is_false _ _ is_false _ here = (λ is. inl refl, λ either. refl)
and_is_false _ _ is_true _ here = (λ is. absurd (cc), λ either. elim either [ inl e ↦ absurd (cc) | inr e ↦ absurd (cc) ])
and_is_false _ _ is_null _ here = (λ is. absurd (cc), λ either. elim either [ inl e ↦ absurd (cc) | inr e ↦ absurd (cc) ])
and_is_false _ b _ q here = absurd here
