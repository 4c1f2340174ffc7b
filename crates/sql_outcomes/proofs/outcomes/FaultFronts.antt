-- Faults of bound operands that stand before what comes of the others.
use Rattle.sql_outcomes.proofs.Common.{◌≡◌, ◌++◌, ◌∷◌, [], ◌+◌, ℕ, List, Option, Some, None, map, length, refl, sym, ap, subst, ◌∙◌, append_assoc, append-nil, arith, length-append, slice_get, there_found, Outcome, fault_code, SqlMeans, Asked, Bound, BoundValue, bound_value, Term, term, no_terms, more_terms, nodes_of, Carrier, SqlNode, Operand, carrier_in, fault_by, fault_front, faults_front, first_fault, IsShaped}
use Rattle.sql_outcomes.proofs.outcomes.Apart.{at_end}
use Rattle.sql_outcomes.proofs.outcomes.CodeTables.{coded}
use Rattle.sql_outcomes.proofs.outcomes.Lifting.{fault_again, fault_code_first, fault_first, fault_or_null}

-- a term after the fault of one that is bound
abbrev pub after_fault : Option Carrier → ℕ → Option Carrier → Term → Term
after_fault carrier level None t = t
after_fault None level (Some own) t =
    term SqlNode.Coalesce (more_terms (term (SqlNode.FaultCode own) (more_terms (term (SqlNode.Bound level) no_terms) no_terms)) (more_terms t no_terms))
after_fault (Some carrier) level (Some own) t =
    term SqlNode.Coalesce
    (more_terms (term (SqlNode.FaultOfCode carrier) (more_terms (term (SqlNode.FaultCode own) (more_terms (term (SqlNode.Bound level) no_terms) no_terms)) no_terms)) (more_terms t no_terms))

abbrev pub after_faults : Option Carrier → ℕ → List Operand → Term → Term
after_faults carrier level [] t = t
after_faults carrier level (operand ∷ operands) t = after_fault carrier level (carrier_in operand) (after_faults carrier (level + 1) operands t)

front_written : (carrier : Option Carrier) (level : ℕ) (own : Option Carrier) (t : Term) → fault_front carrier level own ++ nodes_of t ≡ nodes_of (after_fault carrier level own t)
front_written carrier level None t = refl
front_written None level (Some own) t = ap (λ (ns : List SqlNode). SqlNode.Coalesce ∷ SqlNode.FaultCode own ∷ SqlNode.Bound level ∷ ns) (sym (append-nil (nodes_of t)))
front_written (Some carrier) level (Some own) t =
    ap (λ (ns : List SqlNode). SqlNode.Coalesce ∷ SqlNode.FaultOfCode carrier ∷ SqlNode.FaultCode own ∷ SqlNode.Bound level ∷ ns) (sym (append-nil (nodes_of t)))

pub fronts_written : (carrier : Option Carrier) (level : ℕ) (operands : List Operand) (t : Term)
    → faults_front carrier level operands ++ nodes_of t ≡ nodes_of (after_faults carrier level operands t)
fronts_written carrier level [] t = refl
fronts_written carrier level (operand ∷ operands) t =
    append_assoc (fault_front carrier level (carrier_in operand)) (faults_front carrier (level + 1) operands) (nodes_of t)
    ∙ ap (λ (ns : List SqlNode). fault_front carrier level (carrier_in operand) ++ ns) (fronts_written carrier (level + 1) operands t)
    ∙ front_written carrier level (carrier_in operand) (after_faults carrier (level + 1) operands t)

fault_shaped : (carrier : Option Carrier) (level : ℕ) (own : Option Carrier) (t : Term) → IsShaped t → IsShaped (after_fault carrier level own t)
fault_shaped carrier level None t shaped = shaped
fault_shaped None level (Some own) t shaped = (refl, ((refl, ((refl, tt), tt)), (shaped, tt)))
fault_shaped (Some carrier) level (Some own) t shaped = (refl, ((refl, ((refl, ((refl, tt), tt)), tt)), (shaped, tt)))

pub faults_shaped : (carrier : Option Carrier) (level : ℕ) (operands : List Operand) (t : Term) → IsShaped t → IsShaped (after_faults carrier level operands t)
faults_shaped carrier level [] t shaped = shaped
faults_shaped carrier level (operand ∷ operands) t shaped =
    fault_shaped carrier level (carrier_in operand) (after_faults carrier (level + 1) operands t) (faults_shaped carrier (level + 1) operands t shaped)

module _ (asked : Asked) where
  -- one that is bound at the level, as its carrier or its code has it
  one_carried : (bound : Bound) (level : ℕ) (b : Outcome) (carrier : Carrier) (own : Option Carrier) (t : Term) (rest : Outcome) → slice_get bound level ≡ Some (bound_value b) → SqlMeans asked bound t rest
      → SqlMeans asked bound (after_fault (Some carrier) level own t) (fault_by own b rest)
  one_carried bound level b carrier None t rest at is = is
  one_carried bound level b carrier (Some own) t rest at is = (
    fault_or_null b,
    (fault_code b, (b, there_found (λ (v : BoundValue). b ≡ v.value) (slice_get bound level) (bound_value b) at refl, refl), fault_again b),
    (rest, is, fault_first b rest),
  )

  one_coded : (bound : Bound) (level : ℕ) (b : Outcome) (own : Option Carrier) (t : Term) (rest : Outcome) → slice_get bound level ≡ Some (bound_value b) → SqlMeans asked bound t (coded rest)
      → SqlMeans asked bound (after_fault None level own t) (coded (fault_by own b rest))
  one_coded bound level b None t rest at is = is
  one_coded bound level b (Some own) t rest at is = (
    fault_code b,
    (b, there_found (λ (v : BoundValue). b ≡ v.value) (slice_get bound level) (bound_value b) at refl, refl),
    (coded rest, is, fault_code_first b rest),
  )

  -- where the operands are bound to these from the level on
  next_bound : (before more : List BoundValue) (o : Outcome) (os : List Outcome) → before ++ (map bound_value (o ∷ os) ++ more) ≡ (before ++ bound_value o ∷ []) ++ (map bound_value os ++ more)
  next_bound before more o os = sym (append_assoc before (bound_value o ∷ []) (map bound_value os ++ more))

  at_level : (before rest : List BoundValue) (level : ℕ) (b : BoundValue) → level ≡ length before → slice_get (before ++ b ∷ rest) level ≡ Some b
  at_level before rest level b is = ap (λ (k : ℕ). slice_get (before ++ b ∷ rest) k) is ∙ at_end before rest b

  pub carried_faults : (carrier : Carrier) (before more : List BoundValue) (level : ℕ) (operands : List Operand) (os : List Outcome) (t : Term) (rest : Outcome) → level ≡ length before
      → length os ≡ length operands → SqlMeans asked (before ++ (map bound_value os ++ more)) t rest
      → SqlMeans asked (before ++ (map bound_value os ++ more)) (after_faults (Some carrier) level operands t) (first_fault operands os rest)
  carried_faults carrier before more level [] os t rest is same means = means
  carried_faults carrier before more level (operand ∷ operands) [] t rest is same means = absurd (cc)
  carried_faults carrier before more level (operand ∷ operands) (o ∷ os) t rest is same means =
      let further : level + 1 ≡ length (before ++ bound_value o ∷ []) = omega (arith, is, length-append before (bound_value o ∷ [])) in
      let fewer : length os ≡ length operands = omega (arith, same) in
      let inner = carried_faults carrier (before ++ bound_value o ∷ []) more (level + 1) operands os t rest further fewer
      (subst (λ (bs : Bound). SqlMeans asked bs t rest) (next_bound before more o os) means) in
      one_carried (before ++ (map bound_value (o ∷ os) ++ more)) level o carrier (carrier_in operand) (after_faults (Some carrier) (level + 1) operands t) (first_fault operands os rest)
      (at_level before (map bound_value os ++ more) level (bound_value o) is)
      (subst (λ (bs : Bound). SqlMeans asked bs (after_faults (Some carrier) (level + 1) operands t) (first_fault operands os rest)) (sym (next_bound before more o os)) inner)

  pub coded_faults : (before more : List BoundValue) (level : ℕ) (operands : List Operand) (os : List Outcome) (t : Term) (rest : Outcome) → level ≡ length before → length os ≡ length operands
      → SqlMeans asked (before ++ (map bound_value os ++ more)) t (coded rest)
      → SqlMeans asked (before ++ (map bound_value os ++ more)) (after_faults None level operands t) (coded (first_fault operands os rest))
  coded_faults before more level [] os t rest is same means = means
  coded_faults before more level (operand ∷ operands) [] t rest is same means = absurd (cc)
  coded_faults before more level (operand ∷ operands) (o ∷ os) t rest is same means =
      let further : level + 1 ≡ length (before ++ bound_value o ∷ []) = omega (arith, is, length-append before (bound_value o ∷ [])) in
      let fewer : length os ≡ length operands = omega (arith, same) in
      let inner = coded_faults (before ++ bound_value o ∷ []) more (level + 1) operands os t rest further fewer
      (subst (λ (bs : Bound). SqlMeans asked bs t (coded rest)) (next_bound before more o os) means) in
      one_coded (before ++ (map bound_value (o ∷ os) ++ more)) level o (carrier_in operand) (after_faults None (level + 1) operands t) (first_fault operands os rest)
      (at_level before (map bound_value os ++ more) level (bound_value o) is)
      (subst (λ (bs : Bound). SqlMeans asked bs (after_faults None (level + 1) operands t) (coded (first_fault operands os rest))) (sym (next_bound before more o os)) inner)
