-- A tree of SQL evaluates to one thing at most.
use Rattle.std.proofs.Common.{◌≡◌, ℕ, ◌++◌, ◌∷◌, [], List, length, map, sym, ap, subst, ◌∙◌}
use Rattle.std.specs.Prelude.{slice_get}
use Rattle.edm_values.specs.Val.{Val, boolean, null, whole}
use Rattle.odata_filter_operations.specs.Outcome.{Outcome, gives}
use Rattle.odata_functions.specs.Connectives.{and3, not3, or3}
use Rattle.odata_syntax.specs.declared.binary_operator.ComparisonOperator.{ComparisonOperator}
use Rattle.sql_tree.specs.Digits.{number_of}
use Rattle.sql_tree.specs.declared.sql_node.SqlFunction.{SqlFunction}
use Rattle.sql_tree.specs.declared.sql_node.SqlNode.{SqlNode}
use Rattle.sql_meaning.specs.FaultsGive.{FaultOfCode, fault_code, outcome_of_fault, without_fault}
use Rattle.sql_meaning.specs.OperatorsGive.{code_of_truth, is_true, truth}
use Rattle.sql_meaning.specs.ParameterGives.{ParameterGives}
use Rattle.sql_meaning.specs.SqlMeans.{AllMean, AmongGives, CalledGives, NodeMeans, SqlMeans}
use Rattle.sql_meaning.specs.Table.{Asked, Bound, bound_member, bound_value}
use Rattle.sql_tree.specs.Term.{Term, Terms, term, no_terms, more_terms}
use Rattle.sql_meaning.proofs.OneFunction.{CalledGives-one}
use Rattle.sql_meaning.proofs.OneParameter.{OneLiteral, ParameterGives-one}
use Rattle.sql_meaning.proofs.OnePlace.{AmongGives-one, CountGives-one, DecidedGives-one, FieldGives-one, GivesExists-one, GivesLeast-one, MissingGives-one, OverMembers-one, SlotGives-one}
use Rattle.sql_meaning.proofs.OneStep.{AtMostOne, BothNumbers-one, ChoiceGives-one, FaultOfCode-one, FirstGiven-one, GivesBits-one, GivesHasBits-one, GivesInRange-one, GivesIsNull-one, GivesWhole-one, GivesWithin64-one, IsSomeAnd-one, OfMember-one, OfNumber-one, OfTruth-one, OfType-one, OfValue-one, OneDivision, OneEach, OneLooked-one, Over-one, StrictlyGives-one, TwoLooked-one, same_one}

-- a list of values of which there is one
among_one : OneEach → (Are : List Outcome → Type 0) (count : ℕ) (l : Val) → ((os ps : List Outcome) → Are os → Are ps → os ≡ ps)
    → AtMostOne (λ o. (outcomes : List Outcome) × Are outcomes × (length outcomes ≡ count) × AmongGives outcomes l o)
among_one known Are count l one a b p q =
    AmongGives-one known p.0 l a b p.3 (subst (λ (os : List Outcome). AmongGives os l b) (one q.0 p.0 q.1 p.1) q.3)

-- the arguments after a first one
called_one : (known : OneEach) (asked : Asked) (function : SqlFunction) (x : Outcome) (Are : List Outcome → Type 0)
    → ((os ps : List Outcome) → Are os → Are ps → os ≡ ps)
    → AtMostOne (λ o. (outcomes : List Outcome) × Are outcomes × CalledGives asked function (x ∷ outcomes) o)
called_one known asked function x Are one a b p q =
    CalledGives-one known asked function (x ∷ p.0) a b p.2
    (subst (λ (os : List Outcome). CalledGives asked function (x ∷ os) b) (one q.0 p.0 q.1 p.1) q.2)

module _ (known : OneEach) (divided : OneDivision) (literals : OneLiteral) (asked : Asked) where
  mutual
    pub SqlMeans-one : (bound : Bound) (t : Term) → AtMostOne (SqlMeans asked bound t)
    SqlMeans-one bound (term node children) = NodeMeans-one bound node children

    NodeMeans-one : (bound : Bound) (node : SqlNode) (children : Terms) → AtMostOne (NodeMeans asked bound node children)
    NodeMeans-one bound (SqlNode.Parameter place type) no_terms =
        IsSomeAnd-one (slice_get asked.parameters place) (ParameterGives type) (ParameterGives-one literals type)
    NodeMeans-one bound (SqlNode.Null type) no_terms = same_one (gives null)
    NodeMeans-one bound (SqlNode.Truth value) no_terms = same_one (gives (boolean value))
    NodeMeans-one bound (SqlNode.Number value) no_terms = same_one (gives (whole (number_of value)))
    NodeMeans-one bound (SqlNode.Column slot) no_terms = λ a b p q.
        p.3 ∙ ap gives (SlotGives-one known asked.schema asked.row_type slot asked.entity p.0 q.0 p.1 q.1) ∙ sym q.3
    NodeMeans-one bound (SqlNode.Field path type) no_terms = FieldGives-one known asked bound path type
    NodeMeans-one bound (SqlNode.IsMissing path) no_terms = MissingGives-one known asked bound path
    NodeMeans-one bound (SqlNode.Count path) no_terms = CountGives-one known asked bound path
    NodeMeans-one bound (SqlNode.Bound level) no_terms = IsSomeAnd-one (slice_get bound level) (λ b o. o ≡ b.value) (λ b. same_one b.value)
    NodeMeans-one bound (SqlNode.Fault carrier fault) no_terms = same_one (outcome_of_fault fault)
    NodeMeans-one bound SqlNode.Not (more_terms a no_terms) =
        Over-one _ _ (SqlMeans-one bound a) (OfTruth-one _ (λ t. same_one (truth (not3 t))))
    NodeMeans-one bound SqlNode.And (more_terms a (more_terms b no_terms)) =
        Over-one _ _ (SqlMeans-one bound a)
        (OfTruth-one _ (λ s. Over-one _ _ (SqlMeans-one bound b) (OfTruth-one _ (λ t. same_one (truth (and3 s t))))))
    NodeMeans-one bound SqlNode.Or (more_terms a (more_terms b no_terms)) =
        Over-one _ _ (SqlMeans-one bound a)
        (OfTruth-one _ (λ s. Over-one _ _ (SqlMeans-one bound b) (OfTruth-one _ (λ t. same_one (truth (or3 s t))))))
    NodeMeans-one bound SqlNode.IsTrue (more_terms a no_terms) =
        Over-one _ _ (SqlMeans-one bound a) (OfTruth-one _ (λ t. same_one (is_true t)))
    NodeMeans-one bound SqlNode.IsNull (more_terms a no_terms) = Over-one _ _ (SqlMeans-one bound a) (OfValue-one _ GivesIsNull-one)
    NodeMeans-one bound (SqlNode.Compare operator type) (more_terms a (more_terms b no_terms)) =
        Over-one _ _ (SqlMeans-one bound a)
        (OfValue-one _ (OfType-one type _ (λ l. Over-one _ _ (SqlMeans-one bound b)
        (OfValue-one _ (OfType-one type _ (StrictlyGives-one known operator l))))))
    NodeMeans-one bound (SqlNode.Same type) (more_terms a (more_terms b no_terms)) =
        Over-one _ _ (SqlMeans-one bound a)
        (OfValue-one _ (OfType-one type _ (λ l. Over-one _ _ (SqlMeans-one bound b)
        (OfValue-one _ (OfType-one type _ (known.values.compared ComparisonOperator.Eq l))))))
    NodeMeans-one bound SqlNode.TruthCode (more_terms a no_terms) =
        Over-one _ _ (SqlMeans-one bound a) (OfTruth-one _ (λ t. same_one (code_of_truth t)))
    NodeMeans-one bound SqlNode.Case (more_terms a (more_terms b (more_terms c no_terms))) =
        Over-one _ _ (SqlMeans-one bound a)
        (OfTruth-one _ (λ t. Over-one _ _ (SqlMeans-one bound b) (λ first. Over-one _ _ (SqlMeans-one bound c) (ChoiceGives-one t first))))
    NodeMeans-one bound SqlNode.Coalesce (more_terms a (more_terms b no_terms)) =
        Over-one _ _ (SqlMeans-one bound a) (λ first. Over-one _ _ (SqlMeans-one bound b) (FirstGiven-one first))
    NodeMeans-one bound (SqlNode.Plain operator) (more_terms a (more_terms b no_terms)) =
        Over-one _ _ (SqlMeans-one bound a) (OfNumber-one _ (λ m. Over-one _ _ (SqlMeans-one bound b)
        (OfNumber-one _ (λ n. BothNumbers-one m n _ (GivesWithin64-one divided operator)))))
    NodeMeans-one bound (SqlNode.Wide operator) (more_terms a (more_terms b no_terms)) =
        Over-one _ _ (SqlMeans-one bound a) (OfNumber-one _ (λ m. Over-one _ _ (SqlMeans-one bound b)
        (OfNumber-one _ (λ n. BothNumbers-one m n _ (GivesWhole-one divided operator)))))
    NodeMeans-one bound (SqlNode.Within type) (more_terms a no_terms) =
        Over-one _ _ (SqlMeans-one bound a) (OfNumber-one _ (GivesInRange-one type))
    NodeMeans-one bound (SqlNode.FaultCode carrier) (more_terms a no_terms) =
        Over-one _ _ (SqlMeans-one bound a) (λ x. same_one (fault_code x))
    NodeMeans-one bound (SqlNode.FaultOfCode carrier) (more_terms a no_terms) = Over-one _ _ (SqlMeans-one bound a) FaultOfCode-one
    NodeMeans-one bound (SqlNode.Unfault carrier) (more_terms a no_terms) =
        Over-one _ _ (SqlMeans-one bound a) (λ x. same_one (without_fault x))
    NodeMeans-one bound (SqlNode.Carried carrier) (more_terms a no_terms) =
        Over-one _ _ (SqlMeans-one bound a) (OfValue-one _ (λ v. same_one (gives v)))
    NodeMeans-one bound SqlNode.Bits (more_terms a (more_terms b no_terms)) =
        Over-one _ _ (SqlMeans-one bound a) (OfNumber-one _ (λ m. Over-one _ _ (SqlMeans-one bound b)
        (OfNumber-one _ (λ n. BothNumbers-one m n _ GivesBits-one))))
    NodeMeans-one bound SqlNode.HasBits (more_terms a (more_terms b no_terms)) =
        Over-one _ _ (SqlMeans-one bound a) (OfMember-one _ (λ m. Over-one _ _ (SqlMeans-one bound b)
        (OfMember-one _ (λ n. BothNumbers-one m n _ GivesHasBits-one))))
    NodeMeans-one bound (SqlNode.LookUp table) (more_terms a no_terms) = Over-one _ _ (SqlMeans-one bound a) (OneLooked-one table)
    NodeMeans-one bound (SqlNode.LookUp table) (more_terms a (more_terms b no_terms)) =
        Over-one _ _ (SqlMeans-one bound a) (λ first. Over-one _ _ (SqlMeans-one bound b) (TwoLooked-one table first))
    NodeMeans-one bound (SqlNode.Among count type) (more_terms a items) =
        Over-one _ _ (SqlMeans-one bound a)
        (OfValue-one _ (OfType-one type _ (λ l. among_one known (AllMean asked bound items) count l (AllMean-one bound items))))
    NodeMeans-one bound (SqlNode.Let level count) (more_terms body values) = λ x y p q.
        SqlMeans-one (bound ++ map bound_value p.0) body x y p.4
        (subst (λ (os : List Outcome). SqlMeans asked (bound ++ map bound_value os) body y) (AllMean-one bound values q.0 p.0 q.1 p.1) q.4)
    NodeMeans-one bound (SqlNode.Exists path level) (more_terms condition no_terms) = λ x y p q.
        OverMembers-one known asked bound path _ _ (λ place v. SqlMeans-one (bound ++ bound_member place v ∷ []) condition) GivesExists-one x y p.1 q.1
    NodeMeans-one bound (SqlNode.Least path level) (more_terms value no_terms) = λ x y p q.
        OverMembers-one known asked bound path _ _ (λ place v. SqlMeans-one (bound ++ bound_member place v ∷ []) value) GivesLeast-one x y p.1 q.1
    NodeMeans-one bound (SqlNode.Decided quantifier level) (more_terms code no_terms) =
        Over-one _ _ (SqlMeans-one bound code)
        (λ x. IsSomeAnd-one (slice_get bound level) _ (λ b. DecidedGives-one quantifier b.place x))
    NodeMeans-one bound (SqlNode.Function function) (more_terms argument more) =
        Over-one _ _ (SqlMeans-one bound argument) (λ x. called_one known asked function x (AllMean asked bound more) (AllMean-one bound more))
    NodeMeans-one bound node children = λ x y p q. absurd p

    AllMean-one : (bound : Bound) (ts : Terms) (os ps : List Outcome) → AllMean asked bound ts os → AllMean asked bound ts ps → os ≡ ps
    AllMean-one bound no_terms os ps p q = p ∙ sym q
    AllMean-one bound (more_terms first rest) (o ∷ os) (r ∷ rs) p q =
        let one : o ≡ r = SqlMeans-one bound first o r p.0 q.0 in
        let more : os ≡ rs = AllMean-one bound rest os rs p.1 q.1 in
        cc
    AllMean-one bound (more_terms first rest) (o ∷ os) [] p q = absurd q
    AllMean-one bound (more_terms first rest) [] ps p q = absurd p
