-- What a tree of SQL evaluates to on a row. Every operand is evaluated, in a branch that is not taken too, and what
-- leaves the domain of its operator has no value: so what has a value leaves no operator's domain, in whatever order an
-- engine works.
use Rattle.std.specs.Prelude.{◌≡◌, ℕ, ℤ, pos, ◌+◌, ◌++◌, List, [], ◌∷◌, Bool, Option, IsSomeAnd, length, map, slice_get}
use Rattle.edm_values.specs.Val.{Val, null, boolean, whole}
use Rattle.odata_filter_operations.specs.CalculationGives.{number_val}
use Rattle.odata_filter_operations.specs.CompareGives.{CompareGives}
use Rattle.odata_filter_operations.specs.Outcome.{Outcome, gives}
use Rattle.odata_functions.specs.Connectives.{and3, not3, or3}
use Rattle.odata_syntax.specs.declared.binary_operator.ComparisonOperator.TheVariants.{Eq}
use Rattle.sql_tree.specs.Digits.{number_of}
use Rattle.sql_tree.specs.declared.sql_node.FieldType.{FieldType}
use Rattle.sql_tree.specs.declared.sql_node.SqlFunction.{SqlFunction}
use Rattle.sql_tree.specs.declared.sql_node.SqlNode.{SqlNode}
use Rattle.sql_meaning.specs.Codes.{OneLooked, TwoLooked}
use Rattle.sql_meaning.specs.FaultsGive.{FaultOfCode, fault_code, outcome_of_fault, without_fault}
use Rattle.sql_meaning.specs.MembersGive.{AtEach, DecidedGives, LeastOf, SomeTrue}
use Rattle.sql_meaning.specs.Operands.{BothNumbers, OfMember, OfNumber, OfTruth, OfValue, Over}
use Rattle.sql_meaning.specs.OperatorsGive.{ChoiceGives, FirstGiven, GivesBits, GivesHasBits, GivesInRange, GivesIsNull, GivesWhole, GivesWithin64, StrictlyGives, code_of_truth, is_true, truth}
use Rattle.sql_meaning.specs.ParameterGives.{ParameterGives}
use Rattle.sql_meaning.specs.PlaceGives.{AreMembers, GivesMissing, IsScalar, PlaceGives, SlotGives}
use Rattle.sql_meaning.specs.SqlFunctionGives.{SqlFunctionGives}
use Rattle.sql_meaning.specs.SqlTypeHolds.{IsOfType, OfType, type_of_field}
use Rattle.sql_meaning.specs.Table.{Asked, Bound, bound_member, bound_value}
use Rattle.sql_tree.specs.Term.{Term, Terms, term, no_terms, more_terms}

-- the value at a position in JSON, read as a value of that type
abbrev pub FieldGives : Asked → Bound → ℕ → FieldType → Outcome → Type 0
FieldGives asked bound path type o =
    (v : Val) × PlaceGives asked bound path v × IsOfType (type_of_field type) v × (o ≡ gives v)

abbrev pub MissingGives : Asked → Bound → ℕ → Outcome → Type 0
MissingGives asked bound path o = (v : Val) × PlaceGives asked bound path v × GivesMissing v o

-- how many members there are, null for null
abbrev pub CountedGives : Val → Outcome → Type 0
CountedGives null o = o ≡ gives null
CountedGives v o = (members : List Val) × AreMembers v members × (o ≡ gives (whole (pos (length members))))

abbrev pub CountGives : Asked → Bound → ℕ → Outcome → Type 0
CountGives asked bound path o = (v : Val) × PlaceGives asked bound path v × CountedGives v o

-- an expression over the members of the collection at a path
abbrev pub OverMembers : Asked → Bound → ℕ → (ℕ → Val → Outcome → Type 0) → (List Outcome → Outcome → Type 0) → Outcome
    → Type 0
OverMembers asked bound path Body Goes o =
    (v : Val) × (members : List Val) × (outcomes : List Outcome)
    × PlaceGives asked bound path v × AreMembers v members × AtEach Body 0 members outcomes × Goes outcomes o

abbrev pub GivesExists : List Outcome → Outcome → Type 0
GivesExists outcomes o = (answer : Bool) × SomeTrue outcomes answer × (o ≡ gives (boolean answer))

abbrev pub GivesLeast : List Outcome → Outcome → Type 0
GivesLeast outcomes o = (answer : Option ℤ) × LeastOf outcomes answer × (o ≡ gives (number_val answer))

-- whether a value is equal to each of the others
abbrev pub EachEqual : Val → List Outcome → List Outcome → Type 0
EachEqual l [] answers = answers ≡ []
EachEqual l (gives v ∷ os) (a ∷ answers) = CompareGives Eq l v a × EachEqual l os answers
EachEqual l os answers = ⊥

-- whether it is equal to one of them, null for null
abbrev pub AmongGives : List Outcome → Val → Outcome → Type 0
AmongGives items null o = o ≡ gives null
AmongGives items l o = (answers : List Outcome) × EachEqual l items answers × GivesExists answers o

-- whether two values are equal, null for a value
abbrev pub SameGives : Val → Val → Outcome → Type 0
SameGives = CompareGives Eq

-- the values of outcomes that are no faults
abbrev pub AreValues : List Outcome → List Val → Type 0
AreValues [] values = values ≡ []
AreValues (gives v ∷ os) (w ∷ values) = (w ≡ v) × AreValues os values
AreValues os values = ⊥

abbrev pub CalledGives : Asked → SqlFunction → List Outcome → Outcome → Type 0
CalledGives asked function outcomes o =
    (values : List Val) × AreValues outcomes values × SqlFunctionGives asked.now function values o

abbrev mutual
  -- the outcomes of a term on the row that is asked, with these values and members bound around it
  pub SqlMeans : Asked → Bound → Term → Outcome → Type 0
  SqlMeans asked bound (term node children) = NodeMeans asked bound node children

  pub NodeMeans : Asked → Bound → SqlNode → Terms → Outcome → Type 0
  NodeMeans asked bound (SqlNode.Parameter place type) no_terms =
      λ o. IsSomeAnd (slice_get asked.parameters place) (λ p. ParameterGives type p o)
  NodeMeans asked bound (SqlNode.Null type) no_terms = λ o. o ≡ gives null
  NodeMeans asked bound (SqlNode.Truth value) no_terms = λ o. o ≡ gives (boolean value)
  NodeMeans asked bound (SqlNode.Number value) no_terms = λ o. o ≡ gives (whole (number_of value))
  NodeMeans asked bound (SqlNode.Column slot) no_terms =
      λ o. (v : Val) × SlotGives asked.schema asked.row_type slot asked.entity v × IsScalar v × (o ≡ gives v)
  NodeMeans asked bound (SqlNode.Field path type) no_terms = FieldGives asked bound path type
  NodeMeans asked bound (SqlNode.IsMissing path) no_terms = MissingGives asked bound path
  NodeMeans asked bound (SqlNode.Count path) no_terms = CountGives asked bound path
  NodeMeans asked bound (SqlNode.Bound level) no_terms =
      λ o. IsSomeAnd (slice_get bound level) (λ b. o ≡ b.value)
  NodeMeans asked bound (SqlNode.Fault carrier fault) no_terms = λ o. o ≡ outcome_of_fault fault
  NodeMeans asked bound SqlNode.Not (more_terms a no_terms) =
      Over (SqlMeans asked bound a) (OfTruth (λ t o. o ≡ truth (not3 t)))
  NodeMeans asked bound SqlNode.And (more_terms a (more_terms b no_terms)) =
      Over (SqlMeans asked bound a)
      (OfTruth (λ s. Over (SqlMeans asked bound b) (OfTruth (λ t o. o ≡ truth (and3 s t)))))
  NodeMeans asked bound SqlNode.Or (more_terms a (more_terms b no_terms)) =
      Over (SqlMeans asked bound a)
      (OfTruth (λ s. Over (SqlMeans asked bound b) (OfTruth (λ t o. o ≡ truth (or3 s t)))))
  NodeMeans asked bound SqlNode.IsTrue (more_terms a no_terms) =
      Over (SqlMeans asked bound a) (OfTruth (λ t o. o ≡ is_true t))
  NodeMeans asked bound SqlNode.IsNull (more_terms a no_terms) =
      Over (SqlMeans asked bound a) (OfValue GivesIsNull)
  NodeMeans asked bound (SqlNode.Compare operator type) (more_terms a (more_terms b no_terms)) =
      Over (SqlMeans asked bound a) (OfValue (OfType type (λ l.
      Over (SqlMeans asked bound b) (OfValue (OfType type (StrictlyGives operator l))))))
  NodeMeans asked bound (SqlNode.Same type) (more_terms a (more_terms b no_terms)) =
      Over (SqlMeans asked bound a) (OfValue (OfType type (λ l.
      Over (SqlMeans asked bound b) (OfValue (OfType type (SameGives l))))))
  NodeMeans asked bound SqlNode.TruthCode (more_terms a no_terms) =
      Over (SqlMeans asked bound a) (OfTruth (λ t o. o ≡ code_of_truth t))
  NodeMeans asked bound SqlNode.Case (more_terms a (more_terms b (more_terms c no_terms))) =
      Over (SqlMeans asked bound a) (OfTruth (λ t.
      Over (SqlMeans asked bound b) (λ first. Over (SqlMeans asked bound c) (ChoiceGives t first))))
  NodeMeans asked bound SqlNode.Coalesce (more_terms a (more_terms b no_terms)) =
      Over (SqlMeans asked bound a) (λ first. Over (SqlMeans asked bound b) (FirstGiven first))
  NodeMeans asked bound (SqlNode.Plain operator) (more_terms a (more_terms b no_terms)) =
      Over (SqlMeans asked bound a) (OfNumber (λ m. Over (SqlMeans asked bound b)
      (OfNumber (λ n. BothNumbers m n (GivesWithin64 operator)))))
  NodeMeans asked bound (SqlNode.Wide operator) (more_terms a (more_terms b no_terms)) =
      Over (SqlMeans asked bound a) (OfNumber (λ m. Over (SqlMeans asked bound b)
      (OfNumber (λ n. BothNumbers m n (GivesWhole operator)))))
  NodeMeans asked bound (SqlNode.Within type) (more_terms a no_terms) =
      Over (SqlMeans asked bound a) (OfNumber (GivesInRange type))
  NodeMeans asked bound (SqlNode.FaultCode carrier) (more_terms a no_terms) =
      Over (SqlMeans asked bound a) (λ x o. o ≡ fault_code x)
  NodeMeans asked bound (SqlNode.FaultOfCode carrier) (more_terms a no_terms) =
      Over (SqlMeans asked bound a) FaultOfCode
  NodeMeans asked bound (SqlNode.Unfault carrier) (more_terms a no_terms) =
      Over (SqlMeans asked bound a) (λ x o. o ≡ without_fault x)
  NodeMeans asked bound (SqlNode.Carried carrier) (more_terms a no_terms) =
      Over (SqlMeans asked bound a) (OfValue (λ v o. o ≡ gives v))
  NodeMeans asked bound SqlNode.Bits (more_terms a (more_terms b no_terms)) =
      Over (SqlMeans asked bound a) (OfNumber (λ m. Over (SqlMeans asked bound b)
      (OfNumber (λ n. BothNumbers m n GivesBits))))
  NodeMeans asked bound SqlNode.HasBits (more_terms a (more_terms b no_terms)) =
      Over (SqlMeans asked bound a) (OfMember (λ m. Over (SqlMeans asked bound b)
      (OfMember (λ n. BothNumbers m n GivesHasBits))))
  NodeMeans asked bound (SqlNode.LookUp table) (more_terms a no_terms) =
      Over (SqlMeans asked bound a) (OneLooked table)
  NodeMeans asked bound (SqlNode.LookUp table) (more_terms a (more_terms b no_terms)) =
      Over (SqlMeans asked bound a) (λ first. Over (SqlMeans asked bound b) (TwoLooked table first))
  NodeMeans asked bound (SqlNode.Among count type) (more_terms a items) =
      Over (SqlMeans asked bound a) (OfValue (OfType type (λ l o. (outcomes : List Outcome)
      × AllMean asked bound items outcomes × (length outcomes ≡ count) × AmongGives outcomes l o)))
  NodeMeans asked bound (SqlNode.Let level count) (more_terms body values) =
      λ o. (outcomes : List Outcome) × AllMean asked bound values outcomes × (length outcomes ≡ count)
      × (level ≡ length bound) × SqlMeans asked (bound ++ map bound_value outcomes) body o
  NodeMeans asked bound (SqlNode.Exists path level) (more_terms condition no_terms) =
      λ o. (level ≡ length bound) × OverMembers asked bound path
      (λ place v. SqlMeans asked (bound ++ bound_member place v ∷ []) condition) GivesExists o
  NodeMeans asked bound (SqlNode.Least path level) (more_terms value no_terms) =
      λ o. (level ≡ length bound) × OverMembers asked bound path
      (λ place v. SqlMeans asked (bound ++ bound_member place v ∷ []) value) GivesLeast o
  NodeMeans asked bound (SqlNode.Decided quantifier level) (more_terms code no_terms) =
      Over (SqlMeans asked bound code)
      (λ x o. IsSomeAnd (slice_get bound level) (λ b. DecidedGives quantifier b.place x o))
  NodeMeans asked bound (SqlNode.Function function) (more_terms argument more) =
      Over (SqlMeans asked bound argument) (λ x o. (outcomes : List Outcome)
      × AllMean asked bound more outcomes × CalledGives asked function (x ∷ outcomes) o)
  NodeMeans asked bound node children = λ o. ⊥

  -- the outcomes of terms, one after another
  pub AllMean : Asked → Bound → Terms → List Outcome → Type 0
  AllMean asked bound no_terms outcomes = outcomes ≡ []
  AllMean asked bound (more_terms first rest) [] = ⊥
  AllMean asked bound (more_terms first rest) (o ∷ os) = SqlMeans asked bound first o × AllMean asked bound rest os
