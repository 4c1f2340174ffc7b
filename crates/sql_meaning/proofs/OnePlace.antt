-- What stands at an index, and what comes of the members of a collection, is one thing at most.
use Rattle.std.proofs.Common.{◌≡◌, ℕ, ◌+◌, ℤ, List, [], ◌∷◌, Bool, true, false, Option, Some, None, length, sym, ap, subst, ◌∙◌}
use Rattle.std.specs.Prelude.{IsSomeAnd, pos, slice_get}
use Rattle.csdl_schema.specs.SchemaModel.{PropertyModel, SchemaModel, properties_at}
use Rattle.edm_values.specs.Val.{Val, null, boolean, whole, items}
use Rattle.odata_filter_operations.specs.CalculationGives.{number_val}
use Rattle.odata_meaning.specs.NameGives.{StepGives}
use Rattle.odata_filter_operations.specs.Outcome.{Outcome, gives, overflow, divides_by_zero}
use Rattle.odata_syntax.specs.declared.binary_operator.ComparisonOperator.{ComparisonOperator}
use Rattle.odata_syntax.specs.declared.node.Quantifier.{Quantifier}
use Rattle.sql_tree.specs.declared.json_path.Base.{Base}
use Rattle.sql_tree.specs.declared.json_path.Path.{Path}
use Rattle.sql_tree.specs.declared.json_path.Step.{Step}
use Rattle.sql_meaning.specs.MembersGive.{AtEach, DecidedGives, LeastOf, SomeTrue, decision_at, decisions, least}
use Rattle.sql_meaning.specs.PlaceGives.{AreMembers, BaseGives, GivesMissing, PathGives, PlaceGives, SlotGives, StepsGive}
use Rattle.sql_tree.specs.declared.sql_node.FieldType.{FieldType}
use Rattle.sql_meaning.specs.SqlMeans.{AmongGives, CountGives, CountedGives, EachEqual, FieldGives, GivesExists, GivesLeast, MissingGives, OverMembers}
use Rattle.sql_meaning.specs.Table.{Asked, Bound, BoundValue}
use Rattle.sql_meaning.proofs.OneStep.{AtMostOne, IsSomeAnd-one, OneEach, same_one}

same_value : (v w : Val) → gives v ≡ gives w → v ≡ w
same_value v w same = cc

-- ---- indices

found_step : OneEach → (found : Option PropertyModel) (v h k : Val) → IsSomeAnd found (λ p. StepGives v p.name (gives h))
    → IsSomeAnd found (λ p. StepGives v p.name (gives k)) → h ≡ k
found_step known None v h k p q = absurd p
found_step known (Some property) v h k p q = same_value h k (known.values.stepped v property.name (gives h) (gives k) p q)

pub SlotGives-one : OneEach → (schema : SchemaModel) (owner slot : ℕ) (v h k : Val) → SlotGives schema owner slot v h → SlotGives schema owner slot v k → h ≡ k
SlotGives-one known schema owner slot v h k p q = found_step known (slice_get (properties_at schema owner) slot) v h k p q

found_bound : (found : Option BoundValue) (h k : Val) → IsSomeAnd found (λ b. b.value ≡ gives h) → IsSomeAnd found (λ b. b.value ≡ gives k) → h ≡ k
found_bound None h k p q = absurd p
found_bound (Some b) h k p q = same_value h k (sym p ∙ q)

BaseGives-one : OneEach → (asked : Asked) (bound : Bound) (base : Base) (h k : Val) → BaseGives asked bound base h → BaseGives asked bound base k → h ≡ k
BaseGives-one known asked bound Base.Document h k p q = p ∙ sym q
BaseGives-one known asked bound (Base.Column slot) h k p q = SlotGives-one known asked.schema asked.row_type slot asked.entity h k p q
BaseGives-one known asked bound (Base.Member level) h k p q = found_bound (slice_get bound level) h k p q

StepsGive-one : OneEach → (schema : SchemaModel) (steps : List Step) (v h k : Val) → StepsGive schema steps v h → StepsGive schema steps v k → h ≡ k
StepsGive-one known schema [] v h k p q = p ∙ sym q
StepsGive-one known schema (step ∷ steps) v h k p q =
    let next : q.0 ≡ p.0 = SlotGives-one known schema step.owner step.slot v q.0 p.0 q.1 p.1 in
    StepsGive-one known schema steps p.0 h k p.2 (subst (λ (w : Val). StepsGive schema steps w k) next q.2)

PathGives-one : OneEach → (asked : Asked) (bound : Bound) (path : Path) (h k : Val) → PathGives asked bound path h → PathGives asked bound path k → h ≡ k
PathGives-one known asked bound path h k p q =
    let start : q.0 ≡ p.0 = BaseGives-one known asked bound path.base q.0 p.0 q.1 p.1 in
    StepsGive-one known asked.schema path.steps.items p.0 h k p.2 (subst (λ (w : Val). StepsGive asked.schema path.steps.items w k) start q.2)

found_path : OneEach → (asked : Asked) (bound : Bound) (found : Option Path) (h k : Val) → IsSomeAnd found (λ path. PathGives asked bound path h)
    → IsSomeAnd found (λ path. PathGives asked bound path k) → h ≡ k
found_path known asked bound None h k p q = absurd p
found_path known asked bound (Some path) h k p q = PathGives-one known asked bound path h k p q

pub PlaceGives-one : OneEach → (asked : Asked) (bound : Bound) (place : ℕ) (h k : Val) → PlaceGives asked bound place h → PlaceGives asked bound place k → h ≡ k
PlaceGives-one known asked bound place h k p q = found_path known asked bound (slice_get asked.paths place) h k p q

AreMembers-one : (v : Val) (vs ws : List Val) → AreMembers v vs → AreMembers v ws → vs ≡ ws
AreMembers-one null vs ws p q = p ∙ sym q
AreMembers-one (items values) vs ws p q = p ∙ sym q
AreMembers-one _ vs ws p q = absurd p

pub FieldGives-one : OneEach → (asked : Asked) (bound : Bound) (path : ℕ) (type : FieldType) → AtMostOne (FieldGives asked bound path type)
FieldGives-one known asked bound path type a b p q = p.3 ∙ ap gives (PlaceGives-one known asked bound path p.0 q.0 p.1 q.1) ∙ sym q.3

GivesMissing-one : (v : Val) → AtMostOne (GivesMissing v)
GivesMissing-one null a b p q = same_one (gives (boolean true)) a b p q
GivesMissing-one _ a b p q = same_one (gives (boolean false)) a b p q

pub MissingGives-one : OneEach → (asked : Asked) (bound : Bound) (path : ℕ) → AtMostOne (MissingGives asked bound path)
MissingGives-one known asked bound path a b p q =
    GivesMissing-one p.0 a b p.2 (subst (λ (v : Val). GivesMissing v b) (PlaceGives-one known asked bound path q.0 p.0 q.1 p.1) q.2)

CountedGives-one : (v : Val) → AtMostOne (CountedGives v)
CountedGives-one null a b p q = same_one (gives null) a b p q
CountedGives-one v a b p q =
    p.2 ∙ ap (λ (vs : List Val). gives (whole (pos (length vs)))) (AreMembers-one v p.0 q.0 p.1 q.1) ∙ sym q.2

pub CountGives-one : OneEach → (asked : Asked) (bound : Bound) (path : ℕ) → AtMostOne (CountGives asked bound path)
CountGives-one known asked bound path a b p q =
    CountedGives-one p.0 a b p.2 (subst (λ (v : Val). CountedGives v b) (PlaceGives-one known asked bound path q.0 p.0 q.1 p.1) q.2)

-- ---- members

AtEach-one : (Body : ℕ → Val → Outcome → Type 0) → ((place : ℕ) (v : Val) → AtMostOne (Body place v)) → (place : ℕ) (vs : List Val) (os ps : List Outcome)
    → AtEach Body place vs os → AtEach Body place vs ps → os ≡ ps
AtEach-one Body one place [] os ps p q = p ∙ sym q
AtEach-one Body one place (v ∷ vs) (o ∷ os) (r ∷ rs) p q =
    let first : o ≡ r = one place v o r p.0 q.0 in
    let rest : os ≡ rs = AtEach-one Body one (place + 1) vs os rs p.1 q.1 in
    cc
AtEach-one Body one place (v ∷ vs) (o ∷ os) [] p q = absurd q
AtEach-one Body one place (v ∷ vs) [] ps p q = absurd p

pub OverMembers-one : OneEach → (asked : Asked) (bound : Bound) (path : ℕ) (Body : ℕ → Val → Outcome → Type 0) (Goes : List Outcome → Outcome → Type 0)
    → ((place : ℕ) (v : Val) → AtMostOne (Body place v)) → ((os : List Outcome) → AtMostOne (Goes os)) → AtMostOne (OverMembers asked bound path Body Goes)
OverMembers-one known asked bound path Body Goes one each a b p q =
    let values : q.0 ≡ p.0 = PlaceGives-one known asked bound path q.0 p.0 q.3 p.3 in
    let members : q.1 ≡ p.1 = AreMembers-one p.0 q.1 p.1 (subst (λ (v : Val). AreMembers v q.1) values q.4) p.4 in
    let outcomes : q.2 ≡ p.2 = AtEach-one Body one 0 p.1 q.2 p.2 (subst (λ (vs : List Val). AtEach Body 0 vs q.2) members q.5) p.5 in
    each p.2 a b p.6 (subst (λ (os : List Outcome). Goes os b) outcomes q.6)

SomeTrue-one : (os : List Outcome) (a b : Bool) → SomeTrue os a → SomeTrue os b → a ≡ b
SomeTrue-one [] a b p q = p ∙ sym q
SomeTrue-one (gives (boolean true) ∷ os) a b p q = p.2 ∙ sym q.2
SomeTrue-one (gives (boolean false) ∷ os) a b p q = SomeTrue-one os a b p q
SomeTrue-one (gives null ∷ os) a b p q = SomeTrue-one os a b p q
SomeTrue-one (o ∷ os) a b p q = absurd p

pub GivesExists-one : (os : List Outcome) → AtMostOne (GivesExists os)
GivesExists-one os a b p q = p.2 ∙ ap (λ (t : Bool). gives (boolean t)) (SomeTrue-one os p.0 q.0 p.1 q.1) ∙ sym q.2

LeastOf-one : (os : List Outcome) (a b : Option ℤ) → LeastOf os a → LeastOf os b → a ≡ b
LeastOf-one [] a b p q = p ∙ sym q
LeastOf-one (gives (whole n) ∷ os) a b p q = p.2 ∙ ap (λ (m : Option ℤ). Some (least n m)) (LeastOf-one os p.0 q.0 p.1 q.1) ∙ sym q.2
LeastOf-one (gives null ∷ os) a b p q = LeastOf-one os a b p q
LeastOf-one (o ∷ os) a b p q = absurd p

pub GivesLeast-one : (os : List Outcome) → AtMostOne (GivesLeast os)
GivesLeast-one os a b p q = p.2 ∙ ap (λ (n : Option ℤ). gives (number_val n)) (LeastOf-one os p.0 q.0 p.1 q.1) ∙ sym q.2

pub DecidedGives-one : (quantifier : Quantifier) (place : ℕ) (x : Outcome) → AtMostOne (DecidedGives quantifier place x)
DecidedGives-one quantifier place (gives (whole (pos code))) a b p q =
    IsSomeAnd-one (slice_get (decisions quantifier) code) (λ decided o. o ≡ decision_at place decided) (λ decided. same_one (decision_at place decided)) a b p q
DecidedGives-one quantifier place _ a b p q = absurd p

-- ---- lists of values

EachEqual-one : OneEach → (l : Val) (os ks ls : List Outcome) → EachEqual l os ks → EachEqual l os ls → ks ≡ ls
EachEqual-one known l [] ks ls p q = p ∙ sym q
EachEqual-one known l (gives v ∷ os) (x ∷ xs) (y ∷ ys) p q =
    let first : x ≡ y = known.values.compared ComparisonOperator.Eq l v x y p.0 q.0 in
    let rest : xs ≡ ys = EachEqual-one known l os xs ys p.1 q.1 in
    cc
EachEqual-one known l (gives v ∷ os) (x ∷ xs) [] p q = absurd q
EachEqual-one known l (gives v ∷ os) [] ls p q = absurd p
EachEqual-one known l (overflow ∷ os) ks ls p q = absurd p
EachEqual-one known l (divides_by_zero ∷ os) ks ls p q = absurd p

pub AmongGives-one : OneEach → (os : List Outcome) (l : Val) → AtMostOne (AmongGives os l)
AmongGives-one known os null a b p q = same_one (gives null) a b p q
AmongGives-one known os l a b p q =
    GivesExists-one p.0 a b p.2 (subst (λ (xs : List Outcome). GivesExists xs b) (EachEqual-one known l os q.0 p.0 q.1 p.1) q.2)
