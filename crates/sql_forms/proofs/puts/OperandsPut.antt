-- What is put for an operand evaluates to what the operand has.
use Rattle.sql_forms.proofs.Common.{compared_in, ◌≡◌, ◌≢◌, ◌⊎◌, inl, inr, ℕ, ℤ, [], ◌∷◌, Bool, Option, Some, None, true, false, refl, sym, ap, subst, ◌∙◌, slice_get, plain_val, Val, boolean, member, moment, null, Value, Filter, some_there, there_found, number_val, Outcome, gives, without_fault, GivesIsNull, truth, GivesMissing, PlaceGives, MissingGives, NodeMeans, SqlMeans, Asked, Bound, BoundValue, Term, no_terms, more_terms, Digit, Carrier, FieldType, SqlNode, SqlType, IsFault, Draft, Operand, Source, Kind, Grows, IsOfKind, IsOfType, ComparedHas, Fits, HasLoosely, HasValue, IsLiteralAt, NullHas, OperandHas, SourceHas, as_compared, PutsPath, Puts, Question, World, grows_then, puts_as, puts_leaf, puts_one, world_before, path_says}
use Rattle.sql_outcomes.specs.private.ValueForms.{Itself, OrTruth}
use Rattle.sql_meaning.specs.SqlTypeHolds.{IsComparedAs}
use Rattle.sql_outcomes.proofs.outcomes.Operators.{is_null_means}
use Rattle.sql_outcomes.proofs.outcomes.ComparedValues.{uncompared}

-- ---- forms of a value, and of what stands instead of a fault

pub given_form : (Form : Outcome → Outcome → Type 0) (o : Outcome) (v : Val) (x : Outcome) → o ≡ gives v → Form o x → OrTruth Form o x
given_form Form (gives w) v x is form = form
given_form Form _ v x is form = absurd (cc)

pub fault_form : (Form : Outcome → Outcome → Type 0) (o : Outcome) (t : Option Bool) (x : Outcome) → IsFault o → x ≡ truth t → OrTruth Form o x
fault_form Form (gives v) t x fault is = absurd fault
fault_form Form _ t x fault is = (t, is)

pub given_itself : (o : Outcome) (v : Val) (x : Outcome) → o ≡ gives v → OrTruth Itself o x → x ≡ gives v
given_itself (gives w) v x is form = form ∙ is
given_itself _ v x is form = absurd (cc)

pub null_value : (operand : Operand) (v : Val) → operand.kind ≡ Kind.Null → Fits operand v → v ≡ null
null_value operand v kind fits = subst (λ (k : Kind). IsOfKind k v) kind fits.kind

pub fault_itself : (o x : Outcome) → IsFault o → OrTruth Itself o x → (t : Option Bool) × (x ≡ truth t)
fault_itself (gives v) x fault form = absurd fault
fault_itself _ x fault form = form

pub loosely : {filter : Filter} {operand : Operand} {world : World} {v : Val} → HasValue filter operand world v → HasLoosely filter operand world v
loosely value = record { has = value.has; kind = value.fits.kind }

-- a value as it is compared is one that its type compares
pub compared_typed : (type : SqlType) (v : Val) → IsOfType type v → IsComparedAs (compared_in type) (as_compared v)
compared_typed SqlType.Moment null is = tt
compared_typed SqlType.Moment (moment m) is = tt
compared_typed SqlType.Moment v is = absurd is
compared_typed SqlType.Truth (moment m) is = absurd is
compared_typed SqlType.Whole (moment m) is = absurd is
compared_typed SqlType.Text (moment m) is = absurd is
compared_typed SqlType.Date (moment m) is = absurd is
compared_typed SqlType.Instant (moment m) is = absurd is
compared_typed SqlType.Guid (moment m) is = absurd is
compared_typed SqlType.Member (moment m) is = absurd is
compared_typed type v is = is

-- a number or null is whole
pub number_typed : (n : Option ℤ) → IsOfType SqlType.Whole (number_val n)
number_typed None = tt
number_typed (Some n) = tt

missing_is_null : (v : Val) (o : Outcome) → GivesIsNull v o → GivesMissing v o
missing_is_null null o given = given
missing_is_null v o given = given

pub given_is : (v : Val) (o : Outcome) → v ≢ null → GivesIsNull v o → o ≡ gives (boolean false)
given_is null o other given = absurd (other refl)
given_is v o other given = given

-- whether a value is null
pub null_of : (v : Val) → (n : Bool) × GivesIsNull v (gives (boolean n))
null_of null = (true, refl)
null_of v = (false, refl)

null_reported : (v : Val) (o : Outcome) → GivesIsNull v o → (n : Bool) × (o ≡ gives (boolean n))
null_reported null o given = (true, given)
null_reported v o given = (false, given)

module _ (question : Question) where
  pub bound_put : (old new : Draft) (level : ℕ) → Grows old new (SqlNode.Bound level ∷ []) → Puts question old new (SourceHas question.filter (Source.Bound level)) Itself
  bound_put old new level grows =
      puts_leaf question (SqlNode.Bound level) refl old new (SourceHas question.filter (Source.Bound level)) Itself grows (λ world o is has. (o, has, refl))

  pub field_put : (old new : Draft) (path : ℕ) (type : FieldType) → Grows old new (SqlNode.Field path type ∷ [])
      → Puts question old new (SourceHas question.filter (Source.Field path type)) Itself
  field_put old new path type grows =
      puts_leaf question (SqlNode.Field path type) refl old new (SourceHas question.filter (Source.Field path type)) Itself grows (λ world o is has. (o, has, refl))

  pub zero_put : (old new : Draft) → Grows old new (SqlNode.Number Digit.Zero ∷ []) → Puts question old new (SourceHas question.filter Source.Zero) Itself
  zero_put old new grows = puts_leaf question (SqlNode.Number Digit.Zero) refl old new (SourceHas question.filter Source.Zero) Itself grows (λ world o is has. (o, has, refl))

  pub unfaulted_put : (old middle new : Draft) (level : ℕ) (carrier : Carrier) → Grows old middle (SqlNode.Unfault carrier ∷ []) → Grows middle new (SqlNode.Bound level ∷ [])
      → Puts question old new (SourceHas question.filter (Source.Unfaulted level carrier)) Itself
  unfaulted_put old middle new level carrier grows bound =
      puts_one question (SqlNode.Unfault carrier) refl (λ x y. y ≡ without_fault x) old middle new (SourceHas question.filter (Source.Bound level))
      (SourceHas question.filter (Source.Unfaulted level carrier)) Itself Itself
      (λ asked environment a x y means is. (x, means, is)) grows (bound_put middle new level bound)
      (λ world o is has.
      let b = some_there (λ (b : BoundValue). o ≡ without_fault b.value) (slice_get world.bound level) has in (
        b.0.value,
        there_found (λ (other : BoundValue). b.0.value ≡ other.value) (slice_get world.bound level) b.0 b.1.0 refl,
        λ x same. (without_fault x, refl, ap without_fault same ∙ sym b.1.1),
      ))

  -- the number of an enumeration is put as a literal is
  pub number_put : (old new : Draft) (place : ℕ) → Puts question old new (IsLiteralAt question.filter place) Itself
      → Puts question old new (SourceHas question.filter (Source.Number place)) Itself
  number_put old new place literal =
      puts_as question old new (IsLiteralAt question.filter place) (SourceHas question.filter (Source.Number place)) Itself Itself literal
      (λ world o is has. (
        o,
        there_found (λ (value : Value). (v : Val) × (plain_val value ≡ Some v) × (o ≡ gives v)) (slice_get question.filter.list.values place) (Value.Enum has.0) has.1
            (member has.0, refl, has.2),
        λ x same. same,
      ))

  -- ---- as it is compared

  pub compared_put : (operand : Operand) (old new : Draft) (type : SqlType) → operand.kind ≡ Kind.Value type → type ≢ SqlType.Moment
      → Puts question old new (OperandHas question.filter operand) Itself → Puts question old new (ComparedHas question.filter operand) Itself
  compared_put operand old new type kind other inner =
      puts_as question old new (OperandHas question.filter operand) (ComparedHas question.filter operand) Itself Itself inner
      (λ world o is has.
      let fits : IsOfType type has.0 = subst (λ (k : Kind). IsOfKind k has.0) kind has.1.kind in
      (gives has.0, has.1.has, λ x same. same ∙ ap gives (sym (uncompared type has.0 other fits)) ∙ sym has.2))

  -- ---- whether it is null

  -- what is put for a value says whether it is null, and of null instead of a fault it says something
  abbrev Says : Operand → (World → Outcome → Type 0) → Type 0
  Says operand Means =
      (world : World) (v : Val) (o : Outcome) → HasLoosely question.filter operand world v
      → (HasValue question.filter operand world v × GivesIsNull v o) ⊎ IsFault o → (x : Outcome) × Means world x × OrTruth Itself o x

  null_cases : (operand : Operand) (Means : World → Outcome → Type 0) → Says operand Means → (world : World) (o : Outcome) → NullHas question.filter operand world o
      → (x : Outcome) × Means world x × OrTruth Itself o x
  null_cases operand Means says world o (inl given) = says world given.0 o (loosely given.1) (inl (given.1, given.2))
  null_cases operand Means says world o (inr fault) = says world fault.1 o fault.2 (inr fault.0)

  -- a constant, which it is of each value that fits
  constant : (operand : Operand) (b : Bool) → ((v : Val) (o : Outcome) → Fits operand v → GivesIsNull v o → o ≡ gives (boolean b))
      → Says operand (λ world x. x ≡ gives (boolean b))
  constant operand b is world v o has (inl given) = (gives (boolean b), refl, given_form Itself o (boolean b) (gives (boolean b)) (is v o given.0.fits given.1) (sym (is v o given.0.fits given.1)))
  constant operand b is world v o has (inr fault) = (gives (boolean b), refl, fault_form Itself o (Some b) (gives (boolean b)) fault refl)

  pub never_null : (operand : Operand) (old new : Draft) → operand.range.may_be_null ≡ false → Grows old new (SqlNode.Truth false ∷ [])
      → Puts question old new (NullHas question.filter operand) (OrTruth Itself)
  never_null operand old new never grows =
      puts_leaf question (SqlNode.Truth false) refl old new (NullHas question.filter operand) (OrTruth Itself) grows
      (λ world o is has. null_cases operand (λ w x. x ≡ gives (boolean false))
      (constant operand false (λ v p fits given. given_is v p (λ null_it. cc (fits.nullable null_it, never)) given)) world o has)

  pub always_null : (operand : Operand) (old new : Draft) → operand.kind ≡ Kind.Null → Grows old new (SqlNode.Truth true ∷ [])
      → Puts question old new (NullHas question.filter operand) (OrTruth Itself)
  always_null operand old new kind grows =
      puts_leaf question (SqlNode.Truth true) refl old new (NullHas question.filter operand) (OrTruth Itself) grows
      (λ world o is has. null_cases operand (λ w x. x ≡ gives (boolean true))
      (constant operand true (λ v p fits given. subst (λ (w : Val). GivesIsNull w p) (subst (λ (k : Kind). IsOfKind k v) kind fits.kind) given)) world o has)

  -- a position in JSON
  pub missing_put : (operand : Operand) (old new : Draft) (path : ℕ) → operand.source ≡ Source.Place path → Grows old new (SqlNode.IsMissing path ∷ [])
      → Puts question old new (NullHas question.filter operand) (OrTruth Itself)
  missing_put operand old new path source grows =
      puts_leaf question (SqlNode.IsMissing path) refl old new (NullHas question.filter operand) (OrTruth Itself) grows
      (λ world o is has. null_cases operand (λ w x. MissingGives w.asked w.bound path x) says world o has)
    where
      same_value : (v w : Val) → gives v ≡ gives w → v ≡ w
      same_value v w same = cc

      there : (world : World) (v : Val) → HasLoosely question.filter operand world v → PlaceGives world.asked world.bound path v
      there world v has =
          let at = subst (λ (s : Source). SourceHas question.filter s world (gives v)) source has.has in
          subst (λ (w : Val). PlaceGives world.asked world.bound path w) (sym (same_value v at.0 at.2)) at.1

      says : Says operand (λ w x. MissingGives w.asked w.bound path x)
      says world v o has (inl given) =
          let n = null_reported v o given.1 in
          (o, (v, there world v has, missing_is_null v o given.1), given_form Itself o (boolean n.0) o n.1 refl)
      says world v o has (inr fault) =
          let n = null_of v in
          (gives (boolean n.0), (v, there world v has, missing_is_null v (gives (boolean n.0)) n.1), fault_form Itself o (Some n.0) (gives (boolean n.0)) fault refl)

  value_says : (operand : Operand) → Says operand (λ world x. (v : Val) × HasLoosely question.filter operand world v × GivesIsNull v x)
  value_says operand world v o has (inl given) =
      let n = null_reported v o given.1 in
      (o, (v, has, given.1), given_form Itself o (boolean n.0) o n.1 refl)
  value_says operand world v o has (inr fault) =
      let n = null_of v in
      (gives (boolean n.0), (v, has, n.1), fault_form Itself o (Some n.0) (gives (boolean n.0)) fault refl)

  -- a position that the path leads to, of a node
  pub path_missing : (operand : Operand) (place number : ℕ) (old middle new : Draft) → operand.source ≡ Source.Node place → PutsPath question old middle place number
      → Grows middle new (SqlNode.IsMissing number ∷ []) → Puts question old new (NullHas question.filter operand) (OrTruth Itself)
  path_missing operand place number old middle new source path grows =
      puts_leaf question (SqlNode.IsMissing number) refl old new (NullHas question.filter operand) (OrTruth Itself)
      (grows_then old middle new [] (SqlNode.IsMissing number ∷ []) path.grows grows)
      (λ world o is has.
      let found = null_cases operand (λ w x. (v : Val) × HasLoosely question.filter operand w v × GivesIsNull v x) (value_says operand) world o has in
      let of_place = subst (λ (s : Source). SourceHas question.filter s world (gives found.1.0)) source found.1.1.has in
      let before = world_before question middle new (SqlNode.IsMissing number ∷ []) world grows is in
      (found.0, (found.1.0, path_says question middle place number path.leads world found.1.0 before of_place, missing_is_null found.1.0 found.0 found.1.2), found.2))

  pub value_null : (operand : Operand) (old middle new : Draft) → Grows old middle (SqlNode.IsNull ∷ []) → Puts question middle new (OperandHas question.filter operand) Itself
      → Puts question old new (NullHas question.filter operand) (OrTruth Itself)
  value_null operand old middle new grows inner =
      puts_one question SqlNode.IsNull refl (λ x y. (v : Val) × (x ≡ gives v) × GivesIsNull v y) old middle new (OperandHas question.filter operand) (NullHas question.filter operand) Itself (OrTruth Itself)
      means grows inner
      (λ world o is has.
      let found = null_cases operand (λ w x. (v : Val) × HasLoosely question.filter operand w v × GivesIsNull v x) (value_says operand) world o has in
      (gives found.1.0, found.1.1.has, λ x same. (found.0, (found.1.0, same, found.1.2), found.2)))
    where
      means : (asked : Asked) (bound : Bound) (a : Term) (x y : Outcome) → SqlMeans asked bound a x → (v : Val) × (x ≡ gives v) × GivesIsNull v y
          → NodeMeans asked bound SqlNode.IsNull (more_terms a no_terms) y
      means asked bound a x y term_means op = is_null_means asked bound a op.0 y (subst (SqlMeans asked bound a) op.1 term_means) op.2
