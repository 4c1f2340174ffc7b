-- What `put_value` returns.
use Rattle.sql_forms.proofs.Common.{◌≡◌, ◌+◌, ℕ, ℤ, pos, List, [], ◌∷◌, Option, Some, None, Result, Ok, Err, OnOk, length, string_bytes, refl, sym, ap, subst, IsSomeAnd, slice_get, MomentValue, IsMoment, MomentParts, Val, null, whole, items, moment, PrimitiveType, Tree, count, node, ArithmeticOperator, ComesWithin, ArithFault, Overflow, DivideByZero, Stands, NodeKind, EndsOnceOnEntities, scope_of, HasKind, one_there, GivesNumber, number_outcome, CountGives, members_of, Then, Outcome, gives, Range, CountedGives, SqlNode, SqlType, Parameter, Draft, Operand, Kind, CalculatedHas, GrowsBy, GrowsByText, kind_of_type, PutsPath, AreRanges, IsFaultless, IsTruthAt, IsAskedOf, OfPlace, Puts, Question, World, MeansOf, means_in, means_of, by_node, grows_then, puts_as, puts_leaf, world_before, now_there, by_kind, path_says, where_ok}
use Rattle.sql_outcomes.specs.private.ValueForms.{Itself}
use Rattle.sql_outcomes.proofs.outcomes.ChainValues.{IsValue}
use Rattle.sql_forms.proofs.puts.ChainsPut.{faultless_valued}
use Rattle.sql_forms.proofs.puts.FormsPut.{null_comes}
use Rattle.sql_forms.proofs.puts.LiteralsPut.{parameter_put}

-- ---- how many members

-- a number that is no fault is that of the members
counted_number : (n : ℤ) (o : Outcome) → GivesNumber PrimitiveType.Int64 n o → IsValue o → o ≡ gives (whole n)
counted_number n o given value = subst (λ (x : Outcome). x ≡ gives (whole n)) (sym given.2) (answered given.0 given.1 (subst IsValue given.2 value))
  where
    answered : (answer : Result (Option ℤ) ArithFault) → ComesWithin PrimitiveType.Int64 n answer → IsValue (number_outcome answer) → number_outcome answer ≡ gives (whole n)
    answered (Ok (Some m)) comes is =
        let same : m ≡ n = cc comes.0 in
        ap (λ (k : ℤ). gives (whole k)) same
    answered (Ok None) comes is = let none : None ≡ Some n = comes.0 in absurd (cc)
    answered (Err Overflow) comes is = absurd is
    answered (Err DivideByZero) comes is = absurd is

counted : (v : Val) (o : Outcome) → CountGives v o → IsValue o → CountedGives v o
counted null o given value = given
counted (items values) o given value = (members_of values, refl, counted_number (pos (length (members_of values))) o given value)
counted _ o given value = absurd given

-- what is counted
pub record Counted (question : Question) (place : ℕ) (world : World) (o : Outcome) : Type 0 where
  pub v : Val
  pub has : OfPlace question.filter (place + 1) world (gives v)
  pub given : CountGives v o

module _ (question : Question) (place : ℕ) (here : HasKind question.filter.list place NodeKind.Count) (world : World) (seen : IsAskedOf question world) (o : Outcome) (value : IsValue o) where
  counted_there : (stop from to : ℕ) (base : Tree) → Stands question.filter.schema question.filter.filtered (scope_of world.environment) question.filter.list place stop (node from to (count base))
      → MeansOf question world seen (node from to (count base)) o → Counted question place world o
  counted_there stop from to base stands means = by means.0 means.1.0 means.1.1
    where
      by : (y : Outcome) → MeansOf question world seen base y → Then y CountGives o → Counted question place world o
      by (gives v) of_base given = record {
        v = v;
        has = (
          base,
          record {
            stop = stop;
            stands = one_there question.filter.schema question.filter.filtered (scope_of world.environment) question.filter.list (place + 1) stop base stands.children;
          },
          means_in question world seen base (gives v) of_base,
        );
        given = given;
      }
      by _ of_base given = absurd (subst IsValue given value)

  pub count_comes : OfPlace question.filter place world o → Counted question place world o
  count_comes has =
      by_kind question.filter.schema question.filter.filtered (scope_of world.environment) question.filter.list place NodeKind.Count here (λ stop tree. MeansOf question world seen tree o → Counted question place world o)
      (λ base stop from to stands means. counted_there stop from to base stands means) has.1.stop has.0 has.1.stands (means_of question world seen has.0 o has.2)

-- ---- what is returned

module _ (question : Question) (ranges : List Range) (are : AreRanges question ranges) (ends : EndsOnceOnEntities) (is_moment : IsMoment question.now.civil question.now.offset_minutes) (place : ℕ)
    {T E : Type 0} (r : Result T E) (old : Draft) where
  -- the node's value
  abbrev pub PutIt : Draft → Type 0
  PutIt new = Puts question old new (OfPlace question.filter place) Itself

  module _ (is_null : IsSomeAnd (slice_get question.filter.list.nodes place) (λ node. kind_of_type node.edm_type ≡ Kind.Null)) (truth : IsTruthAt question.filter place) where
    pub ok_null_value : (wanted : SqlType) (new : Draft) → OnOk r (GrowsBy old new (SqlNode.Null wanted ∷ []) [] []) → OnOk r (PutIt new)
    ok_null_value wanted new put =
        where_ok (λ (g : GrowsBy old new (SqlNode.Null wanted ∷ []) [] []). puts_leaf question (SqlNode.Null wanted) refl old new (OfPlace question.filter place) Itself (by_node old new (SqlNode.Null wanted) refl g)
        (λ world o is has. (gives null, refl, sym (null_comes question ranges are ends is_moment place truth is_null world o is.seen has)))) r put

  pub ok_now_value : HasKind question.filter.list place NodeKind.Now → (new : Draft) → OnOk r (GrowsByText old new SqlType.Moment (λ t. MomentValue (string_bytes t) question.now)) → OnOk r (PutIt new)
  ok_now_value here new put =
      where_ok (λ (g : GrowsByText old new SqlType.Moment (λ t. MomentValue (string_bytes t) question.now)). parameter_put question old new SqlType.Moment (Parameter.Text g.written) (OfPlace question.filter place) Itself g.by
      (λ world o is has. (
        gives (moment question.now),
        (question.now, g.meets, refl),
        sym (subst (λ (m : MomentParts). o ≡ gives (moment m)) is.seen.moment_is (now_there question.filter place here world o is.seen.row_is has)),
      ))) r put

  pub ok_counted_value : HasKind question.filter.list place NodeKind.Count → IsFaultless ranges place → (middle new : Draft) (number : ℕ) → PutsPath question old middle (place + 1) number
      → OnOk r (GrowsBy middle new (SqlNode.Count number ∷ []) [] []) → OnOk r (PutIt new)
  ok_counted_value here faultless middle new number path put =
      where_ok (λ (g : GrowsBy middle new (SqlNode.Count number ∷ []) [] []).
      let grows = by_node middle new (SqlNode.Count number) refl g in
      puts_leaf question (SqlNode.Count number) refl old new (OfPlace question.filter place) Itself (grows_then old middle new [] (SqlNode.Count number ∷ []) path.grows grows)
      (λ world o is has.
      let value = (faultless_valued question ranges are (place ∷ []) (faultless, tt) world (o ∷ []) is.seen (has, refl)).0 in
      let c = count_comes question place here world is.seen o value has in
      let before = world_before question middle new (SqlNode.Count number ∷ []) world grows is in
      (o, (c.v, path_says question middle (place + 1) number path.leads world c.v before c.has, counted c.v o c.given value), refl))) r put

  pub ok_calculated_value : (operator : ArithmeticOperator) (left right : Operand)
      → ((world : World) (o : Outcome) → IsAskedOf question world → OfPlace question.filter place world o → CalculatedHas question.filter operator place left right world o) → (new : Draft)
      → OnOk r (Puts question old new (CalculatedHas question.filter operator place left right) Itself) → OnOk r (PutIt new)
  ok_calculated_value operator left right comes new put =
      where_ok (λ (p : Puts question old new (CalculatedHas question.filter operator place left right) Itself). puts_as question old new (CalculatedHas question.filter operator place left right) (OfPlace question.filter place) Itself Itself p
      (λ world o is has. (o, comes world o is.seen has, λ x same. same))) r put
