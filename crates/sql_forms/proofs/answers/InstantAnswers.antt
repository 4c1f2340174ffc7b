-- What is returned where an instant is put as a parameter.
use Rattle.sql_forms.proofs.Common.{◌≡◌, ◌∷◌, [], ℕ, Some, Result, OnOk, length, refl, sym, ap, subst, ◌∙◌, slice_get, instant, MomentParts, Val, moment, null, whole, Value, NodeKind, HasKind, OneLiteralValue, gives, LiteralKind, ParameterGives, SqlFunctionGives, NodeMeans, SqlMeans, Asked, Bound, Term, more_terms, no_terms, SqlFunction, SqlNode, SqlType, Parameter, Draft, Operand, Source, GrowsBy, Kind, IsOfKind, IsOfType, ComparedHas, OperandHas, SourceHas, as_compared, IsWorldOf, OfPlace, Puts, Question, World, by_node, puts_one, literal_there, now_there, where_ok}
use Rattle.sql_outcomes.specs.private.ValueForms.{Itself}
use Rattle.sql_forms.proofs.puts.LiteralsPut.{literal_is, parameter_put}

module _ (question : Question) (operand : Operand) (place : ℕ) (old new : Draft) {T E : Type 0} (r : Result T E) (parameter : Parameter) (source_is : operand.source ≡ Source.Node place) where
  abbrev instant_node : SqlNode
  instant_node = SqlNode.Parameter (length old.tree.parameters.items) SqlType.Instant

  -- of a node that evaluates to that moment
  pub ok_instant : (m : MomentParts) → parameter ≡ Parameter.Instant (instant m)
      → ((world : World) (v : Val) → IsWorldOf question new world → OfPlace question.filter place world (gives v) → v ≡ moment m)
      → OnOk r (GrowsBy old new (instant_node ∷ []) [] (parameter ∷ [])) → OnOk r (Puts question old new (ComparedHas question.filter operand) Itself)
  ok_instant m is known put =
      where_ok (λ (g : GrowsBy old new (instant_node ∷ []) [] (parameter ∷ [])). parameter_put question old new SqlType.Instant parameter (ComparedHas question.filter operand) Itself g
      (λ world o w has.
      let here = subst (λ (s : Source). SourceHas question.filter s world (gives has.0)) source_is has.1.has in
      let value_is : has.0 ≡ moment m = known world has.0 w here in (
        gives (whole (instant m)),
        subst (λ (p : Parameter). ParameterGives SqlType.Instant p (gives (whole (instant m)))) (sym is) refl,
        sym (has.2 ∙ ap (λ (v : Val). gives (as_compared v)) value_is),
      ))) r put

  pub ok_now : HasKind question.filter.list place NodeKind.Now → parameter ≡ Parameter.Instant (instant question.now)
      → OnOk r (GrowsBy old new (instant_node ∷ []) [] (parameter ∷ [])) → OnOk r (Puts question old new (ComparedHas question.filter operand) Itself)
  ok_now here is put =
      ok_instant question.now is
      (λ world v w there.
      let at : gives v ≡ gives (moment world.now) = now_there question.filter place here world (gives v) w.seen.row_is there in
      let same : gives v ≡ gives (moment question.now) = at ∙ ap (λ (m : MomentParts). gives (moment m)) w.seen.moment_is in
      cc) put

  -- of a literal that is that moment
  pub ok_literal_instant : OneLiteralValue → (kind : LiteralKind) (value : ℕ) → HasKind question.filter.list place (NodeKind.Literal kind value) → (m : MomentParts)
      → slice_get question.filter.list.values value ≡ Some (Value.Moment m) → parameter ≡ Parameter.Instant (instant m)
      → OnOk r (GrowsBy old new (instant_node ∷ []) [] (parameter ∷ [])) → OnOk r (Puts question old new (ComparedHas question.filter operand) Itself)
  ok_literal_instant one kind value here m at is put =
      ok_instant m is
      (λ world v w there.
      let same = literal_is question old new value (Value.Moment m) at (moment m) refl world (gives v) (literal_there question.filter place kind value here one world (gives v) w.seen.row_is there) in
      cc) put

-- of a value that may be null
instant_gives : (now : MomentParts) (v : Val) → IsOfType SqlType.Moment v → SqlFunctionGives now SqlFunction.Instant (v ∷ []) (gives (as_compared v))
instant_gives now null is = refl
instant_gives now (moment m) is = refl
instant_gives now v is = absurd is

instant_means : (asked : Asked) (bound : Bound) (a : Term) (v : Val) → SqlMeans asked bound a (gives v) → IsOfType SqlType.Moment v
    → NodeMeans asked bound (SqlNode.Function SqlFunction.Instant) (more_terms a no_terms) (gives (as_compared v))
instant_means asked bound a v first is = (gives v, first, ([], refl, (v ∷ [], (refl, refl), instant_gives asked.now v is)))

pub ok_of_moment : (question : Question) (operand : Operand) (old middle new : Draft) {T E : Type 0} (r : Result T E) → operand.kind ≡ Kind.Value SqlType.Moment
    → GrowsBy old middle (SqlNode.Function SqlFunction.Instant ∷ []) [] [] → OnOk r (Puts question middle new (OperandHas question.filter operand) Itself)
    → OnOk r (Puts question old new (ComparedHas question.filter operand) Itself)
ok_of_moment question operand old middle new r kind node put =
    where_ok (λ (inner : Puts question middle new (OperandHas question.filter operand) Itself). puts_one question (SqlNode.Function SqlFunction.Instant) refl (λ x y. (v : Val) × (x ≡ gives v) × IsOfType SqlType.Moment v × (y ≡ gives (as_compared v))) old middle new
    (OperandHas question.filter operand) (ComparedHas question.filter operand) Itself Itself
    (λ asked bound a x y first op. subst (NodeMeans asked bound (SqlNode.Function SqlFunction.Instant) (more_terms a no_terms)) (sym op.3)
    (instant_means asked bound a op.0 (subst (SqlMeans asked bound a) op.1 first) op.2))
    (by_node old middle (SqlNode.Function SqlFunction.Instant) refl node) inner
    (λ world o is has. (
      gives has.0,
      has.1.has,
      λ x same. (gives (as_compared has.0), (has.0, same, subst (λ (k : Kind). IsOfKind k has.0) kind has.1.kind, refl), sym has.2),
    ))) r put
