-- `has` over flags, and whether a collection has members.
use Rattle.sql_forms.proofs.Common.{IsOfType, ◌≡◌, ◌+◌, ◌∷◌, [], ℕ, suc, ℤ, pos, List, length, refl, sym, subst, arith, ◌<ℤ◌, ints, IsMoment, Val, item, items, member, no_items, null, whole, ComparisonOperator, OneType, NodeKind, scope_of, EndsOnceOnEntities, HasKind, one_there, AnyItemGives, members_of, GivesTruth, Outcome, gives, Range, StrictlyGives, CountedGives, NodeMeans, SqlMeans, Asked, Bound, Term, more_terms, no_terms, Digit, SqlNode, SqlType, Draft, Operand, Source, FlagsHave, Grows, OperandHas, IsPathTo, AreRanges, Has, IsAskedOf, OfPlace, Puts, Question, World, MeansOf, means_in, means_of, grows_then, puts_as, puts_leaf, puts_two, world_before, by_kind, path_says}
use Rattle.sql_outcomes.specs.private.ValueForms.{Itself}
use Rattle.odata_filter_operations.specs.HasGives.{HasGives}
use Rattle.sql_outcomes.proofs.outcomes.Operators.{compare_means}
use Rattle.sql_outcomes.proofs.nodes.Sides.{OneNumber}
use Rattle.sql_outcomes.proofs.nodes.FlagNodes.{plain_value, after_value}

-- ---- flags of two values

flags_means : (asked : Asked) (bound : Bound) (a b : Term) (l r : Val) (o : Outcome) → SqlMeans asked bound a (gives l) → SqlMeans asked bound b (gives r) → HasGives l r o
    → NodeMeans asked bound SqlNode.HasBits (more_terms a (more_terms b no_terms)) o
flags_means asked bound a b null null o first second given = (gives null, first, (gives null, second, given))
flags_means asked bound a b null (member n) o first second given = (gives null, first, (gives (member n), second, given))
flags_means asked bound a b (member m) null o first second given = (gives (member m), first, (gives null, second, given))
flags_means asked bound a b (member m) (member n) o first second given = (gives (member m), first, (gives (member n), second, given))
flags_means asked bound a b _ _ o first second given = absurd given

module _ (question : Question) where
  pub flags_put : (left right : Operand) (old middle next new : Draft) → Grows old middle (SqlNode.HasBits ∷ []) → Puts question middle next (OperandHas question.filter left) Itself
      → Puts question next new (OperandHas question.filter right) Itself → Puts question old new (FlagsHave question.filter left right) Itself
  flags_put left right old middle next new grows first second =
      puts_two question SqlNode.HasBits refl (λ x y z. (l : Val) × (r : Val) × (x ≡ gives l) × (y ≡ gives r) × HasGives l r z) old middle next new (OperandHas question.filter left) (OperandHas question.filter right)
      (FlagsHave question.filter left right) Itself Itself Itself
      (λ asked bound a b x y z one two op. flags_means asked bound a b op.0 op.1 z (subst (SqlMeans asked bound a) op.2 one) (subst (SqlMeans asked bound b) op.3 two) op.4)
      grows first second
      (λ world o is has. (gives has.0, gives has.1, has.2, has.3, λ x y one two. (o, (has.0, has.1, one, two, has.4), refl)))

-- ---- nodes of flags

module _ (question : Question) (types : OneType) (one : OneNumber) (ranges : List Range) (are : AreRanges question ranges) (ends : EndsOnceOnEntities)
    (is_moment : IsMoment question.now.civil question.now.offset_minutes) (place : ℕ) (left right : Operand) (left_source : left.source ≡ Source.Node (place + 1)) where
  -- so what is put for the two sides is put for the node
  pub flags_node_put : ((world : World) (o : Outcome) → IsAskedOf question world → OfPlace question.filter place world o → FlagsHave question.filter left right world o) → (old new : Draft)
      → Puts question old new (FlagsHave question.filter left right) Itself → Puts question old new (OfPlace question.filter place) Itself
  flags_node_put comes old new inner =
      puts_as question old new (FlagsHave question.filter left right) (OfPlace question.filter place) Itself Itself inner (λ world o is has. (o, comes world o is.seen has, λ x form. form))

-- ---- whether a collection has members

counted : (c : Val) (o : Outcome) → AnyItemGives c o → (n : Val) × CountedGives c (gives n) × StrictlyGives ComparisonOperator.Gt n (whole (pos 0)) o
counted null o is = (null, refl, is)
counted (items no_items) o is =
    (whole (pos 0), ([], refl, refl), (tt, subst (GivesTruth (pos 0 <ℤ pos 0)) (sym is) (λ yes. absurd (cc yes), λ above. absurd (omega (arith, ints, above)))))
counted (items (item v more)) o is =
    let k : ℕ = length (members_of more) in
    (whole (pos (suc k)), (members_of (item v more), refl, refl), (tt, subst (GivesTruth (pos 0 <ℤ pos (suc k))) (sym is) (λ yes. omega (arith, ints), λ above. refl)))
counted _ o is = absurd is

-- a count is a whole number or null
counted_typed : (c n : Val) → CountedGives c (gives n) → IsOfType SqlType.Whole n
counted_typed null n is =
    let given : gives n ≡ gives null = is in
    let same : n ≡ null = cc in
    subst (IsOfType SqlType.Whole) (sym same) tt
counted_typed c n is =
    let same : n ≡ whole (pos (length is.0)) = cc is.2 in
    subst (IsOfType SqlType.Whole) (sym same) tt

module _ (question : Question) (ranges : List Range) (are : AreRanges question ranges) (place : ℕ) (here : HasKind question.filter.list place NodeKind.AnyItem) where
  -- what the collection evaluates to
  record AnyComes (world : World) (o : Outcome) : Type 0 where
    c : Val
    has : OfPlace question.filter (place + 1) world (gives c)
    given : AnyItemGives c o

  any_comes : (world : World) (o : Outcome) → IsAskedOf question world → OfPlace question.filter place world o → AnyComes world o
  any_comes world o seen entire =
      by_kind question.filter.schema question.filter.filtered (scope_of world.environment) question.filter.list place NodeKind.AnyItem here
      (λ stop tree. MeansOf question world seen tree o → AnyComes world o)
      (λ base stop from to stands means.
      let v = plain_value question ranges are place NodeKind.AnyItem tt here world o seen entire in
      let c = after_value (MeansOf question world seen base) AnyItemGives o v.0 v.1 means in
      record {
        c = c.0;
        has = (
          base,
          record { stop = stop; stands = one_there question.filter.schema question.filter.filtered (scope_of world.environment) question.filter.list (place + 1) stop base stands.children },
          means_in question world seen base (gives c.0) c.1,
        );
        given = c.2;
      })
      entire.1.stop entire.0 entire.1.stands (means_of question world seen entire.0 o entire.2)

  -- how many members it has, and 0
  abbrev CountHas : Has
  CountHas world x = (o : Outcome) × (come : AnyComes world o) × (n : Val) × CountedGives come.c (gives n) × (x ≡ gives n)

  abbrev ZeroHas : Has
  ZeroHas world x = x ≡ gives (whole (pos 0))

  pub any_item_put : (path : ℕ) (old middle next new : Draft) → IsPathTo question old (place + 1) path → Grows old middle (SqlNode.Compare ComparisonOperator.Gt SqlType.Whole ∷ [])
      → Grows middle next (SqlNode.Count path ∷ []) → Grows next new (SqlNode.Number Digit.Zero ∷ []) → Puts question old new (OfPlace question.filter place) Itself
  any_item_put path old middle next new leads compare_grows count_grows zero_grows =
      puts_two question (SqlNode.Compare ComparisonOperator.Gt SqlType.Whole) refl
      (λ x y z. (l : Val) × (r : Val) × (x ≡ gives l) × (y ≡ gives r) × IsOfType SqlType.Whole l × IsOfType SqlType.Whole r × StrictlyGives ComparisonOperator.Gt l r z) old middle next new CountHas ZeroHas (OfPlace question.filter place) Itself Itself Itself
      (λ asked bound a b x y z first second op.
      compare_means asked bound ComparisonOperator.Gt SqlType.Whole a b op.0 op.1 z op.4 op.5 (subst (SqlMeans asked bound a) op.2 first) (subst (SqlMeans asked bound b) op.3 second) op.6)
      compare_grows
      (puts_leaf question (SqlNode.Count path) refl middle next CountHas Itself count_grows
      (λ world x is has.
      let before = world_before question old next (SqlNode.Compare ComparisonOperator.Gt SqlType.Whole ∷ SqlNode.Count path ∷ []) world
      (grows_then old middle next (SqlNode.Compare ComparisonOperator.Gt SqlType.Whole ∷ []) (SqlNode.Count path ∷ []) compare_grows count_grows) is in
      let come = has.1 in
      (gives has.2, (come.c, path_says question old (place + 1) path leads world come.c before come.has, has.3), sym has.4)))
      (puts_leaf question (SqlNode.Number Digit.Zero) refl next new ZeroHas Itself zero_grows (λ world x is has. (gives (whole (pos 0)), refl, sym has)))
      (λ world o is has.
      let come = any_comes world o is.seen has in
      let n = counted come.c o come.given in
      (gives n.0, gives (whole (pos 0)), (o, come, n.0, n.1, refl), refl, λ x y one two. (o, (n.0, whole (pos 0), one, two, counted_typed come.c n.0 n.1, tt, n.2), refl)))
