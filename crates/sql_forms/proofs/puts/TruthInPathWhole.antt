-- The code of `in` before a path whose left side is a truth value: its own fault, or the code of whether a member is
-- equal.
use Rattle.sql_forms.proofs.Common.{◌≡◌, ◌↔◌, ◌+◌, ◌++◌, ◌∷◌, [], ℕ, pos, List, Bool, true, false, Option, Some, None, length, refl, sym, ap, subst, ◌∙◌, slice_get, AllByRecursion, Val, boolean, null, whole, ComparisonOperator, there_found, Outcome, gives, IsCoded, code_of, ChoiceGives, StrictlyGives, code_of_truth, truth, SqlMeans, BoundValue, bound_value, Digit, SqlNode, SqlType, IsFault, Draft, Operand, Source, Kind, CodeHas, Grows, IsOfKind, IsOfType, fault_else, MembersAt, some_of, IsOrNull, Has, IsAskedOf, OfPlace, Puts, Question, World, extended, puts_leaf, puts_one, puts_three, puts_two}
use Rattle.sql_outcomes.specs.private.ValueForms.{Itself}
use Rattle.sql_outcomes.proofs.outcomes.Apart.{stays_fault}
use Rattle.sql_outcomes.proofs.nodes.Binding.{at_last, puts_let}
use Rattle.sql_outcomes.proofs.outcomes.ChainValues.{code_in}
use Rattle.sql_outcomes.proofs.outcomes.CodeTables.{coded, Coded}
use Rattle.sql_forms.proofs.puts.CodesPut.{truth_coded}
use Rattle.sql_outcomes.proofs.outcomes.FaultConditions.{at_least_3}
use Rattle.sql_forms.proofs.puts.FaultyComparisonsPut.{code_is, truth_code_node}
use Rattle.sql_outcomes.specs.NodesGo.{InPathComes}
use Rattle.sql_forms.proofs.puts.InPathPut.{held_stays}
use Rattle.sql_outcomes.proofs.outcomes.Operators.{case_means, compare_means}
use Rattle.sql_forms.proofs.puts.TruthInPathPut.{AtLevel, CodesEqual, CodesHave, LevelCode, equal_members, flags_beside, level_code}
use Rattle.sql_forms.proofs.puts.TruthListPut.{LeftCodes, left_codes}
use Rattle.sql_outcomes.proofs.outcomes.UnlessMissing.{CollectionThere, WholeHas}

module _ (question : Question) (level base path : ℕ) where
  abbrev pub code_parts : (world : World) (o : Outcome) → CodesHave question level base world o → CollectionThere question base world
  code_parts world o has = let m = has.0 in record { c = m.c; members = m.members; has = m.has; are = m.are }

  abbrev pub Whole : Has
  Whole = WholeHas question base path (CodesHave question level base) code_parts

  -- what is chosen: the fault, or the other
  abbrev pub ChosenHas : Has
  ChosenHas world o = (lo : Outcome) × IsCoded lo × AtLevel question level world lo × (w : Outcome) × Whole world w × (o ≡ fault_else lo w)

  abbrev FaultFlag : Has
  FaultFlag world x = (lo : Outcome) × (is : IsCoded lo) × AtLevel question level world lo × (x ≡ gives (boolean (at_least_3 lo (code_in lo is)).answer))

  abbrev ThreeHas : Has
  ThreeHas world x = x ≡ gives (whole (pos 3))

  abbrev WholeCode : Has
  WholeCode world x = (w : Outcome) × Whole world w × (x ≡ coded w)

  fault_flag : (c1 c2 c3 c4 : Draft) → Grows c1 c2 (SqlNode.Compare ComparisonOperator.Ge SqlType.Whole ∷ []) → Grows c2 c3 (SqlNode.Bound level ∷ []) → Grows c3 c4 (SqlNode.Number Digit.Three ∷ [])
      → Puts question c1 c4 FaultFlag Itself
  fault_flag c1 c2 c3 c4 compare_grows bound_grows three_grows =
      puts_two question (SqlNode.Compare ComparisonOperator.Ge SqlType.Whole) refl (λ x y z. (l : Val) × (r : Val) × (x ≡ gives l) × (y ≡ gives r) × IsOfType SqlType.Whole l × IsOfType SqlType.Whole r × StrictlyGives ComparisonOperator.Ge l r z) c1 c2 c3 c4 (LevelCode question level) ThreeHas
      FaultFlag Itself Itself Itself
      (λ asked bound a b x y z first second op.
      compare_means asked bound ComparisonOperator.Ge SqlType.Whole a b op.0 op.1 z op.4 op.5 (subst (SqlMeans asked bound a) op.2 first) (subst (SqlMeans asked bound b) op.3 second) op.6)
      compare_grows (level_code question level c2 c3 bound_grows)
      (puts_leaf question (SqlNode.Number Digit.Three) refl c3 c4 ThreeHas Itself three_grows (λ world x is has. (gives (whole (pos 3)), refl, sym has)))
      (λ world x is has.
      let at = at_least_3 has.0 (code_in has.0 has.1) in (
        coded has.0,
        gives (whole (pos 3)),
        (has.0, has.2, refl),
        refl,
        λ y z one two. (gives (boolean at.answer), (whole (pos (code_of has.0)), whole (pos 3), one, two, tt, tt, at.given), sym has.3),
      ))

  -- what comes of the members is a truth value or null
  whole_truth : (world : World) (w : Outcome) → Whole world w → (t : Option Bool) × (w ≡ truth t)
  whole_truth world w (inner, over, is) = by (let p = code_parts world inner over in p.c) is
    where
      by : (c : Val) → IsOrNull c w inner → (t : Option Bool) × (w ≡ truth t)
      by null none = (None, none)
      by _ same = (Some (some_of over.4), same ∙ over.6)

  whole_code : (old middle new : Draft) → Grows old middle (SqlNode.TruthCode ∷ []) → Puts question middle new Whole Itself → Puts question old new WholeCode Itself
  whole_code old middle new grows inner =
      puts_one question SqlNode.TruthCode refl (λ x y. (t : Option Bool) × (x ≡ truth t) × (y ≡ code_of_truth t)) old middle new Whole WholeCode Itself Itself truth_code_node grows inner
      (λ world x is has.
      let t = whole_truth world has.0 has.1 in
      (has.0, has.1, λ y form. (code_of_truth t.0, (t.0, form ∙ t.1, refl), code_is t.0 ∙ ap coded (sym t.1) ∙ sym has.2)))

  chosen_by : (lo w : Outcome) (answer : Bool) → ((Some answer ≡ Some true) ↔ IsFault lo) → ChoiceGives (Some answer) (coded lo) (coded w) (coded (fault_else lo w))
  chosen_by (gives v) w true reports = absurd (reports.0 refl)
  chosen_by (gives v) w false reports = refl
  chosen_by _ w true reports = refl
  chosen_by _ w false reports = let e : Some false ≡ Some true = reports.1 tt in absurd (cc)

  pub chosen_put : (c0 c1 c2 c3 c4 c5 c6 body : Draft) → Grows c0 c1 (SqlNode.Case ∷ []) → Grows c1 c2 (SqlNode.Compare ComparisonOperator.Ge SqlType.Whole ∷ []) → Grows c2 c3 (SqlNode.Bound level ∷ [])
      → Grows c3 c4 (SqlNode.Number Digit.Three ∷ []) → Grows c4 c5 (SqlNode.Bound level ∷ []) → Grows c5 c6 (SqlNode.TruthCode ∷ []) → Puts question c6 body Whole Itself → Puts question c0 body ChosenHas Coded
  chosen_put c0 c1 c2 c3 c4 c5 c6 body case_grows compare_grows bound_grows three_grows again_grows code_grows inner =
      puts_three question SqlNode.Case refl (λ x y z w. (t : Option Bool) × (x ≡ truth t) × ChoiceGives t y z w) c0 c1 c4 c5 body FaultFlag (LevelCode question level) WholeCode ChosenHas Itself Itself Itself Coded
      (λ asked bound a b c x y z w first second third op. case_means asked bound a b c op.0 y z w (subst (SqlMeans asked bound a) op.1 first) second third op.2)
      case_grows (fault_flag c1 c2 c3 c4 compare_grows bound_grows three_grows) (level_code question level c4 c5 again_grows) (whole_code c5 c6 body code_grows inner)
      (λ world o is has.
      let at = at_least_3 has.0 (code_in has.0 has.1) in (
        gives (boolean at.answer),
        coded has.0,
        coded has.3,
        (has.0, has.1, has.2, refl),
        (has.0, has.2, refl),
        (has.3, has.4, refl),
        λ x y z one two three. (
          coded (fault_else has.0 has.3),
          (
            Some at.answer,
            one,
            subst (λ (p : Outcome). ChoiceGives (Some at.answer) p z (coded (fault_else has.0 has.3))) (sym two)
                (subst (λ (p : Outcome). ChoiceGives (Some at.answer) (coded has.0) p (coded (fault_else has.0 has.3))) (sym three) (chosen_by has.0 has.3 at.answer at.reports)),
          ),
          ap coded (sym has.5),
        ),
      ))

-- ---- the `Let`

module _ (question : Question) (place base path : ℕ) (left : Operand) (left_kind : left.kind ≡ Kind.Value SqlType.Truth) (truths : (world : World) (m : MembersAt question.filter base world) → AllByRecursion (IsOfType SqlType.Truth) m.members)
    (comes : (world : World) (o : Outcome) → IsAskedOf question world → OfPlace question.filter place world o → InPathComes question place base left world o) (old opened body shut new : Draft) where
  abbrev within : World → Outcome → World
  within world lo = extended world (bound_value (coded lo) ∷ [])

  chosen : (world : World) (o : Outcome) → old.depth ≡ length world.bound → (come : InPathComes question place base left world o) → ChosenHas question old.depth base path (within world come.left_outcome) o
  chosen world o level_is come = by come.left_outcome refl
    where
      lo_coded : IsCoded come.left_outcome
      lo_coded = truth_coded left come.left_outcome left_kind come.left_fits

      at_level : CodeHas question.filter (Source.Bound old.depth) (within world come.left_outcome) come.left_outcome
      at_level =
          there_found (λ (b : BoundValue). b.value ≡ gives (whole (pos (code_of come.left_outcome)))) (slice_get (world.bound ++ bound_value (coded come.left_outcome) ∷ []) old.depth) (bound_value (coded come.left_outcome))
          (ap (λ (k : ℕ). slice_get (world.bound ++ bound_value (coded come.left_outcome) ∷ []) k) level_is ∙ at_last world.bound (bound_value (coded come.left_outcome))) refl

      whole_with : (w : Outcome) (bs : List Bool) → CodesEqual come.left_outcome come.held.members bs → IsOrNull come.held.c w (gives (boolean (some_of bs)))
          → Whole question old.depth base path (within world come.left_outcome) w
      whole_with w bs equal is =
          let held : MembersAt question.filter base (within world come.left_outcome) = held_stays question.filter base world (bound_value (coded come.left_outcome) ∷ []) come.held in
          (gives (boolean (some_of bs)), (held, come.left_outcome, lo_coded, at_level, bs, equal, refl), is)

      or_null : (c : Val) (inner : Outcome) → (w : Outcome) × IsOrNull c w inner
      or_null null inner = (gives null, refl)
      or_null _ inner = (inner, refl)

      of_fault : IsFault come.left_outcome → ChosenHas question old.depth base path (within world come.left_outcome) o
      of_fault fault =
          let flags = flags_beside come.left_outcome come.held.members in
          let w = or_null come.held.c (gives (boolean (some_of flags.0))) in
          (come.left_outcome, lo_coded, at_level, w.0, whole_with w.0 flags.0 flags.1 w.1, come.of_fault fault ∙ sym (stays_fault come.left_outcome w.0 fault))

      by : (lo : Outcome) → come.left_outcome ≡ lo → ChosenHas question old.depth base path (within world come.left_outcome) o
      by (gives l) is =
          let flags = come.of_value l is in
          let fits = come.left_fits l is in
          let of_l : IsOfType SqlType.Truth l = subst (λ (k : Kind). IsOfKind k l) left_kind fits.kind in
          let equal = equal_members l of_l come.held.members flags.0 (truths world come.held) flags.1 in (
            come.left_outcome,
            lo_coded,
            at_level,
            o,
            whole_with o flags.0 (subst (λ (p : Outcome). CodesEqual p come.held.members flags.0) (sym is) equal) flags.2,
            sym (ap (λ (p : Outcome). fault_else p o) is),
          )
      by _ is = of_fault (subst IsFault (sym is) tt)

  pub truth_in_path_put : opened.tree.nodes.items ≡ old.tree.nodes.items ++ SqlNode.Let old.depth 1 ∷ [] → opened.tree.paths.items ≡ old.tree.paths.items
      → opened.tree.parameters.items ≡ old.tree.parameters.items → opened.members.items ≡ old.members.items → opened.depth ≡ old.depth + 1
      → Puts question opened body (ChosenHas question old.depth base path) Coded → shut.tree ≡ body.tree → shut.members.items ≡ body.members.items → shut.depth ≡ old.depth
      → Puts question shut new (OfPlace question.filter (place + 1)) Coded → Puts question old new (OfPlace question.filter place) Coded
  truth_in_path_put nodes paths parameters members depth inner tree_is shut_members shut_depth value =
      puts_let question old.depth 1 old opened body shut new (LeftCodes question (place + 1)) (ChosenHas question old.depth base path) (OfPlace question.filter place) Coded Coded refl nodes paths parameters members depth inner
      tree_is shut_members shut_depth (left_codes question (place + 1) shut new value)
      (λ world o is has.
      let come = comes world o is.seen has in
      let level_is : old.depth ≡ length world.bound = sym (is.depth ∙ value.grows.depth ∙ shut_depth) in
      (coded come.left_outcome ∷ [], (coded come.left_outcome, (come.left_outcome, come.left_there, refl), refl), refl, o, chosen world o level_is come, λ x form. form))
