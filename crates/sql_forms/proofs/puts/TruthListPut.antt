-- The code of `in` before a list whose left side is a truth value, which is bound by its code.
use Rattle.sql_forms.proofs.Common.{◌≡◌, inl, ◌+◌, ◌++◌, ◌∷◌, [], ℕ, List, true, false, length, refl, sym, ap, subst, ◌∙◌, pos, slice_get, Val, boolean, null, whole, ComparisonOperator, LogicalOperator, Filter, there_found, CompareGives, Then, Outcome, gives, overflow, divides_by_zero, Range, IsCoded, OneLooked, code_of, BoundValue, bound_value, LookUp, SqlNode, SqlType, IsFault, Draft, Operand, Source, Kind, chained, CodeHas, FaultyHave, HasOrCode, Grows, IsOfKind, fault_else, AsCode, EachCompared, EqualCodesOrNull, ListHas, any_of, Has, IsAskedOf, OfPlace, Puts, PutsAll, Question, World, extended, puts_as, puts_one}
use Rattle.sql_outcomes.specs.private.ValueForms.{Itself}
use Rattle.sql_outcomes.proofs.nodes.Binding.{at_last, puts_let, puts_more, puts_none}
use Rattle.sql_outcomes.proofs.outcomes.CodeTables.{code_below_5, coded, Coded}
use Rattle.sql_forms.proofs.puts.CodesPut.{truth_coded}
use Rattle.sql_forms.proofs.puts.EqualCodesPut.{any_coded, each_coded}
use Rattle.sql_forms.proofs.puts.ListCodePut.{has_stays}
use Rattle.sql_outcomes.proofs.outcomes.Operators.{looked_means}

-- ---- a fault on the left is what all evaluate to

fault_stays_in : (f : Outcome) (es : List Outcome) → IsFault f → chained LogicalOperator.Or f es ≡ f
fault_stays_in (gives v) es fault = absurd fault
fault_stays_in overflow (e ∷ es) fault = fault_stays_in overflow es fault
fault_stays_in divides_by_zero (e ∷ es) fault = fault_stays_in divides_by_zero es fault
fault_stays_in _ [] fault = refl

fault_first : (f : Outcome) (es : List Outcome) → IsFault f → any_of (f ∷ es) ≡ f
fault_first (gives v) es fault = absurd fault
fault_first overflow es fault = fault_stays_in overflow es fault
fault_first divides_by_zero es fault = fault_stays_in divides_by_zero es fault

then_fault : (f o : Outcome) (Goes : Val → Outcome → Type 0) → IsFault f → Then f Goes o → o ≡ f
then_fault (gives v) o Goes fault given = absurd fault
then_fault _ o Goes fault given = given

-- so it need not come first
any_is_whole : (filter : Filter) (left : Operand) (lo : Outcome) (item : Operand) (items : List Operand) (world : World) (es : List Outcome) → EachCompared filter left lo (item ∷ items) world es
    → fault_else lo (any_of es) ≡ any_of es
any_is_whole filter left (gives l) item items world es each = refl
any_is_whole filter left lo item items world [] each = absurd each
any_is_whole filter left overflow item items world (e ∷ es) each =
    let f = each.0 in
    let same : e ≡ overflow = then_fault overflow e (λ l. Then f.right_outcome (CompareGives ComparisonOperator.Eq l)) tt
    (subst (λ (p : Outcome). Then p (λ l. Then f.right_outcome (CompareGives ComparisonOperator.Eq l)) e) each.1 f.given) in
    sym (ap (λ (p : Outcome). any_of (p ∷ es)) same ∙ fault_first overflow es tt)
any_is_whole filter left divides_by_zero item items world (e ∷ es) each =
    let f = each.0 in
    let same : e ≡ divides_by_zero = then_fault divides_by_zero e (λ l. Then f.right_outcome (CompareGives ComparisonOperator.Eq l)) tt
    (subst (λ (p : Outcome). Then p (λ l. Then f.right_outcome (CompareGives ComparisonOperator.Eq l)) e) each.1 f.given) in
    sym (ap (λ (p : Outcome). any_of (p ∷ es)) same ∙ fault_first divides_by_zero es tt)

pub node_plainly : (filter : Filter) (kind : Kind) (at : ℕ) (world : World) (o : Outcome) → HasOrCode filter kind (Source.Node at) world o → OfPlace filter at world o
node_plainly filter (Kind.Value SqlType.Truth) at world o has = has
node_plainly filter kind at world o has = has

-- ---- the `Let`

-- the code of the left side
module _ (question : Question) (at : ℕ) where
  abbrev pub LeftCode : Has
  LeftCode world x = (lo : Outcome) × OfPlace question.filter at world lo × (x ≡ coded lo)

  abbrev pub LeftCodes : World → List Outcome → Type 0
  LeftCodes world os = (x : Outcome) × LeftCode world x × (os ≡ x ∷ [])

  pub left_codes : (shut new : Draft) → Puts question shut new (OfPlace question.filter at) Coded → PutsAll question shut new LeftCodes 1
  left_codes shut new value =
      puts_more question 0 shut new new LeftCode (λ world os. os ≡ []) LeftCodes
      (puts_as question shut new (OfPlace question.filter at) LeftCode Coded Itself value (λ world x is has. (has.0, has.1, λ y form. form ∙ sym has.2)))
      (puts_none question new (λ world os. os ≡ []) (λ world os is. is)) (λ world os is has. (has.0, [], has.1, refl, has.2))

module _ (question : Question) (place : ℕ) (left bound item : Operand) (items : List Operand) (old opened body shut new : Draft) (left_source : left.source ≡ Source.Node (place + 1))
    (left_kind : left.kind ≡ Kind.Value SqlType.Truth) (bound_source : bound.source ≡ Source.Bound old.depth) (bound_kind : bound.kind ≡ Kind.Value SqlType.Truth) (same_range : bound.range ≡ left.range)
    (comes : (world : World) (o : Outcome) → IsAskedOf question world → OfPlace question.filter place world o → ListHas question.filter left (item ∷ items) world o) where
  -- an item beside the code
  compared : (world : World) (lo : Outcome) (level_is : old.depth ≡ length world.bound) (other : Operand) (e : Outcome) (f : FaultyHave question.filter ComparisonOperator.Eq left other world e)
      → f.left_outcome ≡ lo → (g : FaultyHave question.filter ComparisonOperator.Eq bound other (extended world (bound_value (coded lo) ∷ [])) e) × (g.left_outcome ≡ lo)
  compared world lo level_is other e f same = (
    record {
      left_outcome = lo;
      right_outcome = f.right_outcome;
      left_has =
          subst (λ (k : Kind). HasOrCode question.filter k bound.source (extended world (bound_value (coded lo) ∷ [])) lo) (sym bound_kind)
          (subst (λ (s : Source). CodeHas question.filter s (extended world (bound_value (coded lo) ∷ [])) lo) (sym bound_source)
          (there_found (λ (b : BoundValue). b.value ≡ gives (whole (pos (code_of lo)))) (slice_get (world.bound ++ bound_value (coded lo) ∷ []) old.depth) (bound_value (coded lo))
          (ap (λ (k : ℕ). slice_get (world.bound ++ bound_value (coded lo) ∷ []) k) level_is ∙ at_last world.bound (bound_value (coded lo))) refl));
      right_has = has_stays question.filter other.kind other.source world (bound_value (coded lo) ∷ []) f.right_outcome f.right_has;
      left_fits = λ v is.
          let fits = f.left_fits v (same ∙ is) in
          record {
            kind = subst (λ (k : Kind). IsOfKind k v) (left_kind ∙ sym bound_kind) fits.kind;
            nullable = λ none. ap (λ (r : Range). r.may_be_null) same_range ∙ fits.nullable none;
          };
      right_fits = f.right_fits;
      left_plain = λ no_bound none. absurd (no_bound bound_kind);
      right_plain = f.right_plain;
      given = subst (λ (p : Outcome). Then p (λ l. Then f.right_outcome (CompareGives ComparisonOperator.Eq l)) e) same f.given;
    },
    refl,
  )

  all_compared : (world : World) (lo : Outcome) → old.depth ≡ length world.bound → (xs : List Operand) (es : List Outcome) → EachCompared question.filter left lo xs world es
      → EachCompared question.filter bound lo xs (extended world (bound_value (coded lo) ∷ [])) es
  all_compared world lo level_is [] es each = each
  all_compared world lo level_is (x ∷ xs) [] each = absurd each
  all_compared world lo level_is (x ∷ xs) (e ∷ es) each = let g = compared world lo level_is x e each.0 each.1 in (g.0, g.1, all_compared world lo level_is xs es each.2)

  pub truth_list_put : opened.tree.nodes.items ≡ old.tree.nodes.items ++ SqlNode.Let old.depth 1 ∷ [] → opened.tree.paths.items ≡ old.tree.paths.items
      → opened.tree.parameters.items ≡ old.tree.parameters.items → opened.members.items ≡ old.members.items → opened.depth ≡ old.depth + 1
      → Puts question opened body (EqualCodesOrNull question.filter bound (item ∷ items)) AsCode → shut.tree ≡ body.tree → shut.members.items ≡ body.members.items → shut.depth ≡ old.depth
      → Puts question shut new (OfPlace question.filter (place + 1)) Coded → Puts question old new (OfPlace question.filter place) Coded
  truth_list_put nodes paths parameters members depth inner tree_is shut_members shut_depth value =
      puts_let question old.depth 1 old opened body shut new (LeftCodes question (place + 1)) (EqualCodesOrNull question.filter bound (item ∷ items)) (OfPlace question.filter place) AsCode Coded refl nodes paths parameters members depth inner
      tree_is shut_members shut_depth (left_codes question (place + 1) shut new value)
      (λ world o is has.
      let come = comes world o is.seen has in
      let lo : Outcome = come.left_outcome in
      let level_is : old.depth ≡ length world.bound = sym (is.depth ∙ value.grows.depth ∙ shut_depth) in
      let of_left : OfPlace question.filter (place + 1) world lo =
      node_plainly question.filter left.kind (place + 1) world lo (subst (λ (s : Source). HasOrCode question.filter left.kind s world lo) left_source come.left_has) in
      let codes = each_coded question.filter left lo (item ∷ items) world come.outcomes come.each in (
        coded lo ∷ [],
        (coded lo, (lo, of_left, refl), refl),
        refl,
        any_of come.outcomes,
        inl (record { left_outcome = lo; outcomes = come.outcomes; each = all_compared world lo level_is (item ∷ items) come.outcomes come.each; is = refl }),
        λ x form.
            form.0 (any_coded come.outcomes codes) ∙ ap coded (sym (come.is ∙ any_is_whole question.filter left lo item items world come.outcomes come.each)),
      ))

-- ---- an empty list

never_looked : (lo : Outcome) → IsCoded lo → OneLooked LookUp.Never (coded lo) (coded (fault_else lo (gives (boolean false))))
never_looked (gives (boolean false)) is = (code_below_5 (gives (boolean false)) tt, (0, refl, refl))
never_looked (gives (boolean true)) is = (code_below_5 (gives (boolean true)) tt, (0, refl, refl))
never_looked (gives null) is = (code_below_5 (gives null) tt, (0, refl, refl))
never_looked overflow is = (code_below_5 overflow tt, (3, refl, refl))
never_looked divides_by_zero is = (code_below_5 divides_by_zero tt, (4, refl, refl))
never_looked (gives _) is = absurd is

pub never_put : (question : Question) (place : ℕ) (left : Operand) (old middle new : Draft) → left.source ≡ Source.Node (place + 1) → left.kind ≡ Kind.Value SqlType.Truth
    → ((world : World) (o : Outcome) → IsAskedOf question world → OfPlace question.filter place world o → ListHas question.filter left [] world o) → Grows old middle (SqlNode.LookUp LookUp.Never ∷ [])
    → Puts question middle new (OfPlace question.filter (place + 1)) Coded → Puts question old new (OfPlace question.filter place) Coded
never_put question place left old middle new left_source left_kind comes grows value =
    puts_one question (SqlNode.LookUp LookUp.Never) refl (OneLooked LookUp.Never) old middle new (OfPlace question.filter (place + 1)) (OfPlace question.filter place) Coded Coded
    (λ asked bound a x y one op. looked_means asked bound LookUp.Never a x y one op) grows value
    (λ world o is has.
    let come = comes world o is.seen has in
    let lo : Outcome = come.left_outcome in
    let of_left : OfPlace question.filter (place + 1) world lo =
    node_plainly question.filter left.kind (place + 1) world lo (subst (λ (s : Source). HasOrCode question.filter left.kind s world lo) left_source come.left_has) in
    let is_coded = truth_coded left lo left_kind come.left_fits in
    let entire : o ≡ fault_else lo (gives (boolean false)) = come.is ∙ ap (λ (es : List Outcome). fault_else lo (any_of es)) come.each in (
      lo,
      of_left,
      λ x form. (
        coded o,
        subst (λ (p : Outcome). OneLooked LookUp.Never x (coded p)) (sym entire) (subst (λ (z : Outcome). OneLooked LookUp.Never z (coded (fault_else lo (gives (boolean false))))) (sym form) (never_looked lo is_coded)),
        refl,
      ),
    ))
