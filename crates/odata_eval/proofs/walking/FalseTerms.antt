-- Terms that a rejected value makes false and one that passes true, and chains of them.
use Rattle.std.proofs.Common.{◌≡◌, ◌∙◌, ℕ, zero, suc, ◌<◌, ◌+◌, ◌-◌, Bool, true, false, List, [], ◌∷◌, ◌++◌, ℤ, Option, Some, None, nat_eq, get_or, refl, subst, sym, ap, inl, inr, arith, length}
use Rattle.std.specs.Prelude.{All, slice_get}
use Rattle.std.proofs.lemmas.List.Elements.{All-pop}
use Rattle.std.specs.Cmp.Lexicographic.{pointwise}
use Rattle.std.proofs.lemmas.Bool.{cases_lt}
use Rattle.std.proofs.lemmas.List.Quantifiers.{position-Some}
use Rattle.std.proofs.lemmas.Slice.Eq.{bytes_eq-Decides}
use Rattle.edm_values.specs.MomentParts.{MomentParts}
use Rattle.edm_values.specs.PlainVal.{plain_val}
use Rattle.edm_values.specs.Val.{FieldVal, Val, absent, boolean, fields, null, present, whole}
use Rattle.edm_values.specs.declared.sieve.Sieve.{Sieve}
use Rattle.edm_values.specs.declared.value.Value.{Value}
use Rattle.odata_functions.specs.Comparison.{ComparesTrue}
use Rattle.odata_syntax.specs.Tree.{Tree, literal, name, node}
use Rattle.odata_syntax.specs.declared.binary_operator.BinaryOperator.{BinaryOperator}
use Rattle.odata_syntax.specs.declared.binary_operator.ComparisonOperator.{ComparisonOperator}
use Rattle.odata_syntax.specs.declared.binary_operator.LogicalOperator.{LogicalOperator}
use Rattle.odata_syntax.specs.declared.node.LiteralKind.{LiteralKind}
use Rattle.csdl_schema.specs.ExprType.{ExprType}
use Rattle.csdl_schema.specs.SchemaModel.{PropertyModel, Slots, opaque, properties_at, slot_named, slots_of, type_name_at}
use Rattle.odata_signatures.specs.Laws.{OneLiteralValue}
use Rattle.odata_signatures.specs.LiteralValue.{LiteralValue}
use Rattle.odata_checked_filter.specs.Filter.{Filter, IsFilter, tree_of_filter}
use Rattle.odata_checked_filter.specs.Stands.{IsValueOf, SideBySide}
use Rattle.odata_signatures.specs.Reads.{OfEquality, ReadsNone, ReadsNumber}
use Rattle.odata_signatures.specs.Sides.{Between}
use Rattle.odata_signatures.specs.Typed.{OperandsTyped, Typed}
use Rattle.odata_signatures.specs.OperatorTyped.{IsEquality, OperatorTyped}
use Rattle.odata_checked_filter.specs.declared.checked_node.NodeKind.{NodeKind}
use Rattle.odata_filter_operations.specs.CompareGives.{CompareGives, GivesTruth, IsWhether}
use Rattle.odata_filter_operations.specs.LeftFirst.{After, Then}
use Rattle.odata_filter_operations.specs.Outcome.{GivesSome, Outcome, gives, overflow, divides_by_zero}
use Rattle.odata_filter_operations.specs.TruthGives.{LogicalGives, JoinGives}
use Rattle.odata_eval.specs.FalseWhere.{IsSieveOf}
use Rattle.odata_eval.specs.TrueWhere.{AreWhole, Passes, PassesIn}
use Rattle.odata_eval.specs.declared.value_tests.SlotSieve.{SlotSieve}
use Rattle.odata_meaning.specs.LiteralGives.{LiteralGives}
use Rattle.odata_meaning.specs.Means.{BinaryGives, Means}
use Rattle.odata_meaning.specs.NameGives.{FieldGives}
use Rattle.odata_meaning.specs.OperatorGives.{SidesGive}
use Rattle.odata_meaning.specs.ReadGives.{OperandGives}
use Rattle.odata_meaning.proofs.meaning.SameGives.{sides_both}
use Rattle.odata_meaning.proofs.meaning.UnreadAlone.{operand_alone}
use Rattle.odata_eval.specs.private.ValueTests.{AndsAbove, AreAllBut, Decides, GoesUp, IsFalseAt, IsNoNumber, IsTermSieve, IsTrueAt, IsValue, LeavesNoFault, StandsFor}
use Rattle.filter_context.specs.private.Place.{HasKind, HasOperator, IsRightOf}
use Rattle.filter_context.specs.private.EvalContext.{NumberHere}
use Rattle.filter_context.specs.private.ContextModel.{ContextModel, context_in}
use Rattle.odata_eval.proofs.walking.Leaves.{literal_own, number_held}
use Rattle.filter_context.proofs.Operands.{ResolvedHere, no_number}
use Rattle.filter_context.proofs.Parts.{by_kind, found_there, kind_there}
use Rattle.filter_context.proofs.Extents.{right_beside, stops_there}

-- ---- outcomes of operands and of what takes them

abbrev Only : Val → (Outcome → Type 0) → Type 0
Only v Gives = (o : Outcome) → Gives o → o ≡ gives v

abbrev NoFault : (Outcome → Type 0) → Type 0
NoFault Gives = (o : Outcome) → Gives o → IsValue o

after_no_fault : (Operand : Outcome → Type 0) (Goes : Val → Outcome → Type 0) → NoFault Operand → ((v : Val) → NoFault (Goes v)) → NoFault (After Operand Goes)
after_no_fault Operand Goes ok goes o (gives v, (operand, follows)) = goes v o follows
after_no_fault Operand Goes ok goes o (overflow, (operand, follows)) = absurd (ok overflow operand)
after_no_fault Operand Goes ok goes o (divides_by_zero, (operand, follows)) = absurd (ok divides_by_zero operand)

after_only : (Operand : Outcome → Type 0) (Goes : Val → Outcome → Type 0) (v : Val) → Only v Operand → (o : Outcome) → After Operand Goes o → Goes v o
after_only Operand Goes v only o (first, (operand, follows)) = subst (λ (f : Outcome). Then f Goes o) (only first operand) follows

only_no_fault : (v : Val) (Gives : Outcome → Type 0) → Only v Gives → NoFault Gives
only_no_fault v Gives only o given = subst IsValue (sym (only o given)) tt

some_no_fault : (P : Val → Type 0) → NoFault (GivesSome P)
some_no_fault P (gives v) given = tt
some_no_fault P overflow given = absurd given
some_no_fault P divides_by_zero given = absurd given

-- ---- `and`

join_no_fault : (truth : Option Bool) (v : Val) → NoFault (JoinGives LogicalOperator.And truth v)
join_no_fault truth null o is = subst IsValue (sym is) tt
join_no_fault truth (boolean b) o is = subst IsValue (sym is) tt
join_no_fault truth _ o is = absurd is

join_false : (truth : Option Bool) (o : Outcome) → JoinGives LogicalOperator.And truth (boolean false) o → o ≡ gives (boolean false)
join_false (Some true) o is = is
join_false (Some false) o is = is
join_false None o is = is

and_gives_no_fault : (l : Val) (Right : Outcome → Type 0) → NoFault Right → NoFault (LogicalGives LogicalOperator.And l Right)
and_gives_no_fault (boolean false) Right ok o is = subst IsValue (sym is) tt
and_gives_no_fault (boolean true) Right ok o given = after_no_fault Right (JoinGives LogicalOperator.And (Some true)) ok (join_no_fault (Some true)) o given
and_gives_no_fault null Right ok o given = after_no_fault Right (JoinGives LogicalOperator.And None) ok (join_no_fault None) o given
and_gives_no_fault _ Right ok o given = absurd given

and_gives_false : (l : Val) (Right : Outcome → Type 0) → Only (boolean false) Right → (o : Outcome) → LogicalGives LogicalOperator.And l Right o → o ≡ gives (boolean false)
and_gives_false (boolean false) Right only o is = is
and_gives_false (boolean true) Right only o given = join_false (Some true) o (after_only Right (JoinGives LogicalOperator.And (Some true)) (boolean false) only o given)
and_gives_false null Right only o given = join_false None o (after_only Right (JoinGives LogicalOperator.And None) (boolean false) only o given)
and_gives_false _ Right only o given = absurd given

module _ (NodeTyped : ExprType → Type 0) (Left Right : Outcome → Type 0) where
  and_sides_no_fault : NoFault Left → NoFault Right → NoFault (SidesGive (BinaryOperator.Logical LogicalOperator.And) NodeTyped Left Right)
  and_sides_no_fault left right o given = after_no_fault Left (λ l. LogicalGives LogicalOperator.And l Right) left (λ l. and_gives_no_fault l Right right) o given

  and_false_right : NoFault Left → Only (boolean false) Right → (o : Outcome) → SidesGive (BinaryOperator.Logical LogicalOperator.And) NodeTyped Left Right o → o ≡ gives (boolean false)
  and_false_right left right o (gives l, (operand, follows)) = and_gives_false l Right right o follows
  and_false_right left right o (overflow, (operand, follows)) = absurd (left overflow operand)
  and_false_right left right o (divides_by_zero, (operand, follows)) = absurd (left divides_by_zero operand)

  and_false_left : Only (boolean false) Left → (o : Outcome) → SidesGive (BinaryOperator.Logical LogicalOperator.And) NodeTyped Left Right o → o ≡ gives (boolean false)
  and_false_left left o given = after_only Left (λ l. LogicalGives LogicalOperator.And l Right) (boolean false) left o given

  and_true : Only (boolean true) Left → Only (boolean true) Right → (o : Outcome) → SidesGive (BinaryOperator.Logical LogicalOperator.And) NodeTyped Left Right o → o ≡ gives (boolean true)
  and_true left right o given =
      let follows = after_only Left (λ l. LogicalGives LogicalOperator.And l Right) (boolean true) left o given in
      after_only Right (JoinGives LogicalOperator.And (Some true)) (boolean true) right o follows

  -- ---- comparisons

  module _ (comparison : ComparisonOperator) where
    compared_no_fault : NoFault Left → NoFault Right → NoFault (SidesGive (BinaryOperator.Comparison comparison) NodeTyped Left Right)
    compared_no_fault left right o given =
        after_no_fault Left (λ l. After Right (CompareGives comparison l)) left
        (λ l. after_no_fault Right (CompareGives comparison l) right (λ r o compared. some_no_fault (IsWhether (ComparesTrue comparison l r)) o compared.1)) o given

    compared_false : (l r : Val) → Only l Left → Only r Right → ¬ ComparesTrue comparison l r → (o : Outcome) → SidesGive (BinaryOperator.Comparison comparison) NodeTyped Left Right o → o ≡ gives (boolean false)
    compared_false l r left right refuted o given =
        refuted_false (ComparesTrue comparison l r) refuted o
        (after_only Right (CompareGives comparison l) r right o (after_only Left (λ k. After Right (CompareGives comparison k)) l left o given)).1
      where
        refuted_whether : (Fact : Type 0) → ¬ Fact → (v : Val) → IsWhether Fact v → v ≡ boolean false
        refuted_whether Fact not (boolean true) is = absurd (not (is.0 refl))
        refuted_whether Fact not (boolean false) is = refl
        refuted_whether Fact not _ is = absurd is

        refuted_false : (Fact : Type 0) → ¬ Fact → (o : Outcome) → GivesTruth Fact o → o ≡ gives (boolean false)
        refuted_false Fact not (gives v) is = ap gives (refuted_whether Fact not v is)
        refuted_false Fact not overflow is = absurd is
        refuted_false Fact not divides_by_zero is = absurd is

    compared_true : (r : Val) → NoFault Left → Only r Right → ((l : Val) → Left (gives l) → ComparesTrue comparison l r) → (o : Outcome) → SidesGive (BinaryOperator.Comparison comparison) NodeTyped Left Right o → o ≡ gives (boolean true)
    compared_true r ok right holds o (gives l, (operand, follows)) = affirmed_true (ComparesTrue comparison l r) (holds l operand) o (after_only Right (CompareGives comparison l) r right o follows).1
      where
        affirmed_whether : (Fact : Type 0) → Fact → (v : Val) → IsWhether Fact v → v ≡ boolean true
        affirmed_whether Fact fact (boolean true) is = refl
        affirmed_whether Fact fact (boolean false) is = let e : false ≡ true = is.1 fact in absurd cc
        affirmed_whether Fact fact _ is = absurd is

        affirmed_true : (Fact : Type 0) → Fact → (o : Outcome) → GivesTruth Fact o → o ≡ gives (boolean true)
        affirmed_true Fact fact (gives v) is = ap gives (affirmed_whether Fact fact v is)
        affirmed_true Fact fact overflow is = absurd is
        affirmed_true Fact fact divides_by_zero is = absurd is
    compared_true r ok right holds o (overflow, (operand, follows)) = absurd (ok overflow operand)
    compared_true r ok right holds o (divides_by_zero, (operand, follows)) = absurd (ok divides_by_zero operand)

-- ---- operands

name_no_fault : (held : FieldVal) → NoFault (FieldGives held)
name_no_fault (present v) o is = subst IsValue (sym is) tt
name_no_fault absent o is = absurd is

name_only : (held : FieldVal) (v : Val) → held ≡ present v → Only v (FieldGives held)
name_only held v is o given = subst (λ (h : FieldVal). FieldGives h o) is given

name_true : (held : FieldVal) → ((v : Val) → held ≡ present v → v ≡ boolean true) → Only (boolean true) (FieldGives held)
name_true (present v) passes o is = is ∙ ap gives (passes v refl)
name_true absent passes o is = absurd is

name_held : (held : FieldVal) (v : Val) → FieldGives held (gives v) → held ≡ present v
name_held (present w) v is = let same : v ≡ w = cc in ap present (sym same)
name_held absent v is = absurd is

literal_only : OneLiteralValue → (slots : Slots) (kind : LiteralKind) (spelling : List ℕ) (v : Val) → LiteralValue slots kind spelling v → Only v (LiteralGives slots kind spelling)
literal_only one slots kind spelling v is (gives w) given = ap gives (one slots kind spelling w v given is)
literal_only one slots kind spelling v is overflow given = absurd given
literal_only one slots kind spelling v is divides_by_zero given = absurd given

-- ---- what stands in the filter's list
-- a slot has one name
name_matches : (properties : List PropertyModel) (asked : List ℕ) (slot : ℕ) → slot_named properties asked ≡ Some slot → asked ≡ (get_or properties slot (record { name = []; type_of = opaque; many = false; nullable = false })).name
name_matches properties asked slot named =
    let other : PropertyModel = record { name = []; type_of = opaque; many = false; nullable = false } in
    let found = position-Some (λ p. pointwise nat_eq asked p.name) properties slot other named in
    (bytes_eq-Decides asked (get_or properties slot other).name).0 found.1

one_name : (properties : List PropertyModel) (asked word : List ℕ) (slot : ℕ) → slot_named properties asked ≡ Some slot → slot_named properties word ≡ Some slot → asked ≡ word
one_name properties asked word slot named too = name_matches properties asked slot named ∙ sym (name_matches properties word slot too)

module _ (filter : Filter) where
  -- the filter's list as a walk sees it, whatever the entity is
  abbrev seen : MomentParts → ContextModel
  seen now = context_in (record { schema = filter.schema; type_id = filter.filtered; expansion = filter.expansion; value = Value.Null }) now filter.list []

  abbrev Comes : MomentParts → (List ℕ → FieldVal) → Tree → Outcome → Type 0
  Comes now held = Means (slots_of filter.schema) (type_name_at filter.schema filter.filtered) now (fields held) []

  abbrev Side : Tree → ExprType → Type 0
  Side = Typed (slots_of filter.schema) (type_name_at filter.schema filter.filtered) []

  abbrev OfSides : BinaryOperator → Tree → Tree → ExprType → Type 0
  OfSides operator left right = OperandsTyped (Side left) (Side right) (Between (OperatorTyped (slots_of filter.schema) operator) left right)

  -- what is made of the sides of a node with an operator by itself
  abbrev Sides : BinaryOperator → Tree → Tree → (Outcome → Type 0) → (Outcome → Type 0) → Outcome → Type 0
  Sides operator left right Left Right =
      SidesGive operator (OfSides operator left right) Left Right

  -- where no literal is read there
  binary_alone : (operator : BinaryOperator) (l r : Tree) (Left Right : Outcome → Type 0) → ReadsNone (slots_of filter.schema) (OfEquality operator (Side l)) r → ReadsNone (slots_of filter.schema) (OfEquality operator (Side r)) l
      → (o : Outcome) → BinaryGives (slots_of filter.schema) operator (Side l) (Side r) l r Left Right o → Sides operator l r Left Right o
  binary_alone operator l r Left Right right left o given =
      let slots = slots_of filter.schema in
      let N : ExprType → Type 0 = OfSides operator l r in
      (sides_both operator N N (OperandGives (ReadsNumber slots (OfEquality operator (Side r)) l) Left) Left (OperandGives (ReadsNumber slots (OfEquality operator (Side l)) r) Right) Right
      (λ type. (λ typed. typed, λ typed. typed)) (operand_alone (ReadsNumber slots (OfEquality operator (Side r)) l) Left left) (operand_alone (ReadsNumber slots (OfEquality operator (Side l)) r) Right right) o).0
      given

  -- no literal that has a number stands there, if the operator is an equality
  abbrev NoneRead : MomentParts → BinaryOperator → ℕ → Type 0
  NoneRead now operator i =
      IsEquality operator → (j : ℕ) (tree : Tree) (number : ℤ) → NumberHere (seen now) number i j tree → ⊥

  stands_alone : (now : MomentParts) (operator : BinaryOperator) (Operand : ExprType → Type 0) (tree : Tree) (i j : ℕ) → NoneRead now operator i → ResolvedHere (seen now) (OfEquality operator Operand) tree i j
      → ReadsNone (slots_of filter.schema) (OfEquality operator Operand) tree × StandsFor filter i j tree
  stands_alone now operator Operand tree i j none (inl read) = absurd (none read.1.beside.0 j tree read.0 read.2)
  stands_alone now operator Operand tree i j none (inr alone) = alone

  binary_sides : (now : MomentParts) (held : List ℕ → FieldVal) (place : ℕ) (operator : BinaryOperator) → HasOperator filter.list place operator → NoneRead now operator (place + 1)
      → ((middle : ℕ) (left : Tree) → StandsFor filter (place + 1) middle left → NoneRead now operator middle) → (P : Outcome → Type 0)
      → ((stop : ℕ) (left right : Tree) → SideBySide (λ middle. StandsFor filter (place + 1) middle left) (λ middle. StandsFor filter middle stop right)
      → (o : Outcome) → Sides operator left right (Comes now held left) (Comes now held right) o → P o)
      → (stop : ℕ) (tree : Tree) → StandsFor filter place stop tree → (o : Outcome) → Comes now held tree o → P o
  binary_sides now held place operator here left_none right_none P goes =
      by_kind (seen now) place (NodeKind.Binary operator) here (λ stop tree. (o : Outcome) → Comes now held tree o → P o)
      (λ left right stop from to stands o means.
      let middle = stands.children.middle in
      let first = stands_alone now operator (Side right) left (place + 1) middle left_none stands.children.left in
      let second = stands_alone now operator (Side left) right middle stop (right_none middle left first.1)
      (right_beside (seen now) (OfEquality operator (Side left)) middle middle stop right refl stands.children.right) in
      goes stop left right (record { middle = middle; left = first.1; right = second.1 }) o
      (binary_alone operator left right (Comes now held left) (Comes now held right) second.0 first.0 o means))

  -- the right operand begins where the left one stops
  right_at : (now : MomentParts) (place right stop : ℕ) (l r : Tree) → IsRightOf filter.list place right
      → SideBySide (λ middle. StandsFor filter (place + 1) middle l) (λ middle. StandsFor filter middle stop r) → StandsFor filter right stop r
  right_at now place right stop l r is sides =
      let same : sides.middle ≡ right = stops_there (seen now) (place + 1) sides.middle right l sides.left is in
      subst (λ k. StandsFor filter k stop r) same sides.right

  -- ---- `and`

  -- none of its operands is read
  and_unread : (now : MomentParts) (i : ℕ) → NoneRead now (BinaryOperator.Logical LogicalOperator.And) i
  and_unread now i equality j tree number there = equality

  module _ (place right : ℕ) (here : HasOperator filter.list place (BinaryOperator.Logical LogicalOperator.And)) (is_right : IsRightOf filter.list place right) where
    pub and_no_fault : LeavesNoFault filter (place + 1) → LeavesNoFault filter right → LeavesNoFault filter place
    and_no_fault left_ok right_ok stop tree stands now held =
        binary_sides now held place (BinaryOperator.Logical LogicalOperator.And) here (and_unread now (place + 1)) (λ middle left stands. and_unread now middle) IsValue
        (λ stop l r sides. and_sides_no_fault (OfSides (BinaryOperator.Logical LogicalOperator.And) l r) (Comes now held l) (Comes now held r) (left_ok sides.middle l sides.left now held)
        (right_ok stop r (right_at now place right stop l r is_right sides) now held)) stop tree stands

    pub and_right_false : LeavesNoFault filter (place + 1) → (slot : ℕ) (sieve : Sieve) → IsFalseAt filter right slot sieve → IsFalseAt filter place slot sieve
    and_right_false left_ok slot sieve decides stop tree stands word named now held value o has rejected =
        binary_sides now held place (BinaryOperator.Logical LogicalOperator.And) here (and_unread now (place + 1)) (λ middle left stands. and_unread now middle) (λ o. o ≡ gives (boolean false))
        (λ stop l r sides. and_false_right (OfSides (BinaryOperator.Logical LogicalOperator.And) l r) (Comes now held l) (Comes now held r) (left_ok sides.middle l sides.left now held)
        (λ o means. decides stop r (right_at now place right stop l r is_right sides) word named now held value o has rejected means)) stop tree stands o

  pub and_left_false : (place : ℕ) → HasOperator filter.list place (BinaryOperator.Logical LogicalOperator.And) → (slot : ℕ) (sieve : Sieve) → IsFalseAt filter (place + 1) slot sieve → IsFalseAt filter place slot sieve
  and_left_false place here slot sieve decides stop tree stands word named now held value o has rejected =
      binary_sides now held place (BinaryOperator.Logical LogicalOperator.And) here (and_unread now (place + 1)) (λ middle left stands. and_unread now middle) (λ o. o ≡ gives (boolean false))
      (λ stop l r sides. and_false_left (OfSides (BinaryOperator.Logical LogicalOperator.And) l r) (Comes now held l) (Comes now held r) (λ o means. decides sides.middle l sides.left word named now held value o has rejected means)) stop tree stands o

  -- where both sides are true
  and_both_true : (now : MomentParts) (held : List ℕ → FieldVal) (place right : ℕ) → HasOperator filter.list place (BinaryOperator.Logical LogicalOperator.And) → IsRightOf filter.list place right
      → IsTrueAt filter now held (place + 1) → IsTrueAt filter now held right → IsTrueAt filter now held place
  and_both_true now held place right here is_right left_true right_true =
      binary_sides now held place (BinaryOperator.Logical LogicalOperator.And) here (and_unread now (place + 1)) (λ middle left stands. and_unread now middle) (λ o. o ≡ gives (boolean true))
      (λ stop l r sides. and_true (OfSides (BinaryOperator.Logical LogicalOperator.And) l r) (Comes now held l) (Comes now held r) (left_true sides.middle l sides.left) (right_true stop r (right_at now place right stop l r is_right sides)))

  -- from a node of the chain to its top
  pub top_false : (at : ℕ) → AndsAbove filter at → (slot : ℕ) (sieve : Sieve) → IsFalseAt filter at slot sieve → IsFalseAt filter 0 slot sieve
  top_false zero ands slot sieve decides = decides
  top_false (suc at) ands slot sieve decides =
      let e : suc at ≡ at + 1 = omega arith in
      top_false at (λ k below. ands k (omega (arith, below))) slot sieve
      (and_left_false at (ands at (omega arith)) slot sieve (subst (λ k. IsFalseAt filter k slot sieve) e decides))

  -- ---- plain terms

  -- a property's name evaluates to its value, and to no fault
  module _ (place slot : ℕ) (here : HasKind filter.list place (NodeKind.Property slot)) where
    pub property_no_fault : LeavesNoFault filter place
    property_no_fault stop tree stands now held =
        by_kind (seen now) place (NodeKind.Property slot) here (λ stop tree. NoFault (Comes now held tree)) (λ asked stop from to stands. name_no_fault (held asked)) stop tree stands

    pub property_only : (stop : ℕ) (tree : Tree) → StandsFor filter place stop tree → (word : List ℕ) → slot_named (properties_at filter.schema filter.filtered) word ≡ Some slot
        → (now : MomentParts) (held : List ℕ → FieldVal) (value : Val) → held word ≡ present value → Only value (Comes now held tree)
    property_only stop tree stands word named now held value has =
        by_kind (seen now) place (NodeKind.Property slot) here (λ stop tree. Only value (Comes now held tree))
        (λ asked stop from to stands.
        let kind = kind_there (seen now) place (NodeKind.Property slot) here stop from to (name asked) stands in
        let same : asked ≡ word = one_name (properties_at filter.schema filter.filtered) asked word slot kind.1 named in
        name_only (held asked) value (ap held same ∙ has)) stop tree stands

    -- what it evaluates to passes its test
    property_passes : (now : MomentParts) (held : List ℕ → FieldVal) (sieve : Sieve) → PassesIn filter held (record { slot = slot; sieve = sieve }) → (stop : ℕ) (tree : Tree) → StandsFor filter place stop tree
        → (v : Val) → Comes now held tree (gives v) → Passes sieve v
    property_passes now held sieve passes =
        by_kind (seen now) place (NodeKind.Property slot) here (λ stop tree. (v : Val) → Comes now held tree (gives v) → Passes sieve v)
        (λ asked stop from to stands v means. passes asked (kind_there (seen now) place (NodeKind.Property slot) here stop from to (name asked) stands).1 v (name_held (held asked) v means))

    property_true : (now : MomentParts) (held : List ℕ → FieldVal) → PassesIn filter held (record { slot = slot; sieve = Sieve.True }) → IsTrueAt filter now held place
    property_true now held passes =
        by_kind (seen now) place (NodeKind.Property slot) here (λ stop tree. Only (boolean true) (Comes now held tree))
        (λ asked stop from to stands. name_true (held asked) (passes asked (kind_there (seen now) place (NodeKind.Property slot) here stop from to (name asked) stands).1))

    pub property_sieve : IsTermSieve filter place slot Sieve.True
    property_sieve = record {
      affirms = property_true;
      decides = λ stop tree stands word named now held value o has rejected means.
          subst (λ v. o ≡ gives v) rejected (property_only stop tree stands word named now held value has o means);
      no_fault = property_no_fault;
    }

  -- a literal evaluates to its value
  module _ (known : OneLiteralValue) (place index : ℕ) (kind : LiteralKind) (here : HasKind filter.list place (NodeKind.Literal kind index)) (value : Value) (at : slice_get filter.list.values index ≡ Some value) where
    literal_read : (now : MomentParts) (stop from to : ℕ) (k : LiteralKind) (spelling : List ℕ) → StandsFor filter place stop (node from to (literal k spelling)) → IsValueOf (slots_of filter.schema) k spelling value
    literal_read now stop from to k spelling stands =
        found_there (IsValueOf (slots_of filter.schema) k spelling) (slice_get filter.list.values index) value at
        (literal_own (seen now) place kind index here k spelling stop from to stands)

    pub literal_gives : (stop : ℕ) (tree : Tree) → StandsFor filter place stop tree → (now : MomentParts) (held : List ℕ → FieldVal) → (right : Val) × ((plain_val value ≡ Some right) × Only right (Comes now held tree))
    literal_gives stop tree stands now held =
        by_kind (seen now) place (NodeKind.Literal kind index) here (λ stop tree. (right : Val) × ((plain_val value ≡ Some right) × Only right (Comes now held tree)))
        (λ k spelling stop from to stands.
        let read = literal_read now stop from to k spelling stands in
        (read.val, (read.plain, literal_only known (slots_of filter.schema) k spelling read.val read.value_of))) stop tree stands

    -- a value that is no number of an enumeration was not read as one
    literal_unread : IsNoNumber value → (now : MomentParts) (operator : BinaryOperator) → NoneRead now operator place
    literal_unread none now operator equality j tree number there =
        subst IsNoNumber (number_held (seen now) place kind index here value at number j tree there) none

    property_unread : (top slot : ℕ) → HasKind filter.list top (NodeKind.Property slot) → (now : MomentParts) (operator : BinaryOperator) → NoneRead now operator top
    property_unread top slot property now operator equality j tree number there = no_number (seen now) top (NodeKind.Property slot) tt property number j tree there

    right_unread : IsNoNumber value → (top : ℕ) → IsRightOf filter.list top place → (now : MomentParts) (operator : BinaryOperator) (middle : ℕ) (left : Tree) → StandsFor filter (top + 1) middle left
        → NoneRead now operator middle
    right_unread none top is_right now operator middle left stands =
        let same : middle ≡ place = stops_there (seen now) (top + 1) middle place left stands is_right in
        subst (λ (k : ℕ). NoneRead now operator k) (sym same) (literal_unread none now operator)

    -- a comparison of the property with it
    pub compared_sieve : (top slot : ℕ) (comparison : ComparisonOperator) (sieve : Sieve) → HasOperator filter.list top (BinaryOperator.Comparison comparison) → HasKind filter.list (top + 1) (NodeKind.Property slot)
        → IsRightOf filter.list top place → IsNoNumber value → ((right : Val) → plain_val value ≡ Some right → Decides comparison right sieve) → IsTermSieve filter top slot sieve
    compared_sieve top slot comparison sieve compares property is_right none decided = record {
      affirms = λ now held passes.
          binary_sides now held top (BinaryOperator.Comparison comparison) compares (property_unread (top + 1) slot property now (BinaryOperator.Comparison comparison)) (right_unread none top is_right now (BinaryOperator.Comparison comparison)) (λ o. o ≡ gives (boolean true))
          (λ stop l r sides.
          let found = literal_gives stop r (right_at now top place stop l r is_right sides) now held in
          compared_true (OfSides (BinaryOperator.Comparison comparison) l r) (Comes now held l) (Comes now held r) comparison found.0 (property_no_fault (top + 1) slot property sides.middle l sides.left now held) found.1.1
          (λ v means. (decided found.0 found.1.0).affirms v (property_passes (top + 1) slot property now held sieve passes sides.middle l sides.left v means)));
      decides = λ stop tree stands word named now held v o has rejected.
          binary_sides now held top (BinaryOperator.Comparison comparison) compares (property_unread (top + 1) slot property now (BinaryOperator.Comparison comparison)) (right_unread none top is_right now (BinaryOperator.Comparison comparison)) (λ o. o ≡ gives (boolean false))
          (λ stop l r sides.
          let found = literal_gives stop r (right_at now top place stop l r is_right sides) now held in
          compared_false (OfSides (BinaryOperator.Comparison comparison) l r) (Comes now held l) (Comes now held r) comparison v found.0
          (property_only (top + 1) slot property sides.middle l sides.left word named now held v has) found.1.1 ((decided found.0 found.1.0).refutes v rejected)) stop tree stands o;
      no_fault = λ stop tree stands now held.
          binary_sides now held top (BinaryOperator.Comparison comparison) compares (property_unread (top + 1) slot property now (BinaryOperator.Comparison comparison)) (right_unread none top is_right now (BinaryOperator.Comparison comparison)) IsValue
          (λ stop l r sides.
          let found = literal_gives stop r (right_at now top place stop l r is_right sides) now held in
          compared_no_fault (OfSides (BinaryOperator.Comparison comparison) l r) (Comes now held l) (Comes now held r) comparison
          (property_no_fault (top + 1) slot property sides.middle l sides.left now held) (only_no_fault found.0 (Comes now held r) found.1.1)) stop tree stands;
    }

  -- ---- a chain of terms

  pub first_up : (at : ℕ) → GoesUp filter at at
  first_up at = record { no_fault = λ ok. ok; decides = λ slot sieve decides. decides }

  -- a term's test is one of the filter
  pub chain_sieve : (term at : ℕ) (test : SlotSieve) → IsFilter filter → AndsAbove filter at → GoesUp filter term at → IsTermSieve filter term test.slot test.sieve → IsSieveOf filter test
  chain_sieve term at test is ands up sieve word named =
      top_false at ands test.slot test.sieve (up.decides test.slot test.sieve sieve.decides) (length filter.list.nodes) (tree_of_filter filter) is.stands word named

  -- and what holds of the next term holds of the chain from there
  pub next_up : (term at right slot : ℕ) (sieve : Sieve) → 0 < at → AndsAbove filter at → GoesUp filter term at → IsTermSieve filter term slot sieve → IsRightOf filter.list (at - 1) right → GoesUp filter right (at - 1)
  next_up term at right slot sieve some ands up test is_right =
      let here : HasOperator filter.list (at - 1) (BinaryOperator.Logical LogicalOperator.And) = ands (at - 1) (omega (arith, some)) in
      let e : at ≡ at - 1 + 1 = omega (arith, some) in
      let left : LeavesNoFault filter (at - 1 + 1) = subst (LeavesNoFault filter) e (up.no_fault test.no_fault) in
      record { no_fault = and_no_fault (at - 1) right here is_right left; decides = and_right_false (at - 1) right here is_right left }

  -- the tests of the terms so far, by whether the chain is true that they are of

  pub first_but : (at : ℕ) → AreAllBut filter [] at at
  first_but at now held passes holds = holds

  -- on a record that passes the tests, and that of the term, the chain from there is true
  true_there : (tests : List SlotSieve) (term at : ℕ) (test : SlotSieve) → AreAllBut filter tests term at → IsTermSieve filter term test.slot test.sieve
      → (now : MomentParts) (held : List ℕ → FieldVal) → All (PassesIn filter held) (tests ++ test ∷ []) → IsTrueAt filter now held at
  true_there tests term at test but sieve now held passes =
      let split = All-pop (PassesIn filter held) (tests ++ test ∷ []) tests (Some test) refl passes in
      but now held split.0 (sieve.affirms now held split.1)

  pub next_but : (tests : List SlotSieve) (term at right : ℕ) (test : SlotSieve) → 0 < at → AndsAbove filter at → AreAllBut filter tests term at → IsTermSieve filter term test.slot test.sieve → IsRightOf filter.list (at - 1) right
      → AreAllBut filter (tests ++ test ∷ []) right (at - 1)
  next_but tests term at right test some ands but sieve is_right now held passes holds =
      let e : at ≡ at - 1 + 1 = omega (arith, some) in
      and_both_true now held (at - 1) right (ands (at - 1) (omega (arith, some))) is_right (subst (IsTrueAt filter now held) e (true_there tests term at test but sieve now held passes)) holds

  -- at the top the tests are the whole filter
  pub whole_tests : (tests : List SlotSieve) (term : ℕ) (test : SlotSieve) → IsFilter filter → AreAllBut filter tests term 0 → IsTermSieve filter term test.slot test.sieve → AreWhole filter (tests ++ test ∷ [])
  whole_tests tests term test is but sieve some now held o passes =
      true_there tests term 0 test but sieve now held passes (length filter.list.nodes) (tree_of_filter filter) is.stands o

  pub ands_less : (at : ℕ) → AndsAbove filter at → AndsAbove filter (at - 1)
  ands_less at ands k below = ands k (omega (arith, below))

  pub ands_further : (at : ℕ) → AndsAbove filter at → HasOperator filter.list at (BinaryOperator.Logical LogicalOperator.And) → AndsAbove filter (at + 1)
  ands_further at ands here k below =
      elim (cases_lt k at) [
        | inl before ↦ ands k before
        | inr after ↦ (let same : at ≡ k = omega (arith, below, after) in subst (λ (n : ℕ). HasOperator filter.list n (BinaryOperator.Logical LogicalOperator.And)) same here)
      ]
