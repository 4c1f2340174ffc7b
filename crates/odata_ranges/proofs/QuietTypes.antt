-- Types and kinds whose nodes evaluate to no fault.
use Rattle.odata_ranges.proofs.Common.{◌≡◌, ◌⊎◌, ◌∙◌, inl, inr, ℕ, ◌+◌, List, [], ◌∷◌, Option, Some, None, slice_get, refl, sym, ap, subst, arith, IfSome, IsNumberType, PrimitiveType, Tree, Trees, any_item, binary, call, count, has, in_list, it, lambda, literal, member, more_trees, name, negation, no_trees, node, BinaryOperator, LiteralKind, ExprType, null_type, single, collection, primitive, enumeration, structured, PropertyModel, SchemaModel, Slots, slots_of, type_name_at, negation_type, promotion, IsCollection, IsNumberOrNull, number_or_null, IsNamed, row_of, expr_type, EdmType, ValueType, Function, OneType, AreTyped, Scope, StepTyped, Typed, Filter, IsFilter, AllLie, IsCallNode, IsLiteralNode, IsMemberNode, IsNameNode, variable_names, CheckedNode, NodeKind, one_there, two_there, numbered, same_found, lies_nonempty, AreQuiet, AreQuietThere, AreReportedFrom, IsQuietKind, IsQuietType, MakesNone, Range}
use Rattle.odata_signatures.specs.ArgumentTypes.{AreArgumentTypes, IsArgumentType}
use Rattle.odata_signatures.specs.HasTyped.{AreFlags}
use Rattle.odata_signatures.specs.QuotedNumber.{HasNumber}
use Rattle.odata_signatures.specs.declared.argument_kind.ArgumentKind.{ArgumentKind}
use Rattle.odata_signatures.specs.Sides.{quoted_text}
use Rattle.odata_ranges.proofs.Forms.{TypedIn}
use Rattle.odata_ranges.proofs.Layouts.{LiesIn, stop_there, type_there}
use Rattle.odata_ranges.proofs.Numeric.{negated, promoted}
use Rattle.odata_ranges.proofs.Put.{at_or_after}
use Rattle.odata_ranges.proofs.Values.{before_or_past}

-- ---- types

abbrev IsQuietExpr : ExprType → Type 0
IsQuietExpr (single (primitive PrimitiveType.Date)) = Unit {0}
IsQuietExpr (single (primitive PrimitiveType.DateTimeOffset)) = Unit {0}
IsQuietExpr (single (primitive PrimitiveType.Guid)) = Unit {0}
IsQuietExpr (single (primitive p)) = ⊥
IsQuietExpr type = Unit {0}

expr_quiet : (schema : SchemaModel) (type : EdmType) → IsQuietType type → IsQuietExpr (expr_type schema type)
expr_quiet schema (EdmType.Single (ValueType.Prim PrimitiveType.Date)) is = tt
expr_quiet schema (EdmType.Single (ValueType.Prim PrimitiveType.DateTimeOffset)) is = tt
expr_quiet schema (EdmType.Single (ValueType.Prim PrimitiveType.Guid)) is = tt
expr_quiet schema (EdmType.Single (ValueType.Prim _)) is = absurd is
expr_quiet schema _ is = tt

number_loud : (p : PrimitiveType) → IsNumberType p → IsQuietExpr (single (primitive p)) → ⊥
number_loud PrimitiveType.Date is quiet = absurd is
number_loud PrimitiveType.DateTimeOffset is quiet = absurd is
number_loud PrimitiveType.Guid is quiet = absurd is
number_loud _ is quiet = absurd quiet

quiet_number : (number : Option PrimitiveType) → IfSome number IsNumberType → IsQuietExpr (number_or_null number) → number ≡ None
quiet_number None is quiet = refl
quiet_number (Some p) is quiet = absurd (number_loud p is quiet)

negation_none : (number : Option PrimitiveType) → negation_type number ≡ None → number ≡ None
negation_none None is = refl
negation_none (Some p) is = absurd (cc)

promotion_none : (left right : Option PrimitiveType) → promotion left right ≡ None → (left ≡ None) × (right ≡ None)
promotion_none None None is = (refl, refl)
promotion_none None (Some q) is = absurd (cc)
promotion_none (Some p) right is = absurd (cc)

operand_null : (type : ExprType) (number : Option PrimitiveType) → IsNumberOrNull type number → number ≡ None → type ≡ null_type
operand_null null_type number is none = refl
operand_null (single (primitive p)) number is none = let some : number ≡ Some p = is.1 in absurd (cc)
operand_null _ number is none = absurd is

edm_null : (schema : SchemaModel) (type : EdmType) → expr_type schema type ≡ null_type → type ≡ EdmType.Null
edm_null schema EdmType.Null is = refl
edm_null schema _ is = absurd (cc)

step_quiet : (slots : Slots) (asked : List ℕ) (base type : ExprType) → StepTyped slots asked base type → IsQuietExpr base
step_quiet slots asked (single (structured owner)) type is = tt
step_quiet slots asked _ type is = absurd is

collection_quiet : (type : ExprType) → IsCollection type → IsQuietExpr type
collection_quiet (collection kept) is = tt
collection_quiet _ is = absurd is

moment_quiet : (type : ExprType) → IsArgumentType ArgumentKind.Moment type → IsQuietExpr type
moment_quiet null_type is = tt
moment_quiet (single (primitive p)) is = subst (λ (q : PrimitiveType). IsQuietExpr (single (primitive q))) (sym is) tt
moment_quiet _ is = absurd is

flags_quiet : (left right : ExprType) → AreFlags left right → IsQuietExpr left × IsQuietExpr right
flags_quiet null_type null_type are = (tt, tt)
flags_quiet null_type (single (enumeration r)) are = (tt, tt)
flags_quiet (single (enumeration l)) null_type are = (tt, tt)
flags_quiet (single (enumeration l)) (single (enumeration r)) are = (tt, tt)
flags_quiet _ _ are = absurd are

resolved_number : (slots : Slots) (beside : ExprType) (quoted : Option (List ℕ)) → HasNumber slots beside quoted
    → IsQuietExpr beside × ((spelling : List ℕ) × (quoted ≡ Some spelling))
resolved_number slots (single (enumeration n)) (Some spelling) read = (tt, (spelling, refl))
resolved_number slots _ _ read = absurd read.1

-- a function that gives no number, no text and no truth value
quiet_function : (function : Function) → IsQuietExpr (single (primitive (row_of function).gives)) → (function ≡ Function.Date) ⊎ (function ≡ Function.Now)
quiet_function Function.Date quiet = inl refl
quiet_function Function.Now quiet = inr refl
quiet_function _ quiet = absurd quiet

-- ---- kinds

literal_makes : (kind : LiteralKind) (k : NodeKind) (type : EdmType) → IsLiteralNode kind k → MakesNone k type
literal_makes kind (NodeKind.Literal own place) type is = tt
literal_makes kind _ type is = absurd is

name_makes : (properties : List PropertyModel) (variables : List (List ℕ)) (asked : List ℕ) (k : NodeKind) (type : EdmType) → IsNameNode properties variables asked k → MakesNone k type
name_makes properties variables asked (NodeKind.Variable level) type is = tt
name_makes properties variables asked (NodeKind.Property slot) type is = tt
name_makes properties variables asked _ type is = absurd is

member_makes : (slots : Slots) (Base : ExprType → Type 0) (asked : List ℕ) (k : NodeKind) (type : EdmType) → IsMemberNode slots Base asked k → MakesNone k type
member_makes slots Base asked (NodeKind.Member slot) type is = tt
member_makes slots Base asked _ type is = absurd is

abbrev OneName : Type 0
OneName = (f g : Function) (asked : List ℕ) → IsNamed f asked → IsNamed g asked → f ≡ g

call_makes : OneName → (asked : List ℕ) (function : Function) → IsNamed function asked → (function ≡ Function.Date) ⊎ (function ≡ Function.Now) → (k : NodeKind) (type : EdmType)
    → IsCallNode asked k → MakesNone k type
call_makes one asked function named is NodeKind.Now type call_is = tt
call_makes one asked function named is (NodeKind.Call f) type call_is =
    let same : f ≡ function = one f function asked call_is.0 named in
    elim is [
      | inl date ↦ subst (λ (g : Function). MakesNone (NodeKind.Call g) type) (sym (same ∙ date)) tt
      | inr now ↦ subst (λ (g : Function). MakesNone (NodeKind.Call g) type) (sym (same ∙ now)) tt
    ]
call_makes one asked function named is _ type call_is = absurd call_is

-- ---- trees

-- the first argument, and those after it
record FirstTyped (slots : Slots) (root : List ℕ) (scope : Scope) (tree : Tree) (more : Trees) (types : List ExprType) : Type 0 where
  type_of : ExprType
  others : List ExprType
  are : types ≡ type_of ∷ others
  typed : Typed slots root scope tree type_of
  more_typed : AreTyped slots root scope more others

first_typed : (slots : Slots) (root : List ℕ) (scope : Scope) (tree : Tree) (more : Trees) (types : List ExprType) → AreTyped slots root scope (more_trees tree more) types
    → FirstTyped slots root scope tree more types
first_typed slots root scope tree more [] typed = absurd typed
first_typed slots root scope tree more (type ∷ types) typed = record { type_of = type; others = types; are = refl; typed = typed.0; more_typed = typed.1 }

-- `date` has one argument, and `now` has none
date_alone : (type : ExprType) (others : List ExprType) → AreArgumentTypes (row_of Function.Date).arguments (type ∷ others) → IsQuietExpr type × (others ≡ [])
date_alone type [] are = (moment_quiet type are.0, refl)
date_alone type (other ∷ others) are = absurd are.1

moment_alone : (function : Function) → (function ≡ Function.Date) ⊎ (function ≡ Function.Now) → (type : ExprType) (others : List ExprType)
    → AreArgumentTypes (row_of function).arguments (type ∷ others) → IsQuietExpr type × (others ≡ [])
moment_alone function is type others are = elim is [
  | inl date ↦ date_alone type others (subst (λ (f : Function). AreArgumentTypes (row_of f).arguments (type ∷ others)) date are)
  | inr now ↦ absurd (subst (λ (f : Function). AreArgumentTypes (row_of f).arguments (type ∷ others)) now are)
]

module _ (filter : Filter) (types : OneType) (named : OneName) (ranges : List Range) (reported : AreReportedFrom filter 0 ranges) where
  no_more : (scope : Scope) (more : Trees) (i j : ℕ) → AreTyped (slots_of filter.schema) (type_name_at filter.schema filter.filtered) scope more []
      → AllLie filter.schema filter.filtered scope filter.list i j more → i ≡ j
  no_more scope no_trees i j typed stand = stand
  no_more scope (more_trees tree more) i j typed stand = absurd typed

  nothing : (i j : ℕ) → i ≡ j → AreQuiet ranges i j
  nothing i j same = λ place range after before found. absurd (omega (arith, same, after, before))

  side_by_side : (i m j : ℕ) → AreQuiet ranges i m → AreQuiet ranges m j → AreQuiet ranges i j
  side_by_side i m j first second = λ place range after before found.
      before_or_past place m (λ below. first place range after below found) (λ past. second place range past before found)

  top_quiet : (scope : Scope) (place stop : ℕ) (tree : Tree) (found : CheckedNode) → slice_get filter.list.nodes place ≡ Some found → LiesIn filter scope place stop tree
      → MakesNone found.kind found.edm_type → AreQuiet ranges (place + 1) stop → AreQuiet ranges place stop
  top_quiet scope place stop tree found at stands makes below = λ k range from before is.
      elim (at_or_after place k from) [
        | inl same ↦ (reported place found range (omega arith) at (subst (λ (n : ℕ). slice_get ranges n ≡ Some range) same is)).owns makes
            (subst (λ (n : ℕ). AreQuiet ranges (place + 1) n) (sym (stop_there filter scope place found at stop tree stands)) below)
        | inr less ↦ below k range (omega (arith, less)) before is
      ]

  literal_quiet : (scope : Scope) (i j s e : ℕ) (kind : LiteralKind) (spelling : List ℕ) → LiesIn filter scope i j (node s e (literal kind spelling)) → AreQuiet ranges i j
  literal_quiet scope i j s e kind spelling stands =
      top_quiet scope i j (node s e (literal kind spelling)) stands.top.found stands.top.stands_at stands
      (literal_makes kind stands.top.found.kind stands.top.found.edm_type stands.top.kind)
      (nothing (i + 1) j stands.children)

  quoted_quiet : (scope : Scope) (i j : ℕ) (tree : Tree) (spelling : List ℕ) → quoted_text tree ≡ Some spelling → LiesIn filter scope i j tree → AreQuiet ranges i j
  quoted_quiet scope i j (node s e (literal kind own)) spelling is stands = literal_quiet scope i j s e kind own stands
  quoted_quiet scope i j _ spelling is stands = absurd (cc)

  -- the type is quiet, unless the kind of the node there is
  abbrev IsQuietHere : ℕ → ExprType → Type 0
  IsQuietHere place type =
      (found : CheckedNode) → slice_get filter.list.nodes place ≡ Some found → (IsQuietKind found.kind → ⊥) → IsQuietExpr type

  quiet_call : (asked : List ℕ) (function : Function) → IsNamed function asked → (kind : NodeKind) → IsCallNode asked kind
      → ((IsQuietKind kind → ⊥) → IsQuietExpr (single (primitive (row_of function).gives))) → (function ≡ Function.Date) ⊎ (function ≡ Function.Now)
  quiet_call asked function is_named NodeKind.Now given quiet = inr (named function Function.Now asked is_named given)
  quiet_call asked function is_named (NodeKind.Call called) given quiet = quiet_function function (quiet (λ no. no))
  quiet_call asked function is_named _ given quiet = absurd given

  quiet_there : (scope : Scope) (i j : ℕ) (tree : Tree) (type : ExprType) → LiesIn filter scope i j tree → TypedIn filter scope tree type → IsQuietHere i type → AreQuiet ranges i j
  quiet_there scope i j (node s e (literal kind spelling)) type stands typed quiet = literal_quiet scope i j s e kind spelling stands
  quiet_there scope i j (node s e it) type stands typed quiet =
      top_quiet scope i j (node s e it) stands.top.found stands.top.stands_at stands
      (subst (λ (k : NodeKind). MakesNone k stands.top.found.edm_type) (sym stands.top.kind) tt) (nothing (i + 1) j stands.children)
  quiet_there scope i j (node s e (name asked)) type stands typed quiet =
      top_quiet scope i j (node s e (name asked)) stands.top.found stands.top.stands_at stands
      (name_makes ((slots_of filter.schema).properties (type_name_at filter.schema filter.filtered)) (variable_names scope) asked stands.top.found.kind stands.top.found.edm_type stands.top.kind) (nothing (i + 1) j stands.children)
  quiet_there scope i j (node s e (member base asked)) type stands typed quiet =
      top_quiet scope i j (node s e (member base asked)) stands.top.found stands.top.stands_at stands
      (member_makes (slots_of filter.schema) (TypedIn filter scope base) asked stands.top.found.kind stands.top.found.edm_type stands.top.kind)
      (quiet_there scope (i + 1) j base typed.operand (one_there filter.schema filter.filtered scope filter.list (i + 1) j base stands.children) typed.operand_typed
      (λ own own_at loud. step_quiet (slots_of filter.schema) asked typed.operand type typed.makes))
  quiet_there scope i j (node s e (count base)) type stands typed quiet =
      top_quiet scope i j (node s e (count base)) stands.top.found stands.top.stands_at stands (subst (λ (k : NodeKind). MakesNone k stands.top.found.edm_type) (sym stands.top.kind) tt)
      (quiet_there scope (i + 1) j base typed.operand (one_there filter.schema filter.filtered scope filter.list (i + 1) j base stands.children) typed.operand_typed
      (λ own own_at loud. collection_quiet typed.operand typed.makes.0))
  quiet_there scope i j (node s e (any_item base)) type stands typed quiet =
      top_quiet scope i j (node s e (any_item base)) stands.top.found stands.top.stands_at stands (subst (λ (k : NodeKind). MakesNone k stands.top.found.edm_type) (sym stands.top.kind) tt)
      (quiet_there scope (i + 1) j base typed.operand (one_there filter.schema filter.filtered scope filter.list (i + 1) j base stands.children) typed.operand_typed
      (λ own own_at loud. collection_quiet typed.operand typed.makes.0))
  quiet_there scope i j (node s e (has left right)) type stands typed quiet =
      let two = two_there filter.schema filter.filtered scope filter.list (i + 1) j left right stands.children in
      top_quiet scope i j (node s e (has left right)) stands.top.found stands.top.stands_at stands (subst (λ (k : NodeKind). MakesNone k stands.top.found.edm_type) (sym stands.top.kind) tt)
      (elim typed.makes.0 [
        | inl flags ↦ (
            let both = flags_quiet typed.left typed.right flags in
            side_by_side (i + 1) two.middle j (quiet_there scope (i + 1) two.middle left typed.left two.left typed.left_typed (λ own own_at loud. both.0))
            (quiet_there scope two.middle j right typed.right two.right typed.right_typed (λ own own_at loud. both.1))
            )
        | inr number ↦ (
            let read = resolved_number (slots_of filter.schema) typed.left (quoted_text right) number in
            side_by_side (i + 1) two.middle j (quiet_there scope (i + 1) two.middle left typed.left two.left typed.left_typed (λ own own_at loud. read.0))
            (quoted_quiet scope two.middle j right read.1.0 read.1.1 two.right)
            )
      ])
  quiet_there scope i j (node s e (negation operand)) type stands typed quiet =
      let number = typed.makes.number in
      let is_quiet : IsQuietExpr type = quiet stands.top.found stands.top.stands_at (subst IsQuietKind stands.top.kind) in
      let computed : negation_type number ≡ None = quiet_number (negation_type number) (negated number) (subst IsQuietExpr typed.makes.type_is is_quiet) in
      let none : number ≡ None = negation_none number computed in
      let null : typed.operand ≡ null_type = operand_null typed.operand number typed.makes.operand_is none in
      let own : expr_type filter.schema stands.top.found.edm_type ≡ type =
      types (slots_of filter.schema) (type_name_at filter.schema filter.filtered) scope (node s e (negation operand)) (expr_type filter.schema stands.top.found.edm_type) type stands.top.typed typed in
      let edm : stands.top.found.edm_type ≡ EdmType.Null = edm_null filter.schema stands.top.found.edm_type (own ∙ typed.makes.type_is ∙ ap number_or_null computed) in
      top_quiet scope i j (node s e (negation operand)) stands.top.found stands.top.stands_at stands
      (subst (λ (k : NodeKind). MakesNone k stands.top.found.edm_type) (sym stands.top.kind) edm)
      (quiet_there scope (i + 1) j operand typed.operand (one_there filter.schema filter.filtered scope filter.list (i + 1) j operand stands.children) typed.operand_typed
      (λ own own_at loud. subst IsQuietExpr (sym null) tt))
  quiet_there scope i j (node s e (binary (BinaryOperator.Logical logical) left right)) type stands typed quiet =
      elim typed.makes [ inl by ↦ absurd (subst IsQuietExpr by.2 (quiet stands.top.found stands.top.stands_at (subst IsQuietKind stands.top.kind))) | inr one ↦ absurd (subst IsQuietExpr one.1 (quiet stands.top.found stands.top.stands_at (subst IsQuietKind stands.top.kind))) ]
  quiet_there scope i j (node s e (binary (BinaryOperator.Comparison comparison) left right)) type stands typed quiet =
      elim typed.makes [ inl by ↦ absurd (subst IsQuietExpr by.1 (quiet stands.top.found stands.top.stands_at (subst IsQuietKind stands.top.kind))) | inr one ↦ absurd (subst IsQuietExpr one.1 (quiet stands.top.found stands.top.stands_at (subst IsQuietKind stands.top.kind))) ]
  quiet_there scope i j (node s e (binary (BinaryOperator.Arithmetic arithmetic) left right)) type stands typed quiet =
      let is_quiet : IsQuietExpr type = quiet stands.top.found stands.top.stands_at (subst IsQuietKind stands.top.kind) in
      elim typed.makes [
        | inl by ↦ (
            let computed : promotion by.left_number by.right_number ≡ None =
            quiet_number (promotion by.left_number by.right_number) (promoted by.left_number by.right_number) (subst IsQuietExpr by.type_is is_quiet) in
            let none = promotion_none by.left_number by.right_number computed in
            let left_null : typed.left ≡ null_type = operand_null typed.left by.left_number by.left_is none.0 in
            let right_null : typed.right ≡ null_type = operand_null typed.right by.right_number by.right_is none.1 in
            let whole = node s e (binary (BinaryOperator.Arithmetic arithmetic) left right) in
            let own : expr_type filter.schema stands.top.found.edm_type ≡ type =
            types (slots_of filter.schema) (type_name_at filter.schema filter.filtered) scope whole (expr_type filter.schema stands.top.found.edm_type) type stands.top.typed typed in
            let edm : stands.top.found.edm_type ≡ EdmType.Null = edm_null filter.schema stands.top.found.edm_type (own ∙ by.type_is ∙ ap number_or_null computed) in
            let two = two_there filter.schema filter.filtered scope filter.list (i + 1) j left right stands.children in
            top_quiet scope i j whole stands.top.found stands.top.stands_at stands (subst (λ (k : NodeKind). MakesNone k stands.top.found.edm_type) (sym stands.top.kind) edm)
            (side_by_side (i + 1) two.middle j
            (quiet_there scope (i + 1) two.middle left typed.left two.left typed.left_typed (λ own own_at loud. subst IsQuietExpr (sym left_null) tt))
            (quiet_there scope two.middle j right typed.right two.right typed.right_typed (λ own own_at loud. subst IsQuietExpr (sym right_null) tt)))
            )
        | inr one ↦ absurd (subst IsQuietExpr one.1 is_quiet)
      ]
  quiet_there scope i j (node s e (in_list left items)) type stands typed quiet = absurd (subst IsQuietExpr typed.makes.2 (quiet stands.top.found stands.top.stands_at (subst IsQuietKind stands.top.kind)))
  quiet_there scope i j (node s e (lambda quantifier base variable body)) type stands typed quiet = absurd (subst IsQuietExpr typed.makes (quiet stands.top.found stands.top.stands_at (subst IsQuietKind stands.top.kind)))
  quiet_there scope i j (node s e (call asked no_trees)) type stands typed quiet =
      let called = typed.call_typed in
      let function = quiet_call asked called.function called.named stands.top.found.kind stands.top.kind
      (λ loud. subst IsQuietExpr called.typed.gives (quiet stands.top.found stands.top.stands_at loud)) in
      top_quiet scope i j (node s e (call asked no_trees)) stands.top.found stands.top.stands_at stands
      (call_makes named asked called.function called.named function stands.top.found.kind stands.top.found.edm_type stands.top.kind) (nothing (i + 1) j stands.children)
  quiet_there scope i j (node s e (call asked (more_trees tree more))) type stands typed quiet =
      let called = typed.call_typed in
      let function = quiet_call asked called.function called.named stands.top.found.kind stands.top.kind
      (λ loud. subst IsQuietExpr called.typed.gives (quiet stands.top.found stands.top.stands_at loud)) in
      let first = first_typed (slots_of filter.schema) (type_name_at filter.schema filter.filtered) scope tree more typed.types typed.arguments_typed in
      let alone = moment_alone called.function function first.type_of first.others
      (subst (λ (ts : List ExprType). AreArgumentTypes (row_of called.function).arguments ts) first.are called.typed.arguments) in
      let ends : stands.children.middle ≡ j = no_more scope more stands.children.middle j
      (subst (λ (ts : List ExprType). AreTyped (slots_of filter.schema) (type_name_at filter.schema filter.filtered) scope more ts) alone.1 first.more_typed) stands.children.right in
      top_quiet scope i j (node s e (call asked (more_trees tree more))) stands.top.found stands.top.stands_at stands
      (call_makes named asked called.function called.named function stands.top.found.kind stands.top.found.edm_type stands.top.kind)
      (subst (λ (n : ℕ). AreQuiet ranges (i + 1) n) ends
      (quiet_there scope (i + 1) stands.children.middle tree first.type_of stands.children.left first.typed (λ own own_at loud. alone.0)))
  quiet_there scope i j (node s e _) type stands typed quiet = absurd (subst IsQuietExpr typed.makes.1 (quiet stands.top.found stands.top.stands_at (subst IsQuietKind stands.top.kind)))

  -- so do the ranges of a filter's nodes
  pub all_quiet : IsFilter filter → AreQuietThere filter ranges
  all_quiet is = λ place found range at range_at.
      let there = numbered filter place found is at in
      let onward = lies_nonempty filter.schema filter.filtered there.scope filter.list place there.stop there.part there.stands in
      let typed = type_there filter there.scope place found at there.stop there.part there.stands in
      let quiet_by = λ (quiet : IsQuietHere place (expr_type filter.schema found.edm_type)).
      quiet_there there.scope place there.stop there.part (expr_type filter.schema found.edm_type) there.stands typed quiet place range (omega arith) onward range_at in (
        (λ is_type. quiet_by (λ own own_at loud. expr_quiet filter.schema found.edm_type is_type)),
        (λ is_kind. quiet_by (λ own own_at loud. absurd (loud (subst (λ (n : CheckedNode). IsQuietKind n.kind) (same_found (slice_get filter.list.nodes place) found own at own_at) is_kind)))),
      )
