-- What leaves and steps evaluate to lies within the ranges that are made for them.
use Rattle.odata_ranges.proofs.Common.{◌≡◌, ◌∙◌, ℕ, ◌<◌, ◌≤◌, ◌+◌, List, [], ◌∷◌, Bool, true, Option, Some, length, position, slice_get, refl, sym, ap, subst, nat_eq, arith, MatchOption, position_or_len, pointwise, Val, null, fields, Value, Tree, Trees, call, literal, member, more_trees, name, no_trees, node, LiteralKind, ExprType, single, structured, PropertyModel, properties_at, slot_named, slots_of, type_name_at, IsNamed, row_of, expr_type, Function, OneLiteralValue, OneType, LiteralValue, AreTyped, PropertyTyped, StepTyped, named_type, property_named, Filter, IsValueOf, CheckedNode, NodeKind, TypedEndsOnce, scope_of, ArgumentsMean, FieldGives, FoundGives, StepGives, found_there, some_there, CallGives, After, Then, Outcome, GivesSome, gives, overflow, divides_by_zero, IsKept, IsNullOnlyIf, property_takes_null, IsOwnerAt, HoldsRange, IsContextOf, MeansIn, CheckContext, IsValueWithin, IsWithin, Range, HoldsValues}
use Rattle.std.proofs.lemmas.Bool.Decides.{nat_tests}
use Rattle.std.proofs.lemmas.List.Folds.{find_at}
use Rattle.edm_values.specs.PlainVal.{plain_val}
use Rattle.filter_context.proofs.Children.{one_there}
use Rattle.filter_context.proofs.Variables.{unbound}
use Rattle.odata_ranges.proofs.Forms.{TypedIn, holds_by, kind_there, type_there, value_has, valued_there}
use Rattle.odata_ranges.proofs.KeptPaths.{field_kept, name_kept, null_if_true, tree_kept}

-- ---- faults

-- a fault, if it is one, is one that the range has
abbrev pub FaultsWithin : Range → Outcome → Type 0
FaultsWithin range (gives v) = Unit {0}
FaultsWithin range _ = range.may_fault ≡ true

pub faults_pass : (range result : Range) (x : Outcome) → (range.may_fault ≡ true → result.may_fault ≡ true) → IsWithin range x → FaultsWithin result x
faults_pass range result (gives v) passes within = tt
faults_pass range result _ passes within = passes within

pub after_within : (result : Range) (Operand : Outcome → Type 0) (Goes : Val → Outcome → Type 0) (o : Outcome)
    → ((x : Outcome) → Operand x → FaultsWithin result x) → ((v : Val) → Operand (gives v) → Goes v o → IsWithin result o) → After Operand Goes o → IsWithin result o
after_within result Operand Goes o faults goes given = by given.0 given.1.0 given.1.1
  where
    by : (x : Outcome) → Operand x → Then x Goes o → IsWithin result o
    by (gives v) is then = goes v is then
    by overflow is then = subst (IsWithin result) (sym then) (faults overflow is)
    by divides_by_zero is then = subst (IsWithin result) (sym then) (faults divides_by_zero is)

pub null_only : (takes wider : Bool) (v : Val) → (takes ≡ true → wider ≡ true) → IsNullOnlyIf takes v → IsNullOnlyIf wider v
null_only takes wider null passes only = passes only
null_only takes wider _ passes only = tt

-- ---- properties by their slots

slot_found : {X : Type 0} (p : X → Bool) (xs : List X) (k : ℕ) → position p xs ≡ Some k → (position_or_len p xs ≡ k) × (k < length xs)
slot_found p xs k found = grind (arith, nat_tests)

pub property_at : (properties : List PropertyModel) (asked : List ℕ) (k : ℕ) → slot_named properties asked ≡ Some k → property_named properties asked ≡ slice_get properties k
property_at properties asked k found =
    let test : PropertyModel → Bool = λ (p : PropertyModel). pointwise nat_eq asked p.name in
    find_at test properties ∙ ap (λ (i : ℕ). slice_get properties i) (slot_found test properties k found).0

-- the same structured type
pub same_owner : (a b : List ℕ) → single (structured a) ≡ single (structured b) → a ≡ b
same_owner a b is = cc

module _ (ends : TypedEndsOnce) (filter : Filter) (place : ℕ) (found : CheckedNode) (at : slice_get filter.list.nodes place ≡ Some found) (result : Range) where
  pub it_holds : found.kind ≡ NodeKind.It → HoldsRange filter place result
  it_holds kind_is = holds_by filter place found at result NodeKind.It kind_is
      (λ context is stop from to o stands given. subst (IsWithin result) (sym (given ∙ ap gives is.is_record)) tt)

  now_given : (context : CheckContext) (arguments : Trees) (types : List ExprType) (o : Outcome) → length types ≤ 0
      → AreTyped (slots_of filter.schema) (type_name_at filter.schema filter.filtered) (scope_of context.environment) arguments types
      → ArgumentsMean (slots_of filter.schema) (type_name_at filter.schema filter.filtered) context.now context.entity context.environment arguments (CallGives context.now Function.Now) o
      → IsWithin result o
  now_given context no_trees [] o few typed given = subst (IsWithin result) (sym given) tt
  now_given context (more_trees tree more) (t ∷ ts) o few typed given = absurd (omega (arith, few))
  now_given context _ _ o few typed given = absurd typed

  pub now_holds : ((f g : Function) (text : List ℕ) → IsNamed f text → IsNamed g text → f ≡ g) → found.kind ≡ NodeKind.Now → HoldsRange filter place result
  now_holds one kind_is = holds_by filter place found at result NodeKind.Now kind_is
      (λ asked arguments named context is s from to o stands_there given.
      let typed = type_there filter (scope_of context.environment) place found at s (node from to (call asked arguments)) stands_there in
      let called = typed.call_typed in
      let is_now : called.function ≡ Function.Now = one called.function Function.Now asked called.named named in
      let few : length typed.types ≤ 0 = subst (λ (f : Function). length typed.types ≤ length (row_of f).arguments) is_now called.typed.count.most in
      let same : given.function ≡ Function.Now = one given.function Function.Now asked given.named named in
      now_given context arguments typed.types o few typed.arguments_typed
      (subst (λ (f : Function). ArgumentsMean (slots_of filter.schema) (type_name_at filter.schema filter.filtered) context.now context.entity context.environment arguments (CallGives context.now f) o)
      same given.given))

  pub literal_holds : OneLiteralValue → (kind : LiteralKind) (value : ℕ) (stored : Value) → found.kind ≡ NodeKind.Literal kind value
      → slice_get filter.list.values value ≡ Some stored → ((v : Val) → plain_val stored ≡ Some v → IsValueWithin result v) → HoldsRange filter place result
  literal_holds one kind value stored kind_is stored_at within = holds_by filter place found at result (NodeKind.Literal kind value) kind_is
      (λ k spelling context is s from to o there given.
      let valued = valued_there filter (scope_of context.environment) place found at (NodeKind.Literal kind value) kind_is s from to (literal k spelling) there in
      let value_is = found_there (IsValueOf (slots_of filter.schema) k spelling) (slice_get filter.list.values value) stored stored_at valued in
      literal_value k spelling o value_is.val value_is.value_of (within value_is.val value_is.plain) given)
    where
      literal_value : (k : LiteralKind) (spelling : List ℕ) (o : Outcome) (v : Val) → LiteralValue (slots_of filter.schema) k spelling v → IsValueWithin result v
          → GivesSome (LiteralValue (slots_of filter.schema) k spelling) o → IsWithin result o
      literal_value k spelling (gives w) v value holds given =
          let same : w ≡ v = one (slots_of filter.schema) k spelling w v given value in subst (IsValueWithin result) (sym same) holds
      literal_value k spelling _ v value holds given = absurd given

  -- a value that is kept and has its type
  kept_within : (context : CheckContext) → IsContextOf filter context → (tree : Tree) (takes : Bool) (o : Outcome) (v : Val)
      → TypedIn filter (scope_of context.environment) tree (expr_type filter.schema found.edm_type) → MeansIn filter context tree o → HoldsValues found.edm_type takes result
      → o ≡ gives v → IsNullOnlyIf takes v → IsKept (slots_of filter.schema) (expr_type filter.schema found.edm_type) v → IsWithin result o
  kept_within context is tree takes o v typed means holds comes only kept =
      let has = value_has ends filter context is tree (expr_type filter.schema found.edm_type) v typed (subst (λ (x : Outcome). MeansIn filter context tree x) comes means) in
      subst (IsWithin result) (sym comes) (holds filter.schema v has kept only)

  pub variable_holds : (level : ℕ) → found.kind ≡ NodeKind.Variable level → HoldsValues found.edm_type true result → HoldsRange filter place result
  variable_holds level kind_is holds = holds_by filter place found at result (NodeKind.Variable level) kind_is
      (λ asked context is s from to o stands_there given.
      let typed = type_there filter (scope_of context.environment) place found at s (node from to (name asked)) stands_there in
      let comes = name_kept (slots_of filter.schema) (type_name_at filter.schema filter.filtered) context.entity context.environment asked
      (expr_type filter.schema found.edm_type) o is.kept is.variables typed given in
      kept_within context is (node from to (name asked)) true o comes.0 typed given holds comes.1 (null_if_true comes.0) comes.2)

  pub property_holds : (slot : ℕ) (takes : Bool) → found.kind ≡ NodeKind.Property slot → HoldsValues found.edm_type takes result
      → ((p : PropertyModel) → slice_get (properties_at filter.schema filter.filtered) slot ≡ Some p → takes ≡ property_takes_null p.type_of p.nullable)
      → HoldsRange filter place result
  property_holds slot takes kind_is holds takes_is = holds_by filter place found at result (NodeKind.Property slot) kind_is
      (λ asked context is s from to o stands_there given.
      let slots = slots_of filter.schema in
      let properties : List PropertyModel = properties_at filter.schema filter.filtered in
      let type = expr_type filter.schema found.edm_type in
      let named = kind_there filter (scope_of context.environment) place found at (NodeKind.Property slot) kind_is s from to (name asked) stands_there in
      let free = unbound context.environment asked named.0 in
      let typed = type_there filter (scope_of context.environment) place found at s (node from to (name asked)) stands_there in
      let property_typed : PropertyTyped properties asked type =
      subst (λ (o : Option ExprType). MatchOption o (PropertyTyped properties asked type) (λ t. type ≡ t)) free.1 typed in
      let there = some_there (λ p. named_type p.type_of ≡ Some type) (property_named properties asked) property_typed in
      let step : StepGives context.entity asked o = subst (λ (v : Option Val). FoundGives v context.entity asked o) free.0 given in
      let field : FieldGives (is.held asked) o = subst (λ (v : Val). StepGives v asked o) is.is_record step in
      let kept : IsKept slots (single (structured (type_name_at filter.schema filter.filtered))) (fields is.held) =
      subst (λ (v : Val). IsKept slots (single (structured (type_name_at filter.schema filter.filtered))) v) is.is_record is.kept in
      let comes = field_kept slots is.held asked type there.0 properties o kept there.1.0 there.1.1 field in
      let same : takes ≡ property_takes_null there.0.type_of there.0.nullable = takes_is there.0 (sym (property_at properties asked slot named.1) ∙ there.1.0) in
      kept_within context is (node from to (name asked)) takes o comes.0 typed given holds comes.1
      (subst (λ (b : Bool). IsNullOnlyIf b comes.0) (sym same) comes.2) comes.3)

  -- a step from such a base
  stepped : (context : CheckContext) → IsContextOf filter context → (takes : Bool) (slot owner : ℕ) (asked : List ℕ) (tree : Tree) (w : Val) (o : Outcome)
      → TypedIn filter (scope_of context.environment) tree (expr_type filter.schema found.edm_type) → MeansIn filter context tree o → HoldsValues found.edm_type takes result
      → PropertyTyped (properties_at filter.schema owner) asked (expr_type filter.schema found.edm_type) → slot_named (properties_at filter.schema owner) asked ≡ Some slot
      → ((p : PropertyModel) → slice_get (properties_at filter.schema owner) slot ≡ Some p → property_takes_null p.type_of p.nullable ≡ true → takes ≡ true)
      → (w ≡ null → takes ≡ true) → IsKept (slots_of filter.schema) (single (structured (type_name_at filter.schema owner))) w → StepGives w asked o → IsWithin result o
  stepped context is takes slot owner asked tree null o typed means holds property_typed named takes_null from_null kept given =
      kept_within context is tree takes o null typed means holds given (from_null refl) tt
  stepped context is takes slot owner asked tree (fields f) o typed means holds property_typed named takes_null from_null kept given =
      let properties : List PropertyModel = properties_at filter.schema owner in
      let there = some_there (λ p. named_type p.type_of ≡ Some (expr_type filter.schema found.edm_type)) (property_named properties asked) property_typed in
      let comes = field_kept (slots_of filter.schema) f asked (expr_type filter.schema found.edm_type) there.0 properties o kept there.1.0 there.1.1 given in
      kept_within context is tree takes o comes.0 typed means holds comes.1
      (null_only (property_takes_null there.0.type_of there.0.nullable) takes comes.0 (takes_null there.0 (sym (property_at properties asked slot named) ∙ there.1.0)) comes.2) comes.3
  stepped context is takes slot owner asked tree _ o typed means holds property_typed named takes_null from_null kept given = absurd given

  pub step_holds : OneType → (slot owner : ℕ) (takes : Bool) (base_range : Range) → found.kind ≡ NodeKind.Member slot → IsOwnerAt filter place owner
      → HoldsRange filter (place + 1) base_range → HoldsValues found.edm_type takes result → (base_range.may_be_null ≡ true → takes ≡ true)
      → ((p : PropertyModel) → slice_get (properties_at filter.schema owner) slot ≡ Some p → property_takes_null p.type_of p.nullable ≡ true → takes ≡ true)
      → HoldsRange filter place result
  step_holds types slot owner takes base_range kind_is owned base_holds holds from_null takes_null = holds_by filter place found at result (NodeKind.Member slot) kind_is
      (λ base asked context is s from to o stands_there given.
      let slots = slots_of filter.schema in
      let root = type_name_at filter.schema filter.filtered in
      let scope = scope_of context.environment in
      let type = expr_type filter.schema found.edm_type in
      let owner_name : List ℕ = type_name_at filter.schema owner in
      let named = kind_there filter scope place found at (NodeKind.Member slot) kind_is s from to (member base asked) stands_there in
      let typed = type_there filter scope place found at s (node from to (member base asked)) stands_there in
      let base_typed : TypedIn filter scope base (single (structured owner_name)) = owned.of_tree scope s (node from to (member base asked)) stands_there in
      let same_named : named.0 ≡ owner_name = same_owner named.0 owner_name (types slots root scope base (single (structured named.0)) (single (structured owner_name)) named.1 base_typed) in
      let operand : typed.operand ≡ single (structured owner_name) = types slots root scope base typed.operand (single (structured owner_name)) typed.operand_typed base_typed in
      let property_typed : PropertyTyped (slots.properties owner_name) asked type = subst (λ (t : ExprType). StepTyped slots asked t type) operand typed.makes in
      let first = tree_kept filter context is base (single (structured owner_name)) given.0 tt base_typed given.1.0 in
      let base_within : IsWithin base_range given.0 =
      base_holds context base s given.0 is (one_there filter.schema filter.filtered scope filter.list (place + 1) s base stands_there.children) given.1.0 in
      stepped context is takes slot owner asked (node from to (member base asked)) first.0 o typed given holds property_typed
      (subst (λ (n : List ℕ). slot_named (slots.properties n) asked ≡ Some slot) same_named named.2) takes_null
      (λ none. from_null (subst (λ (v : Val). IsValueWithin base_range v) none (subst (IsWithin base_range) first.1 base_within)))
      first.2 (subst (λ (x : Outcome). Then x (λ v. StepGives v asked) o) first.1 given.1.1))
