-- Leaves of a filter: literals and `now()`.
use Rattle.std.proofs.Common.{◌≡◌, ◌⊎◌, inl, inr, ℕ, ℤ, ◌+◌, ◌-◌, ◌*◌, ◌<◌, ◌≤◌, All, List, [], ◌∷◌, Some, length, refl, sym, ap, subst, ◌∙◌, arith}
use Rattle.std.specs.Char.{digit_value}
use Rattle.std.specs.Prelude.{slice_get}
use Rattle.std.specs.Str.Parse.{AllDigits}
use Rattle.std.proofs.lemmas.List.Elements.{All-cons}
use Rattle.std.proofs.lemmas.Option.{slice_get_within}
use Rattle.edm_values.specs.Civil.{Date}
use Rattle.edm_values.specs.GuidLiteral.{hex_bytes}
use Rattle.edm_values.specs.MomentParts.{IsFourDigitYear, MomentParts}
use Rattle.edm_values.specs.PlainVal.{plain_val}
use Rattle.edm_values.specs.Val.{Val, date, guid, member, moment}
use Rattle.edm_values.specs.declared.value.Value.{Value}
use Rattle.csdl_schema.specs.ExprType.{ExprType}
use Rattle.csdl_schema.specs.SchemaModel.{SchemaModel, Slots, slots_of, type_name_at}
use Rattle.edm_entities.specs.Row.{value_of}
use Rattle.odata_checked_filter.specs.Filter.{Filter, IsFilter}
use Rattle.odata_checked_filter.specs.Stands.{IsValueOf, NumberStands, Stands}
use Rattle.odata_checked_filter.specs.declared.checked_node.CheckedNode.{CheckedNode}
use Rattle.odata_checked_filter.specs.declared.checked_node.NodeKind.{NodeKind}
use Rattle.filter_context.proofs.Operands.{one_kind}
use Rattle.filter_context.proofs.Parts.{found_there, some_there, there_found}
use Rattle.filter_context.proofs.Spines.{only_now}
use Rattle.odata_meaning.specs.Environment.{Environment, scope_of}
use Rattle.odata_meaning.specs.Means.{ArgumentsMean, Means}
use Rattle.filter_context.specs.private.Place.{HasKind}
use Rattle.odata_signatures.specs.Laws.{OneLiteralValue}
use Rattle.odata_signatures.specs.LiteralValue.{LiteralValue}
use Rattle.odata_signatures.specs.Typed.{AreTyped, Scope}
use Rattle.odata_filter_operations.specs.CallGives.{CallGives}
use Rattle.odata_filter_operations.specs.Outcome.{GivesSome, Outcome, gives, overflow, divides_by_zero}
use Rattle.odata_signatures.specs.CallTyped.{CallTyped}
use Rattle.odata_signatures.specs.Functions.{IsNamed, row_of}
use Rattle.odata_signatures.specs.declared.function.Function.{Function}
use Rattle.odata_syntax.specs.Tree.{Tree, Trees, literal, more_trees, no_trees}
use Rattle.odata_syntax.specs.declared.node.LiteralKind.{LiteralKind}
use Rattle.odata_ranges.proofs.Inside.{literal_inside, same_value}
use Rattle.odata_ranges.proofs.TreesAt.{number_there, something_there}
use Rattle.sql_draft.specs.Rows.{IsRowOf}
use Rattle.sql_draft.specs.private.Spelled.{IsGuid, IsLiteralAt, IsSpelled}
use Rattle.sql_draft.specs.World.{OfPlace, World}
use Rattle.sql_draft.proofs.Places.{by_kind, valued_there}

some_given : (P : Val → Type 0) (o : Outcome) → GivesSome P o → (v : Val) × (o ≡ gives v) × P v
some_given P (gives v) is = (v, refl, is)
some_given P overflow is = absurd is
some_given P divides_by_zero is = absurd is

date_year : (slots : Slots) (k : LiteralKind) (spelling : List ℕ) (d : Date) → LiteralValue slots k spelling (date d) → IsFourDigitYear d.year
date_year slots LiteralKind.Date spelling d is = is.0
date_year slots _ spelling d is = absurd is

half_as_many : (n : ℕ) (digits : List ℕ) → length digits ≡ n + n → length (hex_bytes digits) ≡ n
half_as_many n [] size = omega arith
half_as_many n (h ∷ []) size = absurd (omega arith)
half_as_many n (h ∷ l ∷ digits) size = let more = half_as_many (n - 1) digits (omega arith) in omega arith

are_bytes : (digits : List ℕ) → AllDigits 16 digits → All (λ b. b < 256) (hex_bytes digits)
are_bytes [] all = λ k d within. absurd (omega arith)
are_bytes (h ∷ []) all = λ k d within. absurd (omega arith)
are_bytes (h ∷ l ∷ digits) all =
    let high = all.0 in
    let low = all.1.0 in
    All-cons (λ b. b < 256) (16 * digit_value h + digit_value l) (hex_bytes digits) (omega arith) (are_bytes digits all.1.1)

guid_bytes : (slots : Slots) (k : LiteralKind) (spelling bytes : List ℕ) → LiteralValue slots k spelling (guid bytes) → IsGuid bytes
guid_bytes slots LiteralKind.Guid spelling bytes is =
    (ap length is.value ∙ half_as_many 16 is.digits is.count, subst (All (λ b. b < 256)) (sym is.value) (are_bytes is.digits is.all_digits))
guid_bytes slots _ spelling bytes is = absurd is

no_date : (d : Date) (n : ℤ) → date d ≡ member n → ⊥
no_date d n is = cc

no_guid : (bytes : List ℕ) (n : ℤ) → guid bytes ≡ member n → ⊥
no_guid bytes n is = cc

-- what a tree evaluates to in a world
abbrev pub MeansIn : World → Tree → Outcome → Type 0
MeansIn world =
    Means (slots_of world.row.schema) (type_name_at world.row.schema world.row.type_id) world.now (value_of world.row) world.environment

module _ (filter : Filter) (place : ℕ) (kind : LiteralKind) (value : ℕ) (here : HasKind filter.list place (NodeKind.Literal kind value)) where
  -- a literal evaluates to the value that stands for it
  pub literal_there : OneLiteralValue → (world : World) (o : Outcome) → IsRowOf filter world.row → OfPlace filter place world o → IsLiteralAt filter value world o
  literal_there one world o row there =
      by_kind filter.schema filter.filtered (scope_of world.environment) filter.list place (NodeKind.Literal kind value) here (λ stop tree. MeansIn world tree o → IsLiteralAt filter value world o)
      (λ k spelling stop from to stands means.
      let valued = valued_there filter.schema filter.filtered (scope_of world.environment) filter.list place (NodeKind.Literal kind value) here stop from to (literal k spelling) stands in
      let found = some_there (IsValueOf (slots_of filter.schema) k spelling) (slice_get filter.list.values value) valued in
      let read = found.1.1 in
      let given = some_given (LiteralValue (slots_of world.row.schema) k spelling) o means in
      let of_row : LiteralValue (slots_of world.row.schema) k spelling read.val = subst (λ (s : SchemaModel). LiteralValue (slots_of s) k spelling read.val) (sym row.schema_is) read.value_of in
      let same : given.0 ≡ read.val = one (slots_of world.row.schema) k spelling given.0 read.val given.2 of_row in
      there_found (λ (v : Value). (w : Val) × (plain_val v ≡ Some w) × (o ≡ gives w)) (slice_get filter.list.values value) found.0 found.1.0
      (read.val, read.plain, given.1 ∙ ap gives same))
      there.1.stop there.0 there.1.stands there.2

  module _ (right : IsFilter filter) where
    there : (found : CheckedNode) × ((slice_get filter.list.nodes place ≡ Some found) × (found.kind ≡ NodeKind.Literal kind value))
    there = some_there (λ (n : CheckedNode). n.kind ≡ NodeKind.Literal kind value) (slice_get filter.list.nodes place) here

    pub literal_within : value < length filter.list.values
    literal_within = literal_inside filter right place there.0 there.1.0 kind value there.1.1

    -- what a literal has by itself, or the number that it is read as
    abbrev pub IsRead : Val → Type 0
    IsRead v = ((k : LiteralKind) × (spelling : List ℕ) × LiteralValue (slots_of filter.schema) k spelling v) ⊎ ((n : ℤ) × (v ≡ member n))

    -- what is read at the index is the literal's
    read_there : (value_is : Value) (v : Val) → slice_get filter.list.values value ≡ Some value_is → plain_val value_is ≡ Some v → IsRead v
    read_there value_is v at plain =
        let it = something_there filter right place (slice_get_within filter.list.nodes place there.0 there.1.0) in
        elim it.stands [
          | inl stands ↦ inl (of_tree it.scope it.stop it.part stands)
          | inr number ↦ inr (number.0, of_number it.scope it.stop it.part number.0 number.1)
        ]
      where
        of_tree : (scope : Scope) (stop : ℕ) (tree : Tree) → Stands filter.schema filter.filtered scope filter.list place stop tree
            → (k : LiteralKind) × (spelling : List ℕ) × LiteralValue (slots_of filter.schema) k spelling v
        of_tree scope =
            by_kind filter.schema filter.filtered scope filter.list place (NodeKind.Literal kind value) here
            (λ stop tree. (k : LiteralKind) × (spelling : List ℕ) × LiteralValue (slots_of filter.schema) k spelling v)
            (λ k spelling stop from to stands.
            let valued = valued_there filter.schema filter.filtered scope filter.list place (NodeKind.Literal kind value) here stop from to (literal k spelling) stands in
            let read = found_there (IsValueOf (slots_of filter.schema) k spelling) (slice_get filter.list.values value) value_is at valued in
            let same : Some v ≡ Some read.val = sym plain ∙ read.plain in
            let is : read.val ≡ v = cc in
            (k, spelling, subst (LiteralValue (slots_of filter.schema) k spelling) is read.value_of))

        of_number : (scope : Scope) (stop : ℕ) (tree : Tree) (n : ℤ) → NumberStands filter.schema filter.filtered scope filter.list n place stop tree → v ≡ member n
        of_number scope stop tree n stands =
            let it = number_there filter.schema filter.filtered scope filter.list n place stop tree stands in
            let same = same_value kind LiteralKind.Str value it.value (one_kind (slice_get filter.list.nodes place) (NodeKind.Literal kind value) (NodeKind.Literal LiteralKind.Str it.value) here it.here) in
            let number_at : slice_get filter.list.values value ≡ Some (Value.Enum n) = subst (λ (p : ℕ). slice_get filter.list.values p ≡ Some (Value.Enum n)) (sym same) it.at in
            let both : Some value_is ≡ Some (Value.Enum n) = sym at ∙ number_at in
            let is : value_is ≡ Value.Enum n = cc in
            let plain_is : Some (member n) ≡ Some v = sym (ap plain_val is) ∙ plain in
            cc

    -- a date has a year of four digits, and a Guid sixteen bytes
    pub literal_spelled : IsSpelled filter value
    literal_spelled = (
      λ d at. elim (read_there (Value.Date d) (date d) at refl) [
        | inl read ↦ date_year (slots_of filter.schema) read.0 read.1 d read.2
        | inr number ↦ absurd (no_date d number.0 number.1)
      ],
      λ bytes at. elim (read_there (Value.Guid bytes) (guid bytes) at refl) [
        | inl read ↦ guid_bytes (slots_of filter.schema) read.0 read.1 bytes read.2
        | inr number ↦ absurd (no_guid bytes number.0 number.1)
      ],
    )

-- ---- `now()`

now_alone : (slots : Slots) (root : List ℕ) (now : MomentParts) (entity : Val) (environment : Environment) (arguments : Trees) (types : List ExprType) (o : Outcome)
    → length types ≤ 0 → AreTyped slots root (scope_of environment) arguments types
    → ArgumentsMean slots root now entity environment arguments (CallGives now Function.Now) o → o ≡ gives (moment now)
now_alone slots root now entity environment no_trees types o few typed given = given
now_alone slots root now entity environment (more_trees tree more) [] o few typed given = absurd typed
now_alone slots root now entity environment (more_trees tree more) (type ∷ types) o few typed given = absurd (omega arith)

now_takes : (asked : List ℕ) (types : List ExprType) (type : ExprType) → IsNamed Function.Now asked → CallTyped asked types type → length types ≤ 0
now_takes asked types type named called =
    let is : called.function ≡ Function.Now = only_now called.function (called.named ∙ sym named) in
    let most : length types ≤ length (row_of Function.Now).arguments =
    subst (λ (f : Function). length types ≤ length (row_of f).arguments) is called.typed.count.most in
    most

-- it evaluates to the moment of the evaluation
pub now_there : (filter : Filter) (place : ℕ) → HasKind filter.list place NodeKind.Now → (world : World) (o : Outcome) → IsRowOf filter world.row → OfPlace filter place world o
    → o ≡ gives (moment world.now)
now_there filter place here world o row there =
    by_kind filter.schema filter.filtered (scope_of world.environment) filter.list place NodeKind.Now here (λ stop tree. MeansIn world tree o → o ≡ gives (moment world.now))
    (λ asked arguments named stop from to stands means.
    let typed = stands.top.typed in
    let is : means.function ≡ Function.Now = only_now means.function (means.named ∙ sym named) in
    let few = now_takes asked typed.types _ named typed.call_typed in
    now_alone (slots_of filter.schema) (type_name_at filter.schema filter.filtered) world.now (value_of world.row) world.environment arguments typed.types o few typed.arguments_typed
    (subst (λ (f : Function). ArgumentsMean (slots_of filter.schema) (type_name_at filter.schema filter.filtered) world.now (value_of world.row) world.environment arguments (CallGives world.now f) o) is
    (subst (λ (s : SchemaModel). ArgumentsMean (slots_of s) (type_name_at s filter.filtered) world.now (value_of world.row) world.environment arguments (CallGives world.now means.function) o) row.schema_is
    (subst (λ (t : ℕ). ArgumentsMean (slots_of world.row.schema) (type_name_at world.row.schema t) world.now (value_of world.row) world.environment arguments (CallGives world.now means.function) o) row.type_is means.given))))
    there.1.stop there.0 there.1.stands there.2
