-- Items that the filter itself has, none of them null.
use Rattle.sql_outcomes.proofs.Common.{◌≡◌, ◌≢◌, ◌+◌, ◌++◌, ◌∷◌, [], ℕ, suc, List, Some, take, refl, sym, ap, subst, ◌∙◌, arith, slice_get, AllByRecursion, member, null, ExprType, collection, null_type, single, SchemaModel, Slots, slots_of, LiteralKind, expr_type, single_type, EdmType, LiteralTyped, LiteralValue, Filter, CheckedNode, NodeKind, scope_of, HasKind, gives, Range, Operand, Source, Kind, kind_of_type, IsNeverNull, IsNodeOperand, SourceHas, OfPlace, MeansIn, by_kind}
use Rattle.sql_outcomes.proofs.nodes.ComparisonsAt.{same_node}
use Rattle.sql_outcomes.proofs.outcomes.FaultWalk.{taken_next}

literal_not_null : (slots : Slots) (kind : LiteralKind) (spelling : List ℕ) → kind ≢ LiteralKind.Null → LiteralValue slots kind spelling null → ⊥
literal_not_null slots LiteralKind.Null spelling other is = other refl
literal_not_null slots kind spelling other is = absurd is

no_null_kind : (schema : SchemaModel) (type : EdmType) → expr_type schema type ≡ null_type → kind_of_type type ≡ Kind.Null
no_null_kind schema EdmType.Null same = refl
no_null_kind schema (EdmType.Single held) same = let e : single (single_type schema held) ≡ null_type = same in absurd (cc)
no_null_kind schema (EdmType.Collection held) same = let e : collection (single_type schema held) ≡ null_type = same in absurd (cc)

typed_null : (slots : Slots) (kind : LiteralKind) (spelling : List ℕ) (type : ExprType) → LiteralTyped slots kind spelling type → kind ≡ LiteralKind.Null → type ≡ null_type
typed_null slots LiteralKind.Null spelling type typed is = typed
typed_null slots kind spelling type typed is = let e : kind ≡ LiteralKind.Null = is in absurd (cc)

module _ (filter : Filter) (ranges : List Range) (item : Operand) where
  -- a number of an enumeration
  pub number_given : (number : ℕ) → item.source ≡ Source.Number number → IsNeverNull filter item
  number_given number source world v has none =
      let n = subst (λ (s : Source). SourceHas filter s world (gives v)) source has.has in
      let e : gives v ≡ gives (member n.0) = n.2 in
      let same : member n.0 ≡ null = cc (e, none) in
      absurd (cc)

  -- a literal whose kind is not that of null
  pub literal_given : (place : ℕ) (kind : LiteralKind) (value : ℕ) → item.source ≡ Source.Node place → IsNodeOperand filter ranges item place → HasKind filter.list place (NodeKind.Literal kind value) → item.kind ≢ Kind.Null
      → IsNeverNull filter item
  literal_given place kind value source is here other world v has none =
      let there : OfPlace filter place world (gives v) = subst (λ (s : Source). SourceHas filter s world (gives v)) source has.has in
      by_kind filter.schema filter.filtered (scope_of world.environment) filter.list place (NodeKind.Literal kind value) here (λ stop tree. MeansIn world tree (gives v) → ⊥)
      (λ k spelling stop from to stands means.
      let same = same_node filter place stands.top.found is.node stands.top.stands_at is.at in
      let kind_other : k ≢ LiteralKind.Null = λ null_it.
      let type_is : expr_type filter.schema stands.top.found.edm_type ≡ null_type =
      typed_null (slots_of filter.schema) k spelling (expr_type filter.schema stands.top.found.edm_type) stands.top.typed null_it in
      other (is.kind ∙ ap (λ (n : CheckedNode). kind_of_type n.edm_type) (sym same) ∙ no_null_kind filter.schema stands.top.found.edm_type type_is) in
      literal_not_null (slots_of world.row.schema) k spelling kind_other (subst (LiteralValue (slots_of world.row.schema) k spelling) none means))
      there.1.stop there.0 there.1.stands there.2

-- ---- of all items

all_with : (P : Operand → Type 0) (xs : List Operand) (x : Operand) → AllByRecursion P xs → P x → AllByRecursion P (xs ++ x ∷ [])
all_with P [] x all here = (here, tt)
all_with P (y ∷ xs) x all here = (all.0, all_with P xs x all.1 here)

pub one_of_all : (P : Operand → Type 0) (items : List Operand) (n : ℕ) (x : Operand) → slice_get items n ≡ Some x → AllByRecursion P (take n items) → P x → AllByRecursion P (take (n + 1) items)
one_of_all P items n x at all here =
    let on : suc n ≡ n + 1 = omega arith in
    let next : take (n + 1) items ≡ take n items ++ x ∷ [] = ap (λ (k : ℕ). take k items) (sym on) ∙ taken_next items n x at in
    subst (AllByRecursion P) (sym next) (all_with P (take n items) x all here)
