-- What `$count` and `any()` evaluate to, from what was answered of the collection that they ask.
use Rattle.std.proofs.Common.{◌≡◌, ℕ, ◌+◌, Result, Ok, refl, subst}
use Rattle.std.specs.Prelude.{IsSomeAnd}
use Rattle.edm_values.specs.Val.{Val}
use Rattle.edm_values.specs.declared.datum.Datum.{Datum}
use Rattle.edm_values.specs.declared.datum.Datum.TheVariants as datum
use Rattle.odata_syntax.specs.Tree.{Tree}
use Rattle.csdl_schema.specs.ExprType.{ExprType, SingleType, collection}
use Rattle.csdl_schema.specs.SchemaModel.{Slots, slots_of}
use Rattle.edm_entities.specs.HasType.{HasType}
use Rattle.odata_functions.specs.DatumVal.{Reading, datum_val}
use Rattle.odata_signatures.specs.CollectionTyped.{IsCollection}
use Rattle.odata_checked_filter.specs.Calls.{TakesMemory}
use Rattle.odata_checked_filter.specs.declared.checked_node.NodeKind.{NodeKind}
use Rattle.odata_filter_operations.specs.declared.eval_fault.EvalFault.{EvalFault}
use Rattle.odata_filter_operations.specs.CollectionGives.{AnyItemGives, CountGives}
use Rattle.odata_filter_operations.specs.LeftFirst.{After}
use Rattle.odata_filter_operations.specs.Outcome.{Outcome, gives}
use Rattle.odata_filter_operations.specs.DatumView.{answer_outcome, reading_at}
use Rattle.odata_filter_operations.specs.Collections.{HasMembers}
use Rattle.filter_context.specs.private.Place.{HasKind, PartStands}
use Rattle.filter_context.specs.private.EvalContext.{EndsOnceHere, MeansHere, StandsHere, TypedHere}
use Rattle.filter_context.specs.private.ContextModel.{ContextModel}
use Rattle.odata_eval.specs.private.WalkAnswer.{AnswersDatum}
use Rattle.filter_context.proofs.Children.{only_child}
use Rattle.filter_context.proofs.Operands.{HasNone, no_number}
use Rattle.filter_context.proofs.Parts.{by_kind, goes_there, some_reports}
use Rattle.filter_context.proofs.Spines.{has_type}
use Rattle.odata_eval.proofs.walking.WalkValues.{value_has}

-- a tree that asks a collection: where that stands, and what is made of it
pub record OfBase (context : ContextModel) (place stop : ℕ) (Gives : Val → Outcome → Type 0) (tree : Tree) : Type 0 where
  pub base : Tree
  pub stands : StandsHere context (place + 1) stop base
  pub typed : (type : ExprType) → TypedHere context tree type → (member : SingleType) × TypedHere context base (collection member)
  pub means : (o : Outcome) → After (MeansHere context base) Gives o → MeansHere context tree o

abbrev pub AreOfBase : ContextModel → ℕ → (Val → Outcome → Type 0) → Type 0
AreOfBase context place Gives = HasNone context place × ((stop : ℕ) (tree : Tree) → StandsHere context place stop tree → OfBase context place stop Gives tree)

pub member_type : (type : ExprType) → IsCollection type → (member : SingleType) × (type ≡ collection member)
member_type (collection member) is = (member, refl)
member_type _ is = absurd is

typed_collection : (context : ContextModel) (base : Tree) (type : ExprType) → TypedHere context base type → IsCollection type
    → (member : SingleType) × TypedHere context base (collection member)
typed_collection context base type typed is =
    let of_member = member_type type is in
    (of_member.0, subst (TypedHere context base) of_member.1 typed)

pub count_base : (context : ContextModel) (place : ℕ) → HasKind context.list place NodeKind.Count → AreOfBase context place CountGives
count_base context place here = (
  no_number context place NodeKind.Count tt here,
  by_kind context place NodeKind.Count here (λ stop tree. OfBase context place stop CountGives tree)
      (λ base stop from to stands. record {
        base = base;
        stands = only_child context (place + 1) stop base stands.children;
        typed = λ type typed. typed_collection context base typed.operand typed.operand_typed typed.makes.0;
        means = λ o given. given;
      }),
)

pub any_item_base : (context : ContextModel) (place : ℕ) → HasKind context.list place NodeKind.AnyItem → AreOfBase context place AnyItemGives
any_item_base context place here = (
  no_number context place NodeKind.AnyItem tt here,
  by_kind context place NodeKind.AnyItem here (λ stop tree. OfBase context place stop AnyItemGives tree)
      (λ base stop from to stands. record {
        base = base;
        stands = only_child context (place + 1) stop base stands.children;
        typed = λ type typed. typed_collection context base typed.operand typed.operand_typed typed.makes.0;
        means = λ o given. given;
      }),
)

-- a value of a collection type is a list or null
pub of_collection : (slots : Slots) (member : SingleType) (made : Datum) → HasType slots (collection member) (datum_val (reading_at slots (collection member)) made)
    → HasMembers made
of_collection slots member datum.Null has = tt
of_collection slots member (datum.List held) has = tt
of_collection slots member _ has = absurd has

module _ (context : ContextModel) (place : ℕ) (Gives : Val → Outcome → Type 0) (are : AreOfBase context place Gives) (made : Datum)
    (first : AnswersDatum context (place + 1) (Ok made)) where
  pub base_members : EndsOnceHere context → PartStands context place → HasMembers made
  base_members ends part =
      let slots = slots_of context.row.schema in
      let it = are.1 part.stop part.tree part.stands in
      let typed = has_type context place part.stop part.tree part.stands in
      let of_base = it.typed typed.0 typed.1 in
      let type = collection of_base.0 in
      let v = datum_val (reading_at slots type) made in
      of_collection slots of_base.0 made (value_has context ends it.base type v of_base.1 (first.of_tree part.stop it.base type it.stands of_base.1))

  pub base_answers : (answer : Result Datum EvalFault)
      → ((slots : Slots) (member : SingleType) (s : Reading)
      → IsSomeAnd (answer_outcome (datum_val s) answer) (Gives (datum_val (reading_at slots (collection member)) made)))
      → AnswersDatum context place answer
  base_answers answer given = record {
    of_tree = λ stop tree type stands typed.
        let slots = slots_of context.row.schema in
        let it = are.1 stop tree stands in
        let of_base = it.typed type typed in
        let v = datum_val (reading_at slots (collection of_base.0)) made in
        let reported = answer_outcome (datum_val (reading_at slots type)) answer in
        some_reports reported (TakesMemory tree) (MeansHere context tree)
        (goes_there reported (Gives v) (MeansHere context tree) (λ o is. it.means o (gives v, (first.of_tree stop it.base (collection of_base.0) it.stands of_base.1, is)))
        (given slots of_base.0 (reading_at slots type)));
    of_number = λ number stop tree type there. absurd (are.0 number stop tree there);
  }
