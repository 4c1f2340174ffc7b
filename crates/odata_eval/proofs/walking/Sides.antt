-- What `has` and `in` before a path evaluate to, from what was answered of both their sides.
use Rattle.std.proofs.Common.{◌≡◌, ◌⊎◌, inl, inr, refl, sym, ℕ, ℤ, ◌<◌, ◌+◌, [], Ok, subst, arith}
use Rattle.edm_values.specs.Val.{Val, member}
use Rattle.edm_values.specs.declared.datum.Datum.{Datum}
use Rattle.odata_syntax.specs.Tree.{Tree, has, in_path, node}
use Rattle.csdl_schema.specs.ExprType.{ExprType}
use Rattle.csdl_schema.specs.SchemaModel.{slots_of, type_name_at}
use Rattle.edm_entities.specs.HasType.{HasType}
use Rattle.edm_entities.specs.Row.{value_of}
use Rattle.odata_functions.specs.DatumVal.{datum_val}
use Rattle.odata_signatures.specs.CollectionTyped.{IsComparableWithMembers}
use Rattle.odata_signatures.specs.HasTyped.{AreFlags}
use Rattle.odata_signatures.specs.QuotedNumber.{HasNumber}
use Rattle.odata_signatures.specs.Reads.{ReadsNone, ReadsNumber}
use Rattle.odata_signatures.specs.Sides.{quoted_text}
use Rattle.odata_checked_filter.specs.Calls.{TakesMemory}
use Rattle.odata_checked_filter.specs.declared.checked_node.NodeKind.{NodeKind}
use Rattle.odata_filter_operations.specs.declared.eval_fault.EvalFault.{EvalFault}
use Rattle.odata_filter_operations.specs.HasGives.{HasGives}
use Rattle.odata_filter_operations.specs.LambdaGives.{InGives}
use Rattle.odata_filter_operations.specs.LeftFirst.{After}
use Rattle.odata_filter_operations.specs.Outcome.{Outcome, gives}
use Rattle.odata_filter_operations.specs.FaultView.{fault_outcome}
use Rattle.odata_filter_operations.specs.DatumView.{reading_at}
use Rattle.filter_context.specs.private.Place.{HasKind, IsRightOf, OperandStands, PartStands}
use Rattle.filter_context.specs.private.EvalContext.{EndsOnceHere, MeansHere, StandsHere, TypedHere}
use Rattle.filter_context.specs.private.ContextModel.{ContextModel, environment_of}
use Rattle.odata_eval.specs.private.WalkAnswer.{AnswersDatum}
use Rattle.filter_context.specs.private.AnswersAtPlace.{AnswersAtPlace}
use Rattle.filter_context.proofs.Children.{two_children}
use Rattle.odata_meaning.specs.ReadGives.{OperandGives}
use Rattle.odata_meaning.proofs.meaning.Reads.{number_flags, read_has}
use Rattle.odata_meaning.proofs.meaning.SameGives.{after_goes}
use Rattle.odata_meaning.proofs.meaning.UnreadAlone.{flags_alone as unread_flags}
use Rattle.filter_context.proofs.Operands.{ResolvedHere, HasNone, resolved_operand, fault_no_value, no_number, number_is}
use Rattle.filter_context.proofs.Parts.{by_kind, reports_there}
use Rattle.filter_context.proofs.Extents.{further, right_beside, stops_here, stops_there}
use Rattle.filter_context.proofs.Spines.{child_takes, fault_stays, has_type, second_child}
use Rattle.odata_eval.proofs.walking.WalkValues.{value_has}
use Rattle.odata_filter_operations.specs.Reports.{Reports}

-- where there is no other operand
abbrev pub NoOperand : Tree → ExprType → Type 0
NoOperand left type = ⊥

-- a tree of two sides, both of which are evaluated, the right one perhaps resolved by the left one: of which types
-- they are, and what is made of their values
pub record OfSides (context : ContextModel) (place stop : ℕ) (OtherSide : Tree → ExprType → Type 0) (Makes : ExprType → ExprType → Type 0) (Gives : Val → Val → Outcome → Type 0)
    (tree : Tree) : Type 0 where
  pub left : Tree
  pub right : Tree
  pub middle : ℕ
  pub first : StandsHere context (place + 1) middle left
  pub second : ResolvedHere context (OtherSide left) right middle stop
  pub typed : ReadsNone (slots_of context.row.schema) (OtherSide left) right → (type : ExprType) → TypedHere context tree type
      → (s t : ExprType) × (TypedHere context left s × TypedHere context right t × Makes s t)
  pub read : (n : ℤ) → (reads : ReadsNumber (slots_of context.row.schema) (OtherSide left) right n)
      → TypedHere context left reads.type_of × Makes reads.type_of reads.type_of × HasType (slots_of context.row.schema) reads.type_of (member n)
  pub takes : TakesMemory right → TakesMemory tree
  pub means : ReadsNone (slots_of context.row.schema) (OtherSide left) right → (o : Outcome) → After (MeansHere context left) (λ l. After (MeansHere context right) (Gives l)) o → MeansHere context tree o
  pub means_read : (n : ℤ) → ReadsNumber (slots_of context.row.schema) (OtherSide left) right n → (o : Outcome) → After (MeansHere context left) (λ l. Gives l (member n)) o → MeansHere context tree o

-- each tree that stands there is one
abbrev pub AreOfSides : ContextModel → ℕ → (Tree → ExprType → Type 0) → (ExprType → ExprType → Type 0) → (Val → Val → Outcome → Type 0) → Type 0
AreOfSides context place OtherSide Makes Gives =
    HasNone context place × ((stop : ℕ) (tree : Tree) → StandsHere context place stop tree → OfSides context place stop OtherSide Makes Gives tree)

pub flags_alone : (context : ContextModel) (left right : Tree) → ReadsNone (slots_of context.row.schema) (TypedHere context left) right → (s t : ExprType) → TypedHere context left s
    → AreFlags s t ⊎ HasNumber (slots_of context.row.schema) s (quoted_text right) → AreFlags s t
flags_alone context left right none s t typed (inl flags) = flags
flags_alone context left right none s t typed (inr number) = absurd (none number.0 (record { type_of = s; beside = typed; number = number.1 }))

pub flags_sides : (context : ContextModel) (place : ℕ) → HasKind context.list place NodeKind.Has → AreOfSides context place (TypedHere context) AreFlags HasGives
flags_sides context place here = (
  no_number context place NodeKind.Has tt here,
  by_kind context place NodeKind.Has here (λ stop tree. OfSides context place stop (TypedHere context) AreFlags HasGives tree)
      (λ left right stop from to stands.
      let slots = slots_of context.row.schema in
      record {
        left = left;
        right = right;
        middle = stands.children.middle;
        first = stands.children.left;
        second = right_beside context (TypedHere context left) stands.children.middle stands.children.middle stop right refl stands.children.right;
        typed = λ none type typed. (typed.left, typed.right, (typed.left_typed, typed.right_typed, flags_alone context left right none typed.left typed.right typed.left_typed typed.makes.0));
        read = λ n reads.
            (reads.beside, number_flags slots reads.type_of (quoted_text right) n reads.number, read_has slots reads.type_of (quoted_text right) n reads.number);
        takes = child_takes (node from to (has left right)) right (second_child left right []);
        means = λ none o given. (unread_flags slots (type_name_at context.row.schema context.row.type_id) context.moment (value_of context.row) (environment_of context) from to left right o none).1 given;
        means_read = λ n reads o given.
            let Operand : Outcome → Type 0 = OperandGives (ReadsNumber slots (TypedHere context left) right) (MeansHere context right) in
            after_goes (MeansHere context left) (MeansHere context left) (λ l. HasGives l (member n)) (λ l. After Operand (HasGives l)) (λ p is. is)
            (λ l p goes. (gives (member n), (inl (n, reads, refl), goes))) o given;
      }),
)

pub path_sides : (context : ContextModel) (place : ℕ) → HasKind context.list place NodeKind.InPath → AreOfSides context place NoOperand IsComparableWithMembers InGives
path_sides context place here = (
  no_number context place NodeKind.InPath tt here,
  by_kind context place NodeKind.InPath here (λ stop tree. OfSides context place stop NoOperand IsComparableWithMembers InGives tree)
      (λ left path stop from to stands.
      let sides = two_children context (place + 1) stop left path stands.children in
      record {
        left = left;
        right = path;
        middle = sides.middle;
        first = sides.left;
        second = inr (λ n reads. reads.beside, sides.right);
        typed = λ none type typed. (typed.left, typed.right, (typed.left_typed, typed.right_typed, typed.makes.0));
        read = λ n reads. absurd reads.beside;
        takes = child_takes (node from to (in_path left path)) path (second_child left path []);
        means = λ none o given. given;
        means_read = λ n reads o given. absurd reads.beside;
      }),
)

module _ (context : ContextModel) (place : ℕ) (OtherSide : Tree → ExprType → Type 0) (Makes : ExprType → ExprType → Type 0) (Gives : Val → Val → Outcome → Type 0)
    (are : AreOfSides context place OtherSide Makes Gives) where
  pub next_there : PartStands context place → (right : ℕ) × IsRightOf context.list place right
  next_there part =
      let it = are.1 part.stop part.tree part.stands in
      (it.middle, stops_here context (place + 1) it.middle it.left it.first)

  module _ (right_place : ℕ) (is_right : IsRightOf context.list place right_place) where
    next_beside : (stop : ℕ) (tree : Tree) (stands : StandsHere context place stop tree)
        → ResolvedHere context (OtherSide (are.1 stop tree stands).left) (are.1 stop tree stands).right right_place stop
    next_beside stop tree stands =
        let it = are.1 stop tree stands in
        subst (λ (m : ℕ). ResolvedHere context (OtherSide it.left) it.right m stop) (stops_there context (place + 1) it.middle right_place it.left it.first is_right) it.second

    pub next_part : PartStands context place → OperandStands context right_place
    next_part part =
        let it = are.1 part.stop part.tree part.stands in
        resolved_operand context (OtherSide it.left) it.right right_place part.stop (next_beside part.stop part.tree part.stands)

    pub next_further : PartStands context place → place < right_place
    next_further part =
        let it = are.1 part.stop part.tree part.stands in
        let e : it.middle ≡ right_place = stops_there context (place + 1) it.middle right_place it.left it.first is_right in
        let f : place + 1 < it.middle = further context (place + 1) it.middle it.left it.first in
        omega arith

    module _ (left : Datum) (first : AnswersDatum context (place + 1) (Ok left)) where
      abbrev made : Datum → ExprType → Val
      made value type = datum_val (reading_at (slots_of context.row.schema) type) value

      -- a fault of the second side is the outcome
      fault_reported : (fault : EvalFault) → AnswersAtPlace context right_place (λ type. fault_outcome fault) → (stop : ℕ) (tree : Tree) (type : ExprType) → TypedHere context tree type
          → (it : OfSides context place stop OtherSide Makes Gives tree) → ResolvedHere context (OtherSide it.left) it.right right_place stop
          → Reports (TakesMemory tree) (MeansHere context tree) (fault_outcome fault)
      fault_reported fault second stop tree type typed it (inl read) = absurd (fault_no_value fault (member read.0) (second.of_number read.0 stop it.right type read.2))
      fault_reported fault second stop tree type typed it (inr alone) =
          let sides = it.typed alone.0 type typed in
          let l = made left sides.0 in
          reports_there (fault_outcome fault) (TakesMemory tree) (TakesMemory tree) (After (MeansHere context it.right) (Gives l)) (MeansHere context tree) (λ takes. takes)
          (λ o given. it.means alone.0 o (gives l, (first.of_tree it.middle it.left sides.0 it.first sides.2.0, given)))
          (fault_stays fault (TakesMemory it.right) (TakesMemory tree) (MeansHere context it.right) (Gives l) it.takes
          (second.of_tree stop it.right sides.1 alone.1 sides.2.1))

      pub next_faults : (fault : EvalFault) → AnswersAtPlace context right_place (λ type. fault_outcome fault) → AnswersAtPlace context place (λ type. fault_outcome fault)
      next_faults fault second = record {
        of_tree = λ stop tree type stands typed. fault_reported fault second stop tree type typed (are.1 stop tree stands) (next_beside stop tree stands);
        of_number = λ number stop tree type there. absurd (are.0 number stop tree there);
      }

      module _ (right : Datum) (second : AnswersDatum context right_place (Ok right)) (ends : EndsOnceHere context) where
        abbrev Have : Type 0
        Have = (s t : ExprType) × (Makes s t × HasType (slots_of context.row.schema) s (made left s) × HasType (slots_of context.row.schema) t (made right t))

        -- both values are of the types of their sides, a number of the other side's type
        sides_have : (stop : ℕ) (tree : Tree) (type : ExprType) → TypedHere context tree type → (it : OfSides context place stop OtherSide Makes Gives tree)
            → ResolvedHere context (OtherSide it.left) it.right right_place stop → Have
        sides_have stop tree type typed it (inl read) =
            let s = read.1.type_of in
            let known = it.read read.0 read.1 in (
              s,
              s,
              (
                known.1,
                value_has context ends it.left s (made left s) known.0 (first.of_tree it.middle it.left s it.first known.0),
                subst (λ (v : Val). HasType (slots_of context.row.schema) s v) (sym (number_is context right_place stop it.right read.0 (made right) read.2 second s)) known.2,
              ),
            )
        sides_have stop tree type typed it (inr alone) =
            let sides = it.typed alone.0 type typed in (
              sides.0,
              sides.1,
              (
                sides.2.2,
                value_has context ends it.left sides.0 (made left sides.0) sides.2.0 (first.of_tree it.middle it.left sides.0 it.first sides.2.0),
                value_has context ends it.right sides.1 (made right sides.1) sides.2.1 (second.of_tree stop it.right sides.1 alone.1 sides.2.1),
              ),
            )

        pub some_sides : PartStands context place → Have
        some_sides part =
            let typed = has_type context place part.stop part.tree part.stands in
            sides_have part.stop part.tree typed.0 typed.1 (are.1 part.stop part.tree part.stands) (next_beside part.stop part.tree part.stands)

        module _ (answer : Datum)
            (given : (s t type : ExprType) → Makes s t → HasType (slots_of context.row.schema) s (made left s) → HasType (slots_of context.row.schema) t (made right t)
            → Gives (made left s) (made right t) (gives (made answer type))) where
          -- what is made of them is the outcome
          sides_report : (stop : ℕ) (tree : Tree) (type : ExprType) → TypedHere context tree type → (it : OfSides context place stop OtherSide Makes Gives tree)
              → ResolvedHere context (OtherSide it.left) it.right right_place stop → MeansHere context tree (gives (made answer type))
          sides_report stop tree type typed it (inl read) =
              let s = read.1.type_of in
              let known = it.read read.0 read.1 in
              let first_is = first.of_tree it.middle it.left s it.first known.0 in
              let is : made right s ≡ member read.0 = number_is context right_place stop it.right read.0 (made right) read.2 second s in
              let has = value_has context ends it.left s (made left s) known.0 first_is in
              it.means_read read.0 read.1 (gives (made answer type)) (
                gives (made left s),
                (
                  first_is,
                  subst (λ (v : Val). Gives (made left s) v (gives (made answer type))) is
                      (given s s type known.1 has (subst (λ (v : Val). HasType (slots_of context.row.schema) s v) (sym is) known.2)),
                ),
              )
          sides_report stop tree type typed it (inr alone) =
              let sides = it.typed alone.0 type typed in
              let s = sides.0 in
              let t = sides.1 in
              let first_is = first.of_tree it.middle it.left s it.first sides.2.0 in
              let second_is = second.of_tree stop it.right t alone.1 sides.2.1 in
              it.means alone.0 (gives (made answer type)) (
                gives (made left s),
                (
                  first_is,
                  (
                    gives (made right t),
                    (
                      second_is,
                      given s t type sides.2.2 (value_has context ends it.left s (made left s) sides.2.0 first_is) (value_has context ends it.right t (made right t) sides.2.1 second_is),
                    ),
                  ),
                ),
              )

          pub sides_answer : AnswersDatum context place (Ok answer)
          sides_answer = record {
            of_tree = λ stop tree type stands typed. sides_report stop tree type typed (are.1 stop tree stands) (next_beside stop tree stands);
            of_number = λ number stop tree type there. absurd (are.0 number stop tree there);
          }
