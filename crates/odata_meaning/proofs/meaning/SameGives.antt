-- The combinators of outcomes give the same of operands with the same outcomes.
use Rattle.std.proofs.Common.{◌≡◌, ◌↔◌, sym, subst, inl, inr, ℕ, ℤ, List, Option, true, false, Some, None}
use Rattle.edm_values.specs.Val.{Val, null, boolean}
use Rattle.csdl_schema.specs.ExprType.{ExprType}
use Rattle.csdl_schema.specs.SchemaModel.{Slots}
use Rattle.odata_syntax.specs.Tree.{Tree}
use Rattle.odata_syntax.specs.declared.binary_operator.BinaryOperator.{BinaryOperator}
use Rattle.odata_signatures.specs.QuotedNumber.{ResolvedNumber}
use Rattle.odata_signatures.specs.Reads.{OfEquality, ReadsNumber}
use Rattle.odata_signatures.specs.Sides.{quoted_text}
use Rattle.odata_signatures.specs.Typed.{OperandTyped, OperandsTyped}
use Rattle.odata_syntax.specs.declared.binary_operator.LogicalOperator.{LogicalOperator}
use Rattle.odata_filter_operations.specs.CalculationGives.{CalculationGives}
use Rattle.odata_filter_operations.specs.CompareGives.{CompareGives}
use Rattle.odata_filter_operations.specs.LeftFirst.{After, Then}
use Rattle.odata_meaning.specs.OperatorGives.{InType, OperatorGives, SidesGive}
use Rattle.odata_meaning.specs.ReadGives.{UnlessRead}
use Rattle.odata_filter_operations.specs.Outcome.{Outcome, gives, overflow, divides_by_zero, GivesSome}
use Rattle.odata_filter_operations.specs.TruthGives.{LogicalGives, JoinGives}

-- outcomes of the one are outcomes of the other
abbrev pub Goes : (Outcome → Type 0) → (Outcome → Type 0) → Type 0
Goes P Q = (o : Outcome) → P o → Q o

-- each way
abbrev pub Both : (Outcome → Type 0) → (Outcome → Type 0) → Type 0
Both P Q = (o : Outcome) → P o ↔ Q o

-- types of the one are types of the other, each way
abbrev pub BothTyped : (ExprType → Type 0) → (ExprType → Type 0) → Type 0
BothTyped N M = (type : ExprType) → N type ↔ M type

pub both : (P Q : Outcome → Type 0) → Goes P Q → Goes Q P → Both P Q
both P Q to from o = (to o, from o)

pub there : (P Q : Outcome → Type 0) → Both P Q → Goes P Q
there P Q same o = (same o).0

pub back : (P Q : Outcome → Type 0) → Both P Q → Goes Q P
back P Q same o = (same o).1

pub itself : (P : Outcome → Type 0) → Both P P
itself P o = (λ is. is, λ is. is)

pub in_turn : (P Q R : Outcome → Type 0) → Both P Q → Both Q R → Both P R
in_turn P Q R first second o = (λ is. (second o).0 ((first o).0 is), λ is. (first o).1 ((second o).1 is))

pub turned : (P Q : Outcome → Type 0) → Both P Q → Both Q P
turned P Q same o = ((same o).1, (same o).0)

some_goes : (P Q : Val → Type 0) → ((v : Val) → P v → Q v) → Goes (GivesSome P) (GivesSome Q)
some_goes P Q goes (gives v) is = goes v is
some_goes P Q goes overflow is = absurd is
some_goes P Q goes divides_by_zero is = absurd is

pub some_both : (P Q : Val → Type 0) → ((v : Val) → P v ↔ Q v) → Both (GivesSome P) (GivesSome Q)
some_both P Q same = both (GivesSome P) (GivesSome Q) (some_goes P Q (λ v. (same v).0)) (some_goes Q P (λ v. (same v).1))

then_goes : (first : Outcome) (F G : Val → Outcome → Type 0) → ((v : Val) → Goes (F v) (G v)) → Goes (Then first F) (Then first G)
then_goes (gives v) F G goes o is = goes v o is
then_goes overflow F G goes o is = is
then_goes divides_by_zero F G goes o is = is

pub after_goes : (P Q : Outcome → Type 0) (F G : Val → Outcome → Type 0) → Goes P Q → ((v : Val) → Goes (F v) (G v)) → Goes (After P F) (After Q G)
after_goes P Q F G operand goes o (first, (is, follows)) = (first, (operand first is, then_goes first F G goes o follows))

pub after_both : (P Q : Outcome → Type 0) (F G : Val → Outcome → Type 0) → Both P Q → ((v : Val) → Both (F v) (G v)) → Both (After P F) (After Q G)
after_both P Q F G operand same =
    both (After P F) (After Q G)
    (after_goes P Q F G (there P Q operand) (λ v. there (F v) (G v) (same v)))
    (after_goes Q P G F (back P Q operand) (λ v. back (F v) (G v) (same v)))

in_type_goes : (N M : ExprType → Type 0) (Gives : ExprType → Outcome → Type 0) → ((type : ExprType) → N type → M type) → Goes (InType N Gives) (InType M Gives)
in_type_goes N M Gives goes o (type, typed, given) = (type, goes type typed, given)

pub in_type_both : (N M : ExprType → Type 0) (Gives : ExprType → Outcome → Type 0) → BothTyped N M → Both (InType N Gives) (InType M Gives)
in_type_both N M Gives same =
    both (InType N Gives) (InType M Gives) (in_type_goes N M Gives (λ type. (same type).0)) (in_type_goes M N Gives (λ type. (same type).1))

logical_goes : (logical : LogicalOperator) (v : Val) (P Q : Outcome → Type 0) → Goes P Q → Goes (LogicalGives logical v P) (LogicalGives logical v Q)
logical_goes LogicalOperator.And (boolean false) P Q goes o is = is
logical_goes LogicalOperator.And (boolean true) P Q goes o is = after_goes P Q (JoinGives LogicalOperator.And (Some true)) (JoinGives LogicalOperator.And (Some true)) goes (λ v r given. given) o is
logical_goes LogicalOperator.And null P Q goes o is = after_goes P Q (JoinGives LogicalOperator.And None) (JoinGives LogicalOperator.And None) goes (λ v r given. given) o is
logical_goes LogicalOperator.Or (boolean true) P Q goes o is = is
logical_goes LogicalOperator.Or (boolean false) P Q goes o is = after_goes P Q (JoinGives LogicalOperator.Or (Some false)) (JoinGives LogicalOperator.Or (Some false)) goes (λ v r given. given) o is
logical_goes LogicalOperator.Or null P Q goes o is = after_goes P Q (JoinGives LogicalOperator.Or None) (JoinGives LogicalOperator.Or None) goes (λ v r given. given) o is
logical_goes _ _ P Q goes o is = absurd is

operator_goes : (operator : BinaryOperator) (N M : ExprType → Type 0) (v : Val) (P Q : Outcome → Type 0) → ((type : ExprType) → N type → M type) → Goes P Q
    → Goes (OperatorGives operator N v P) (OperatorGives operator M v Q)
operator_goes (BinaryOperator.Logical logical) N M v P Q typed goes = logical_goes logical v P Q goes
operator_goes (BinaryOperator.Comparison comparison) N M v P Q typed goes =
    after_goes P Q (CompareGives comparison v) (CompareGives comparison v) goes (λ w o given. given)
operator_goes (BinaryOperator.Arithmetic arithmetic) N M v P Q typed goes =
    after_goes P Q (λ w. InType N (λ type. CalculationGives arithmetic type v w)) (λ w. InType M (λ type. CalculationGives arithmetic type v w)) goes
    (λ w. in_type_goes N M (λ type. CalculationGives arithmetic type v w) typed)

pub operator_both : (operator : BinaryOperator) (N M : ExprType → Type 0) (v : Val) (P Q : Outcome → Type 0) → BothTyped N M → Both P Q
    → Both (OperatorGives operator N v P) (OperatorGives operator M v Q)
operator_both operator N M v P Q typed same =
    both (OperatorGives operator N v P) (OperatorGives operator M v Q)
    (operator_goes operator N M v P Q (λ type. (typed type).0) (there P Q same))
    (operator_goes operator M N v Q P (λ type. (typed type).1) (back P Q same))

-- ---- the types of operands

operand_goes : (N M : ExprType → Type 0) (Makes : ExprType → ExprType → Type 0) (type : ExprType) → ((t : ExprType) → N t → M t) → OperandTyped N Makes type → OperandTyped M Makes type
operand_goes N M Makes type goes typed = record { operand = typed.operand; operand_typed = goes typed.operand typed.operand_typed; makes = typed.makes }

pub operand_both : (N M : ExprType → Type 0) (Makes : ExprType → ExprType → Type 0) → BothTyped N M → BothTyped (OperandTyped N Makes) (OperandTyped M Makes)
operand_both N M Makes same type = (operand_goes N M Makes type (λ t. (same t).0), operand_goes M N Makes type (λ t. (same t).1))

operands_go : (L K R S : ExprType → Type 0) (Makes Also : ExprType → ExprType → ExprType → Type 0) (type : ExprType) → ((t : ExprType) → L t → K t) → ((t : ExprType) → R t → S t)
    → ((l r : ExprType) → Makes l r type → Also l r type) → OperandsTyped L R Makes type → OperandsTyped K S Also type
operands_go L K R S Makes Also type left right made typed = record {
  left = typed.left;
  right = typed.right;
  left_typed = left typed.left typed.left_typed;
  right_typed = right typed.right typed.right_typed;
  makes = made typed.left typed.right typed.makes;
}

pub operands_both : (L K R S : ExprType → Type 0) (Makes Also : ExprType → ExprType → ExprType → Type 0) → BothTyped L K → BothTyped R S
    → ((l r : ExprType) → BothTyped (Makes l r) (Also l r)) → BothTyped (OperandsTyped L R Makes) (OperandsTyped K S Also)
operands_both L K R S Makes Also left right made type = (
  operands_go L K R S Makes Also type (λ t. (left t).0) (λ t. (right t).0) (λ l r. (made l r type).0),
  operands_go K L S R Also Makes type (λ t. (left t).1) (λ t. (right t).1) (λ l r. (made l r type).1),
)

-- ---- what is read

unless_goes : (R S : ℤ → Type 0) (F G : ℤ → Outcome → Type 0) (P Q : Outcome → Type 0) → ((n : ℤ) → R n ↔ S n) → ((n : ℤ) → Goes (F n) (G n)) → Goes P Q
    → Goes (UnlessRead R F P) (UnlessRead S G Q)
unless_goes R S F G P Q reads given goes o (inl (n, is, gives_it)) = inl (n, (reads n).0 is, given n o gives_it)
unless_goes R S F G P Q reads given goes o (inr (none, plain)) = inr ((λ n is. none n ((reads n).1 is)), goes o plain)

pub unless_both : (R S : ℤ → Type 0) (F G : ℤ → Outcome → Type 0) (P Q : Outcome → Type 0) → ((n : ℤ) → R n ↔ S n) → ((n : ℤ) → Both (F n) (G n)) → Both P Q
    → Both (UnlessRead R F P) (UnlessRead S G Q)
unless_both R S F G P Q reads given same =
    both (UnlessRead R F P) (UnlessRead S G Q)
    (unless_goes R S F G P Q reads (λ n. there (F n) (G n) (given n)) (there P Q same))
    (unless_goes S R G F Q P (λ n. ((reads n).1, (reads n).0)) (λ n. back (F n) (G n) (given n)) (back P Q same))

pub sides_both : (operator : BinaryOperator) (N M : ExprType → Type 0) (L K R S : Outcome → Type 0) → BothTyped N M → Both L K → Both R S
    → Both (SidesGive operator N L R) (SidesGive operator M K S)
sides_both operator N M L K R S typed left right =
    after_both L K (λ v. OperatorGives operator N v R) (λ v. OperatorGives operator M v S) left (λ v. operator_both operator N M v R S typed right)

-- of trees that quote the same beside operands of the same types
reads_go : (slots : Slots) (B C : ExprType → Type 0) (tree other : Tree) (n : ℤ) → ((type : ExprType) → B type → C type) → quoted_text tree ≡ quoted_text other
    → ReadsNumber slots B tree n → ReadsNumber slots C other n
reads_go slots B C tree other n goes quotes reads = record {
  type_of = reads.type_of;
  beside = goes reads.type_of reads.beside;
  number = subst (λ (quoted : Option (List ℕ)). ResolvedNumber slots reads.type_of quoted n) quotes reads.number;
}

pub reads_both : (slots : Slots) (B C : ExprType → Type 0) (tree other : Tree) → BothTyped B C → quoted_text tree ≡ quoted_text other
    → (n : ℤ) → ReadsNumber slots B tree n ↔ ReadsNumber slots C other n
reads_both slots B C tree other same quotes n = (
  reads_go slots B C tree other n (λ type. (same type).0) quotes,
  reads_go slots C B other tree n (λ type. (same type).1) (sym quotes),
)

pub equality_both : (operator : BinaryOperator) (B C : ExprType → Type 0) → BothTyped B C → BothTyped (OfEquality operator B) (OfEquality operator C)
equality_both operator B C same type = ((λ of. (of.0, (same type).0 of.1)), (λ of. (of.0, (same type).1 of.1)))
