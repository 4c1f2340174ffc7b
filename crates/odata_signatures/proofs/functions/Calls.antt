-- Which types calls have.
use Rattle.std.proofs.Common.{◌≡◌, ◌↔◌, ◌≤◌, ℕ, refl, sym, ap, subst, ◌∙◌, IsTrue, Bool, true, false, List, length}
use Rattle.csdl_schema.specs.ExprType.{ExprType, single, primitive}
use Rattle.odata_signatures.specs.declared.call.CallFault.{CallFault}
use Rattle.odata_signatures.specs.declared.function.Function.{Function}
use Rattle.odata_signatures.specs.declared.function.Signature.{Signature}
use Rattle.odata_signatures.specs.ArgumentTypes.{AreArgumentTypes}
use Rattle.odata_signatures.specs.CallTyped.{CallReason, CallTyped, FunctionReason, FunctionTyped, TakesCount}
use Rattle.odata_signatures.specs.Functions.{IsNamed, IsRow, row_of}
use Rattle.odata_signatures.proofs.functions.Names.{one_function}

module _ (function : Function) (signature : Signature) (types : List ExprType) (is : IsRow signature (row_of function)) where
  counted : signature.least ≤ length types → length types ≤ length signature.arguments.now → TakesCount function (length types)
  counted least most = record {
    least = subst (λ n. n ≤ length types) is.least least;
    most = subst (λ kinds. length types ≤ length kinds) is.arguments most;
  }

  pub function_typed : signature.least ≤ length types → length types ≤ length signature.arguments.now
      → AreArgumentTypes signature.arguments.now types
      → FunctionTyped function types (single (primitive signature.gives))
  function_typed least most fit = record {
    count = counted least most;
    arguments = subst (λ kinds. AreArgumentTypes kinds types) is.arguments fit;
    gives = ap (λ p. single (primitive p)) is.gives;
  }

  pub other_types : (name : List ℕ) → IsNamed function name → signature.least ≤ length types
      → length types ≤ length signature.arguments.now
      → ¬ AreArgumentTypes signature.arguments.now types
      → CallReason name types CallFault.ArgumentType
  other_types name named least most unfit = (
    function,
    named,
    (counted least most, λ fit. unfit (subst (λ kinds. AreArgumentTypes kinds types) (sym is.arguments) fit)),
  )

-- what a test denies does not hold
pub refuted : {P : Type 0} (test : Bool) → test ≡ false → (IsTrue test ↔ P) → ¬ P
refuted true is reported = cc
refuted false is reported = λ p. cc (reported.1 p)

pub one_type : (name : List ℕ) (types : List ExprType) (t u : ExprType) → CallTyped name types t → CallTyped name types u → t ≡ u
one_type name types t u first second =
    let same = one_function first.function second.function name first.named second.named in
    first.typed.gives ∙ ap (λ f. single (primitive (row_of f).gives)) same ∙ sym second.typed.gives

-- a function has one reason
one_function_reason : (function : Function) (types : List ExprType) (fault other : CallFault) → FunctionReason function types fault
    → FunctionReason function types other → fault ≡ other
one_function_reason function types CallFault.UnknownFunction other none because = absurd none
one_function_reason function types fault CallFault.UnknownFunction because none = absurd none
one_function_reason function types CallFault.ArgumentCount CallFault.ArgumentCount a b = refl
one_function_reason function types CallFault.ArgumentCount CallFault.ArgumentType a b = absurd (a b.0)
one_function_reason function types CallFault.ArgumentType CallFault.ArgumentCount a b = absurd (b a.0)
one_function_reason function types CallFault.ArgumentType CallFault.ArgumentType a b = refl

known_reason : (name : List ℕ) (types : List ExprType) (fault other : CallFault)
    → (f : Function) × IsNamed f name × FunctionReason f types fault
    → (g : Function) × IsNamed g name × FunctionReason g types other
    → fault ≡ other
known_reason name types fault other (f, of_f, a) (g, of_g, b) =
    one_function_reason f types fault other a (subst (λ h. FunctionReason h types other) (one_function g f name of_g of_f) b)

pub one_reason : (name : List ℕ) (types : List ExprType) (fault other : CallFault) → CallReason name types fault → CallReason name types other
    → fault ≡ other
one_reason name types CallFault.UnknownFunction CallFault.UnknownFunction a b = refl
one_reason name types CallFault.UnknownFunction CallFault.ArgumentCount a (g, named, b) = absurd (a g named)
one_reason name types CallFault.UnknownFunction CallFault.ArgumentType a (g, named, b) = absurd (a g named)
one_reason name types CallFault.ArgumentCount CallFault.UnknownFunction (f, named, a) b = absurd (b f named)
one_reason name types CallFault.ArgumentType CallFault.UnknownFunction (f, named, a) b = absurd (b f named)
one_reason name types CallFault.ArgumentCount CallFault.ArgumentCount a b = refl
one_reason name types CallFault.ArgumentCount CallFault.ArgumentType a b = known_reason name types CallFault.ArgumentCount CallFault.ArgumentType a b
one_reason name types CallFault.ArgumentType CallFault.ArgumentCount a b = known_reason name types CallFault.ArgumentType CallFault.ArgumentCount a b
one_reason name types CallFault.ArgumentType CallFault.ArgumentType a b = refl

-- a call that has a reason has no type
pub untyped : (name : List ℕ) (types : List ExprType) (fault : CallFault) → CallReason name types fault
    → (type : ExprType) → ¬ CallTyped name types type
untyped name types CallFault.UnknownFunction none type typed = none typed.function typed.named
untyped name types CallFault.ArgumentCount (function, named, other) type typed =
    other (subst (λ f. TakesCount f (length types)) (one_function typed.function function name typed.named named) typed.typed.count)
untyped name types CallFault.ArgumentType (function, named, (count, other)) type typed =
    other (subst (λ f. AreArgumentTypes (row_of f).arguments types) (one_function typed.function function name typed.named named) typed.typed.arguments)
