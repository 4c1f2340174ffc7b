-- No function takes more than three arguments, so that a call is judged by the first four of its arguments.
use Rattle.odata_typing.proofs.Common.{◌≡◌, sym, subst, ℕ, ◌≤◌, List, length, take, length-take, arith, take_all, ExprType}
use Rattle.odata_signatures.specs.ArgumentTypes.{AreArgumentTypes}
use Rattle.odata_signatures.specs.CallTyped.{CallReason, CallTyped, FunctionReason, FunctionTyped, TakesCount}
use Rattle.odata_signatures.specs.Functions.{row_of}
use Rattle.odata_signatures.specs.declared.call.CallFault.{CallFault}
use Rattle.odata_signatures.specs.declared.function.Function.{Function}

pub most_arguments : (function : Function) → length (row_of function).arguments ≤ 3
most_arguments Function.Contains = omega arith
most_arguments _ = omega arith

-- where a function takes so many arguments, these are the first four of them
taken_all : (function : Function) (types : List ExprType) → TakesCount function (length types) → take 4 types ≡ types
taken_all function types takes =
    let most : length types ≤ length (row_of function).arguments = takes.most in
    let three : length (row_of function).arguments ≤ 3 = most_arguments function in
    take_all 4 types (omega arith)

taken_first : (function : Function) (types : List ExprType) → TakesCount function (length (take 4 types)) → take 4 types ≡ types
taken_first function types takes =
    let most : length (take 4 types) ≤ length (row_of function).arguments = takes.most in
    let three : length (row_of function).arguments ≤ 3 = most_arguments function in
    take_all 4 types (omega (arith, length-take 4 types))

-- a function that takes the first four takes no more
pub typed_by_first : (function : Function) (types : List ExprType) (type : ExprType) → FunctionTyped function (take 4 types) type → FunctionTyped function types type
typed_by_first function types type typed =
    subst (λ (ts : List ExprType). FunctionTyped function ts type) (taken_first function types typed.count) typed

-- what has no type by the first four has none
pub untyped_by_first :
    (name : List ℕ) (types : List ExprType)
    → ((type : ExprType) → ¬ CallTyped name (take 4 types) type)
    → (type : ExprType) → ¬ CallTyped name types type
untyped_by_first name types none type typed =
    none type (subst (λ (ts : List ExprType). CallTyped name ts type) (sym (taken_all typed.function types typed.typed.count)) typed)

-- and for the same reason
function_reason : (function : Function) (types : List ExprType) (fault : CallFault) → FunctionReason function (take 4 types) fault → FunctionReason function types fault
function_reason function types CallFault.UnknownFunction reason = reason
function_reason function types CallFault.ArgumentCount reason = λ takes.
    reason (subst (λ (ts : List ExprType). TakesCount function (length ts)) (sym (taken_all function types takes)) takes)
function_reason function types CallFault.ArgumentType reason =
    subst (λ (ts : List ExprType). TakesCount function (length ts) × ¬ AreArgumentTypes (row_of function).arguments ts) (taken_first function types reason.0) reason

pub reason_by_first : (name : List ℕ) (types : List ExprType) (fault : CallFault) → CallReason name (take 4 types) fault → CallReason name types fault
reason_by_first name types CallFault.UnknownFunction reason = reason
reason_by_first name types CallFault.ArgumentCount reason = (reason.0, reason.1, function_reason reason.0 types CallFault.ArgumentCount reason.2)
reason_by_first name types CallFault.ArgumentType reason = (reason.0, reason.1, function_reason reason.0 types CallFault.ArgumentType reason.2)
