use Rattle.sql_forms.proofs.Common.{subst, sym, arith, length, ◌≤◌, Function, SqlFunction, IsSqlFunctionOf, TakesCount}
use Rattle.sql_outcomes.proofs.outcomes.FunctionsMade.{is_index_of, is_length, made_alike}
use Rattle.sql_forms.proofs.answers.FunctionAnswers.{time_left, time_takes}
use Rattle.sql_forms.proofs.call_forms.function_of.Goals as goal

pub returns-in-Contains-clause-is : goal.returns-in-Contains-clause-is
returns-in-Contains-clause-is c = made_alike c.args.operands.now c.args.function Function.Contains SqlFunction.Contains c.in-Contains.is (λ now values o kinds given. given) (λ counting. counting)

pub returns-in-StartsWith-clause-is : goal.returns-in-StartsWith-clause-is
returns-in-StartsWith-clause-is c = made_alike c.args.operands.now c.args.function Function.StartsWith SqlFunction.StartsWith c.in-StartsWith.is (λ now values o kinds given. given) (λ counting. counting)

pub returns-in-EndsWith-clause-is : goal.returns-in-EndsWith-clause-is
returns-in-EndsWith-clause-is c = made_alike c.args.operands.now c.args.function Function.EndsWith SqlFunction.EndsWith c.in-EndsWith.is (λ now values o kinds given. given) (λ counting. counting)

pub returns-in-Concat-clause-is : goal.returns-in-Concat-clause-is
returns-in-Concat-clause-is c = made_alike c.args.operands.now c.args.function Function.Concat SqlFunction.Concat c.in-Concat.is (λ now values o kinds given. given) (λ counting. counting)

pub returns-in-Length-clause-is : goal.returns-in-Length-clause-is
returns-in-Length-clause-is c = subst (λ (f : Function). IsSqlFunctionOf f c.args.operands.now SqlFunction.Length) (sym c.in-Length.is) (is_length c.args.operands.now)

pub returns-in-IndexOf-clause-is : goal.returns-in-IndexOf-clause-is
returns-in-IndexOf-clause-is c = subst (λ (f : Function). IsSqlFunctionOf f c.args.operands.now SqlFunction.IndexOf) (sym c.in-IndexOf.is) (is_index_of c.args.operands.now)

pub returns-in-Trim-clause-is : goal.returns-in-Trim-clause-is
returns-in-Trim-clause-is c = made_alike c.args.operands.now c.args.function Function.Trim SqlFunction.Trim c.in-Trim.is (λ now values o kinds given. given) (λ counting. counting)

pub returns-in-ToLower-clause-is : goal.returns-in-ToLower-clause-is
returns-in-ToLower-clause-is c = made_alike c.args.operands.now c.args.function Function.ToLower SqlFunction.ToLower c.in-ToLower.is (λ now values o kinds given. given) (λ counting. counting)

pub returns-in-ToUpper-clause-is : goal.returns-in-ToUpper-clause-is
returns-in-ToUpper-clause-is c = made_alike c.args.operands.now c.args.function Function.ToUpper SqlFunction.ToUpper c.in-ToUpper.is (λ now values o kinds given. given) (λ counting. counting)

pub returns-then-operands-eq2-clause-is : goal.returns-then-operands-eq2-clause-is
returns-then-operands-eq2-clause-is c = made_alike c.args.operands.now c.args.function Function.Substring SqlFunction.RestFrom c.in-Substring.is (λ now values o kinds given. given) (λ counting. counting)

pub returns-else-operands-eq2-clause-is : goal.returns-else-operands-eq2-clause-is
returns-else-operands-eq2-clause-is c = made_alike c.args.operands.now c.args.function Function.Substring SqlFunction.PartFrom c.in-Substring.is (λ now values o kinds given. given) (λ counting. counting)

pub returns-else-operands-eq2-clause-many : goal.returns-else-operands-eq2-clause-many
returns-else-operands-eq2-clause-many c =
    let takes : TakesCount Function.Substring (length c.args.operands.now) = subst (λ (f : Function). TakesCount f (length c.args.operands.now)) c.in-Substring.is c.requires.counted in
    let least : 2 ≤ length c.args.operands.now = takes.least in
    let most : length c.args.operands.now ≤ 3 = takes.most in
    omega (arith, least, most, c.if-operands-eq2.false)

pub returns-in_default-clause-many : goal.returns-in_default-clause-many
returns-in_default-clause-many c =
    time_takes c.args.function c.time_function.result (length c.args.operands.now)
    (time_left c.args.function c.in_default.not-Contains c.in_default.not-StartsWith c.in_default.not-EndsWith c.in_default.not-Concat c.in_default.not-Length c.in_default.not-IndexOf c.in_default.not-Substring c.in_default.not-Trim c.in_default.not-ToLower c.in_default.not-ToUpper) c.requires.some c.requires.counted c.time_function.ensures.one
