-- What is taken from a budget, one cost after another.
use Rattle.std.proofs.Common.{◌≡◌, ◌<◌, ◌+◌, ℕ, Option, Some, None, Result, Ok, Err, refl, sym, subst, arith}
use Rattle.odata_filter_operations.specs.declared.eval_fault.EvalFault.{EvalFault}
use Rattle.odata_eval.specs.declared.budget.Budget.{Budget}
use Rattle.odata_eval.specs.declared.stop.EvalStop.{EvalStop}
use Rattle.odata_eval.specs.private.Spending.{HasFewer, Spent, Takes, as_stop, stopped_by}

pub takes_nothing : (budget : Budget) → Takes budget budget 0
takes_nothing Budget.Unbounded = tt
takes_nothing (Budget.Left count) = omega arith

sums : (a b c m n : ℕ) → a ≡ m + b → b ≡ n + c → a ≡ m + n + c
sums a b c m n first second = omega (arith, first, second)

fewer : (a b m n : ℕ) → a ≡ m + b → b < n → a < m + n
fewer a b m n first second = omega (arith, first, second)

fewer_more : (a m n : ℕ) → a < m → a < m + n
fewer_more a m n less = omega (arith, less)

pub takes_both : (a b c : Budget) (m n : ℕ) → Takes a b m → Takes b c n → Takes a c (m + n)
takes_both Budget.Unbounded Budget.Unbounded Budget.Unbounded m n first second = tt
takes_both (Budget.Left a) (Budget.Left b) (Budget.Left c) m n first second = sums a b c m n first second
takes_both Budget.Unbounded (Budget.Left b) c m n first second = absurd first
takes_both (Budget.Left a) Budget.Unbounded c m n first second = absurd first
takes_both Budget.Unbounded Budget.Unbounded (Budget.Left c) m n first second = absurd second
takes_both (Budget.Left a) (Budget.Left b) Budget.Unbounded m n first second = absurd second

pub fewer_then : (a b : Budget) (m n : ℕ) → Takes a b m → HasFewer b n → HasFewer a (m + n)
fewer_then (Budget.Left a) (Budget.Left b) m n first second = fewer a b m n first second
fewer_then a Budget.Unbounded m n first second = absurd second
fewer_then Budget.Unbounded (Budget.Left b) m n first second = absurd first

pub fewer_first : (a : Budget) (m n : ℕ) → HasFewer a m → HasFewer a (m + n)
fewer_first (Budget.Left a) m n less = fewer_more a m n less
fewer_first Budget.Unbounded m n less = absurd less

-- a first cost was taken, and then a second one was asked for
pub spent_then : (stop : Option EvalStop) (a b c : Budget) (m n : ℕ) → Takes a b m → Spent stop b c n → Spent stop a c (m + n)
spent_then (Some EvalStop.TooCostly) a b c m n first second = fewer_then a b m n first second
spent_then (Some (EvalStop.Fault EvalFault.Memory)) a b c m n first second = tt
spent_then _ a b c m n first second = takes_both a b c m n first second

-- what stopped a first cost stops both
pub spent_first : (stop : EvalStop) (a b : Budget) (m n : ℕ) → ((fault : EvalFault) → stop ≡ EvalStop.Fault fault → ¬ (fault ≡ EvalFault.Memory) → n ≡ 0) → Spent (Some stop) a b m → Spent (Some stop) a b (m + n)
spent_first EvalStop.TooCostly a b m n stays first = fewer_first a m n first
spent_first (EvalStop.Fault EvalFault.Overflow) a b m n stays first =
    let none : n ≡ 0 = stays EvalFault.Overflow refl (λ same. cc) in
    subst (λ (k : ℕ). Takes a b k) (let e : m ≡ m + n = omega (arith, none) in e) first
spent_first (EvalStop.Fault EvalFault.DivideByZero) a b m n stays first =
    let none : n ≡ 0 = stays EvalFault.DivideByZero refl (λ same. cc) in
    subst (λ (k : ℕ). Takes a b k) (let e : m ≡ m + n = omega (arith, none) in e) first
spent_first (EvalStop.Fault EvalFault.Memory) a b m n stays first = tt

-- nothing is asked of a budget that stays as it was
pub spent_nothing : {Held : Type 0} (answer : Result Held EvalFault) (budget : Budget) → Spent (stopped_by (as_stop answer)) budget budget 0
spent_nothing (Err EvalFault.Memory) budget = tt
spent_nothing _ budget = takes_nothing budget

-- one cost by another name
pub spent_same : (stop : Option EvalStop) (a b : Budget) (m n : ℕ) → n ≡ m → Spent stop a b m → Spent stop a b n
spent_same stop a b m n same spent = subst (λ (k : ℕ). Spent stop a b k) (sym same) spent
