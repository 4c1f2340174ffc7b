use Rattle.std.proofs.Common.{ℕ, subst, lit<}
use Rattle.std.proofs.lemmas.Str.Pattern.{split_once_first}
use Rattle.command_plan.specs.PartTexts.{IsNumberText}
use Rattle.command_plan.proofs.LineLemmas.PartLemmas.{no_number_after, no_number_before, no_part_read, no_slash, part_read}
use Rattle.command_plan.proofs.LineLemmas.PlanLemmas.{none_left}
use Rattle.command_plan.proofs.part_texts.part_named.Goals as goal

pub returns-in_default-clause-none : goal.returns-in_default-clause-none
returns-in_default-clause-none c =
    no_slash c.args.text.now (rw (none_left c.split_once.result c.in_default.not-Some) at (split_once_first 47 c.args.text.now c.split_once.result c.split_once.ensures.cases (lit< tt)))

pub returns-in_default-number_of-clause-none : goal.returns-in_default-number_of-clause-none
returns-in_default-number_of-clause-none c =
    let cut = rw c.in-Some.is at (split_once_first 47 c.args.text.now c.split_once.result c.split_once.ensures.cases (lit< tt)) in
    no_number_before c.args.text.now
    (subst (λ l. (number : ℕ) → ¬ IsNumberText l number) cut.1 (rw (none_left c.number_of.result c.in_default-number_of.not-Some) at c.number_of.ensures.none))

pub returns-in_default-number_of-2-clause-none : goal.returns-in_default-number_of-2-clause-none
returns-in_default-number_of-2-clause-none c =
    let cut = rw c.in-Some.is at (split_once_first 47 c.args.text.now c.split_once.result c.split_once.ensures.cases (lit< tt)) in
    no_number_after c.args.text.now
    (subst (λ l. (number : ℕ) → ¬ IsNumberText l number) cut.2 (rw (none_left c.number_of-2.result c.in_default-number_of-2.not-Some) at c.number_of-2.ensures.none))

pub returns-clause-some : goal.returns-clause-some
returns-clause-some c =
    let cut = rw c.in-Some.is at (split_once_first 47 c.args.text.now c.split_once.result c.split_once.ensures.cases (lit< tt)) in
    part_read c.args.text.now c.in-Some-number_of.number c.in-Some-number_of-2.count
    (subst (λ l. IsNumberText l c.in-Some-number_of.number) cut.1 c.in-Some-number_of.ensures.some)
    (subst (λ l. IsNumberText l c.in-Some-number_of-2.count) cut.2 c.in-Some-number_of-2.ensures.some) c.new.result c.new.ensures.made.0 c.new.ensures.value

pub returns-clause-none : goal.returns-clause-none
returns-clause-none c =
    let cut = rw c.in-Some.is at (split_once_first 47 c.args.text.now c.split_once.result c.split_once.ensures.cases (lit< tt)) in
    no_part_read c.args.text.now c.in-Some-number_of.number c.in-Some-number_of-2.count
    (subst (λ l. IsNumberText l c.in-Some-number_of.number) cut.1 c.in-Some-number_of.ensures.some)
    (subst (λ l. IsNumberText l c.in-Some-number_of-2.count) cut.2 c.in-Some-number_of-2.ensures.some) c.new.result c.new.ensures.made.1
