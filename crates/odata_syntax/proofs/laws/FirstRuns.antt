-- The machine on the tokens of two filters.
use Rattle.std.proofs.Common.{◌≡◌, refl, [], ◌∷◌, Some, None}
use Rattle.std.specs.Prelude.{codes}
use Rattle.odata_syntax.specs.declared.binary_operator.BinaryOperator.{BinaryOperator}
use Rattle.odata_syntax.specs.declared.binary_operator.LogicalOperator.{LogicalOperator}
use Rattle.odata_syntax.specs.declared.binary_operator.ComparisonOperator.{ComparisonOperator}
use Rattle.odata_syntax.specs.Tree.{node, name}
use Rattle.odata_syntax.specs.Parse.{IsParse, IsUnended}
use Rattle.odata_syntax.specs.FirstRun.{first_run_tokens, first_run_tree, active_and_id, name_eq}
use Rattle.odata_syntax.specs.Front.{IsShallow}
use Rattle.odata_syntax.specs.private.Machine.{Machine, operation, binary_behind, operand, closed, run, start, finish, word_next, word_start}
use Rattle.odata_syntax.specs.Tree.{literal}
use Rattle.odata_syntax.specs.declared.node.LiteralKind.{LiteralKind}
use Rattle.odata_syntax.proofs.machine.Depth.{shallow-append, shallow-nil}
use Rattle.odata_syntax.proofs.machine.Fronts.{run_parsed, unended_fault_at}

-- after the last token the two operators wait
first_run_end : Machine
first_run_end =
    record {
      waiting = operation (binary_behind (BinaryOperator.Comparison ComparisonOperator.Eq) (node 23 27 (name (codes "Name")))) ∷ operation (binary_behind (BinaryOperator.Logical LogicalOperator.And) active_and_id) ∷ [];
      expected = closed (node 31 34 (literal LiteralKind.Str (codes "'a'")));
    }

first_run_taken : run first_run_tokens start ≡ Some first_run_end
unfolding word_next word_start first_run_end
first_run_taken = refl

first_run_finished : finish first_run_end ≡ Some first_run_tree
unfolding first_run_end
first_run_finished = refl

first_run_shallow : IsShallow first_run_tokens
first_run_shallow = shallow-append [] first_run_tokens shallow-nil (refl, (refl, (refl, (refl, (refl, (refl, (refl, (refl, (refl, tt)))))))))

pub first_run_parsed : IsParse first_run_tokens first_run_tree
first_run_parsed = run_parsed first_run_tokens first_run_end first_run_tree first_run_taken first_run_finished first_run_shallow

name_eq_end : Machine
name_eq_end = record { waiting = operation (binary_behind (BinaryOperator.Comparison ComparisonOperator.Eq) (node 0 4 (name (codes "Name")))) ∷ []; expected = operand }

name_eq_taken : run name_eq start ≡ Some name_eq_end
unfolding word_next word_start name_eq_end
name_eq_taken = refl

name_eq_unfinished : finish name_eq_end ≡ None
unfolding name_eq_end
name_eq_unfinished = refl

name_eq_shallow : IsShallow name_eq
name_eq_shallow = shallow-append [] name_eq shallow-nil (refl, (refl, tt))

pub name_eq_unended : IsUnended name_eq 7 (record { start = 7; stop = 7 })
name_eq_unended = unended_fault_at name_eq name_eq_end 7 (record { start = 7; stop = 7 }) name_eq_taken name_eq_shallow refl refl name_eq_unfinished
