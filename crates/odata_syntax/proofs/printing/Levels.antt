-- A tree's normal form has its level, so its operands have the same parentheses.
use Rattle.std.proofs.Common.{◌≡◌, ◌∙◌, ap}
use Rattle.odata_syntax.specs.CanonicalText.{shape_level, tree_level}
use Rattle.odata_syntax.specs.NormalForm.{IsNormalForm, IsNormalShape}
use Rattle.odata_syntax.specs.Tree.{Shape, Tree, any_item, binary, call, count, has, in_list, in_path, it, lambda, literal, logical_not, member, name, negation, node}

shape_level-kept : (shape other : Shape) → IsNormalShape shape other → shape_level other ≡ shape_level shape
shape_level-kept (literal kind text) other is = ap shape_level is.2
shape_level-kept it other is = ap shape_level is
shape_level-kept (name text) other is = ap shape_level is
shape_level-kept (member base text) other is = ap shape_level is.2
shape_level-kept (count base) other is = ap shape_level is.2
shape_level-kept (negation operand) other is = ap shape_level is.2
shape_level-kept (logical_not operand) other is = ap shape_level is.2
shape_level-kept (binary operator left right) other is = ap shape_level is.4
shape_level-kept (has left right) other is = ap shape_level is.4
shape_level-kept (in_list left items) other is = ap shape_level is.4
shape_level-kept (in_path left path) other is = ap shape_level is.4
shape_level-kept (call text arguments) other is = ap shape_level is.2
shape_level-kept (any_item base) other is = ap shape_level is.2
shape_level-kept (lambda quantifier base variable body) other is = ap shape_level is.4

pub tree_level-kept : (tree normal : Tree) → IsNormalForm tree normal → tree_level normal ≡ tree_level tree
tree_level-kept (node start stop shape) normal is = ap tree_level is.2 ∙ shape_level-kept shape is.0 is.1
