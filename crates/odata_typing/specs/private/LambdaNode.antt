-- For private clauses: lambda operators with a variable and a body.
use Rattle.std.specs.Prelude.{◌≡◌, ◌+◌, ◌-◌, ℕ, None}
use Rattle.odata_syntax.specs.Places.{number_at, places_of, stop_at}
use Rattle.odata_syntax.specs.TextTree.{IsTextRange}
use Rattle.odata_syntax.specs.Tree.{Tree}
use Rattle.odata_syntax.specs.declared.node.Quantifier.{Quantifier}
use Rattle.odata_syntax.specs.declared.syntax_list.SyntaxKind.{SyntaxKind}
use Rattle.csdl_schema.specs.ExprType.{single}
use Rattle.odata_signatures.specs.TypeView.{single_type}
use Rattle.odata_signatures.specs.declared.edm_type.EdmType.{EdmType}
use Rattle.odata_signatures.specs.declared.edm_type.ValueType.{ValueType}
use Rattle.odata_signatures.specs.Typed.{variable_type, with_variable}
use Rattle.odata_typing.specs.declared.check_context.Judged.{Judged}
use Rattle.odata_typing.specs.declared.check_context.CheckContext.{CheckContext}
use Rattle.odata_typing.specs.declared.judged_list.Walk.{Walk}
use Rattle.odata_typing.specs.private.Judging.{IsStanding}
use Rattle.odata_typing.specs.private.CheckContexts.{IsNodeAt, IsNodeReady, IsRun, IsContext, name_of}
use Rattle.odata_typing.specs.private.Variables.{scope_of}

-- the node of an index is a lambda operator's; what stands for its base stops where those of its body begin, whose
-- nodes are those from another index on
pub record IsLambdaReady
    (context : CheckContext) (walk : Walk) (from index : ℕ) (judged : Judged) (quantifier : Quantifier) (base : Tree)
    : Type 0 where
  pub context_is : IsContext context
  pub at : IsNodeAt context index judged
  pub lambda_is : judged.node.now.kind ≡ SyntaxKind.Lambda quantifier
  pub ready : IsNodeReady context walk judged
  pub text : IsTextRange context.text.now judged.node.now.text
  pub base_stands :
      IsStanding context.schema.now context.filtered_type (scope_of context) walk (judged.number + 1)
      (number_at (places_of context.nodes.now) (index - 1)) base
  pub body : IsRun context from index
  pub body_stop : stop_at (places_of context.nodes.now) (index - 1) ≡ judged.stop

-- the base is a collection of such members, the variable is new, and in the scope with it the body has been judged
pub record IsOverBody (context : CheckContext) (walk : Walk) (judged : Judged) (base body : Tree) : Type 0 where
  pub middle : ℕ
  pub member : ValueType
  pub base_stands :
      IsStanding context.schema.now context.filtered_type (scope_of context) walk (judged.number + 1) middle base
  pub base_type : base_stands.found.edm_type ≡ EdmType.Collection member
  pub fresh : variable_type (scope_of context) (name_of context judged) ≡ None
  pub body_stands :
      IsStanding context.schema.now context.filtered_type
      (with_variable (scope_of context) (name_of context judged) (single (single_type context.schema.now member)))
      walk middle judged.stop body
