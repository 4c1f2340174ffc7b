-- For private clauses: literals that have been read, and why a text is refused.
use Rattle.std.specs.Prelude.{ℕ, List}
use Rattle.edm_values.specs.declared.value.Value.{Value}
use Rattle.odata_syntax.specs.Tree.{Tree}
use Rattle.odata_syntax.specs.declared.node.LiteralKind.{LiteralKind}
use Rattle.odata_text.specs.declared.text_fault.TextFault.{TextFault}
use Rattle.odata_syntax.specs.declared.parser.text_parser.TextOrSyntaxFault.{TextOrSyntaxFault}
use Rattle.odata_syntax.specs.declared.syntax_fault.SyntaxFault.{SyntaxFault}
use Rattle.csdl_schema.specs.SchemaModel.{SchemaModel, Slots, slots_of}
use Rattle.odata_signatures.specs.TypeView.{expr_type}
use Rattle.odata_signatures.specs.declared.edm_type.EdmType.{EdmType}
use Rattle.odata_signatures.specs.FirstUntypable.{IsTypeFault}
use Rattle.odata_signatures.specs.LiteralValue.{LiteralTyped}
use Rattle.odata_signatures.specs.declared.refusal.Refusal.{Refusal}
use Rattle.odata_checked_filter.specs.Stands.{IsValueOf}

-- a literal with its value and its type
pub record IsReading
    (schema : SchemaModel) (kind : LiteralKind) (spelling : List ℕ) (value : Value) (type : EdmType) : Type 0 where
  pub value_of : IsValueOf (slots_of schema) kind spelling value
  pub typed : LiteralTyped (slots_of schema) kind spelling (expr_type schema type)

-- a fault as a refusal; that memory ran out is a refusal of its own
abbrev pub refusal_of_text : TextFault → Refusal
refusal_of_text TextFault.Memory = Refusal.Memory
refusal_of_text fault = Refusal.Text fault

abbrev pub refusal_of_syntax : SyntaxFault → Refusal
refusal_of_syntax SyntaxFault.Memory = Refusal.Memory
refusal_of_syntax fault = Refusal.Syntax fault

abbrev pub refusal_of : TextOrSyntaxFault → Refusal
refusal_of (TextOrSyntaxFault.Text fault) = refusal_of_text fault
refusal_of (TextOrSyntaxFault.Syntax fault) = refusal_of_syntax fault

-- why the tree of a text of this length is not a filter; running out of memory says nothing
abbrev pub IsTypeRefusal : Slots → List ℕ → Tree → ℕ → Refusal → Type 0
IsTypeRefusal slots root tree len (Refusal.Typing fault) = IsTypeFault slots root tree len fault
IsTypeRefusal slots root tree len Refusal.Memory = Unit {0}
IsTypeRefusal slots root tree len refusal = ⊥
