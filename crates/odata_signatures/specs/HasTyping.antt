-- Which texts are filters, and why others are not (OData URL Conventions 4.01, section 5.1.1).
use Rattle.std.specs.Prelude.{ℕ, List, [], length}
pub use Rattle.odata_syntax.specs.TextTree.{HasTree, HasSyntaxFault}
use Rattle.odata_text.specs.Tokens.{IsTextFault}
use Rattle.odata_syntax.specs.Tree.{Tree}
use Rattle.csdl_schema.specs.ExprType.{ExprType}
use Rattle.csdl_schema.specs.SchemaModel.{Slots}
use Rattle.odata_signatures.specs.declared.refusal.Refusal.{Refusal}
use Rattle.odata_signatures.specs.declared.refusal.TypeFault.{TypeFault}
use Rattle.odata_signatures.specs.ExprTypes.{IsBooleanOrNull}
use Rattle.odata_signatures.specs.FirstUntypable.{IsTypeFault}
use Rattle.odata_signatures.specs.Typed.{Typed}

-- the text is a filter of the type root: its tree has type Boolean or Null
pub record HasTyping (slots : Slots) (root : List ℕ) (text : List ℕ) (tree : Tree) : Type 0 where
  pub has_tree : HasTree text tree
  pub type_of : ExprType
  pub typed : Typed slots root [] tree type_of
  pub truth : IsBooleanOrNull type_of

-- no tree makes the text a filter of the type
abbrev pub HasNoTyping : Slots → List ℕ → List ℕ → Type 0
HasNoTyping slots root text = (tree : Tree) → ¬ HasTyping slots root text tree

-- the text has a tree, and this has the fault
pub record HasTypeFault (slots : Slots) (root : List ℕ) (text : List ℕ) (fault : TypeFault) : Type 0 where
  pub tree : Tree
  pub has_tree : HasTree text tree
  pub fault_of : IsTypeFault slots root tree (length text) fault

-- why a text is not a filter of the type root
abbrev pub IsRefusal : Slots → List ℕ → List ℕ → Refusal → Type 0
IsRefusal slots root text (Refusal.Text fault) = IsTextFault text fault
IsRefusal slots root text (Refusal.Syntax fault) = HasSyntaxFault text fault
IsRefusal slots root text (Refusal.Typing fault) = HasTypeFault slots root text fault
IsRefusal slots root text Refusal.Memory = ⊥

-- P, unless it was running out of memory
abbrev pub UnlessMemory : Refusal → Type 0 → Type 0
UnlessMemory (Refusal.Text fault) P = P
UnlessMemory (Refusal.Syntax fault) P = P
UnlessMemory (Refusal.Typing fault) P = P
UnlessMemory Refusal.Memory P = Unit {0}
