-- What a node of the list is called, as the tree's.
use Rattle.std.proofs.Common.{◌≡◌, append_assoc, [], ◌∷◌, refl, sym, ap, ℕ, List, Option}
use Rattle.odata_syntax.specs.Tree.{Shape}
use Rattle.odata_syntax.specs.Lexeme.{quantifier_word}
use Rattle.csdl_schema.specs.SchemaModel.{Slots}
use Rattle.odata_checked_filter.specs.declared.checked_node.NodeKind.{NodeKind}
use Rattle.odata_checked_filter.specs.Explanation.{name_label, node_label}
use Rattle.odata_checked_filter.specs.Stands.{text_of_shape, variable_names}
use Rattle.odata_signatures.specs.Typed.{Scope}
use Rattle.odata_checked_filter.specs.private.Explanation.{kind_label}
use Rattle.odata_checked_filter.proofs.flat.KindForms.{HasForm, call_form, lambda_form, now_form, property_form, variable_form}

pub label_reported :
    (slots : Slots) (root : List ℕ) (scope : Scope) (shape : Shape) (kind : NodeKind)
    → HasForm slots root scope shape kind
    → kind_label kind (text_of_shape shape) ≡ node_label (variable_names scope) shape
label_reported slots root scope shape kind (variable_form {asked = asked} bound) = sym (ap (λ (o : Option ℕ). name_label o asked) bound)
label_reported slots root scope shape kind (property_form {asked = asked} free named) = sym (ap (λ (o : Option ℕ). name_label o asked) free)
label_reported slots root scope shape kind (call_form named other) = named
label_reported slots root scope shape kind (now_form named) = named
label_reported slots root scope shape kind (lambda_form {quantifier = quantifier} {variable = variable}) = append_assoc (quantifier_word quantifier) (32 ∷ []) variable
label_reported slots root scope shape kind _ = refl
