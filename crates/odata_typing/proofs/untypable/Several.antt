-- Nodes over several trees that have types, of which they make none.
use Rattle.odata_typing.proofs.Common.{◌≡◌, ◌∙◌, refl, sym, ap, subst, ℕ, List, [], ◌∷◌, AllByRecursion, Tree, call, in_list, node, trees_of_list, ExprType, Slots, IsFirstUntypable, OperandReason, code_of_call, OneLacksNumber, BeforeList, AreTyped, IsTyped, Scope, Typed, LawsBelow}
use Rattle.odata_text.specs.declared.span.Span.{Span}
use Rattle.odata_signatures.specs.CallTyped.{CallReason, CallTyped}
use Rattle.odata_signatures.specs.CollectionTyped.{InListTyped}
use Rattle.odata_signatures.specs.declared.call.CallFault.{CallFault}
use Rattle.odata_signatures.specs.declared.refusal.TypeFaultCode.{TypeFaultCode}
use Rattle.odata_typing.proofs.stacks.Children.{listed_again}
use Rattle.odata_typing.proofs.untypable.Untypable.{first_itself}

module _ (laws : LawsBelow) (slots : Slots) (root : List ℕ) (scope : Scope) where
  -- trees have one list of types
  pub one_types :
      (trees : List Tree) (a b : List ExprType)
      → AreTyped slots root scope (trees_of_list trees) a
      → AreTyped slots root scope (trees_of_list trees) b
      → a ≡ b
  one_types [] [] [] x y = refl
  one_types [] [] (u ∷ us) x y = absurd y
  one_types [] (t ∷ ts) b x y = absurd x
  one_types (tree ∷ trees) [] b x y = absurd x
  one_types (tree ∷ trees) (t ∷ ts) [] x y = absurd y
  one_types (tree ∷ trees) (t ∷ ts) (u ∷ us) x y =
      ap (λ (v : ExprType). v ∷ ts) (laws.one_type slots root scope tree t u x.0 y.0) ∙ ap (λ (vs : List ExprType). u ∷ vs) (one_types trees ts us x.1 y.1)

  -- a call that has no type
  pub refused_call :
      (span : Span) (asked : List ℕ) (trees : List Tree) (types : List ExprType) (fault : CallFault) (code : TypeFaultCode)
      → AreTyped slots root scope (trees_of_list trees) types
      → AllByRecursion (IsTyped slots root scope) trees
      → ((type : ExprType) → ¬ CallTyped asked types type)
      → CallReason asked types fault
      → code ≡ code_of_call fault
      → IsFirstUntypable slots root scope (node span.start span.stop (call asked (trees_of_list trees))) (record { code = code; span = span })
  refused_call span asked trees types fault code typed each none reason same =
      first_itself laws slots root scope span.start span.stop (call asked (trees_of_list trees)) (record { code = code; span = span })
      (λ at body none. none)
      (subst (λ (ts : List Tree). AllByRecursion (IsTyped slots root scope) ts) (sym (listed_again trees)) each)
      (λ type whole.
      let types_are : whole.types ≡ types = one_types trees whole.types types whole.arguments_typed typed in
      none type (subst (λ (ts : List ExprType). CallTyped asked ts type) types_are whole.call_typed))
      (record { types = types; arguments_typed = typed; fault = fault; reason = reason; same = same })
      refl refl

  -- operands of which `in` makes no type
  items_untyped :
      (start stop : ℕ) (l : Tree) (trees : List Tree) (left : ExprType) (types : List ExprType)
      → Typed slots root scope l left
      → AreTyped slots root scope (trees_of_list trees) types
      → ((type : ExprType) → ¬ BeforeList (InListTyped slots) l (trees_of_list trees) left types type)
      → (type : ExprType) → ¬ Typed slots root scope (node start stop (in_list l (trees_of_list trees))) type
  items_untyped start stop l trees left types left_typed items_typed refused type typed =
      let P : ExprType → Type 0 = λ (t : ExprType). BeforeList (InListTyped slots) l (trees_of_list trees) t typed.items type in
      let Q : List ExprType → Type 0 = λ (ts : List ExprType). BeforeList (InListTyped slots) l (trees_of_list trees) left ts type in
      refused type
      (subst Q (one_types trees typed.items types typed.items_typed items_typed)
      (subst P (laws.one_type slots root scope l typed.left left typed.left_typed left_typed) typed.makes))

  pub refused_items :
      (span : Span) (code : TypeFaultCode) (l : Tree) (trees : List Tree) (left : ExprType) (types : List ExprType)
      → Typed slots root scope l left
      → AreTyped slots root scope (trees_of_list trees) types
      → AllByRecursion (IsTyped slots root scope) trees
      → ((type : ExprType) → ¬ BeforeList (InListTyped slots) l (trees_of_list trees) left types type)
      → OperandReason (OneLacksNumber slots left (trees_of_list trees)) code
      → IsFirstUntypable slots root scope (node span.start span.stop (in_list l (trees_of_list trees))) (record { code = code; span = span })
  refused_items span code l trees left types left_typed typed each refused reason =
      first_itself laws slots root scope span.start span.stop (in_list l (trees_of_list trees)) (record { code = code; span = span })
      (λ at body none. none) (
        (left, left_typed),
        subst (λ (ts : List Tree). AllByRecursion (IsTyped slots root scope) ts) (sym (listed_again trees)) each,
      )
      (items_untyped span.start span.stop l trees left types left_typed typed refused)
      (left, left_typed, reason) refl refl
