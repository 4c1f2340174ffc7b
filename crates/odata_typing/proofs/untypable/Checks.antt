-- A text, its tree and its fault.
use Rattle.odata_typing.proofs.Common.{◌≡◌, ◌≢◌, refl, sym, subst, inl, inr, ℕ, ◌≤◌, false, List, [], length, Tree, ExprType, HoldsType, SchemaModel, Slots, slots_of, type_name_at, HasNoTree, IsFirstFault, TypeFault, Walk, IsStanding, IsBooleanOrNull, IsFirstUntypable, IsTypeFault, FewNodes, LawsBelow, tree_of_nodes, Stands, Typed, expr_type}
use Rattle.odata_text.specs.Tokens.{token_limit}
use Rattle.csdl_schema.specs.ExpansionView.{StepModel, paths_in}
use Rattle.csdl_schema.specs.PathSet.{PropertyPath}
use Rattle.odata_syntax.specs.declared.parser.text_parser.TextOrSyntaxFault.{TextOrSyntaxFault}
use Rattle.odata_syntax.specs.declared.syntax_fault.SyntaxFault.{SyntaxFault}
use Rattle.odata_text.specs.declared.text_fault.TextFault.{TextFault}
use Rattle.odata_signatures.specs.NeededPaths.{IsNeeded}
use Rattle.odata_signatures.specs.declared.refusal.Refusal.{Refusal}
use Rattle.odata_signatures.specs.declared.refusal.TypeFaultCode.{TypeFaultCode}
use Rattle.odata_typing.specs.private.Answer.{IsTypeRefusal, refusal_of}
use Rattle.odata_checked_filter.specs.Laws.{OneTree}
use Rattle.odata_signatures.specs.HasTyping.{HasTree, HasTyping, HasNoTyping, IsRefusal, UnlessMemory}
use Rattle.odata_checked_filter.specs.Filter.{HasNeededPaths, IsFilter, filter_of}
use Rattle.odata_signatures.specs.PreOrder.{pre_order}

-- a text whose one tree has an untypable node has no typing
pub untypable_refuses :
    LawsBelow → (slots : Slots) (root text : List ℕ) (tree : Tree) (fault : TypeFault)
    → ((other : Tree) → HasTree text other → other ≡ tree)
    → IsFirstUntypable slots root [] tree fault
    → HasNoTyping slots root text
untypable_refuses laws slots root text tree fault only found = λ other typing.
    let P : Tree → Type 0 = λ (t : Tree). Typed slots root [] t typing.type_of in
    laws.clear slots root [] tree found.at found.part (typing.type_of, subst P (only other typing.has_tree) typing.typed) found.untypable

-- a text whose one tree has another type has no typing
pub other_refuses :
    LawsBelow → (slots : Slots) (root text : List ℕ) (tree : Tree) (type : ExprType)
    → ((other : Tree) → HasTree text other → other ≡ tree)
    → Typed slots root [] tree type
    → ¬ IsBooleanOrNull type
    → HasNoTyping slots root text
other_refuses laws slots root text tree type only typed other_type = λ other typing.
    let P : Tree → Type 0 = λ (t : Tree). Typed slots root [] t typing.type_of in
    let Q : ExprType → Type 0 = λ (t : ExprType). IsBooleanOrNull t in
    other_type (subst Q (laws.one_type slots root [] tree typing.type_of type (subst P (only other typing.has_tree) typing.typed) typed) typing.truth)

pub treeless : (slots : Slots) (root text : List ℕ) → HasNoTree text → HasNoTyping slots root text
treeless slots root text none = λ tree typing. none tree typing.has_tree

-- ---- the whole list stands for the tree of the text

module _ (one : OneTree) (schema : SchemaModel) (n : ℕ) (walk : Walk) (tree : Tree) (stands : IsStanding schema n [] walk 0 (length walk.list.nodes) tree) where
  pub whole_is : tree_of_nodes walk.list ≡ tree
  whole_is = one schema n [] walk.list (length walk.list.nodes) tree stands.stands

  pub whole_stands : Stands schema n [] walk.list 0 (length walk.list.nodes) (tree_of_nodes walk.list)
  whole_stands = subst (λ (t : Tree). Stands schema n [] walk.list 0 (length walk.list.nodes) t) (sym whole_is) stands.stands

  whole_typed : Typed (slots_of schema) (type_name_at schema n) [] (tree_of_nodes walk.list) (expr_type schema stands.found.edm_type)
  whole_typed = subst (λ (t : Tree). Typed (slots_of schema) (type_name_at schema n) [] t (expr_type schema stands.found.edm_type)) (sym whole_is) stands.typed

  -- the typing of a text that has the tree
  pub whole_typing : (text : List ℕ) → HasTree text tree → IsBooleanOrNull (expr_type schema stands.found.edm_type) → HasTyping (slots_of schema) (type_name_at schema n) text (tree_of_nodes walk.list)
  whole_typing text has_tree truth = record {
    has_tree = subst (HasTree text) (sym whole_is) has_tree;
    type_of = expr_type schema stands.found.edm_type;
    typed = whole_typed;
    truth = truth;
  }

  few_whole : FewNodes → (text : List ℕ) → HasTree text tree → length (pre_order (tree_of_nodes walk.list)) ≤ token_limit
  few_whole few text has_tree = subst (λ (t : Tree). length (pre_order t) ≤ token_limit) (sym whole_is) (few text tree has_tree)

  -- the list is a filter's, with what it needs of navigation
  pub whole_filter :
      FewNodes → (text : List ℕ) (expansion : List StepModel)
      → HoldsType schema n
      → HasTree text tree
      → IsBooleanOrNull (expr_type schema stands.found.edm_type)
      → HasNeededPaths schema n walk.list expansion
      → IsFilter (filter_of schema n walk.list expansion)
  whole_filter few text expansion held has_tree truth expands = record {
    held = held;
    stands = whole_stands;
    type_of = expr_type schema stands.found.edm_type;
    typed = whole_typed;
    truth = truth;
    few = few_whole few text has_tree;
    expands = expands;
  }

  -- and needs nothing where no node navigates
  pub whole_idle : (expansion : List StepModel) → walk.navigates ≡ false → ((path : PropertyPath) → paths_in expansion path ≡ false) → HasNeededPaths schema n walk.list expansion
  whole_idle expansion idle empty path = (
    (λ found. let none : paths_in expansion path ≡ false = empty path in cc),
    (λ needed. absurd (stands.idle idle [] path (subst (λ (t : Tree). IsNeeded (slots_of schema) (type_name_at schema n) [] [] t path) whole_is needed))),
  )

-- ---- a tree that is not a filter

pub type_refusal : (slots : Slots) (root text : List ℕ) (tree : Tree) (refusal : Refusal) → HasTree text tree → IsTypeRefusal slots root tree (length text) refusal → UnlessMemory refusal (IsRefusal slots root text refusal)
type_refusal slots root text tree (Refusal.Typing fault) has_tree is = record { tree = tree; has_tree = has_tree; fault_of = is }
type_refusal slots root text tree Refusal.Memory has_tree is = tt
type_refusal slots root text tree _ has_tree is = absurd is

fault_refuses : LawsBelow → (slots : Slots) (root text : List ℕ) (tree : Tree) (fault : TypeFault) → ((other : Tree) → HasTree text other → other ≡ tree) → IsTypeFault slots root tree (length text) fault → HasNoTyping slots root text
fault_refuses laws slots root text tree fault only (inl first) = untypable_refuses laws slots root text tree fault only first
fault_refuses laws slots root text tree fault only (inr other) = other_refuses laws slots root text tree other.type_of only other.typed other.other

pub type_none : LawsBelow → (slots : Slots) (root text : List ℕ) (tree : Tree) (refusal : Refusal) → ((other : Tree) → HasTree text other → other ≡ tree) → IsTypeRefusal slots root tree (length text) refusal → UnlessMemory refusal (HasNoTyping slots root text)
type_none laws slots root text tree (Refusal.Typing fault) only is = fault_refuses laws slots root text tree fault only is
type_none laws slots root text tree Refusal.Memory only is = tt
type_none laws slots root text tree _ only is = absurd is

-- a tree whose type is neither Boolean nor Null
pub not_boolean :
    (schema : SchemaModel) (n : ℕ) (tree : Tree) (walk : Walk) (len : ℕ) (refusal : Refusal) (stands : IsStanding schema n [] walk 0 (length walk.list.nodes) tree)
    → ¬ IsBooleanOrNull (expr_type schema stands.found.edm_type)
    → refusal ≡ Refusal.Typing (record { code = TypeFaultCode.NotBoolean; span = record { start = 0; stop = len } })
    → IsTypeRefusal (slots_of schema) (type_name_at schema n) tree len refusal
not_boolean schema n tree walk len refusal stands other is =
    rw is (inr (record { type_of = expr_type schema stands.found.edm_type; typed = stands.typed; other = other; reason = refl; starts = refl; stops = refl }))

-- ---- a text without a tree

text_refused : (slots : Slots) (root text : List ℕ) (fault : TextFault) → IsFirstFault text (TextOrSyntaxFault.Text fault) → UnlessMemory (refusal_of (TextOrSyntaxFault.Text fault)) (IsRefusal slots root text (refusal_of (TextOrSyntaxFault.Text fault)))
text_refused slots root text TextFault.Memory is = tt
text_refused slots root text _ is = is

-- its fault is the refusal
pub refusal_is : (slots : Slots) (root text : List ℕ) (fault : TextOrSyntaxFault) → IsFirstFault text fault → UnlessMemory (refusal_of fault) (IsRefusal slots root text (refusal_of fault))
refusal_is slots root text (TextOrSyntaxFault.Text fault) is = text_refused slots root text fault is
refusal_is slots root text (TextOrSyntaxFault.Syntax SyntaxFault.Memory) is = tt
refusal_is slots root text (TextOrSyntaxFault.Syntax _) is = is (λ same. cc)

text_none : (slots : Slots) (root text : List ℕ) (fault : TextFault) → HasNoTree text → UnlessMemory (refusal_of (TextOrSyntaxFault.Text fault)) (HasNoTyping slots root text)
text_none slots root text TextFault.Memory none = tt
text_none slots root text _ none = treeless slots root text none

-- and it has no typing
pub refusal_none : (slots : Slots) (root text : List ℕ) (fault : TextOrSyntaxFault) → (fault ≢ TextOrSyntaxFault.Syntax SyntaxFault.Memory → HasNoTree text) → UnlessMemory (refusal_of fault) (HasNoTyping slots root text)
refusal_none slots root text (TextOrSyntaxFault.Text fault) none = text_none slots root text fault (none (λ same. cc))
refusal_none slots root text (TextOrSyntaxFault.Syntax SyntaxFault.Memory) none = tt
refusal_none slots root text (TextOrSyntaxFault.Syntax _) none = treeless slots root text (none (λ same. cc))
