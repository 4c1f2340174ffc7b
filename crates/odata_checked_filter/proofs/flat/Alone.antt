-- A number of a filter has one type and one slot at most.
use Rattle.std.proofs.Common.{◌≡◌, subst, ℕ, List, [], Some}
use Rattle.odata_syntax.specs.Tree.{Tree, member, name, node}
use Rattle.csdl_schema.specs.ExprType.{single, structured}
use Rattle.csdl_schema.specs.SchemaModel.{Slots, slots_of, type_name_at, slot_named}
use Rattle.odata_signatures.specs.Laws.{OneType}
use Rattle.odata_signatures.specs.Typed.{Scope, Typed}
use Rattle.odata_checked_filter.specs.Filter.{tree_of_filter}
use Rattle.odata_checked_filter.specs.Laws.{OneSlotAt, OneTypeAt}
use Rattle.odata_checked_filter.specs.NameKinds.{NamesSlot}
use Rattle.odata_checked_filter.proofs.flat.Nodes.{node_one}
use Rattle.odata_checked_filter.proofs.flat.Places.{same_found}

pub one_type_at : OneType → OneTypeAt
one_type_at one filter k a b first second =
    let slots = slots_of filter.schema in
    let root = type_name_at filter.schema filter.filtered in
    let same = node_one one slots root [] (tree_of_filter filter) k second.at first.at second.part first.part second.numbered first.numbered in
    let P : Scope → Type 0 = λ (s : Scope). Typed slots root s second.part b in
    let Q : Tree → Type 0 = λ (t : Tree). Typed slots root first.at t b in
    one slots root first.at first.part a b first.typed (subst Q same.parts (subst P same.scopes second.typed))

pub same_owner : (a b : List ℕ) → single (structured a) ≡ single (structured b) → a ≡ b
same_owner a b same = cc

one_slot : OneType → (slots : Slots) (root : List ℕ) (scope : Scope) (tree : Tree) (a b : ℕ)
    → NamesSlot slots root scope tree a → NamesSlot slots root scope tree b → a ≡ b
one_slot one slots root scope (node start stop (name asked)) a b first second = same_found (slot_named (slots.properties root) asked) a b first.1 second.1
one_slot one slots root scope (node start stop (member base asked)) a b first second =
    let owner : first.0 ≡ second.0 =
    same_owner first.0 second.0 (one slots root scope base (single (structured first.0)) (single (structured second.0)) first.1 second.1) in
    let P : List ℕ → Type 0 = λ (o : List ℕ). slot_named (slots.properties o) asked ≡ Some a in
    same_found (slot_named (slots.properties second.0) asked) a b (subst P owner first.2) second.2
one_slot one slots root scope (node start stop _) a b first second = absurd first

pub one_slot_at : OneType → OneSlotAt
one_slot_at one filter k a b first second =
    let slots = slots_of filter.schema in
    let root = type_name_at filter.schema filter.filtered in
    let same = node_one one slots root [] (tree_of_filter filter) k second.at first.at second.part first.part second.numbered first.numbered in
    let P : Scope → Type 0 = λ (s : Scope). NamesSlot slots root s second.part b in
    let Q : Tree → Type 0 = λ (t : Tree). NamesSlot slots root first.at t b in
    one_slot one slots root first.at first.part a b first.names (subst Q same.parts (subst P same.scopes second.names))
