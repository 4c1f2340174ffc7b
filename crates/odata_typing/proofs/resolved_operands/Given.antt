-- A String literal that is given a number stands as that, and all else as it stood.
use Rattle.odata_typing.proofs.Common.{◌≡◌, ◌∙◌, refl, sym, ap, subst, inl, inr, ◌⊎◌, ℕ, zero, suc, ℤ, ◌<◌, ◌≤◌, ◌+◌, List, [], ◌∷◌, Bool, true, false, Some, None, length, length-set, slice_get, slice_set, arith, none-some, same_Some, slice_get_within, Tree, literal, node, SchemaModel, quoted_text, Scope, CheckedNode, FlatTree, IsKeptOutside, number_put, NumberStands, Stands, Walk, IsNumberPut, ExprType, ResolvedNumber, slots_of}
use Rattle.edm_values.specs.declared.value.Value.{Value}
use Rattle.odata_syntax.specs.declared.node.LiteralKind.{LiteralKind}
use Rattle.odata_checked_filter.specs.declared.checked_node.NodeKind.{NodeKind}
use Rattle.odata_typing.proofs.flat.Closing.{some_at, value_kept, value_put}
use Rattle.odata_typing.proofs.flat.Kept.{same_kept}
use Rattle.odata_checked_filter.proofs.flat.Places.{found_within, get_put}
use Rattle.odata_typing.proofs.resolved_operands.Numbers.{is_read, reading}

-- another index is as it was
get_elsewhere : (nodes : List CheckedNode) (place k : ℕ) (put : CheckedNode) → (k ≡ place → ⊥) → slice_get (slice_set nodes place put) k ≡ slice_get nodes k
get_elsewhere [] place k put other = refl
get_elsewhere (first ∷ nodes) zero zero put other = absurd (other refl)
get_elsewhere (first ∷ nodes) zero (suc k) put other = refl
get_elsewhere (first ∷ nodes) (suc place) zero put other = refl
get_elsewhere (first ∷ nodes) (suc place) (suc k) put other = get_elsewhere nodes place k put (λ same. other (let e : k ≡ place = same in omega arith))

another : (place k : ℕ) → (k < place) ⊎ (place + 1 ≤ k) → k ≡ place → ⊥
another place k (inl before) same = let b : k < place = before in let e : k ≡ place = same in absurd (omega arith)
another place k (inr after) same = let b : place + 1 ≤ k = after in let e : k ≡ place = same in absurd (omega arith)

-- the list changes at that index alone
pub number_changes : (list : FlatTree) (place : ℕ) (found : CheckedNode) (n : ℤ) → IsKeptOutside place (place + 1) list (number_put list place found n)
number_changes list place found n =
    let put : CheckedNode = record found { kind = NodeKind.Literal LiteralKind.Str (length list.values) } in
    record {
      nodes = λ k outside. get_elsewhere list.nodes place k put (another place k outside);
      texts = λ k outside. refl;
      values = (value_kept place (place + 1) list (Value.Enum n)).values;
      count = length-set list.nodes place put;
      beside = refl;
      source = refl;
    }

-- so does a walk on which it is given one, or an allocation failed; nothing else of the walk changes
list_put : (old new : Walk) (place : ℕ) (n : ℤ) (done : Bool) → place < length old.list.nodes → IsNumberPut old place n new done
    → (list : FlatTree) × (new ≡ record old { list = list }) × IsKeptOutside place (place + 1) old.list list
list_put old new place n true inside put =
    let held = found_within old.list.nodes place inside in
    (number_put old.list place held.0 n, put held.0 held.1, number_changes old.list place held.0 n)
list_put old new place n false inside put = (old.list, put, same_kept place (place + 1) old.list)

pub put_kept : (old new : Walk) (place : ℕ) (n : ℤ) (done : Bool) → place < length old.list.nodes → IsNumberPut old place n new done → IsKeptOutside place (place + 1) old.list new.list
put_kept old new place n done inside put =
    let is = list_put old new place n done inside put in
    subst (λ (list : FlatTree). IsKeptOutside place (place + 1) old.list list) (sym (ap (λ (w : Walk). w.list) is.1)) is.2

pub put_only : (old new : Walk) (place : ℕ) (n : ℤ) (done : Bool) → place < length old.list.nodes → IsNumberPut old place n new done → new ≡ record old { list = new.list }
put_only old new place n done inside put =
    let is = (list_put old new place n done inside put).1 in
    is ∙ ap (λ (list : FlatTree). record old { list = list }) (sym (ap (λ (w : Walk). w.list) is))

module _ (schema : SchemaModel) (n : ℕ) (scope : Scope) where
  -- the literal stands as its number, also where the list changes after it
  given_there :
      (list new : FlatTree) (i j from to start stop : ℕ) (spelling : List ℕ) (number : ℤ)
      → (stands : Stands schema n scope list i j (node start stop (literal LiteralKind.Str spelling)))
      → IsKeptOutside from to (number_put list i stands.top.found number) new
      → i < from
      → NumberStands schema n scope new number i j (node start stop (literal LiteralKind.Str spelling))
  given_there list new i j from to start stop spelling number stands kept before =
      let top = stands.top in
      let put : CheckedNode = record top.found { kind = NodeKind.Literal LiteralKind.Str (length list.values) } in
      record {
        top = record {
          found = put;
          stands_at = kept.nodes i (inl before) ∙ get_put list.nodes i put (slice_get_within list.nodes i top.found top.stands_at);
          text_at = kept.texts i (inl before) ∙ top.text_at;
          kind = refl;
          valued = some_at _ (slice_get new.values (length list.values)) (Value.Enum number) (kept.values (length list.values) (Value.Enum number) (value_put list (Value.Enum number))) refl;
          starts = top.starts;
          stops = top.stops;
          last = top.last;
          typed = top.typed;
        };
        children = stands.children;
      }

  pub number_given :
      (list new : FlatTree) (i j from to : ℕ) (tree : Tree) (found : CheckedNode) (operand : ExprType) (number : ℤ)
      → ResolvedNumber (slots_of schema) operand (quoted_text tree) number
      → slice_get list.nodes i ≡ Some found
      → IsKeptOutside from to (number_put list i found number) new
      → i < from
      → Stands schema n scope list i j tree
      → NumberStands schema n scope new number i j tree
  number_given list new i j from to (node start stop (literal LiteralKind.Str text)) found operand number beside at kept before stands =
      let same : found ≡ stands.top.found = same_Some found stands.top.found (sym at ∙ stands.top.stands_at) in
      given_there list new i j from to start stop text number stands (subst (λ (f : CheckedNode). IsKeptOutside from to (number_put list i f number) new) same kept) before
  number_given list new i j from to _ found operand number beside at kept before stands =
      let is = reading operand None (is_read (slots_of schema) operand None number beside) in absurd (none-some is.spelling is.quotes)
