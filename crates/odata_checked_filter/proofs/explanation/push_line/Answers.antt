use Rattle.std.proofs.Common.{◌≡◌, ◌∙◌, List, ℕ, [], ◌∷◌, ◌++◌, Some, ap, length, slice_get, string_bytes, subst}
use Rattle.odata_checked_filter.specs.FlatTree.{FlatTree}
use Rattle.odata_checked_filter.specs.private.Explanation.{listed_line, still_around}
use Rattle.odata_checked_filter.proofs.explanation.push_line.Goals as goal

pub returns : goal.returns
returns c =
    let place = c.args.place in
    let found = c.node-node.result in
    let beside = c.text.result.now in
    let N : FlatTree → Type 0 = λ (l : FlatTree). slice_get l.nodes place ≡ Some found in
    let T : FlatTree → Type 0 = λ (l : FlatTree). slice_get l.texts place ≡ Some beside in
    let last : List ℕ = 10 ∷ [] in
    let deep : length c.as_slice-depth.result.now ≡ length (still_around place c.args.around.now.items) =
    ap (λ (xs : List ℕ). length xs) (c.as_slice-depth.ensures.value ∙ c.forget_stopped.ensures) in
    record {
      found = found;
      beside = beside;
      at = subst N c.list-list.ensures.same c.node-node.ensures;
      text_at = subst T c.list-list.ensures.same c.text.ensures;
      around = c.in_ok-push.ensures.items ∙ ap (λ (xs : List ℕ). xs ++ found.stop ∷ []) c.forget_stopped.ensures;
      text =
          c.in_ok-push_node.ensures
          ∙ ap (λ (t : List ℕ). string_bytes c.args.text.now ++ t)
          (ap (λ (d : ℕ). listed_line c.schema-schema.result.now d found beside ++ last) deep
          ∙ ap (λ s. listed_line s (length (still_around place c.args.around.now.items)) found beside ++ last) c.schema-schema.ensures);
    }
