-- The lines of the nodes up to an index.
use Rattle.std.proofs.Common.{◌≡◌, refl, sym, ap, ◌∙◌, subst, inl, inr, ℕ, zero, suc, ◌+◌, List, [], ◌∷◌, ◌++◌, Some, append-nil, append_assoc, drop, length, length-append, slice_get, arith}
use Rattle.std.specs.List.{flat_map}
use Rattle.std.proofs.lemmas.List.{drop_all, flat_map_more}
use Rattle.std.proofs.lemmas.Option.{none-some}
use Rattle.odata_syntax.specs.Tree.{Tree, node, shape_of}
use Rattle.csdl_schema.specs.SchemaModel.{SchemaModel, slots_of, type_name_at}
use Rattle.odata_checked_filter.specs.declared.checked_node.CheckedNode.{CheckedNode}
use Rattle.odata_checked_filter.specs.Depths.{depths}
use Rattle.odata_checked_filter.specs.Explanation.{IsExplanation, IsNodeLine, node_label, node_line}
use Rattle.odata_checked_filter.specs.Filter.{Filter, IsFilter, tree_of_filter}
use Rattle.odata_signatures.specs.PreOrder.{span_of_tree}
use Rattle.odata_checked_filter.specs.private.Layout.{Lies}
use Rattle.odata_checked_filter.specs.Stands.{text_of_shape, variable_names}
use Rattle.odata_signatures.specs.Typed.{Scope}
use Rattle.odata_checked_filter.specs.private.Explanation.{IsLinePut, kind_label, listed_line, still_around}
use Rattle.odata_checked_filter.proofs.flat.KindForms.{form_there}
use Rattle.odata_checked_filter.proofs.flat.Lying.{filter_lies}
use Rattle.odata_checked_filter.proofs.flat.Numbered.{IsNumbered, count_of, numbered, type_at}
use Rattle.odata_checked_filter.proofs.flat.Places.{drop_at, get_front, get_last, get_parts, same_found}
use Rattle.odata_checked_filter.proofs.explained.Depths.{reported_depths, tree_reported}
use Rattle.odata_checked_filter.proofs.explained.Labels.{label_reported}

-- the lines of the nodes before an index are the text, and the depths of the others are still to be reported
pub record IsReported (filter : Filter) (place : ℕ) (stops text : List ℕ) : Type 0 where
  pub lines : List (List ℕ)
  pub as_many : length lines ≡ place
  pub each : (k : ℕ) (line : List ℕ) → slice_get lines k ≡ Some line → IsNodeLine filter k line
  pub whole : text ≡ flat_map (λ line. line ++ 10 ∷ []) lines
  pub done : List ℕ
  pub of_each : length done ≡ place
  pub deep : depths 0 (tree_of_filter filter) ≡ done ++ reported_depths place (drop place filter.list.nodes) stops

pub begun : (filter : Filter) (text : List ℕ) → IsFilter filter → text ≡ [] → IsReported filter 0 [] text
begun filter text is empty =
    let nodes = filter.list.nodes in
    let tree = tree_of_filter filter in
    let reported = tree_reported tree filter.list 0 (length nodes) []
    (record { schema = filter.schema; filtered = filter.filtered; scope = []; stands = filter_lies filter is }) tt in
    let none : reported_depths (length nodes) (drop (length nodes) nodes) [] ≡ [] =
    ap (λ (rest : List CheckedNode). reported_depths (length nodes) rest []) (drop_all (length nodes) nodes (omega arith)) in
    record {
      lines = [];
      as_many = refl;
      each = λ k line found. absurd (none-some line found);
      whole = empty;
      done = [];
      of_each = refl;
      deep = sym (reported ∙ ap (λ (xs : List ℕ). depths 0 tree ++ xs) none ∙ append-nil (depths 0 tree));
    }

-- what a node of the list is called
called :
    (filter : Filter) (scope : Scope) (k j : ℕ) (tree : Tree) (found : CheckedNode) (beside : List ℕ)
    → Lies filter.schema filter.filtered scope filter.list k j tree → slice_get filter.list.nodes k ≡ Some found
    → slice_get filter.list.texts k ≡ Some beside
    → kind_label found.kind beside ≡ node_label (variable_names scope) (shape_of tree)
called filter scope k j (node start stop shape) found beside stands here text =
    let spelled : text_of_shape shape ≡ beside = same_found (slice_get filter.list.texts k) (text_of_shape shape) beside stands.top.text_at text in
    sym (ap (kind_label found.kind) spelled)
    ∙ label_reported (slots_of filter.schema) (type_name_at filter.schema filter.filtered) scope shape found.kind
    (form_there filter.schema filter.filtered scope filter.list k j start stop shape found stands here)

-- its line
line_same :
    (schema : SchemaModel) (depth : ℕ) (found : CheckedNode) (beside : List ℕ) (part : Tree) (variables : List (List ℕ))
    → found.span ≡ span_of_tree part → kind_label found.kind beside ≡ node_label variables (shape_of part)
    → listed_line schema depth found beside ≡ node_line schema depth (record { variables = variables; part = part }) found.edm_type
line_same schema depth found beside part variables span label = rw (span, label) refl

-- the last line is that of the node at the index
each_more :
    (filter : Filter) (lines : List (List ℕ)) (line : List ℕ) (place k : ℕ) (other : List ℕ)
    → length lines ≡ place → ((i : ℕ) (l : List ℕ) → slice_get lines i ≡ Some l → IsNodeLine filter i l)
    → IsNodeLine filter place line → slice_get (lines ++ line ∷ []) k ≡ Some other → IsNodeLine filter k other
each_more filter lines line place k other many each last found =
    elim (get_parts lines (line ∷ []) k other found) [
      | inl h ↦ each k other h
      | inr h ↦ at_end h.0 h.1.0 h.1.1
    ]
  where
    at_end : (j : ℕ) → k ≡ length lines + j → slice_get (line ∷ []) j ≡ Some other → IsNodeLine filter k other
    at_end zero past is =
        let same : line ≡ other = cc is in
        let here : place ≡ k = omega arith in
        subst (λ (i : ℕ). IsNodeLine filter i other) here (subst (IsNodeLine filter place) same last)
    at_end (suc j) past is = absurd (none-some other is)

-- one more line was put after the others
pub one_reported :
    (filter : Filter) (place : ℕ) (stops stops' text text' : List ℕ)
    → IsFilter filter → IsReported filter place stops text
    → IsLinePut filter.schema filter.list place stops stops' text text' → IsReported filter (place + 1) stops' text'
one_reported filter place stops stops' text text' is reported put =
    let nodes = filter.list.nodes in
    let tree = tree_of_filter filter in
    let around = still_around place stops in
    let found = put.found in
    let n : IsNumbered filter place found = numbered filter place found is put.at in
    let line = listed_line filter.schema (length around) found put.beside in
    let lined : List ℕ → List ℕ = λ (l : List ℕ). l ++ 10 ∷ [] in
    let label = called filter n.scope place n.stop n.part found put.beside n.stands put.at put.text_at in
    let rest = reported_depths (place + 1) (drop (place + 1) nodes) (around ++ found.stop ∷ []) in
    let deep : depths 0 tree ≡ (reported.done ++ length around ∷ []) ++ rest =
    reported.deep
    ∙ ap (λ (xs : List CheckedNode). reported.done ++ reported_depths place xs stops) (drop_at nodes place found put.at)
    ∙ sym (append_assoc reported.done (length around ∷ []) rest) in
    let here : slice_get (depths 0 tree) place ≡ Some (length around) =
    ap (λ (xs : List ℕ). slice_get xs place) deep
    ∙ get_front (reported.done ++ length around ∷ []) rest place (length around) (get_last reported.done place (length around) (sym reported.of_each)) in
    let node : IsNodeLine filter place line = record {
      at = record { variables = variable_names n.scope; part = n.part };
      depth = length around;
      type_of = found.edm_type;
      numbered = n.scoped;
      deep = here;
      typed = type_at filter place found n;
      spelled = line_same filter.schema (length around) found put.beside n.part (variable_names n.scope) n.says.span label;
    } in
    record {
      lines = reported.lines ++ line ∷ [];
      as_many = length-append reported.lines (line ∷ []) ∙ ap (λ (k : ℕ). k + 1) reported.as_many;
      each = λ k other at. each_more filter reported.lines line place k other reported.as_many reported.each node at;
      whole =
          put.text
          ∙ ap (λ (t : List ℕ). t ++ lined line) reported.whole
          ∙ flat_map_more lined [] reported.lines line;
      done = reported.done ++ length around ∷ [];
      of_each = length-append reported.done (length around ∷ []) ∙ ap (λ (k : ℕ). k + 1) reported.of_each;
      deep = deep ∙ ap (λ (xs : List ℕ). (reported.done ++ length around ∷ []) ++ reported_depths (place + 1) (drop (place + 1) nodes) xs) (sym put.around);
    }

-- where each node has its line, the filter is explained
pub all_reported :
    (filter : Filter) (place : ℕ) (stops text : List ℕ)
    → IsFilter filter → place ≡ length filter.list.nodes → IsReported filter place stops text
    → IsExplanation filter text
all_reported filter place stops text is all reported = record {
  lines = reported.lines;
  as_many = reported.as_many ∙ all ∙ count_of filter is;
  each = reported.each;
  whole = reported.whole;
}

-- the parts of a line, one after another
pub line_joined :
    (before indent span label type : List ℕ)
    → ((((before ++ indent) ++ span) ++ (32 ∷ (label ++ 32 ∷ []))) ++ type) ++ 10 ∷ []
    ≡ before ++ ((indent ++ (span ++ (32 ∷ (label ++ (32 ∷ type))))) ++ 10 ∷ [])
line_joined before indent span label type = simp append_assoc

pub collection_joined : (before word name last : List ℕ) → ((before ++ word) ++ name) ++ last ≡ before ++ (word ++ (name ++ last))
collection_joined before word name last = simp append_assoc
