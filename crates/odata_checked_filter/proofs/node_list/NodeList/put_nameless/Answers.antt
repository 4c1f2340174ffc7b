use Rattle.std.proofs.Common.{◌∙◌, ap, sym, List, ℕ, zero, suc, [], ◌∷◌, IsUtf8, arith, length-set, slice_set}
use Rattle.std.proofs.lemmas.List.{map-set}
use Rattle.std.proofs.lemmas.Str.{IsCharBoundary-start, IsUtf8-string_bytes}
use Rattle.std.specs.Prelude.{string_bytes}
use Rattle.std.specs.List.{AllByRecursion}
use Rattle.odata_text.specs.declared.span.Span.{Span}
use Rattle.odata_syntax.specs.TextTree.{IsTextRange, text_in}
use Rattle.odata_checked_filter.specs.FlatTree.{FlatTree}
use Rattle.odata_checked_filter.specs.ListChanges.{node_put}
use Rattle.odata_checked_filter.proofs.node_list.NodeList.put_nameless.Goals as goal

all_set : (P : Span → Type 0) (ranges : List Span) (place : ℕ) (range : Span) → P range → AllByRecursion P ranges → AllByRecursion P (slice_set ranges place range)
all_set P [] place range holds all = tt
all_set P (r ∷ ranges) zero range holds all = (holds, all.1)
all_set P (r ∷ ranges) (suc place) range holds all = (all.0, all_set P ranges place range holds all.1)

abbrev nowhere : Span
nowhere = record { start = 0; stop = 0 }

nowhere_in : (source : List ℕ) → IsUtf8 source → IsTextRange source nowhere
nowhere_in source utf8 = record { order = omega arith; begins = IsCharBoundary-start source utf8; ends = IsCharBoundary-start source utf8 }

pub invariant_of-self : goal.invariant_of-self
invariant_of-self c =
    let source : List ℕ = string_bytes c.self.inside.source in
    record {
      beside = length-set c.self.inside.nodes.items c.args.place c.args.node ∙ c.self.invariant.beside ∙ sym (length-set c.self.inside.texts.items c.args.place nowhere);
      inside = all_set (IsTextRange source) c.self.inside.texts.items c.args.place nowhere (nowhere_in source (IsUtf8-string_bytes c.self.inside.source)) c.self.invariant.inside;
    }

pub returns : goal.returns
returns c =
    let source : List ℕ = string_bytes c.self.inside.source in
    ap (λ (texts : List (List ℕ)). record {
      nodes = slice_set c.self.inside.nodes.items c.args.place c.args.node;
      values = c.self.inside.values.items;
      texts = texts;
      source = source;
    }) (map-set (text_in source) c.self.inside.texts.items c.args.place nowhere)
    ∙ ap (λ (list : FlatTree). node_put list c.args.place c.args.node []) c.self.view_is
