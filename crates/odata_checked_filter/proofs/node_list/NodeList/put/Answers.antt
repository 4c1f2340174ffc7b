use Rattle.std.proofs.Common.{◌∙◌, ap, List, ℕ, slice_set}
use Rattle.std.proofs.lemmas.List.{map-set}
use Rattle.std.specs.Prelude.{string_bytes}
use Rattle.odata_syntax.specs.TextTree.{text_in}
use Rattle.odata_checked_filter.specs.FlatTree.{FlatTree}
use Rattle.odata_checked_filter.specs.ListChanges.{node_put}
use Rattle.odata_checked_filter.proofs.node_list.NodeList.put.Goals as goal

pub returns : goal.returns
returns c =
    let source : List ℕ = string_bytes c.self.inside.source in
    ap (λ (texts : List (List ℕ)). record {
      nodes = slice_set c.self.inside.nodes.items c.args.place c.args.node;
      values = c.self.inside.values.items;
      texts = texts;
      source = source;
    }) (map-set (text_in source) c.self.inside.texts.items c.args.place c.args.text)
    ∙ ap (λ (list : FlatTree). node_put list c.args.place c.args.node (text_in list.source c.args.text)) c.self.view_is
