use Rattle.std.proofs.Common.{◌+◌, ℕ, arith, refl}
use Rattle.odata_syntax.specs.declared.node_places.Place.{Place}
use Rattle.odata_syntax.specs.declared.syntax_list.SyntaxNode.{SyntaxNode}
use Rattle.odata_syntax.proofs.numbering.Nodes.{begun_fits, begun_nodes, unplaced_begun}
use Rattle.odata_syntax.proofs.node_places.begin.Goals as goal

-- the place that is put
abbrev put : ℕ → Place
put first = record { number = 0; first = first; lambda = 0 }

-- a place that begins one more tree
abbrev more : SyntaxNode → Place
more n = record { number = n.place.number + 1; first = n.place.first; lambda = n.place.lambda }

pub overflow_add-index_mut : goal.overflow_add-index_mut
overflow_add-index_mut c =
    let fits = begun_fits c.args.nodes.now.items c.args.index c.args.first c.index_mut.result.now c.index_mut-2.result.now (put c.args.first) c.requires.inside c.requires.order refl
    c.index_mut-2.ensures.value c.requires.few in
    omega (arith, fits, c.requires.inside, c.args.nodes.now.ok, c.args.nodes.now.small)

pub returns-clause-begun : goal.returns-clause-begun
returns-clause-begun c =
    begun_nodes c.args.nodes.now.items c.args.index c.args.first c.index_mut.result.now c.index_mut-2.result.now (put c.args.first) (more c.index_mut-2.result.now) c.requires.inside c.requires.order
    refl refl refl c.index_mut-2.ensures.value refl refl refl

pub returns-clause-same : goal.returns-clause-same
returns-clause-same c =
    unplaced_begun c.args.nodes.now.items c.args.index c.args.first c.index_mut.result.now c.index_mut-2.result.now (put c.args.first) (more c.index_mut-2.result.now)
    c.index_mut.ensures.value c.index_mut-2.ensures.value
