use Rattle.std.proofs.Common.{◌≡◌, ◌+◌, ◌-◌, ◌<◌, ◌∷◌, ◌∙◌, sym, ap, subst, drop, length, arith}
use Rattle.csdl_declarations.specs.Declarations.{in_name_order, put_type}
use Rattle.csdl_declarations.specs.private.DocumentView.{declaration_view, declarations_of, types_of, AreNamed}
use Rattle.csdl_declarations.proofs.Reading.{at_index, named_put, types_put}
use Rattle.csdl_declarations.proofs.read_types.in_name_order.Goals as goal

pub loop-index-preserved : goal.loop-index-preserved
loop-index-preserved c =
    let ds = c.args.declarations.now in
    let p = c.loop-index.index in
    let es = c.loop-index.ordered.entries in
    let t = c.index-declarations-index.result in
    let k = c.in_ok-name.name in
    let past : p - 1 + 1 ≡ p = omega arith in
    let within : p - 1 < length ds = omega (arith, c.loop-index.invariant.within) in
    let step : drop (p - 1) ds ≡ t ∷ drop p ds = at_index ds (p - 1) t within c.index-declarations-index.is ∙ ap (λ n. t ∷ drop n ds) past in
    record {
      within = omega (arith, c.loop-index.invariant.within);
      named = subst AreNamed (sym c.in_ok-insert.ensures.entries) (named_put es k _ c.in_ok-name.ensures c.loop-index.invariant.named);
      ordered = c.in_ok-insert.ensures.ordered;
      types =
          ap types_of c.in_ok-insert.ensures.entries
          ∙ types_put es k _ c.in_ok-name.ensures c.loop-index.invariant.named
          ∙ ap (put_type (declaration_view t)) c.loop-index.invariant.types
          ∙ ap (λ rest. in_name_order (declarations_of rest)) (sym step);
    }
