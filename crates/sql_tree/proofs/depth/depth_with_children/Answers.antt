use Rattle.std.proofs.Common.{◌≡◌, ◌∙◌, ◌<◌, ◌+◌, ◌-◌, ◌^◌, ℕ, reverse, sym, ap, subst, arith}
use Rattle.std.specs.Prelude.{min}
use Rattle.sql_tree.specs.ParserDepth.{kept_symbols}
use Rattle.sql_tree.specs.TreeText.{count_of}
use Rattle.sql_tree.proofs.Deepest.{IsPartway, all_done, none_done, one_done}
use Rattle.sql_tree.proofs.depth.depth_with_children.Goals as goal

pub loop-done-init : goal.loop-done-init
loop-done-init c = λ table paths children rest whole are.
    subst (λ (n : ℕ). IsPartway c.args.node children rest 0 n (reverse c.args.depths.now.items)) (sym c.own_symbols-deepest.ensures) (none_done c.args.node children rest (reverse c.args.depths.now.items) are)

pub loop-done-preserved : goal.loop-done-preserved
loop-done-preserved c = λ table paths children rest whole are.
    let many = whole.0 in
    let arity = c.arity_of-done-end.ensures table paths whole.2 (omega (arith, many)) in
    let below = c.loop-done-test.true in
    let within : c.loop-done.done < count_of children = omega (arith, many, arity, below) in
    let kept : c.kept_symbols.result ≡ kept_symbols c.args.node c.loop-done.done = c.kept_symbols.ensures in
    let sum : c.saturating_add.result ≡ min (kept_symbols c.args.node c.loop-done.done + c.take_depth-depth.result) (2 ^ 64 - 1) = c.saturating_add.ensures ∙ ap (λ (n : ℕ). min (n + c.take_depth-depth.result) (2 ^ 64 - 1)) kept in
    subst (λ (n : ℕ). IsPartway c.args.node children rest (c.loop-done.done + 1) n (reverse c.take_depth-depth.new.depths.items)) (sym c.max-deepest.ensures)
    (one_done c.args.node children rest c.loop-done.done c.loop-done.deepest c.take_depth-depth.result c.saturating_add.result within sum (reverse c.loop-done.depths.items) (reverse c.take_depth-depth.new.depths.items)
    c.take_depth-depth.ensures (c.loop-done.invariant table paths children rest whole are))

pub returns : goal.returns
returns c = λ table paths children rest whole are.
    let many = whole.0 in
    let arity = c.arity_of-done-end.ensures table paths whole.2 (omega (arith, many)) in
    let past = c.loop-done-test.false in
    all_done c.args.node children rest c.loop-done.done c.loop-done.deepest (reverse c.loop-done.depths.items) (omega (arith, many, arity, past)) (c.loop-done.invariant table paths children rest whole are)
