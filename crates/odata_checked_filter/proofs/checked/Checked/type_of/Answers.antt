use Rattle.std.proofs.Common.{◌≡◌, refl, sym, ◌<◌, ◌≤◌, length, arith}
use Rattle.odata_checked_filter.specs.Filter.{tree_of_filter}
use Rattle.odata_signatures.specs.PreOrder.{pre_order}
use Rattle.odata_checked_filter.proofs.flat.Numbered.{count_of, numbered, past_end, type_at}
use Rattle.odata_checked_filter.proofs.flat.Places.{found_before}
use Rattle.odata_checked_filter.proofs.checked.Checked.type_of.Goals as goal

pub returns-in-Some-clause-inside : goal.returns-in-Some-clause-inside
returns-in-Some-clause-inside c =
    let count : length c.args.self.now.list.nodes ≡ length (pre_order (tree_of_filter c.args.self.now)) = count_of c.args.self.now c.node_at.ensures.right in
    let within : c.args.node < length c.args.self.now.list.nodes = found_before c.args.self.now.list.nodes c.args.node c.in-Some.found.now (sym c.in-Some.ensures.same) in
    (λ _. omega arith, λ _. refl)

pub returns-in-Some-clause-typed : goal.returns-in-Some-clause-typed
returns-in-Some-clause-typed c =
    type_at c.args.self.now c.args.node c.in-Some.found.now (numbered c.args.self.now c.args.node c.in-Some.found.now c.node_at.ensures.right (sym c.in-Some.ensures.same))

pub returns-in-None-clause-inside : goal.returns-in-None-clause-inside
returns-in-None-clause-inside c =
    let count : length c.args.self.now.list.nodes ≡ length (pre_order (tree_of_filter c.args.self.now)) = count_of c.args.self.now c.node_at.ensures.right in
    let past : length c.args.self.now.list.nodes ≤ c.args.node = past_end c.args.self.now.list.nodes c.args.node c.in-None.ensures.same in
    (λ no. cc, λ below. let h : c.args.node < length (pre_order (tree_of_filter c.args.self.now)) = below in absurd (omega arith))
