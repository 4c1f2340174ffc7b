use Rattle.std.proofs.Common.{rules, ◌≡◌, ◌∙◌, ap, List, ◌∷◌, None, Some, string_bytes}
use Rattle.odata_syntax.specs.declared.node.Node.{All, Any, Binary, Call, Count, Has, InList, InPath, It, Lit, Member, Name, Neg, Not, the_lemmas}
use Rattle.odata_syntax.specs.declared.node.Quantifier.{Quantifier}
use Rattle.odata_syntax.specs.declared.normal_form.Task.TheVariants.{Items, Over}
use Rattle.odata_syntax.specs.Tree.{any_item, binary, call, count, has, in_list, in_path, it, lambda, literal, logical_not, member, name, negation, node}
use Rattle.odata_syntax.specs.TreeView.{tree_of, trees_of}
use Rattle.odata_syntax.specs.private.NormalForm.{Wanted, all_wanted, items, over, whole}
use Rattle.odata_syntax.proofs.normal_forms.Making.{put_task}
use Rattle.odata_syntax.proofs.printing.Appended.{on_ok}
use Rattle.odata_syntax.proofs.normal_form.begin.Goals as goal

pub returns-in-Lit : goal.returns-in-Lit
returns-in-Lit c =
    let pushed : all_wanted c.push.new.self.items ≡ over (tree_of c.args.node.now) ∷ all_wanted c.args.pending.now.items =
    put_task c.args.pending.now.items c.push.new.self.items (Over c.args.node) c.in_ok-push.ensures.items in
    let seen : tree_of (Lit c.in-Lit.span c.in-Lit.kind c.in-Lit.text) ≡ node c.in-Lit.span.start c.in-Lit.span.stop (literal c.in-Lit.kind (string_bytes c.in-Lit.text)) = search (rules, the_lemmas) in
    rw (c.in-Lit.is, seen) (rw (c.in-Lit.is, seen) at pushed)

pub returns-in-It : goal.returns-in-It
returns-in-It c =
    let pushed : all_wanted c.push.new.self.items ≡ over (tree_of c.args.node.now) ∷ all_wanted c.args.pending.now.items =
    put_task c.args.pending.now.items c.push.new.self.items (Over c.args.node) c.in_ok-push.ensures.items in
    let seen : tree_of (It c.in-It.span) ≡ node c.in-It.span.start c.in-It.span.stop (it) = search (rules, the_lemmas) in
    rw (c.in-It.is, seen) (rw (c.in-It.is, seen) at pushed)

pub returns-in-Name : goal.returns-in-Name
returns-in-Name c =
    let pushed : all_wanted c.push.new.self.items ≡ over (tree_of c.args.node.now) ∷ all_wanted c.args.pending.now.items =
    put_task c.args.pending.now.items c.push.new.self.items (Over c.args.node) c.in_ok-push.ensures.items in
    let seen : tree_of (Name c.in-Name.span c.in-Name.name) ≡ node c.in-Name.span.start c.in-Name.span.stop (name (string_bytes c.in-Name.name)) = search (rules, the_lemmas) in
    rw (c.in-Name.is, seen) (rw (c.in-Name.is, seen) at pushed)

pub returns-in-Member : goal.returns-in-Member
returns-in-Member c =
    let pushed : all_wanted c.push.new.self.items ≡ over (tree_of c.args.node.now) ∷ all_wanted c.args.pending.now.items =
    put_task c.args.pending.now.items c.push.new.self.items (Over c.args.node) c.in_ok-push.ensures.items in
    let seen : tree_of (Member c.in-Member.span c.in-Member.base c.in-Member.name) ≡ node c.in-Member.span.start c.in-Member.span.stop (member (tree_of c.in-Member.base.value) (string_bytes c.in-Member.name)) = search (rules, the_lemmas) in
    rw (c.in-Member.is, seen)
    (on_ok c.begin_one.result
    (λ first. first ∙ ap (λ (ws : List Wanted). whole (tree_of c.in-Member.base.value) ∷ ws) (rw (c.in-Member.is, seen) at pushed))
    (rw c.deref.ensures at c.begin_one.ensures))

pub returns-in-Count : goal.returns-in-Count
returns-in-Count c =
    let pushed : all_wanted c.push.new.self.items ≡ over (tree_of c.args.node.now) ∷ all_wanted c.args.pending.now.items =
    put_task c.args.pending.now.items c.push.new.self.items (Over c.args.node) c.in_ok-push.ensures.items in
    let seen : tree_of (Count c.in-Count.span c.in-Count.base) ≡ node c.in-Count.span.start c.in-Count.span.stop (count (tree_of c.in-Count.base.value)) = search (rules, the_lemmas) in
    rw (c.in-Count.is, seen)
    (on_ok c.begin_one-in-Count.result
    (λ first. first ∙ ap (λ (ws : List Wanted). whole (tree_of c.in-Count.base.value) ∷ ws) (rw (c.in-Count.is, seen) at pushed))
    (rw c.deref-in-Count.ensures at c.begin_one-in-Count.ensures))

pub returns-in-Neg : goal.returns-in-Neg
returns-in-Neg c =
    let pushed : all_wanted c.push.new.self.items ≡ over (tree_of c.args.node.now) ∷ all_wanted c.args.pending.now.items =
    put_task c.args.pending.now.items c.push.new.self.items (Over c.args.node) c.in_ok-push.ensures.items in
    let seen : tree_of (Neg c.in-Neg.span c.in-Neg.operand) ≡ node c.in-Neg.span.start c.in-Neg.span.stop (negation (tree_of c.in-Neg.operand.value)) = search (rules, the_lemmas) in
    rw (c.in-Neg.is, seen)
    (on_ok c.begin_one-in-Neg.result
    (λ first. first ∙ ap (λ (ws : List Wanted). whole (tree_of c.in-Neg.operand.value) ∷ ws) (rw (c.in-Neg.is, seen) at pushed))
    (rw c.deref-in-Neg.ensures at c.begin_one-in-Neg.ensures))

pub returns-in-Not : goal.returns-in-Not
returns-in-Not c =
    let pushed : all_wanted c.push.new.self.items ≡ over (tree_of c.args.node.now) ∷ all_wanted c.args.pending.now.items =
    put_task c.args.pending.now.items c.push.new.self.items (Over c.args.node) c.in_ok-push.ensures.items in
    let seen : tree_of (Not c.in-Not.span c.in-Not.operand) ≡ node c.in-Not.span.start c.in-Not.span.stop (logical_not (tree_of c.in-Not.operand.value)) = search (rules, the_lemmas) in
    rw (c.in-Not.is, seen)
    (on_ok c.begin_one-in-Not.result
    (λ first. first ∙ ap (λ (ws : List Wanted). whole (tree_of c.in-Not.operand.value) ∷ ws) (rw (c.in-Not.is, seen) at pushed))
    (rw c.deref-in-Not.ensures at c.begin_one-in-Not.ensures))

pub returns-in_ok-begin_one-in-Binary : goal.returns-in_ok-begin_one-in-Binary
returns-in_ok-begin_one-in-Binary c =
    let pushed : all_wanted c.push.new.self.items ≡ over (tree_of c.args.node.now) ∷ all_wanted c.args.pending.now.items =
    put_task c.args.pending.now.items c.push.new.self.items (Over c.args.node) c.in_ok-push.ensures.items in
    let seen : tree_of (Binary c.in-Binary.span c.in-Binary.operator c.in-Binary.left c.in-Binary.right) ≡ node c.in-Binary.span.start c.in-Binary.span.stop (binary c.in-Binary.operator (tree_of c.in-Binary.left.value) (tree_of c.in-Binary.right.value)) = search (rules, the_lemmas) in
    let second = rw c.deref-in-Binary.ensures at c.in_ok-begin_one-in-Binary.ensures in
    rw (c.in-Binary.is, seen)
    (on_ok c.begin_one-in-Binary-2.result
    (λ first. first ∙ ap (λ (ws : List Wanted). whole (tree_of c.in-Binary.left.value) ∷ ws)
    (second ∙ ap (λ (ws : List Wanted). whole (tree_of c.in-Binary.right.value) ∷ ws) (rw (c.in-Binary.is, seen) at pushed)))
    (rw c.deref-in-Binary-2.ensures at c.begin_one-in-Binary-2.ensures))

pub returns-in_ok-begin_one-in-Has : goal.returns-in_ok-begin_one-in-Has
returns-in_ok-begin_one-in-Has c =
    let pushed : all_wanted c.push.new.self.items ≡ over (tree_of c.args.node.now) ∷ all_wanted c.args.pending.now.items =
    put_task c.args.pending.now.items c.push.new.self.items (Over c.args.node) c.in_ok-push.ensures.items in
    let seen : tree_of (Has c.in-Has.span c.in-Has.left c.in-Has.right) ≡ node c.in-Has.span.start c.in-Has.span.stop (has (tree_of c.in-Has.left.value) (tree_of c.in-Has.right.value)) = search (rules, the_lemmas) in
    let second = rw c.deref-in-Has.ensures at c.in_ok-begin_one-in-Has.ensures in
    rw (c.in-Has.is, seen)
    (on_ok c.begin_one-in-Has-2.result
    (λ first. first ∙ ap (λ (ws : List Wanted). whole (tree_of c.in-Has.left.value) ∷ ws)
    (second ∙ ap (λ (ws : List Wanted). whole (tree_of c.in-Has.right.value) ∷ ws) (rw (c.in-Has.is, seen) at pushed)))
    (rw c.deref-in-Has-2.ensures at c.begin_one-in-Has-2.ensures))

pub returns-in_ok-begin_one-in-InPath : goal.returns-in_ok-begin_one-in-InPath
returns-in_ok-begin_one-in-InPath c =
    let pushed : all_wanted c.push.new.self.items ≡ over (tree_of c.args.node.now) ∷ all_wanted c.args.pending.now.items =
    put_task c.args.pending.now.items c.push.new.self.items (Over c.args.node) c.in_ok-push.ensures.items in
    let seen : tree_of (InPath c.in-InPath.span c.in-InPath.left c.in-InPath.path) ≡ node c.in-InPath.span.start c.in-InPath.span.stop (in_path (tree_of c.in-InPath.left.value) (tree_of c.in-InPath.path.value)) = search (rules, the_lemmas) in
    let second = rw c.deref-in-InPath.ensures at c.in_ok-begin_one-in-InPath.ensures in
    rw (c.in-InPath.is, seen)
    (on_ok c.begin_one-in-InPath-2.result
    (λ first. first ∙ ap (λ (ws : List Wanted). whole (tree_of c.in-InPath.left.value) ∷ ws)
    (second ∙ ap (λ (ws : List Wanted). whole (tree_of c.in-InPath.path.value) ∷ ws) (rw (c.in-InPath.is, seen) at pushed)))
    (rw c.deref-in-InPath-2.ensures at c.begin_one-in-InPath-2.ensures))

pub returns-in_ok-push-in-InList : goal.returns-in_ok-push-in-InList
returns-in_ok-push-in-InList c =
    let pushed : all_wanted c.push.new.self.items ≡ over (tree_of c.args.node.now) ∷ all_wanted c.args.pending.now.items =
    put_task c.args.pending.now.items c.push.new.self.items (Over c.args.node) c.in_ok-push.ensures.items in
    let listed : all_wanted c.push-in-InList.new.self.items ≡ items (trees_of c.in-InList.items.items) ∷ all_wanted c.push.new.self.items =
    rw c.deref-in-InList.ensures.value at (put_task c.push.new.self.items c.push-in-InList.new.self.items (Items c.deref-in-InList.result) c.in_ok-push-in-InList.ensures.items) in
    let seen : tree_of (InList c.in-InList.span c.in-InList.left c.in-InList.items) ≡ node c.in-InList.span.start c.in-InList.span.stop (in_list (tree_of c.in-InList.left.value) (trees_of c.in-InList.items.items)) = search (rules, the_lemmas) in
    rw (c.in-InList.is, seen)
    (on_ok c.begin_one-in-InList.result
    (λ first. first ∙ ap (λ (ws : List Wanted). whole (tree_of c.in-InList.left.value) ∷ ws)
    (listed ∙ ap (λ (ws : List Wanted). items (trees_of c.in-InList.items.items) ∷ ws) (rw (c.in-InList.is, seen) at pushed)))
    (rw c.deref-in-InList-2.ensures at c.begin_one-in-InList.ensures))

pub returns-in_ok-push-in-Call : goal.returns-in_ok-push-in-Call
returns-in_ok-push-in-Call c =
    let pushed : all_wanted c.push.new.self.items ≡ over (tree_of c.args.node.now) ∷ all_wanted c.args.pending.now.items =
    put_task c.args.pending.now.items c.push.new.self.items (Over c.args.node) c.in_ok-push.ensures.items in
    let listed : all_wanted c.push-in-Call.new.self.items ≡ items (trees_of c.in-Call.arguments.items) ∷ all_wanted c.push.new.self.items =
    rw c.deref-in-Call.ensures.value at (put_task c.push.new.self.items c.push-in-Call.new.self.items (Items c.deref-in-Call.result) c.in_ok-push-in-Call.ensures.items) in
    let seen : tree_of (Call c.in-Call.span c.in-Call.name c.in-Call.arguments) ≡ node c.in-Call.span.start c.in-Call.span.stop (call (string_bytes c.in-Call.name) (trees_of c.in-Call.arguments.items)) = search (rules, the_lemmas) in
    rw (c.in-Call.is, seen)
    (listed ∙ ap (λ (ws : List Wanted). items (trees_of c.in-Call.arguments.items) ∷ ws) (rw (c.in-Call.is, seen) at pushed))

pub returns-in-None : goal.returns-in-None
returns-in-None c =
    let pushed : all_wanted c.push.new.self.items ≡ over (tree_of c.args.node.now) ∷ all_wanted c.args.pending.now.items =
    put_task c.args.pending.now.items c.push.new.self.items (Over c.args.node) c.in_ok-push.ensures.items in
    let seen : tree_of (Any c.in-Any.span c.in-Any.base None) ≡ node c.in-Any.span.start c.in-Any.span.stop (any_item (tree_of c.in-Any.base.value)) = search (rules, the_lemmas) in
    rw (c.in-Any.is, c.in-None.is, seen)
    (on_ok c.begin_one-in-None.result
    (λ first. first ∙ ap (λ (ws : List Wanted). whole (tree_of c.in-Any.base.value) ∷ ws) (rw (c.in-Any.is, c.in-None.is, seen) at pushed))
    (rw c.deref-in-None.ensures at c.begin_one-in-None.ensures))

pub returns-in_ok-begin_one-in-Some : goal.returns-in_ok-begin_one-in-Some
returns-in_ok-begin_one-in-Some c =
    let pushed : all_wanted c.push.new.self.items ≡ over (tree_of c.args.node.now) ∷ all_wanted c.args.pending.now.items =
    put_task c.args.pending.now.items c.push.new.self.items (Over c.args.node) c.in_ok-push.ensures.items in
    let seen : tree_of (Any c.in-Any.span c.in-Any.base (Some (c.in-Some._variable, c.in-Some.body))) ≡ node c.in-Any.span.start c.in-Any.span.stop (lambda Quantifier.Any (tree_of c.in-Any.base.value) (string_bytes c.in-Some._variable) (tree_of c.in-Some.body.value)) = search (rules, the_lemmas) in
    let second = rw c.deref-in-Some.ensures at c.in_ok-begin_one-in-Some.ensures in
    rw (c.in-Any.is, c.in-Some.is, seen)
    (on_ok c.begin_one-in-Some-2.result
    (λ first. first ∙ ap (λ (ws : List Wanted). whole (tree_of c.in-Any.base.value) ∷ ws)
    (second ∙ ap (λ (ws : List Wanted). whole (tree_of c.in-Some.body.value) ∷ ws) (rw (c.in-Any.is, c.in-Some.is, seen) at pushed)))
    (rw c.deref-in-Some-2.ensures at c.begin_one-in-Some-2.ensures))

pub returns-in_ok-begin_one-in-All : goal.returns-in_ok-begin_one-in-All
returns-in_ok-begin_one-in-All c =
    let pushed : all_wanted c.push.new.self.items ≡ over (tree_of c.args.node.now) ∷ all_wanted c.args.pending.now.items =
    put_task c.args.pending.now.items c.push.new.self.items (Over c.args.node) c.in_ok-push.ensures.items in
    let seen : tree_of (All c.in-All.span c.in-All.base c.in-All.variable c.in-All.body) ≡ node c.in-All.span.start c.in-All.span.stop (lambda Quantifier.All (tree_of c.in-All.base.value) (string_bytes c.in-All.variable) (tree_of c.in-All.body.value)) = search (rules, the_lemmas) in
    let second = rw c.deref-in-All.ensures at c.in_ok-begin_one-in-All.ensures in
    rw (c.in-All.is, seen)
    (on_ok c.begin_one-in-All-2.result
    (λ first. first ∙ ap (λ (ws : List Wanted). whole (tree_of c.in-All.base.value) ∷ ws)
    (second ∙ ap (λ (ws : List Wanted). whole (tree_of c.in-All.body.value) ∷ ws) (rw (c.in-All.is, seen) at pushed)))
    (rw c.deref-in-All-2.ensures at c.begin_one-in-All-2.ensures))
