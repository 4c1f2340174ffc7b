use Rattle.std.proofs.Common.{◌<◌, ℕ, subst, sym}
use Rattle.odata_typing.proofs.resolved_operands.Given.{put_kept}
use Rattle.odata_typing.proofs.binary_node.put_read.Goals as goal

pub put_nameless-requires : goal.put_nameless-requires
put_nameless-requires c =
    let kept = put_kept c.args.walk.now c.put_number.new.self c.args.literal _ c.put_number.result c.requires.literal c.put_number.ensures in
    subst (λ (count : ℕ). c.args.judged.now.number < count) (sym kept.count) c.requires.place
