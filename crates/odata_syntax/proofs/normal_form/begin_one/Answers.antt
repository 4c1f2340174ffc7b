use Rattle.odata_syntax.specs.declared.normal_form.Task.TheVariants.{Whole}
use Rattle.odata_syntax.proofs.normal_forms.Making.{put_task}
use Rattle.odata_syntax.proofs.normal_form.begin_one.Goals as goal

pub returns : goal.returns
returns c = put_task c.args.pending.now.items c.push.new.self.items (Whole c.args.node) c.in_ok-push.ensures.items
