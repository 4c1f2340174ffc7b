use Rattle.std.proofs.Common.{refl}
use Rattle.sql_tree.specs.declared.json_path.Base.{Base}
use Rattle.sql_draft.proofs.PathsPut.{member_path_ok}
use Rattle.sql_draft.proofs.paths.put_member_path.Goals as goal

pub returns : goal.returns
returns c =
    member_path_ok c.args.draft.now c.add_path.new.self (record { base = Base.Member c.args.level; steps = c.new-steps.result }) c.args.level c.add_path.result refl c.new-steps.ensures.items c.add_path.ensures.ok
