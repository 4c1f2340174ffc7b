use Rattle.std.proofs.Common.{[], ◌∷◌, OnErr}
use Rattle.std.proofs.KnownBytes.{Appends-trans}
use Rattle.line_filter.proofs.WriteLaws.HeldBack.{OnErr-from, OnErr-map, OnOk-map, WritesFront-after, WritesFront-longer}
use Rattle.line_filter.proofs.output.write_line.Goals as goal

pub returns-in_err-write_out-clause-err : goal.returns-in_err-write_out-clause-err
returns-in_err-write_out-clause-err g c =
    OnErr-from c.from_residual.result _ (WritesFront-longer _ _ c.args.line.now (10 ∷ []) c.in_err-write_out.ensures.err)

pub returns-clause-ok : goal.returns-clause-ok
returns-clause-ok g c =
    OnOk-map c.write_out-2.result _ _ (Appends-trans _ _ _ c.args.line.now (10 ∷ []) c.in_ok-write_out.ensures.ok) c.write_out-2.ensures.ok

pub returns-clause-err : goal.returns-clause-err
returns-clause-err g c =
    OnErr-map c.write_out-2.result _ _ (WritesFront-after _ _ _ c.args.line.now (10 ∷ []) c.in_ok-write_out.ensures.ok) c.write_out-2.ensures.err
