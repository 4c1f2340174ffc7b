use Rattle.std.proofs.Common.{◌≡◌, [], ◌∷◌, ◌++◌, subst, rules}
use Rattle.std.specs.Io.KnownBytes.{Appends}
use Rattle.std.proofs.KnownBytes.{Appends-trans}
use Rattle.line_filter.specs.Growth.{WritesFront}
use Rattle.line_filter.specs.private.HeldBack.{WritesBut}
use Rattle.line_filter.proofs.WriteLaws.HeldBack.{OnErr-from, OnErr-map, OnOk-map, WritesFront-after, WritesFront-longer, WritesBut-all}
use Rattle.line_filter.proofs.output.keep.Goals as goal

pub returns-in-Ok-clause-ok : goal.returns-in-Ok-clause-ok
returns-in-Ok-clause-ok g c =
    let put : c.put_line.new.out.items ≡ c.args.held.now.items ++ (c.args.line.now ++ 10 ∷ []) = search rules in
    OnOk-map c.release_full.result _ _ (subst (WritesBut _ _ _) put) c.release_full.ensures.ok

pub returns-in-Ok-clause-err : goal.returns-in-Ok-clause-err
returns-in-Ok-clause-err g c =
    let put : c.put_line.new.out.items ≡ c.args.held.now.items ++ (c.args.line.now ++ 10 ∷ []) = search rules in
    OnErr-map c.release_full.result _ _ (subst (WritesFront _ _) put) c.release_full.ensures.err

pub returns-in_err-release-in-Err-clause-err : goal.returns-in_err-release-in-Err-clause-err
returns-in_err-release-in-Err-clause-err g c =
    let same : c.put_line.new.out.items ≡ c.args.held.now.items = search rules in
    let failed : WritesFront (g.T.Writes.contents c.args.out.now) (g.T.Writes.contents c.release.new.out) c.args.held.now.items = subst (WritesFront _ _) same c.in_err-release-in-Err.ensures.err in
    OnErr-from c.from_residual.result _ (WritesFront-longer _ _ c.args.held.now.items (c.args.line.now ++ 10 ∷ []) failed)

pub returns-in_ok-release-in-Err-clause-ok : goal.returns-in_ok-release-in-Err-clause-ok
returns-in_ok-release-in-Err-clause-ok g c =
    let same : c.put_line.new.out.items ≡ c.args.held.now.items = search rules in
    let freed : Appends (g.T.Writes.contents c.args.out.now) (g.T.Writes.contents c.release.new.out) c.args.held.now.items = subst (Appends _ _) same c.in_ok-release-in-Err.ensures.ok in
    OnOk-map c.write_line.result _ _ (λ wrote. WritesBut-all _ _ c.release.new.held.items (c.args.held.now.items ++ (c.args.line.now ++ 10 ∷ [])) (Appends-trans _ _ _ c.args.held.now.items (c.args.line.now ++ 10 ∷ []) freed wrote) c.in_ok-release-in-Err.ensures.none_held) c.write_line.ensures.ok

pub returns-in_ok-release-in-Err-clause-err : goal.returns-in_ok-release-in-Err-clause-err
returns-in_ok-release-in-Err-clause-err g c =
    let same : c.put_line.new.out.items ≡ c.args.held.now.items = search rules in
    let freed : Appends (g.T.Writes.contents c.args.out.now) (g.T.Writes.contents c.release.new.out) c.args.held.now.items = subst (Appends _ _) same c.in_ok-release-in-Err.ensures.ok in
    OnErr-map c.write_line.result _ _ (WritesFront-after _ _ _ c.args.held.now.items (c.args.line.now ++ 10 ∷ []) freed) c.write_line.ensures.err
