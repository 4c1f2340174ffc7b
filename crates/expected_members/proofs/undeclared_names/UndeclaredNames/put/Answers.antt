use Rattle.std.proofs.Common.{List, map, sym, subst}
use Rattle.expected_members.specs.Undeclared.{AreUndeclared}
use Rattle.expected_members.specs.declared.undeclared_names.UndeclaredName.{UndeclaredName}
use Rattle.expected_members.specs.private.StoredNames.{type_and_name}
use Rattle.expected_members.proofs.NamesStored.{one_more}
use Rattle.expected_members.proofs.undeclared_names.UndeclaredNames.put.Goals as goal

pub returns : goal.returns
returns c =
    let schema = c.args.schema.now in
    let are = subst (AreUndeclared schema) (sym c.self.view_is) c.requires in
    subst (λ (l : List UndeclaredName). AreUndeclared schema (map type_and_name l)) (sym c.in-Ok-push.ensures.items) (one_more schema c.self.inside.names.items c.in-Some.name are c.in-Some.ensures)
