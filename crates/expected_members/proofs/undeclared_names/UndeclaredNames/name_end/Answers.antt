use Rattle.std.proofs.Common.{◌≡◌, ◌<◌, ℕ, None, sym, subst, arith, rules}
use Rattle.csdl_schema.specs.SchemaModel.{properties_at, slot_named}
use Rattle.json_room.specs.LexemesAt.{BeginsKey}
use Rattle.json_room.proofs.Places.{both_some}
use Rattle.expected_members.specs.Undeclared.{AreUndeclared, NamesNoProperty}
use Rattle.expected_members.proofs.NamesStored.{stored_is}
use Rattle.expected_members.proofs.undeclared_names.UndeclaredNames.name_end.Goals as goal

pub returns-then-eq : goal.returns-then-eq
returns-then-eq c schema are =
    let line = c.args.line.now in
    let names = c.self.inside.names.items in
    let name = c.index-name.result.now in
    let is = stored_is schema names _ name c.index-name.ensures (omega arith) (subst (AreUndeclared schema) (sym c.self.view_is) are) in
    let same : name.type_id ≡ c.args.type_id = search rules in
    let none = subst (λ (t : ℕ). slot_named (properties_at schema t) name.key ≡ None) same is in
    both_some c.end.result (BeginsKey line c.args.offset name.key) (λ to. c.args.offset < to) (NamesNoProperty line (properties_at schema c.args.type_id) c.args.offset)
    (λ to begins further. (name.key, begins, further, none)) c.end.ensures.name c.end.ensures.further
