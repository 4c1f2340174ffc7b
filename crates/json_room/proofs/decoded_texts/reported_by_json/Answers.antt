use Rattle.std.proofs.Common.{◌∷◌, ap, sym, ◌∙◌}
use Rattle.json.specs.Reads.{token_of}
use Rattle.json_room.proofs.EscapeLemmas.{piece_reported}
use Rattle.json_room.proofs.decoded_texts.reported_by_json.Goals as goal

pub returns-in-Some-String : goal.returns-in-Some-String
returns-in-Some-String c =
    piece_reported c.args.quoted.now c.in-Some-String.reported.now c.next.new.self c.requires
    (sym c.in-Ok.ensures.ok ∙ c.in-Some-String.ensures.value ∙ ap (λ t. token_of t ∷ c.next.new.self) c.in-Some-String.field-0-is)
