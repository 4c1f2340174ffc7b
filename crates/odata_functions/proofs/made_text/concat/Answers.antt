use Rattle.std.proofs.Common.{◌≡◌, ◌++◌, ◌∙◌, ap, List, ℕ, string_bytes}
use Rattle.std.proofs.lemmas.Str.{chars-append}
use Rattle.std.specs.Str.{chars}
use Rattle.odata_functions.proofs.made_text.concat.Goals as goal

pub returns : goal.returns
returns c =
    let front : string_bytes c.push_str.new.self ≡ c.args.left.now =
    c.in_ok-push_str.ensures.bytes ∙ ap (λ (x : List ℕ). x ++ c.args.left.now) c.in_ok-made.ensures.bytes in
    ap chars (c.in_ok-push_str-2.ensures.bytes ∙ ap (λ (x : List ℕ). x ++ c.args.right.now) front) ∙ chars-append c.args.left.now c.args.right.now c.utf8.left
