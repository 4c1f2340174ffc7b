use Rattle.std.proofs.Common.{◌≡◌, ◌++◌, ◌-◌, ◌∙◌, List, ℕ, ap, sym, subst, length, take, drop, string_bytes}
use Rattle.std.specs.Str.{IsUtf8}
use Rattle.std.proofs.lemmas.Str.{IsUtf8-drop, IsUtf8-string_bytes}
use Rattle.odata_functions.proofs.texts.Offsets.{turned}
use Rattle.odata_functions.proofs.kept_text.without_front.Goals as goal

pub unreachable-requires : goal.unreachable-requires
unreachable-requires c =
    let text = string_bytes c.args.text in
    let offset = c.args.offset in
    let same : c.into_bytes-bytes.result.items ≡ text = cc in
    let cut : c.truncate.new.self.items ≡ drop offset text =
    c.truncate.ensures.items
    ∙ ap (take (length c.as_str.result.now - offset)) (c.rotate_left.ensures.items ∙ ap (λ (x : List ℕ). drop offset x ++ take offset x) same)
    ∙ ap (λ (x : List ℕ). take (length x - offset) (drop offset text ++ take offset text)) c.as_str.ensures.value
    ∙ turned text offset in
    let wrong = c.in-Err.ensures.succeeds (subst IsUtf8 (sym cut) (IsUtf8-drop text offset (IsUtf8-string_bytes c.args.text) c.requires)) in
    cc
