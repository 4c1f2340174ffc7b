use Rattle.std.proofs.Common.{◌≡◌, ℕ, List, [], ◌++◌, Bool, true, false, if◌then◌else◌, is_ok, string_bytes, sym, ap, ◌∙◌, rules}
use Rattle.std.proofs.lemmas.Bool.{true≢false}
use Rattle.spare_values.proofs.stored_texts.overwrite_text.Goals as goal

-- a text that was written over another, or was not
pushed : (done : Bool) (written cleared s : List ℕ) → done ≡ true → cleared ≡ [] → written ≡ (if done then cleared ++ s else cleared) → written ≡ s
pushed true written cleared s is none by = by ∙ ap (λ l. l ++ s) none
pushed false written cleared s is none by = absurd (true≢false (sym is))

pub returns-in-Text : goal.returns-in-Text
returns-in-Text c done =
    let ok : is_ok c.push_str.result ≡ true = search rules in
    (c.push_str.new.self, search rules, pushed (is_ok c.push_str.result) (string_bytes c.push_str.new.self) (string_bytes c.clear.new.self) c.args.text.now ok c.clear.ensures.bytes c.push_str.ensures.bytes)
