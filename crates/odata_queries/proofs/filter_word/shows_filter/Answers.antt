use Rattle.std.specs.List.{filter}
use Rattle.std.specs.Str.{chars, is_utf8}
use Rattle.std.proofs.lemmas.Str.{IsUtf8-from_is_utf8, is_utf8-from_IsUtf8}
use Rattle.odata_queries.proofs.Common.{◌≡◌, ◌∙◌, ◌&&◌, ◌||◌, Bool, true, false, not, List, ℕ, ap, sym, false_from_ne_true}
use Rattle.odata_queries.specs.Disguise.{has_filter_word, is_silent, shows_filter}
use Rattle.odata_queries.proofs.filter_word.shows_filter.Goals as goal

abbrev has_word : List ℕ → Bool
has_word text = has_filter_word (chars text) || has_filter_word (filter (λ c. not (is_silent c)) (chars text))

is_shown : (shows : Bool) (bytes text : List ℕ) → is_utf8 bytes ≡ true → text ≡ bytes → shows ≡ has_word text → shows ≡ shows_filter bytes
unfolding shows_filter
is_shown shows bytes text utf8 same has = has ∙ ap has_word same ∙ sym (ap (λ (b : Bool). b && has_word bytes) utf8)

not_shown : (bytes : List ℕ) → is_utf8 bytes ≡ false → false ≡ shows_filter bytes
unfolding shows_filter
not_shown bytes not_utf8 = sym (ap (λ (b : Bool). b && has_word bytes) not_utf8)

pub returns-in_ok-shows-in-Ok : goal.returns-in_ok-shows-in-Ok
returns-in_ok-shows-in-Ok c =
    let text = c.in-Ok.ensures.cases in
    is_shown _ c.args.bytes.now _ (is_utf8-from_IsUtf8 c.args.bytes.now text.1) text.0 c.in_ok-shows-in-Ok.ensures

pub returns-in-Err : goal.returns-in-Err
returns-in-Err c =
    let fault = c.in-Err.ensures.cases in
    not_shown c.args.bytes.now (false_from_ne_true (is_utf8 c.args.bytes.now) (λ utf8. fault.0 (IsUtf8-from_is_utf8 c.args.bytes.now utf8)))
