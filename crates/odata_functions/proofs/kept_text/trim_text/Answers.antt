use Rattle.std.proofs.Common.{◌≡◌, ◌-◌, ℕ, List, length, take, drop, subst, sym, ap, ◌∙◌, string_bytes}
use Rattle.std.specs.Str.{IsCharBoundary, IsTrimStart, IsTrimEnd, chars}
use Rattle.odata_functions.specs.Texts.{IsTrimmed}
use Rattle.std.specs.Cow.{cow_str_bytes}
use Rattle.std.proofs.lemmas.Str.{IsUtf8-string_bytes}
use Rattle.odata_functions.proofs.texts.Trims.{boundary_of_end, boundary_of_rest, from_rest, to_end, trimmed}
use Rattle.odata_functions.proofs.kept_text.trim_text.Goals as goal

pub without_front-rest-requires : goal.without_front-rest-requires
without_front-rest-requires c =
    let start = subst (λ (x : List ℕ). IsTrimStart x c.trim_start.result.now) c.as_str-text.ensures.value c.trim_start.ensures.value in
    subst (λ (x : List ℕ). IsCharBoundary (string_bytes c.in-Owned.owned) (length x - length c.trim_start.result.now)) (sym c.as_str-text.ensures.value)
    (boundary_of_rest (string_bytes c.in-Owned.owned) c.trim_start.result.now c.trim_start.utf8 start)

pub truncate-requires : goal.truncate-requires
truncate-requires c =
    let end = subst (λ (x : List ℕ). IsTrimEnd x c.trim_end-len.result.now) c.as_str.ensures.value c.trim_end-len.ensures.value in
    let cut = boundary_of_end (string_bytes c.without_front-rest.result) c.trim_end-len.result.now (IsUtf8-string_bytes c.without_front-rest.result) c.trim_end-len.utf8 end in
    λ short. (cut.0, λ some. cut.1)

pub returns-in-Owned : goal.returns-in-Owned
returns-in-Owned c =
    let text = string_bytes c.in-Owned.owned in
    let rest = c.trim_start.result.now in
    let start = subst (λ (x : List ℕ). IsTrimStart x rest) c.as_str-text.ensures.value c.trim_start.ensures.value in
    let is_rest : string_bytes c.without_front-rest.result ≡ rest =
    c.without_front-rest.ensures ∙ ap (λ (x : List ℕ). drop (length x - length rest) text) c.as_str-text.ensures.value ∙ from_rest text rest start in
    let end = subst (λ (x : List ℕ). IsTrimEnd x c.trim_end-len.result.now) (c.as_str.ensures.value ∙ is_rest) c.trim_end-len.ensures.value in
    let is_part : string_bytes c.truncate.new.self ≡ c.trim_end-len.result.now =
    c.truncate.ensures.bytes ∙ ap (take (length c.trim_end-len.result.now)) is_rest ∙ to_end rest c.trim_end-len.result.now end in
    let reported = trimmed text rest c.trim_end-len.result.now (IsUtf8-string_bytes c.in-Owned.owned) c.trim_start.utf8 c.trim_end-len.utf8 start end in
    subst (λ (x : List ℕ). IsTrimmed (chars x) (chars (string_bytes c.truncate.new.self))) (sym (ap cow_str_bytes c.in-Owned.is))
    (subst (λ (x : List ℕ). IsTrimmed (chars text) (chars x)) (sym is_part) reported)
