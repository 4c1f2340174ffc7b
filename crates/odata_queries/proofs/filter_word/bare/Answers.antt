use Rattle.std.specs.Char.{is_ascii_whitespace}
use Rattle.std.specs.List.{suffix_len}
use Rattle.std.proofs.lemmas.List.{take_rest}
use Rattle.std.proofs.lemmas.Str.Ascii.{trim_ascii_end_is}
use Rattle.odata_queries.proofs.Common.{◌≡◌, ◌-◌, ◌∙◌, List, ℕ, ap, drop, length, take}
use Rattle.odata_queries.proofs.filter_word.bare.Goals as goal

abbrev without_spaces : List ℕ → List ℕ
without_spaces rest = take (length rest - suffix_len is_ascii_whitespace rest) rest

pub returns : goal.returns
returns c =
    trim_ascii_end_is _ _ c.trim_ascii_end.ensures.value
    ∙ ap without_spaces (take_rest c.args.name.now c.front_length.result)
    ∙ ap (λ (n : ℕ). without_spaces (drop n c.args.name.now)) c.front_length.ensures.value
