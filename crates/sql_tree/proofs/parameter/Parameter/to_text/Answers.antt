use Rattle.std.proofs.Common.{◌≡◌, ◌≤◌, ◌-◌, ◌^◌, ◌++◌, ◌∷◌, [], List, ℕ, suc, ℤ, pos, negsuc, ◌+ℤ◌, Bool, true, false, FitsSigned, append-nil, length, ap, sym, ◌∙◌, arith, rules}
use Rattle.std.proofs.lemmas.Bool.{le-ltb}
use Rattle.std.proofs.lemmas.Int.{to_z-of_z}
use Rattle.std.specs.Fmt.{char_count, decimal, format_spec, padded_integral, styled_signed_decimal}
use Rattle.std.specs.Int.{saturate_signed, w128}
use Rattle.std.specs.Prelude.{replicate}
use Rattle.sql_tree.specs.GivenText.{given_text, in_width, zero_filled}
use Rattle.sql_tree.specs.declared.dialect.Dialect.{Dialect}
use Rattle.sql_tree.proofs.parameter.Parameter.to_text.Goals as goal

-- what `{:021}` writes of digits, and of digits with a minus
without_sign : (digits : List ℕ) → padded_integral (format_spec 32 0 4 21 (2 ^ 64 - 1)) false [] digits ≡ zero_filled 21 digits
unfolding padded_integral char_count
without_sign digits =
    let left : 21 - length digits - 0 - 0 ≡ 21 - length digits = omega arith in
    ap (λ (k : ℕ). replicate k 48 ++ (digits ++ [])) left ∙ ap (λ (text : List ℕ). replicate (21 - length digits) 48 ++ text) (append-nil digits)

with_minus : (digits : List ℕ) → padded_integral (format_spec 32 0 4 21 (2 ^ 64 - 1)) true [] digits ≡ 45 ∷ zero_filled 20 digits
unfolding padded_integral char_count
with_minus digits =
    let left : 21 - length digits - 1 - 0 ≡ 20 - length digits = omega arith in
    ap (λ (k : ℕ). 45 ∷ replicate k 48 ++ (digits ++ [])) left ∙ ap (λ (text : List ℕ). 45 ∷ replicate (20 - length digits) 48 ++ text) (append-nil digits)

-- and of a number
filled : (n : ℤ) → styled_signed_decimal (format_spec 32 0 4 21 (2 ^ 64 - 1)) n ≡ in_width 21 n
filled (pos n) =
    let least : 0 ≤ n = omega arith in
    ap (λ (negative : Bool). padded_integral (format_spec 32 0 4 21 (2 ^ 64 - 1)) negative [] (decimal n)) (le-ltb n 0 least) ∙ without_sign (decimal n)
filled (negsuc n) = with_minus (decimal (suc n))

pub returns-in_ok-format-in-Sqlite : goal.returns-in_ok-format-in-Sqlite
returns-in_ok-format-in-Sqlite c =
    let sum = c.saturating_add-shifted.result in
    let nanos = c.in-Instant.nanos in
    let sum_fits : FitsSigned w128 sum = search (rules, arith) in
    let fits : FitsSigned w128 nanos = search (rules, arith) in
    let sum_is = c.saturating_add-shifted.ensures ∙ ap (λ (k : ℤ). saturate_signed w128 (k +ℤ pos 62_135_769_600_000_000_000)) (to_z-of_z w128 nanos fits) in
    c.in_ok-format-in-Sqlite.ensures.ok
    ∙ ap (styled_signed_decimal c.laid_out.result) (to_z-of_z w128 sum sum_fits)
    ∙ ap (λ s. styled_signed_decimal s sum) c.laid_out.ensures
    ∙ filled sum
    ∙ ap (in_width 21) sum_is
    ∙ sym (ap (λ (d : Dialect). given_text d c.args.self.now) c.in-Sqlite.is ∙ ap (given_text Dialect.Sqlite) c.in-Instant.is)
