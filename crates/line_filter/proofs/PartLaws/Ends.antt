-- Where parts end, and that all of them have each line once.
use Rattle.std.proofs.Common.{◌≡◌, ℕ, zero, suc, ◌+◌, ◌-◌, ◌*◌, ◌/◌, ◌^◌, ◌<◌, ◌≤◌, List, ◌++◌, length, sym, ap, ◌∙◌, subst, arith, mul_comm, mul-le-mul_left, mul-div_cancel, div-mul-le_self, mul-zero}
use Rattle.std.proofs.Math.Nat.{div-le_of_le-mul, zero-div}
use Rattle.std.proofs.lemmas.Nat.{le-div, mul-lt}
use Rattle.line_filter.specs.Lines.{lines_of}
use Rattle.line_filter.specs.Parts.{lines_of_part, lines_up_to, lines_within, part_end}
use Rattle.line_filter.proofs.PartLaws.Begun.{begun_cut, none_between}
use Rattle.line_filter.proofs.PartLaws.Text.{all_begun}

-- a part ends within the text
pub part_end_within : (size count number : ℕ) → number ≤ count → part_end size count number ≤ size
part_end_within size count number within =
    let most : size * number ≤ count * size = subst (λ (n : ℕ). size * number ≤ n) (mul_comm size count) (mul-le-mul_left size within) in
    div-le_of_le-mul count most

-- and not before one of a lower number
pub part_end_order : (size count a b : ℕ) → 0 < count → a ≤ b → part_end size count a ≤ part_end size count b
part_end_order size count a b some order =
    let low : size * a / count * count ≤ size * a = div-mul-le_self (size * a) count in
    let high : size * a ≤ size * b = mul-le-mul_left size order in
    le-div (size * a / count) (size * b) count some (omega arith)

-- the product fits 128 bits
pub part_product : (size number : ℕ) → size < 2 ^ 64 → number < 2 ^ 32 → size * number < 2 ^ 128
part_product size number long few =
    let small : size * number < 2 ^ 64 * 2 ^ 32 = mul-lt size number (2 ^ 64) (2 ^ 32) long few in
    omega (arith, small)

-- no byte stands before the first part
part_end_first : (size count : ℕ) → part_end size count 0 ≡ 0
part_end_first size count = ap (λ (n : ℕ). n / count) (mul-zero size) ∙ zero-div count

-- the parts up to one have the lines that begin before its end
up_to_within : (number count : ℕ) (bytes : List ℕ) → 0 < count → lines_up_to number count bytes ≡ lines_within 0 (part_end (length bytes) count number) bytes
up_to_within zero count bytes some =
    sym (none_between 0 (part_end (length bytes) count 0) 0 (lines_of bytes) (let e = part_end_first (length bytes) count in omega (arith, e)))
up_to_within (suc number) count bytes some =
    let size = length bytes in
    let same : suc number - 1 ≡ number = omega arith in
    ap (λ (x : List (List ℕ)). x ++ lines_of_part (suc number) count bytes) (up_to_within number count bytes some)
    ∙ ap (λ (k : ℕ). lines_within 0 (part_end size count number) bytes ++ lines_within (part_end size count k) (part_end size count (suc number)) bytes) same
    ∙ begun_cut 0 (part_end size count number) (part_end size count (suc number)) 0 (lines_of bytes) (omega arith) (part_end_order size count number (suc number) some (omega arith))

-- all parts have all lines, in order
pub parts_have_all : (count : ℕ) (bytes : List ℕ) → 0 < count → lines_up_to count count bytes ≡ lines_of bytes
parts_have_all count bytes some =
    let whole : part_end (length bytes) count count ≡ length bytes = mul-div_cancel (length bytes) some in
    up_to_within count count bytes some ∙ ap (λ (n : ℕ). lines_within 0 n bytes) whole ∙ all_begun (length bytes) 0 bytes (omega arith)
