-- How large the answer of a call is.
use Rattle.std.specs.Prelude.{ℕ, ltb, cond}

-- two numbers of 4 bytes and eleven of 8
abbrev pub answer_size : ℕ
answer_size = 96

-- TOO_SMALL, or OK
abbrev pub fits_status : ℕ → ℕ
fits_status size = cond (ltb size answer_size) 4 0
