-- The operand 0, from which a negation subtracts.
use Rattle.sql_forms.proofs.Common.{◌≡◌, pos, List, false, sym, ap, subst, ◌∙◌, arith, ints, Filter, IsBounded, Range, SqlType, Operand, Source, Kind, IsPut, IsSourceOf}

-- the range of 0 alone
abbrev pub zero_range : Range
zero_range = record { may_fault = false; may_be_null = false; low = pos 0; high = pos 0 }

pub zero_may_be_put : (filter : Filter) (ranges : List Range) (zero : Operand) → zero.source ≡ Source.Zero → zero.kind ≡ Kind.Value SqlType.Whole → IsPut filter ranges zero
zero_may_be_put filter ranges zero source kind = record {
  source = subst (IsSourceOf filter ranges zero) (sym source) tt;
  valued = λ structured. cc (sym kind ∙ structured);
  plain = λ truth. absurd (cc (sym kind ∙ truth));
}

small_bounds : IsBounded zero_range
small_bounds = record {
  ordered = omega (arith, ints);
  low = (omega (arith, ints), omega (arith, ints));
  high = (omega (arith, ints), omega (arith, ints));
}

pub zero_bounded : (range : Range) → range ≡ zero_range → IsBounded range
zero_bounded range is = subst IsBounded (sym is) small_bounds

pub zero_low : (range : Range) → range ≡ zero_range → range.low ≡ pos 0
zero_low range is = ap (λ (r : Range). r.low) is

pub zero_high : (range : Range) → range ≡ zero_range → range.high ≡ pos 0
zero_high range is = ap (λ (r : Range). r.high) is
