-- The names that several proofs of this crate cite, passed on from one file. Declares nothing.
pub use Rattle.std.proofs.Common.{inr, ◌≡◌, ◌⊎◌, inl, ⊎_elim, ℕ, ◌+◌, ◌-◌, ◌*◌, ◌<◌, ◌==◌, ◌||◌, ◌&&◌, Bool, not, true, List, [], ◌∷◌, ◌++◌, length, get_or, drop, arith, refl, sym, ◌∙◌, ap, subst, append_assoc, nat_le, codes, IsUtf8, IsCharBoundary, ◌≤◌, take, pos, zero, suc, false, length-append, length-drop, add-zero, take-append-drop, append-nil, chars, min, Some, cond, Option, None, map, rules, ◌≢◌, All, nat_lt}
pub use Rattle.std.proofs.Math.Seq.{take-length}
pub use Rattle.std.proofs.Math.Utf8.{encode}
pub use Rattle.std.proofs.lemmas.Bool.{and_from, or_left, eqb-true, false≢true, cond-false, cases_lt, both_ways, or_right, eq-eqb, or_cases, cases_eq, and_parts, cond-true, ne_eqb, false_from_ne_true, not-false, agree_below, agree_below_at, cases_Bool, ltb-true, cases_order, and_left}
pub use Rattle.std.proofs.lemmas.Bool.Decides.{nat_tests}
pub use Rattle.std.proofs.lemmas.List.{length-map, get_or-take, length-take-le, drop_at, take_at, drop-drop, get_or-drop, take-take, take_rest, length_push, get_or_default}
pub use Rattle.std.proofs.lemmas.List.Elements.{All-from_get_or, All-cons, All-nil}
pub use Rattle.std.proofs.lemmas.List.Folds.{list_all-map, fold_stays}
pub use Rattle.std.proofs.lemmas.List.Sums.{fold_more, list_all-from_AllPass, prefix_len-le-length, prefix_len_passes, fold-append, AllPass-from_list_all, take_while-cons}
pub use Rattle.std.proofs.lemmas.Str.{IsCharBoundary-after_ascii, IsCharBoundary-from_rest, chars_from_encodes, chars-nil, chars-append, chars_past_char, IsCharBoundary-start, encodes-chars, IsUtf8-from_ascii, chars-IsAscii}
pub use Rattle.std.proofs.lemmas.Str.Ascii.{IsAscii-cons, IsAscii-nil}
pub use Rattle.std.specs.Char.{is_ascii_digit, is_ascii_alphabetic, to_ascii_lowercase, digit_value, is_ascii_hexdigit, len_utf8, is_ascii}
pub use Rattle.std.specs.List.{list_all, AllByRecursion as AllOf, prefix_len, take_while, Contains}
pub use Rattle.std.specs.Prelude.{fold, slice_range}
pub use Rattle.std.specs.Str.{str_to_ascii_lowercase, encode_utf8_all}
pub use Rattle.std.specs.Str.Parse.{IsNumeral, AllDigits}
pub use borrow.Author.Count.{below_more}
pub use Rattle.edm_values.specs.DateLiteral.{IsDateSpelling}
pub use Rattle.edm_values.specs.GuidLiteral.{IsGuidSpelling, hex_bytes}
pub use Rattle.edm_values.specs.IntLiteral.{IsIntSpelling}
pub use Rattle.edm_values.specs.MomentLiteral.{IsMomentSpelling, IsOffsetSpelling, IsSecondsSpelling}
pub use Rattle.edm_values.specs.StringLiteral.{IsStringSpelling, with_doubled_quotes}
unfoldable pub use Rattle.odata_text.specs.ByteClass.{class_of}
pub use Rattle.odata_text.specs.Identifier.{IsIdentifier, identifier_run, is_identifier}
unfoldable pub use Rattle.odata_text.specs.Identifier.{begins_identifier, continues_identifier}
pub use Rattle.odata_text.specs.LeftOut.{IsFraction, IsDecimals, IsExponent}
pub use Rattle.odata_text.specs.LiteralSpelling.{enumeration_spelling}
pub use Rattle.odata_text.specs.Printing.{MayFollow, is_separator, may_follow, ArePrintable, Print}
pub use Rattle.odata_text.specs.Sequence.{FollowedBy}
pub use Rattle.odata_text.specs.Spelling.{IsByte, IsDottedWord, IsLeftOutName, IsNamed, dotted_parts, IsWordSpelling, IsFormed, Spells}
pub use Rattle.odata_text.specs.TokenExamples.{run_on_filter, fraction_filter}
pub use Rattle.odata_text.specs.TokenModel.{TokenModel, token_models}
pub use Rattle.odata_text.specs.TokenSequence.{AreTokensOf}
pub use Rattle.odata_text.specs.Tokens.{IsLongest, NoneSpelled, AreTokensFrom, IsGap, IsTokenAt, IsTokenList, end_of, is_undelimited, text_limit, token_limit, IsFaultAt, IsFaultBehind, IsRunOn}
pub use Rattle.odata_text.specs.declared.byte_class.ByteClass.TheVariants.{Space}
pub use Rattle.odata_text.specs.declared.byte_test.ByteTest.{ByteTest}
pub use Rattle.odata_text.specs.declared.byte_test.ByteTest.TheVariants.{Digit, Hyphen, Sign, TimeMark, OffsetMark, Colon, HexDigit, Dot, ExponentMark}
pub use Rattle.odata_text.specs.declared.text_fault.TextFault.{TextFault}
pub use Rattle.odata_text.specs.declared.text_fault.TextFault.TheVariants.{RunOn, LeftOutLiteral, TooLong, Memory}
pub use Rattle.odata_text.specs.declared.form.Form.{Form}
pub use Rattle.odata_text.specs.declared.form.Form.TheVariants.{Token, LeftOut}
pub use Rattle.odata_text.specs.declared.form.LeftOutKind.TheVariants.{Number, TimeOfDay}
pub use Rattle.odata_text.specs.declared.quoted.Quoted.{Quoted}
pub use Rattle.odata_text.specs.declared.quoted.Quoted.TheVariants.{Before, Closed, Over, Open}
pub use Rattle.odata_text.specs.declared.token.TokenKind.{TokenKind}
pub use Rattle.odata_text.specs.declared.token.TokenKind.TheVariants.{Word, Dollar, Int, Date, Moment, Guid, Str, EnumLit, Close, Comma, Slash, Minus}
pub use Rattle.odata_text.specs.private.Lengths.{IsReach, quoted_after, both_length}
pub use Rattle.odata_text.specs.private.Patterns.{PassesTests, IsMarkedClock, IsTimed, IsZoned, passes}
