-- The names that several proofs of this crate cite, passed on from one file. Declares nothing.
pub use Rattle.std.proofs.Common.{inr, ◌≡◌, ◌⊎◌, inl, ⊎_elim, ℕ, ◌+◌, ◌-◌, ◌<◌, ◌==◌, ◌||◌, ◌&&◌, Bool, not, true, List, [], ◌∷◌, ◌++◌, length, get_or, drop, arith, refl, sym, ◌∙◌, ap, subst, append_assoc, codes, ◌≤◌, take, zero, suc, false, length-append, length-drop, append-nil, Some, cond, Option, None, map, rules, ◌≢◌, All}
unfoldable pub use Rattle.percent_encoding.specs.Percent.{percent_decode}
pub use Rattle.std.proofs.Math.Seq.{take-length}
pub use Rattle.std.proofs.lemmas.Bool.{cases_lt, both_ways, cond-true, false_from_ne_true, agree_below, agree_below_at, cases_order, and_left}
pub use Rattle.std.proofs.lemmas.List.{get_or-take, length-take-le, drop_at, take_at, drop-drop, take-take, map_push, length_push, get_or_default}
pub use Rattle.std.proofs.lemmas.List.Elements.{All-cons, All-nil}
pub use Rattle.std.proofs.lemmas.List.Sums.{prefix_len-le-length, sum_by_more_le}
pub use Rattle.std.proofs.lemmas.Str.{IsUtf8-from_ascii}
pub use Rattle.std.specs.Char.{is_ascii}
pub use Rattle.std.specs.List.{list_all, count_by}
pub use borrow.Author.Count.{below_more}
pub use Rattle.odata_queries.specs.Query.{IsQueryFault, is_bad_escape, IsDecodable, IsFilterOf, IsReadable, AreFaultless, HasFilter, IsOptionFault, is_filter, option_start, options_of}
unfoldable pub use Rattle.odata_queries.specs.Query.{name_of, value_of, is_filter_name}
pub use Rattle.odata_queries.specs.declared.query_fault.QueryFault.{QueryFault}
pub use Rattle.odata_queries.specs.declared.query_fault.QueryFault.TheVariants.{OtherOption, Repeated}
