-- Queries whose filter or first fault is known.
use Rattle.odata_queries.proofs.Common.{agree_below, agree_below_at, ◌≡◌, inr, ⊎_elim, ℕ, true, false, List, [], codes, length, Some, arith, refl, is_ascii, list_all, cases_lt, All-cons, All-nil, IsUtf8-from_ascii, percent_decode, IsDecodable, IsFilterOf, IsQueryFault, IsReadable, is_bad_escape, is_filter_name, name_of, value_of, OtherOption}
use Rattle.odata_queries.specs.Query.{is_refused_word}
use Rattle.odata_queries.specs.QueryExamples.{escaped_filter, escaped_query, paged_query}
use Rattle.odata_text.proofs.characters.IdentifierBytes.{all-ascii}
use Rattle.odata_queries.proofs.queries.QueryLoops.{outside-good}

-- a part of ASCII bytes whose escapes are whole, by computing
decodable : (part : List ℕ) → agree_below (is_bad_escape part) (λ place. false) (length part) ≡ true → list_all is_ascii (percent_decode part) ≡ true → IsDecodable part
decodable part whole ascii = record {
  escapes = λ place. ⊎_elim
      (λ inside. agree_below_at (is_bad_escape part) (λ k. false) (length part) place whole inside)
      (λ past. outside-good part place past)
      (cases_lt place (length part));
  utf8 = IsUtf8-from_ascii (percent_decode part) (all-ascii (percent_decode part) ascii);
}

filter_name : IsDecodable (codes "$filter")
unfolding percent_decode
filter_name = decodable (codes "$filter") refl refl

filter_value : IsDecodable (codes "a%2Bb%26c")
unfolding percent_decode
filter_value = decodable (codes "a%2Bb%26c") refl refl

escaped_option : IsReadable (codes "$filter=a%2Bb%26c")
unfolding percent_decode name_of value_of is_filter_name is_refused_word
escaped_option = record { name = filter_name; value = filter_value; known = refl }

pub escaped-filter : IsFilterOf escaped_query (Some escaped_filter)
unfolding percent_decode name_of value_of is_filter_name
escaped-filter = record {
  faultless = record { readable = All-cons IsReadable (codes "$filter=a%2Bb%26c") [] escaped_option (All-nil IsReadable); single = omega arith };
  has = (0, codes "$filter=a%2Bb%26c", omega arith, refl, (refl, refl));
}

pub paged-fault : IsQueryFault paged_query (OtherOption 0)
unfolding percent_decode name_of value_of is_filter_name is_refused_word
paged-fault = record {
  number = 0;
  within = omega arith;
  before = record { readable = All-nil IsReadable; single = omega arith };
  at = inr (inr (decodable (codes "$top") refl refl, decodable (codes "5") refl refl, (refl, refl)));
}
