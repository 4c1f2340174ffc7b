use Rattle.std.proofs.Common.{tests}
use Rattle.std.proofs.lemmas.Iterator.Search.{any_from_yields_List}
use Rattle.std.proofs.lemmas.Iterator.Splits.{YieldsList-from_slice_split}
use Rattle.odata_queries.proofs.Common.{rules, ◌==◌, ◌||◌, refl, is_filter_name, name_of}
use Rattle.odata_queries.specs.Disguise.{bare, words_of}
use Rattle.odata_queries.proofs.filter_word.has_filter_word.Goals as goal

pub returns : goal.returns
unfolding words_of
returns c =
    any_from_yields_List (λ word. is_filter_name (bare (name_of word))) _ _ c.any.result c.any.ensures.ran
    (YieldsList-from_slice_split _ (λ b. b == 0 || b == 59 || b == 38 || b == 63) c.args.bytes.now (cc) (cc) refl (λ x r q k. search (rules, tests)))
    (λ x b q k. search (rules, tests))
