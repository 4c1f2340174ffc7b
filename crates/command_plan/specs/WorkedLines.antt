-- Command lines whose answers are worked out.
use Rattle.std.specs.Prelude.{List, [], ◌∷◌, ◌++◌, codes}
use Rattle.clap.specs.Words.{Text}

-- `odfilter filter --type N.T`
abbrev pub without_schema : List Text
without_schema = codes "odfilter" ∷ codes "filter" ∷ codes "--type" ∷ codes "N.T" ∷ []

-- with a schema, and neither a filter nor a query
abbrev pub without_filter : List Text
without_filter = without_schema ++ codes "--schema=s" ∷ []

-- with a filter and rows
abbrev pub whole : List Text
whole = without_filter ++ codes "--filter" ∷ codes "true" ∷ codes "--rows=r" ∷ []

-- with a query instead of a filter
abbrev pub with_query : List Text
with_query = without_filter ++ codes "--query=x" ∷ []

-- with a filter and a query
abbrev pub with_both : List Text
with_both = whole ++ codes "--query=x" ∷ []

-- with rows that are a collection
abbrev pub with_collection : List Text
with_collection = whole ++ codes "--collection" ∷ []

-- with what stands for now
abbrev pub with_now : List Text
with_now = whole ++ codes "--now=m" ∷ []

-- with an option that the program does not have
abbrev pub with_unknown_option : List Text
with_unknown_option = whole ++ codes "--later=x" ∷ []

-- `odfilter --version`
abbrev pub version_alone : List Text
version_alone = codes "odfilter" ∷ codes "--version" ∷ []

-- `odfilter filter --version`
abbrev pub version_of_filter : List Text
version_of_filter = codes "odfilter" ∷ codes "filter" ∷ codes "--version" ∷ []

-- `odfilter filter --help`
abbrev pub help_of_filter : List Text
help_of_filter = codes "odfilter" ∷ codes "filter" ∷ codes "--help" ∷ []

-- `odfilter check` with a schema, a type and a filter, and with each option that it does not have
abbrev pub whole_check : List Text
whole_check =
    codes "odfilter" ∷ codes "check" ∷ codes "--type" ∷ codes "N.T" ∷ codes "--schema=s" ∷ codes "--filter=true" ∷ []

abbrev pub check_with_rows : List Text
check_with_rows = whole_check ++ codes "--rows=r" ∷ []

abbrev pub check_with_now : List Text
check_with_now = whole_check ++ codes "--now=x" ∷ []

abbrev pub check_with_collection : List Text
check_with_collection = whole_check ++ codes "--collection" ∷ []

-- the same of `odfilter explain`
abbrev pub whole_explain : List Text
whole_explain =
    codes "odfilter" ∷ codes "explain" ∷ codes "--type" ∷ codes "N.T" ∷ codes "--schema=s" ∷ codes "--query=x" ∷ []

-- with a row of a file, and what stands for now
abbrev pub explain_with_row : List Text
explain_with_row = whole_explain ++ codes "--rows" ∷ codes "r" ∷ codes "--row=2" ∷ codes "--now=m" ∷ []

abbrev pub explain_with_collection : List Text
explain_with_collection = whole_explain ++ codes "--collection" ∷ []

abbrev pub filter_with_row : List Text
filter_with_row = whole ++ codes "--row=2" ∷ []

-- with how a run reports
abbrev pub with_reports : List Text
with_reports = whole ++ codes "--hints=never" ∷ codes "--format" ∷ codes "json" ∷ []

-- with another file of rows, and with what becomes of rows at fault
abbrev pub with_more_rows : List Text
with_more_rows = whole ++ codes "--rows" ∷ codes "q" ∷ codes "--count" ∷ codes "--skip-faulty" ∷ []

-- with a collection whose entities are written
abbrev pub with_items : List Text
with_items = with_collection ++ codes "--items" ∷ []

-- with a part of its rows
abbrev pub with_part : List Text
with_part = whole ++ codes "--part" ∷ codes "2/4" ∷ []

-- `check` with how it reports
abbrev pub check_with_hints : List Text
check_with_hints = whole_check ++ codes "--hints" ∷ codes "later" ∷ []

-- `odfilter types`, with a schema, and with a filter too
abbrev pub types_alone : List Text
types_alone = codes "odfilter" ∷ codes "types" ∷ []

abbrev pub whole_types : List Text
whole_types = types_alone ++ codes "--schema" ∷ codes "s" ∷ codes "--format=json" ∷ []

abbrev pub types_with_filter : List Text
types_with_filter = whole_types ++ codes "--filter=true" ∷ []
