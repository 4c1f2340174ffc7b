-- The logical operators on truth values, None being null (OData URL Conventions 4.01, sections 5.1.1.1.7 to 5.1.1.1.9).
use Rattle.std.specs.Prelude.{Bool, true, false, Option, Some, None}

-- false with anything is false, true with true is true, all others are null
abbrev pub and3 : Option Bool → Option Bool → Option Bool
and3 (Some true) (Some true) = Some true
and3 (Some true) (Some false) = Some false
and3 (Some true) None = None
and3 (Some false) (Some true) = Some false
and3 (Some false) (Some false) = Some false
and3 (Some false) None = Some false
and3 None (Some true) = None
and3 None (Some false) = Some false
and3 None None = None

-- true with anything is true, false with false is false, all others are null
abbrev pub or3 : Option Bool → Option Bool → Option Bool
or3 (Some true) (Some true) = Some true
or3 (Some true) (Some false) = Some true
or3 (Some true) None = Some true
or3 (Some false) (Some true) = Some true
or3 (Some false) (Some false) = Some false
or3 (Some false) None = None
or3 None (Some true) = Some true
or3 None (Some false) = None
or3 None None = None

-- the opposite, and null of null
abbrev pub not3 : Option Bool → Option Bool
not3 (Some true) = Some false
not3 (Some false) = Some true
not3 None = None
