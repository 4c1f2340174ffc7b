-- What a value is, apart from how the code keeps it (CSDL JSON 4.01, section 3).
use Rattle.std.specs.Prelude.{Bool, ℕ, ℤ, List}
use Rattle.edm_values.specs.Civil.{Date}
use Rattle.edm_values.specs.MomentParts.{MomentParts}

mutual
  -- null, a primitive value, a whole number of an enumeration, a record of named fields, or a list
  pub data Val : Type 0 where
    null : Val
    boolean : Bool → Val
    whole : ℤ → Val
    text : List ℕ → Val
    date : Date → Val
    moment : MomentParts → Val
    guid : List ℕ → Val
    member : ℤ → Val
    fields : (List ℕ → FieldVal) → Val
    items : Vals → Val

  -- what a record has under a name: nothing, or a value
  pub data FieldVal : Type 0 where
    absent : FieldVal
    present : Val → FieldVal

  pub data Vals : Type 0 where
    no_items : Vals
    item : Val → Vals → Vals
