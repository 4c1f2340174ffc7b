-- Which numbers faults have: those of an allocation that failed are left out.
use Rattle.std.specs.Prelude.{ℕ, ◌==◌, Bool, List, [], ◌∷◌}
use Rattle.std.specs.List.{list_any}
use Rattle.fault_sentences.specs.declared.fault_class.FaultClass.{FaultClass}
use Rattle.fault_sentences.specs.declared.fault_class.FaultClass.TheVariants.{Schema, Query, Text, Syntax, Typing, Row, Evaluation, Json, Line, Collection, UnknownType, NoFilter, MomentNeeded, NotAMoment, TooCostly, Unsayable, TooDeep, UnknownColumn}

abbrev pub numbers_of : FaultClass → List ℕ
numbers_of Schema = 1 ∷ 2 ∷ 3 ∷ 4 ∷ 5 ∷ 6 ∷ 7 ∷ 8 ∷ 9 ∷ 10 ∷ []
numbers_of Query = 1 ∷ 2 ∷ 3 ∷ 4 ∷ 5 ∷ []
numbers_of Text = 1 ∷ 2 ∷ 3 ∷ 4 ∷ 5 ∷ []
numbers_of Syntax = 1 ∷ 2 ∷ []
numbers_of Typing = 1 ∷ 2 ∷ 3 ∷ 4 ∷ 5 ∷ 6 ∷ 7 ∷ 8 ∷ 9 ∷ 10 ∷ 11 ∷ 12 ∷ []
numbers_of Row = 1 ∷ 2 ∷ 3 ∷ 4 ∷ 5 ∷ 6 ∷ 8 ∷ []
numbers_of Evaluation = 1 ∷ 2 ∷ []
numbers_of Json = 0 ∷ []
numbers_of Line = 0 ∷ []
numbers_of Collection = 0 ∷ []
numbers_of UnknownType = 0 ∷ []
numbers_of NoFilter = 0 ∷ []
numbers_of MomentNeeded = 0 ∷ []
numbers_of NotAMoment = 0 ∷ []
numbers_of TooCostly = 0 ∷ []
numbers_of Unsayable = 0 ∷ []
numbers_of TooDeep = 0 ∷ []
numbers_of UnknownColumn = 0 ∷ []

-- some fault of the class has this number
abbrev pub is_known : FaultClass → ℕ → Bool
is_known class number = list_any (λ n. n == number) (numbers_of class)
