-- What is said where an item stands.
use Rattle.std.proofs.Common.{ℕ, List, Option, None, Some, IfSome}
use Rattle.serde_json.specs.Data.{Data}
use Rattle.json_room.specs.ValueStands.{ValueStands}

-- what is said of a value that stands there
pub stands_so : (depth : ℕ) (text : List ℕ) (from to : ℕ) (P Q : Data → Type 0) → ((json : Data) → P json → Q json) → ValueStands depth text from to P → ValueStands depth text from to Q
stands_so depth text from to P Q so stands = record { bounds = stands.bounds; reads = λ turn may here. let is = stands.reads turn may here in record { json = is.json; is_read = is.is_read; holds = so is.json is.holds } }

-- what holds anyhow holds where there is a value
pub always_some : {A : Type 0} {P : Type 0} (o : Option A) → P → IfSome o (λ a. P)
always_some None holds = tt
always_some (Some a) holds = holds
