use Rattle.csdl_declarations.proofs.EnumerationNumbers.{from_type, of_type}
use Rattle.csdl_declarations.proofs.laws.numbers_of_their_type.Goals as goal

pub returns : goal.returns
returns c = λ type n. (from_type type n, of_type type n)
