use Rattle.odata_meaning.proofs.meaning.AtPaths.{every_path, fitting_at_each, has_apart, has_at}
use Rattle.odata_meaning.proofs.meaning.OneOutcome.{conforms_at}
use Rattle.odata_meaning.proofs.laws.values_have_types_at_paths.Goals as goal

pub returns : goal.returns
returns c = record {
  values = has_at;
  all_needed = λ slots path type v. (λ is. has_at slots every_path path type v is, λ is. has_apart slots path type v is);
  variables = fitting_at_each;
  fits = conforms_at c.what_fits_has_its_type.ensures;
}
