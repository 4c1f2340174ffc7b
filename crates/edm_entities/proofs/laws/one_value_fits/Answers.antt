use Rattle.edm_entities.proofs.FitLemmas.FitsOnce.{fits_once}
use Rattle.edm_entities.proofs.laws.one_value_fits.Goals as goal

pub returns : goal.returns
returns c = fits_once (record {
  date = c.texts_have_one_value.ensures.date;
  moment = c.texts_have_one_value.ensures.moment;
  guid = c.texts_have_one_value.ensures.guid;
  member = c.texts_have_one_value-2.ensures;
})
