use Rattle.std.proofs.Common.{◌≡◌, IfOk, IfErr, sym, subst}
use Rattle.serde_json.specs.Data.{Data, boolean, string}
use Rattle.edm_entities.specs.FitsPrimitive.{FitsPrimitive, IsPrimitiveFlaw}
use Rattle.edm_entities.specs.Row.{val_of}
use Rattle.edm_entities.specs.private.Faults.{OnFlaw}
use Rattle.edm_entities.proofs.FitLemmas.Numbers.{other_flaw}
use Rattle.edm_entities.proofs.leaf.read_primitive.Goals as goal

pub returns-in-Truth-clause-fits : goal.returns-in-Truth-clause-fits
returns-in-Truth-clause-fits c json slots type is =
    let same : json ≡ boolean c.in-Truth.truth = rw c.in-Truth.is at is in
    subst (λ (d : Data). IfOk c.read_truth.result (λ v. FitsPrimitive c.args.wanted d (val_of v slots.properties type))) (sym same) (c.read_truth.ensures.fits slots type)

pub returns-in-Truth-clause-flaw : goal.returns-in-Truth-clause-flaw
returns-in-Truth-clause-flaw c json is =
    let same : json ≡ boolean c.in-Truth.truth = rw c.in-Truth.is at is in
    subst (λ (d : Data). IfErr c.read_truth.result (λ f. OnFlaw f (IsPrimitiveFlaw c.args.wanted d))) (sym same) c.read_truth.ensures.flaw

pub returns-in-Number-clause-fits : goal.returns-in-Number-clause-fits
returns-in-Number-clause-fits c json slots type is = c.read_number.ensures.fits json slots type (rw c.in-Number.is at is)

pub returns-in-Number-clause-flaw : goal.returns-in-Number-clause-flaw
returns-in-Number-clause-flaw c json is = c.read_number.ensures.flaw json (rw c.in-Number.is at is)

pub returns-in-Text-clause-fits : goal.returns-in-Text-clause-fits
returns-in-Text-clause-fits c json slots type is =
    let same : json ≡ string c.in-Text.text.now = rw c.in-Text.is at is in
    subst (λ (d : Data). IfOk c.read_text.result (λ v. FitsPrimitive c.args.wanted d (val_of v slots.properties type))) (sym same) (c.read_text.ensures.fits slots type)

pub returns-in-Text-clause-flaw : goal.returns-in-Text-clause-flaw
returns-in-Text-clause-flaw c json is =
    let same : json ≡ string c.in-Text.text.now = rw c.in-Text.is at is in
    subst (λ (d : Data). IfErr c.read_text.result (λ f. OnFlaw f (IsPrimitiveFlaw c.args.wanted d))) (sym same) c.read_text.ensures.flaw

pub returns-in-Other-clause-flaw : goal.returns-in-Other-clause-flaw
returns-in-Other-clause-flaw c json is = other_flaw c.args.wanted json (rw c.in-Other.is at is)
