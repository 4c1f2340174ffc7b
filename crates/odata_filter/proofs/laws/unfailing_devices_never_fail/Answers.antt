use Rattle.filter_runs.proofs.RowLemmas.DeviceCalls.{unfailing_read, unfailing_write}
use Rattle.odata_filter.proofs.laws.unfailing_devices_never_fail.Goals as goal

pub returns-clause-write : goal.returns-clause-write
returns-clause-write g c = unfailing_write

pub returns-clause-read : goal.returns-clause-read
returns-clause-read g c remaining old new bytes line why known few = unfailing_read remaining old new bytes why known few
