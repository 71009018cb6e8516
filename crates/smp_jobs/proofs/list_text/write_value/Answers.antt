-- A map is an entry.
use Rattle.smp_cbor.specs.Views.{entries}
use Rattle.smp_jobs.proofs.Listing.{pairs_again}
use Rattle.smp_jobs.proofs.list_text.write_value.Goals as goal

pub returns-in-Map : goal.returns-in-Map
returns-in-Map c = rw (c.in-Map.is, pairs_again (entries c.in-Map.entry)) c.write_entry.ensures
