use Rattle.smp_request.proofs.RoundTrip.{means_again}
use Rattle.smp_request.proofs.laws.requests_are_meant.Goals as goal

pub returns : goal.returns
returns c = means_again c.shortest_is_read.ensures c.keys_are_texts.ensures
