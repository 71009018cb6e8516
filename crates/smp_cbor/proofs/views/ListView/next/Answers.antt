use Rattle.smp_cbor.specs.Views.{list_bytes}
use Rattle.smp_cbor.proofs.Parts.{ends_all, end_is_part, skip_ends}
use Rattle.smp_cbor.proofs.views.ListView.next.Goals as goal

pub returns-then-self-eq0-clause-part : goal.returns-then-self-eq0-clause-part
returns-then-self-eq0-clause-part c = end_is_part (list_bytes c.args.self.now) (list_bytes c.args.self.now) (ends_all (list_bytes c.args.self.now))

pub returns-then-is_some-clause-part : goal.returns-then-is_some-clause-part
returns-then-is_some-clause-part c = end_is_part (list_bytes c.args.self.now) (list_bytes c.args.self.now) (ends_all (list_bytes c.args.self.now))

pub returns-in_default-clause-part : goal.returns-in_default-clause-part
returns-in_default-clause-part c = end_is_part (list_bytes c.args.self.now) (list_bytes c.args.self.now) (ends_all (list_bytes c.args.self.now))

pub returns-clause-part : goal.returns-clause-part
returns-clause-part c =
    let whole = list_bytes c.args.self.now in
    end_is_part whole c.in-Ok.rest.now (skip_ends c.args.self.now.depth whole c.in-Ok.rest.now c.in-Ok.ensures)
