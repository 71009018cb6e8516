use Rattle.std.proofs.Common.{◌≡◌, ◌∷◌, ap, subst, ◌∙◌}
use Rattle.std.specs.Vec.Iter.{into_iter_items, into_iter_len}
use Rattle.smp_app.specs.Making.{CanMake, bad_files}
use Rattle.smp_app.proofs.Jobs.{all_begin, begin_more, later_bad, none_left, one_less}
use Rattle.smp_app.proofs.clients.make_jobs.Goals as goal

pub clients-preserved : goal.clients-preserved
clients-preserved c =
    let later = into_iter_items c.next.new.self in
    let split : into_iter_items c.clients.waiting ≡ c.in-Some.client ∷ later = c.in-Some.ensures.items in
    record {
      size = one_less (into_iter_items c.clients.waiting) later c.in-Some.client (into_iter_len c.clients.waiting) (into_iter_len c.next.new.self)
          split c.clients.invariant.size c.in-Some.ensures.len;
      can = (subst CanMake split c.clients.invariant.can).1;
      bad = c.clients.invariant.bad ∙ ap bad_files split ∙ later_bad c.in-Some.client later _ c.in-Ok.ensures.ok;
      begin = λ added others.
          begin_more c.args.clients.items (into_iter_items c.clients.waiting) later c.in-Some.client _ c.clients.jobs.items c.push.new.self.items added
          split c.in-Ok-push.ensures.items c.clients.invariant.begin c.in-Ok.ensures.ok others;
    }

pub returns-clause-ok : goal.returns-clause-ok
returns-clause-ok c =
    all_begin c.args.clients.items (into_iter_items c.clients.waiting) c.clients.jobs.items (none_left (into_iter_items c.clients.waiting) (into_iter_len c.clients.waiting) c.clients.invariant.size c.in_default.ensures.cases.0) c.clients.invariant.begin
