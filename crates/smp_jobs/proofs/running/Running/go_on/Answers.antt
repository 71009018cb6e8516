-- The request that is asked for next.
use Rattle.std.proofs.Common.{◌∷◌, ◌∙◌, ap, sym, refl}
use Rattle.smp_model.specs.Meant.{meant_of}
use Rattle.smp_reply.specs.Told.{told_of}
use Rattle.smp_jobs.specs.Clients.{takes}
use Rattle.smp_jobs.specs.Jobs.{Job}
use Rattle.smp_jobs.specs.Tasks.{progress_of}
use Rattle.smp_jobs.specs.States.{MayRunOut}
use Rattle.smp_jobs.proofs.Turning.{asked}
use Rattle.smp_jobs.proofs.running.Running.go_on.Goals as goal

pub returns-in-Ask-clause-took : goal.returns-in-Ask-clause-took
returns-in-Ask-clause-took c = λ client h.
    let answer = told_of c.args.answer.now in
    asked (MayRunOut (takes client answer)) c.args.self.now _ client answer (meant_of c.in-Ask.request) c.send.result h
    (c.in-Ask.ensures.next client.answers (h.progress ∙ ap (λ (j : Job). progress_of j (answer ∷ client.answers)) (sym h.job)))
    refl c.requires.printed c.send.ensures
