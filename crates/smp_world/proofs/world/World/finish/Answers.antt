use Rattle.std.proofs.Common.{◌++◌, ℕ, length, ◌∙◌, ap}
use Rattle.std.proofs.lemmas.Result.{on_ok_weaker}
use Rattle.smp_world.specs.Lines.{last_text}
use Rattle.smp_world.proofs.MailSteps.{ends_so}
use Rattle.smp_world.proofs.world.World.finish.Goals as goal

said : goal.returns-clause-text
said c = on_ok_weaker c.put_last.result
    (λ e. e ∙ ap (λ (n : ℕ). c.args.text.now.held ++ last_text n c.answered.result c.done.result) c.sent.ensures
    ∙ ap (λ (n : ℕ). c.args.text.now.held ++ last_text (length c.args.self.now.packets) n c.done.result) c.answered.ensures
    ∙ ap (λ (n : ℕ). c.args.text.now.held ++ last_text (length c.args.self.now.packets) (length c.args.self.now.replies) n) c.done.ensures)
    c.put_last.ensures

pub returns-clause-text : goal.returns-clause-text
returns-clause-text c = said c

pub returns-clause-ends : goal.returns-clause-ends
returns-clause-ends c = on_ok_weaker c.put_last.result (λ e. ends_so c.args.self.now c.args.text.now.held c.put_last.new.text.held e) (said c)
