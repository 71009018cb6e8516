use Rattle.std.proofs.Common.{◌++◌, ℕ, List, Option, Some, ◌∙◌, ap, subst}
use Rattle.std.proofs.lemmas.Result.{on_ok_weaker}
use Rattle.smp_device.specs.Showing.{shown_of}
use Rattle.smp_device.specs.declared.showing.Shown.{Shown}
use Rattle.smp_world.specs.Machines.{MachineState}
use Rattle.smp_world.specs.Spelling.{booted_text}
use Rattle.smp_world.specs.Worlds.{PutsBoot, WorldState}
use Rattle.smp_world.specs.declared.machine.BootEnd.TheVariants as ends
use Rattle.smp_world.proofs.PutLines.{booted_line}
use Rattle.smp_world.proofs.world.World.put_up_again.Goals as goal

pub returns : goal.returns
returns c =
    let m : MachineState = c.self.inside.machine in
    let text = ap (λ (x : Option Shown). booted_text x c.shown-second.result c.saved_form.result.now) c.shown-first.ensures
    ∙ ap (λ (x : Option Shown). booted_text (shown_of 0 m.device.up m.device.confirmed) x c.saved_form.result.now) c.shown-second.ensures
    ∙ ap (λ (x : List ℕ). booted_text (shown_of 0 m.device.up m.device.confirmed) (shown_of 1 m.device.up m.device.confirmed) x) c.saved_form.ensures in
    on_ok_weaker c.put_booted.result
    (λ e. subst (λ (x : WorldState). PutsBoot (Some ends.Up) x.machine c.args.text.now.held c.put_booted.new.text.held) c.self.view_is
    (λ d shown. e ∙ ap (λ (x : List ℕ). c.args.text.now.held ++ x) (text ∙ booted_line m d shown)))
    c.put_booted.ensures
