use Rattle.smp_device.proofs.Beginnings.{saved_law, start_done, start_says, start_unconfirmed, start_unmounted}
use Rattle.smp_device.proofs.starting.begin.Goals as goal

pub returns-in-Err-mount_images-clause-starts : goal.returns-in-Err-mount_images-clause-starts
returns-in-Err-mount_images-clause-starts g c =
    start_unmounted c.device_laws.ensures (saved_law c.device_laws.ensures) (g.F.Flash.state c.args.flash.now).geometry (record { first = c.args.first.now; second = c.args.second.now }) c.requires.all.are c.in-Ok.settings c.in-Ok.ensures.settings.0 c.in-Err-mount_images.fault (g.F.Flash.state c.args.flash.now) (g.F.Flash.state c.open.new.flash) (g.F.Flash.state c.mount_images.new.flash)
    c.in-Ok.ensures.calls c.in-Ok.ensures.kept c.in-Ok.ensures.says c.in-Err-mount_images.ensures.mounts

pub returns-in-Ok-confirmed_of-clause-starts : goal.returns-in-Ok-confirmed_of-clause-starts
returns-in-Ok-confirmed_of-clause-starts g c =
    start_done c.device_laws.ensures (saved_law c.device_laws.ensures) (g.F.Flash.state c.args.flash.now).geometry (record { first = c.args.first.now; second = c.args.second.now }) c.in-Ok-mount_images.images c.in-Ok.settings c.in-Ok-confirmed_of.confirmed c.in-Ok-mount_images.ensures.places c.requires.all.are c.in-Ok-mount_images.ensures.target c.in-Ok.ensures.settings.0
    c.in-Ok.ensures.settings.2 c.in-Ok.ensures.settings.1 c.in-Ok.ensures.form (g.F.Flash.state c.args.flash.now) (g.F.Flash.state c.open.new.flash) (g.F.Flash.state c.mount_images.new.flash) (g.F.Flash.state c.confirmed_of.new.flash) c.in-Ok.ensures.calls c.in-Ok.ensures.kept c.in-Ok.ensures.says
    c.in-Ok-mount_images.ensures.mounts c.in-Ok-confirmed_of.ensures.calls c.in-Ok-confirmed_of.ensures.kept c.in-Ok-confirmed_of.ensures.confirmed

pub returns-in-Ok-confirmed_of-clause-says : goal.returns-in-Ok-confirmed_of-clause-says
returns-in-Ok-confirmed_of-clause-says g c =
    start_says c.device_laws.ensures (g.F.Flash.state c.args.flash.now).geometry (record { first = c.args.first.now; second = c.args.second.now }) c.requires.all.are c.in-Ok-mount_images.images c.in-Ok.settings c.in-Ok.ensures.settings.0 (g.F.Flash.state c.open.new.flash) (g.F.Flash.state c.mount_images.new.flash) (g.F.Flash.state c.confirmed_of.new.flash) c.in-Ok.ensures.says
    c.in-Ok-mount_images.ensures.mounts c.in-Ok-confirmed_of.ensures.kept

pub returns-in-Err-confirmed_of-clause-starts : goal.returns-in-Err-confirmed_of-clause-starts
returns-in-Err-confirmed_of-clause-starts g c =
    start_unconfirmed c.device_laws.ensures (saved_law c.device_laws.ensures) (g.F.Flash.state c.args.flash.now).geometry (record { first = c.args.first.now; second = c.args.second.now }) c.requires.all.are c.in-Ok.settings c.in-Ok.ensures.settings.0 c.in-Ok-mount_images.images c.in-Err-confirmed_of.fault c.passed_on.result (g.F.Flash.state c.args.flash.now) (g.F.Flash.state c.open.new.flash) (g.F.Flash.state c.mount_images.new.flash)
    (g.F.Flash.state c.confirmed_of.new.flash) c.passed_on.ensures c.in-Ok.ensures.calls c.in-Ok.ensures.kept c.in-Ok.ensures.says c.in-Ok-mount_images.ensures.mounts c.in-Err-confirmed_of.ensures.calls c.in-Err-confirmed_of.ensures.kept
