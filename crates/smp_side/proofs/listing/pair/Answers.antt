use Rattle.smp_flash.proofs.Passing.{reads_add}
use Rattle.smp_flash.specs.State.End.{Went}
use Rattle.smp_upload.specs.States.{known_mounted}
use Rattle.smp_side.proofs.Setting.{pair_told, pair_Calls-then}
use Rattle.smp_side.proofs.listing.pair.Goals as goal

pub returns-clause-calls : goal.returns-clause-calls
returns-clause-calls g c =
    pair_Calls-then c.layout_of-layout.result (known_mounted c.args.mounted.now).layout Went (g.F.Flash.state c.args.flash.now) (g.F.Flash.state c.active_image.new.flash) (g.F.Flash.state c.is_confirmed.new.flash) c.layout_of-layout.ensures c.in_ok-image.ensures.calls c.in_ok-confirmed.ensures.calls

pub returns-clause-pair : goal.returns-clause-pair
returns-clause-pair g c =
    pair_told c.sides_are_told_apart.ensures c.args.mounted.now c.layout_of-layout.result c.in_ok-image.image c.in_ok-confirmed.confirmed c.active_entry.result c.second_of.result (g.F.Flash.state c.args.flash.now).bytes (g.F.Flash.state c.active_image.new.flash).bytes c.layout_of-layout.ensures c.active_entry.ensures c.second_of.ensures c.requires.says c.in_ok-image.ensures.kept c.in_ok-image.ensures.image c.in_ok-confirmed.ensures.confirmed

pub returns-clause-reads : goal.returns-clause-reads
returns-clause-reads g c =
    reads_add 131102 1 (g.F.Flash.state c.args.flash.now).bytes_read (g.F.Flash.state c.active_image.new.flash).bytes_read (g.F.Flash.state c.is_confirmed.new.flash).bytes_read c.in_ok-image.ensures.reads c.in_ok-confirmed.ensures.reads
