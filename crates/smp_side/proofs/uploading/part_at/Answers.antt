use Rattle.std.proofs.Common.{refl, sym, ◌∙◌}
use Rattle.std.specs.Prelude.{option_map}
use Rattle.smp_flash.specs.Layout.{geometry_of}
use Rattle.smp_upload.specs.States.{known_receiving}
use Rattle.smp_upload.specs.declared.states.Mounted.TheVariants as mounts
use Rattle.smp_side.proofs.Parting.{part_idle, part_other, part_here, part_more, part_end, part_for, says_for}
use Rattle.smp_side.proofs.uploading.part_at.Goals as goal

pub returns-in-Idle-clause-answers : goal.returns-in-Idle-clause-answers
returns-in-Idle-clause-answers g c =
    part_for c.args.mounted (mounts.Idle c.in-Idle.state) c.args.off (option_map (λ t. t.now) c.args.tag) c.args.bytes.now c.wants.result (g.F.Flash.state c.args.flash.now) (g.F.Flash.state c.args.flash.now) c.in-Idle.is
    (part_idle c.sides_are_told_apart.ensures (mounts.Idle c.in-Idle.state) (geometry_of c.in-Idle.state.layout).unit c.args.off (option_map (λ t. t.now) c.args.tag) c.args.bytes.now c.wants.result (g.F.Flash.state c.args.flash.now) refl c.wants.ensures (says_for c.args.mounted (mounts.Idle c.in-Idle.state) (g.F.Flash.state c.args.flash.now).bytes c.in-Idle.is c.requires.says))

pub returns-then-fits-clause-answers : goal.returns-then-fits-clause-answers
returns-then-fits-clause-answers g c =
    part_for c.args.mounted (mounts.Receiving c.in-Receiving.state) c.args.off (option_map (λ t. t.now) c.args.tag) c.args.bytes.now c.part.result (g.F.Flash.state c.args.flash.now) (g.F.Flash.state c.part.new.flash) c.in-Receiving.is
    (part_here c.sides_are_told_apart.ensures (known_receiving c.in-Receiving.state) c.in-Receiving.state.announcement c.in-Receiving.state.offset (geometry_of c.in-Receiving.state.layout).unit c.args.off (option_map (λ t. t.now) c.args.tag) c.args.bytes.now c.part.result (g.F.Flash.state c.args.flash.now) (g.F.Flash.state c.part.new.flash) refl (sym c.fits.ensures ∙ c.if-fits.true) (says_for c.args.mounted (mounts.Receiving c.in-Receiving.state) (g.F.Flash.state c.args.flash.now).bytes c.in-Receiving.is c.requires.says) c.part.ensures.answers)

pub returns-else-fits-clause-answers : goal.returns-else-fits-clause-answers
returns-else-fits-clause-answers g c =
    part_for c.args.mounted (mounts.Receiving c.in-Receiving.state) c.args.off (option_map (λ t. t.now) c.args.tag) c.args.bytes.now c.wants-in-Receiving.result (g.F.Flash.state c.args.flash.now) (g.F.Flash.state c.args.flash.now) c.in-Receiving.is
    (part_other c.sides_are_told_apart.ensures (mounts.Receiving c.in-Receiving.state) c.in-Receiving.state.announcement c.in-Receiving.state.offset (geometry_of c.in-Receiving.state.layout).unit c.args.off (option_map (λ t. t.now) c.args.tag) c.args.bytes.now c.wants-in-Receiving.result (g.F.Flash.state c.args.flash.now) refl (sym c.fits.ensures ∙ c.if-fits.false) c.wants-in-Receiving.ensures (says_for c.args.mounted (mounts.Receiving c.in-Receiving.state) (g.F.Flash.state c.args.flash.now).bytes c.in-Receiving.is c.requires.says))

pub returns-then-goes_on-clause-answers : goal.returns-then-goes_on-clause-answers
returns-then-goes_on-clause-answers g c =
    part_for c.args.mounted (mounts.Whole c.in-Whole.state) c.args.off (option_map (λ t. t.now) c.args.tag) c.args.bytes.now c.refuses.result (g.F.Flash.state c.args.flash.now) (g.F.Flash.state c.args.flash.now) c.in-Whole.is
    (part_more c.sides_are_told_apart.ensures (mounts.Whole c.in-Whole.state) c.in-Whole.state.announcement c.in-Whole.state.announcement.length (geometry_of c.in-Whole.state.layout).unit c.args.off (option_map (λ t. t.now) c.args.tag) c.args.bytes.now c.refuses.result (g.F.Flash.state c.args.flash.now) refl (c.goes_on.ensures.yes c.if-goes_on.true).0 refl (c.goes_on.ensures.yes c.if-goes_on.true).1 c.refuses.ensures (says_for c.args.mounted (mounts.Whole c.in-Whole.state) (g.F.Flash.state c.args.flash.now).bytes c.in-Whole.is c.requires.says))

pub returns-else-goes_on-clause-answers : goal.returns-else-goes_on-clause-answers
returns-else-goes_on-clause-answers g c =
    part_for c.args.mounted (mounts.Whole c.in-Whole.state) c.args.off (option_map (λ t. t.now) c.args.tag) c.args.bytes.now c.wants-in-Whole.result (g.F.Flash.state c.args.flash.now) (g.F.Flash.state c.args.flash.now) c.in-Whole.is
    (part_end c.sides_are_told_apart.ensures (mounts.Whole c.in-Whole.state) c.in-Whole.state.announcement c.in-Whole.state.announcement.length (geometry_of c.in-Whole.state.layout).unit c.args.off (option_map (λ t. t.now) c.args.tag) c.args.bytes.now c.wants-in-Whole.result (g.F.Flash.state c.args.flash.now) refl refl (c.goes_on.ensures.not c.if-goes_on.false) c.wants-in-Whole.ensures (says_for c.args.mounted (mounts.Whole c.in-Whole.state) (g.F.Flash.state c.args.flash.now).bytes c.in-Whole.is c.requires.says))

pub returns-then-goes_on-2-clause-answers : goal.returns-then-goes_on-2-clause-answers
returns-then-goes_on-2-clause-answers g c =
    part_for c.args.mounted (mounts.Pending c.in-Pending.state) c.args.off (option_map (λ t. t.now) c.args.tag) c.args.bytes.now c.refuses-then-goes_on-2.result (g.F.Flash.state c.args.flash.now) (g.F.Flash.state c.args.flash.now) c.in-Pending.is
    (part_more c.sides_are_told_apart.ensures (mounts.Pending c.in-Pending.state) c.in-Pending.state.announcement c.in-Pending.state.announcement.length (geometry_of c.in-Pending.state.layout).unit c.args.off (option_map (λ t. t.now) c.args.tag) c.args.bytes.now c.refuses-then-goes_on-2.result (g.F.Flash.state c.args.flash.now) refl (c.goes_on-in-Pending.ensures.yes c.if-goes_on-2.true).0 refl (c.goes_on-in-Pending.ensures.yes c.if-goes_on-2.true).1 c.refuses-then-goes_on-2.ensures (says_for c.args.mounted (mounts.Pending c.in-Pending.state) (g.F.Flash.state c.args.flash.now).bytes c.in-Pending.is c.requires.says))

pub returns-else-goes_on-2-clause-answers : goal.returns-else-goes_on-2-clause-answers
returns-else-goes_on-2-clause-answers g c =
    part_for c.args.mounted (mounts.Pending c.in-Pending.state) c.args.off (option_map (λ t. t.now) c.args.tag) c.args.bytes.now c.wants-in-Pending.result (g.F.Flash.state c.args.flash.now) (g.F.Flash.state c.args.flash.now) c.in-Pending.is
    (part_end c.sides_are_told_apart.ensures (mounts.Pending c.in-Pending.state) c.in-Pending.state.announcement c.in-Pending.state.announcement.length (geometry_of c.in-Pending.state.layout).unit c.args.off (option_map (λ t. t.now) c.args.tag) c.args.bytes.now c.wants-in-Pending.result (g.F.Flash.state c.args.flash.now) refl refl (c.goes_on-in-Pending.ensures.not c.if-goes_on-2.false) c.wants-in-Pending.ensures (says_for c.args.mounted (mounts.Pending c.in-Pending.state) (g.F.Flash.state c.args.flash.now).bytes c.in-Pending.is c.requires.says))
