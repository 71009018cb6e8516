use Rattle.std.proofs.Common.{refl, arith}
use Rattle.smp_flash.specs.Layout.{geometry_of}
use Rattle.smp_flash.proofs.Passing.{reads_more}
use Rattle.smp_upload.specs.States.{known_idle, known_receiving, known_whole}
use Rattle.smp_upload.specs.declared.states.Mounted.TheVariants as mounts
use Rattle.smp_side.proofs.Parting.{start_wanted, start_refused, start_anew, start_idle, start_again, start_for, says_for}
use Rattle.smp_side.proofs.uploading.start.Goals as goal

pub returns-in-Idle-clause-answers : goal.returns-in-Idle-clause-answers
returns-in-Idle-clause-answers g c =
    start_for c.args.mounted (mounts.Idle c.in-Idle.state) c.args.announcement.now c.args.bytes.now c.begin_idle.result (g.F.Flash.state c.args.flash.now) (g.F.Flash.state c.begin_idle.new.flash) c.in-Idle.is
    (start_idle c.sides_are_told_apart.ensures (known_idle c.in-Idle.state) c.args.announcement.now (geometry_of c.in-Idle.state.layout).unit c.args.bytes.now c.begin_idle.result (g.F.Flash.state c.args.flash.now) (g.F.Flash.state c.begin_idle.new.flash) refl refl (says_for c.args.mounted (mounts.Idle c.in-Idle.state) (g.F.Flash.state c.args.flash.now).bytes c.in-Idle.is c.requires.says) c.begin_idle.ensures.answers)

pub returns-then-not-resumes-clause-answers : goal.returns-then-not-resumes-clause-answers
returns-then-not-resumes-clause-answers g c =
    start_for c.args.mounted (mounts.Receiving c.in-Receiving.state) c.args.announcement.now c.args.bytes.now c.begin_receiving.result (g.F.Flash.state c.args.flash.now) (g.F.Flash.state c.begin_receiving.new.flash) c.in-Receiving.is
    (start_anew c.sides_are_told_apart.ensures (known_receiving c.in-Receiving.state) c.in-Receiving.state.announcement c.args.announcement.now c.in-Receiving.state.offset (geometry_of c.in-Receiving.state.layout).unit c.args.bytes.now c.begin_receiving.result (g.F.Flash.state c.args.flash.now) (g.F.Flash.state c.begin_receiving.new.flash) refl refl (let e = c.resumes.ensures in let f = c.if-not-resumes.true in cc (e, f)) (says_for c.args.mounted (mounts.Receiving c.in-Receiving.state) (g.F.Flash.state c.args.flash.now).bytes c.in-Receiving.is c.requires.says) c.begin_receiving.ensures.answers)

pub returns-then-state-eq0-clause-answers : goal.returns-then-state-eq0-clause-answers
returns-then-state-eq0-clause-answers g c =
    start_for c.args.mounted (mounts.Receiving c.in-Receiving.state) c.args.announcement.now c.args.bytes.now c.part.result (g.F.Flash.state c.args.flash.now) (g.F.Flash.state c.part.new.flash) c.in-Receiving.is
    (start_again c.sides_are_told_apart.ensures (known_receiving c.in-Receiving.state) c.in-Receiving.state.announcement c.args.announcement.now c.in-Receiving.state.offset (geometry_of c.in-Receiving.state.layout).unit c.args.bytes.now c.part.result (g.F.Flash.state c.args.flash.now) (g.F.Flash.state c.part.new.flash) refl (let e = c.resumes.ensures in let f = c.if-not-resumes.false in cc (e, f)) c.if-state-eq0.true (says_for c.args.mounted (mounts.Receiving c.in-Receiving.state) (g.F.Flash.state c.args.flash.now).bytes c.in-Receiving.is c.requires.says) c.part.ensures.answers)

pub returns-else-state-eq0-clause-answers : goal.returns-else-state-eq0-clause-answers
returns-else-state-eq0-clause-answers g c =
    start_for c.args.mounted (mounts.Receiving c.in-Receiving.state) c.args.announcement.now c.args.bytes.now c.wants.result (g.F.Flash.state c.args.flash.now) (g.F.Flash.state c.args.flash.now) c.in-Receiving.is
    (start_wanted c.sides_are_told_apart.ensures (mounts.Receiving c.in-Receiving.state) c.in-Receiving.state.announcement c.args.announcement.now c.in-Receiving.state.offset (geometry_of c.in-Receiving.state.layout).unit c.args.bytes.now c.wants.result (g.F.Flash.state c.args.flash.now) refl (let e = c.resumes.ensures in let f = c.if-not-resumes.false in cc (e, f)) (let ne = c.if-state-eq0.false in omega (arith, ne)) c.wants.ensures (says_for c.args.mounted (mounts.Receiving c.in-Receiving.state) (g.F.Flash.state c.args.flash.now).bytes c.in-Receiving.is c.requires.says))

pub returns-then-not-resumes-2-clause-answers : goal.returns-then-not-resumes-2-clause-answers
returns-then-not-resumes-2-clause-answers g c =
    start_for c.args.mounted (mounts.Whole c.in-Whole.state) c.args.announcement.now c.args.bytes.now c.begin_whole.result (g.F.Flash.state c.args.flash.now) (g.F.Flash.state c.begin_whole.new.flash) c.in-Whole.is
    (start_anew c.sides_are_told_apart.ensures (known_whole c.in-Whole.state) c.in-Whole.state.announcement c.args.announcement.now c.in-Whole.state.announcement.length (geometry_of c.in-Whole.state.layout).unit c.args.bytes.now c.begin_whole.result (g.F.Flash.state c.args.flash.now) (g.F.Flash.state c.begin_whole.new.flash) refl refl (let e = c.resumes-in-Whole.ensures in let f = c.if-not-resumes-2.true in cc (e, f)) (says_for c.args.mounted (mounts.Whole c.in-Whole.state) (g.F.Flash.state c.args.flash.now).bytes c.in-Whole.is c.requires.says) c.begin_whole.ensures.answers)

pub returns-else-not-resumes-2-clause-answers : goal.returns-else-not-resumes-2-clause-answers
returns-else-not-resumes-2-clause-answers g c =
    start_for c.args.mounted (mounts.Whole c.in-Whole.state) c.args.announcement.now c.args.bytes.now c.wants-in-Whole.result (g.F.Flash.state c.args.flash.now) (g.F.Flash.state c.args.flash.now) c.in-Whole.is
    (start_wanted c.sides_are_told_apart.ensures (mounts.Whole c.in-Whole.state) c.in-Whole.state.announcement c.args.announcement.now c.in-Whole.state.announcement.length (geometry_of c.in-Whole.state.layout).unit c.args.bytes.now c.wants-in-Whole.result (g.F.Flash.state c.args.flash.now) refl (let e = c.resumes-in-Whole.ensures in let f = c.if-not-resumes-2.false in cc (e, f)) (let least = c.in-Whole.state.least in omega (arith, least)) c.wants-in-Whole.ensures (says_for c.args.mounted (mounts.Whole c.in-Whole.state) (g.F.Flash.state c.args.flash.now).bytes c.in-Whole.is c.requires.says))

pub returns-then-not-resumes-3-clause-answers : goal.returns-then-not-resumes-3-clause-answers
returns-then-not-resumes-3-clause-answers g c =
    start_for c.args.mounted (mounts.Pending c.in-Pending.state) c.args.announcement.now c.args.bytes.now c.refuses.result (g.F.Flash.state c.args.flash.now) (g.F.Flash.state c.args.flash.now) c.in-Pending.is
    (start_refused c.sides_are_told_apart.ensures (mounts.Pending c.in-Pending.state) c.in-Pending.state.announcement c.args.announcement.now c.in-Pending.state.announcement.length (geometry_of c.in-Pending.state.layout).unit c.in-Pending.state.mark c.args.bytes.now c.refuses.result (g.F.Flash.state c.args.flash.now) refl refl (let e = c.resumes-in-Pending.ensures in let f = c.if-not-resumes-3.true in cc (e, f)) c.refuses.ensures (says_for c.args.mounted (mounts.Pending c.in-Pending.state) (g.F.Flash.state c.args.flash.now).bytes c.in-Pending.is c.requires.says))

pub returns-else-not-resumes-3-clause-answers : goal.returns-else-not-resumes-3-clause-answers
returns-else-not-resumes-3-clause-answers g c =
    start_for c.args.mounted (mounts.Pending c.in-Pending.state) c.args.announcement.now c.args.bytes.now c.wants-in-Pending.result (g.F.Flash.state c.args.flash.now) (g.F.Flash.state c.args.flash.now) c.in-Pending.is
    (start_wanted c.sides_are_told_apart.ensures (mounts.Pending c.in-Pending.state) c.in-Pending.state.announcement c.args.announcement.now c.in-Pending.state.announcement.length (geometry_of c.in-Pending.state.layout).unit c.args.bytes.now c.wants-in-Pending.result (g.F.Flash.state c.args.flash.now) refl (let e = c.resumes-in-Pending.ensures in let f = c.if-not-resumes-3.false in cc (e, f)) (let least = c.in-Pending.state.least in omega (arith, least)) c.wants-in-Pending.ensures (says_for c.args.mounted (mounts.Pending c.in-Pending.state) (g.F.Flash.state c.args.flash.now).bytes c.in-Pending.is c.requires.says))

pub returns-then-state-eq0-clause-reads : goal.returns-then-state-eq0-clause-reads
returns-then-state-eq0-clause-reads g c = λ small.
    reads_more 200000 204096 (g.F.Flash.state c.args.flash.now).bytes_read (g.F.Flash.state c.part.new.flash).bytes_read (omega arith) (c.part.ensures.reads small)
