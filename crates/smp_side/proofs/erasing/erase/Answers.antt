use Rattle.std.proofs.Common.{refl, sym, ap, subst, arith, ◌+◌, ◌/◌}
use Rattle.smp_flash.specs.Calls.{ReadsAtMost, ChangesAtMost}
use Rattle.smp_flash.specs.Layout.{geometry_of, slot_of}
use Rattle.smp_flash.proofs.Passing.{reads_more, changes_more}
use Rattle.smp_upload.specs.States.{Known}
use Rattle.smp_upload.specs.States.{known_mounted, known_idle, known_receiving, known_whole}
use Rattle.smp_upload.specs.declared.states.Mounted.TheVariants as mounts
use Rattle.smp_side.proofs.Answering.{caused_by}
use Rattle.smp_side.proofs.Parting.{says_for}
use Rattle.smp_side.proofs.Setting.{erase_done, erase_lost, erase_refused}
use Rattle.smp_side.proofs.erasing.erase.Goals as goal

pub returns-in-Ok-clause-answers : goal.returns-in-Ok-clause-answers
returns-in-Ok-clause-answers g c =
    erase_done c.sides_are_told_apart.ensures (known_idle c.in-Idle.state) c.args.mounted c.in-Ok.idle 0 c.said.result (g.F.Flash.state c.args.flash.now) (g.F.Flash.state c.erase.new.flash) (sym (ap known_mounted c.in-Idle.is)) refl (omega arith) c.said.ensures c.in-Ok.ensures.layout
    (says_for c.args.mounted (mounts.Idle c.in-Idle.state) (g.F.Flash.state c.args.flash.now).bytes c.in-Idle.is c.requires.says) c.in-Ok.ensures.done c.in-Ok.ensures.says

pub returns-in-Err-clause-answers : goal.returns-in-Err-clause-answers
returns-in-Err-clause-answers g c =
    erase_lost c.sides_are_told_apart.ensures (known_idle c.in-Idle.state) c.args.mounted 0 c.in-Err.fault c.lost.result (g.F.Flash.state c.args.flash.now) (g.F.Flash.state c.erase.new.flash) (sym (ap known_mounted c.in-Idle.is)) refl (omega arith) c.in-Err.ensures.lost c.lost.ensures c.in-Err.ensures.moved
    (says_for c.args.mounted (mounts.Idle c.in-Idle.state) (g.F.Flash.state c.args.flash.now).bytes c.in-Idle.is c.requires.says)
    (caused_by c.bank_says_what_stands.ensures.generation (known_idle c.in-Idle.state) 0 1 c.in-Err.fault.fault (g.F.Flash.state c.args.flash.now).bytes (says_for c.args.mounted (mounts.Idle c.in-Idle.state) (g.F.Flash.state c.args.flash.now).bytes c.in-Idle.is c.requires.says) c.in-Err.ensures.formatted c.in-Err.ensures.worn (omega arith))

pub returns-in-Ok-erase-clause-answers : goal.returns-in-Ok-erase-clause-answers
returns-in-Ok-erase-clause-answers g c =
    erase_done c.sides_are_told_apart.ensures (known_receiving c.in-Receiving.state) c.args.mounted c.in-Ok-erase.idle 1 c.said-in-Ok-erase.result (g.F.Flash.state c.args.flash.now) (g.F.Flash.state c.erase-in-Receiving.new.flash) (sym (ap known_mounted c.in-Receiving.is)) refl (omega arith) c.said-in-Ok-erase.ensures c.in-Ok-erase.ensures.layout
    (says_for c.args.mounted (mounts.Receiving c.in-Receiving.state) (g.F.Flash.state c.args.flash.now).bytes c.in-Receiving.is c.requires.says) c.in-Ok-erase.ensures.done c.in-Ok-erase.ensures.says

pub returns-in-Err-erase-clause-answers : goal.returns-in-Err-erase-clause-answers
returns-in-Err-erase-clause-answers g c =
    erase_lost c.sides_are_told_apart.ensures (known_receiving c.in-Receiving.state) c.args.mounted 1 c.in-Err-erase.fault c.lost-in-Err-erase.result (g.F.Flash.state c.args.flash.now) (g.F.Flash.state c.erase-in-Receiving.new.flash) (sym (ap known_mounted c.in-Receiving.is)) refl (omega arith) c.in-Err-erase.ensures.lost c.lost-in-Err-erase.ensures c.in-Err-erase.ensures.moved
    (says_for c.args.mounted (mounts.Receiving c.in-Receiving.state) (g.F.Flash.state c.args.flash.now).bytes c.in-Receiving.is c.requires.says)
    (caused_by c.bank_says_what_stands.ensures.generation (known_receiving c.in-Receiving.state) 1 1 c.in-Err-erase.fault.fault (g.F.Flash.state c.args.flash.now).bytes (says_for c.args.mounted (mounts.Receiving c.in-Receiving.state) (g.F.Flash.state c.args.flash.now).bytes c.in-Receiving.is c.requires.says) c.in-Err-erase.ensures.formatted c.in-Err-erase.ensures.worn (omega arith))

pub returns-in-Ok-erase-2-clause-answers : goal.returns-in-Ok-erase-2-clause-answers
returns-in-Ok-erase-2-clause-answers g c =
    erase_done c.sides_are_told_apart.ensures (known_whole c.in-Whole.state) c.args.mounted c.in-Ok-erase-2.idle 1 c.said-in-Ok-erase-2.result (g.F.Flash.state c.args.flash.now) (g.F.Flash.state c.erase-in-Whole.new.flash) (sym (ap known_mounted c.in-Whole.is)) refl (omega arith) c.said-in-Ok-erase-2.ensures c.in-Ok-erase-2.ensures.layout
    (says_for c.args.mounted (mounts.Whole c.in-Whole.state) (g.F.Flash.state c.args.flash.now).bytes c.in-Whole.is c.requires.says) c.in-Ok-erase-2.ensures.done c.in-Ok-erase-2.ensures.says

pub returns-in-Err-erase-2-clause-answers : goal.returns-in-Err-erase-2-clause-answers
returns-in-Err-erase-2-clause-answers g c =
    erase_lost c.sides_are_told_apart.ensures (known_whole c.in-Whole.state) c.args.mounted 1 c.in-Err-erase-2.fault c.lost-in-Err-erase-2.result (g.F.Flash.state c.args.flash.now) (g.F.Flash.state c.erase-in-Whole.new.flash) (sym (ap known_mounted c.in-Whole.is)) refl (omega arith) c.in-Err-erase-2.ensures.lost c.lost-in-Err-erase-2.ensures c.in-Err-erase-2.ensures.moved
    (says_for c.args.mounted (mounts.Whole c.in-Whole.state) (g.F.Flash.state c.args.flash.now).bytes c.in-Whole.is c.requires.says)
    (caused_by c.bank_says_what_stands.ensures.generation (known_whole c.in-Whole.state) 1 1 c.in-Err-erase-2.fault.fault (g.F.Flash.state c.args.flash.now).bytes (says_for c.args.mounted (mounts.Whole c.in-Whole.state) (g.F.Flash.state c.args.flash.now).bytes c.in-Whole.is c.requires.says) c.in-Err-erase-2.ensures.formatted c.in-Err-erase-2.ensures.worn (omega arith))

pub returns-in-Pending-clause-answers : goal.returns-in-Pending-clause-answers
returns-in-Pending-clause-answers g c =
    erase_refused c.sides_are_told_apart.ensures c.args.mounted (mounts.Pending c.in-Pending.state) c.in-Pending.state.mark c.refuses.result (g.F.Flash.state c.args.flash.now) c.in-Pending.is refl c.refuses.ensures c.requires.says

pub returns-in-Ok-clause-reads : goal.returns-in-Ok-clause-reads
returns-in-Ok-clause-reads g c =
    subst (λ (k : Known). ReadsAtMost (4096 + (slot_of k.layout 1).length) (g.F.Flash.state c.args.flash.now).bytes_read (g.F.Flash.state c.erase.new.flash).bytes_read) (sym (ap known_mounted c.in-Idle.is))
    (reads_more (slot_of c.in-Idle.state.layout 1).length (4096 + (slot_of c.in-Idle.state.layout 1).length) (g.F.Flash.state c.args.flash.now).bytes_read (g.F.Flash.state c.erase.new.flash).bytes_read (omega arith) c.in-Ok.ensures.reads)

pub returns-in-Ok-clause-changes : goal.returns-in-Ok-clause-changes
returns-in-Ok-clause-changes g c =
    subst (λ (k : Known). ChangesAtMost 2 (8 + (slot_of k.layout 1).length / (geometry_of k.layout).page) (g.F.Flash.state c.args.flash.now).changes (g.F.Flash.state c.erase.new.flash).changes) (sym (ap known_mounted c.in-Idle.is))
    (changes_more 0 2 ((slot_of c.in-Idle.state.layout 1).length / (geometry_of c.in-Idle.state.layout).page) (8 + (slot_of c.in-Idle.state.layout 1).length / (geometry_of c.in-Idle.state.layout).page) (g.F.Flash.state c.args.flash.now).changes (g.F.Flash.state c.erase.new.flash).changes (omega arith) (omega arith) c.in-Ok.ensures.changes)
