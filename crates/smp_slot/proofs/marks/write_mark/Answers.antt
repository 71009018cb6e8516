use Rattle.std.proofs.Common.{◌≡◌, ◌+◌, ◌-◌, ◌≤◌, Some, arith, sym, subst}
use Rattle.std.specs.Prelude.{IfSome}
use Rattle.std.proofs.lemmas.Result.{on_ok_weaker}
use Rattle.smp_flash.specs.Area.{spot, area, Keeps, Told}
use Rattle.smp_flash.proofs.Passing.{Calls-after, Calls-wider, Covers-within}
use Rattle.smp_flash.proofs.Sizes.{regular}
use Rattle.smp_model.specs.declared.upload.Mark.{Mark}
use Rattle.smp_slot.specs.Marks.{MarkOrNone, mark_in, mark_size, mark_end}
use Rattle.smp_slot.proofs.Ending.{end_placed, magic_clean, test_either, test_stands, flagged_after, flag_torn, permanent_either, permanent_stands}
use Rattle.smp_slot.proofs.LastPage.{told_end, told_both, test_end, permanent_end}
use Rattle.smp_slot.proofs.marks.write_mark.Goals as goal

pub write_magic-requires-in-Ok-clause-clean : goal.write_magic-requires-in-Ok-clause-clean
write_magic-requires-in-Ok-clause-clean g c =
    let sizes = (g.F.Flash.state c.args.flash.now).geometry in
    let p = end_placed c.args.slot sizes (regular sizes (g.met.F.Flash.lawful c.args.flash.now)) c.requires.slot in
    let long : 24 ≤ c.args.slot.at + c.args.slot.length = omega (arith, p.page_some, p.fits) in
    magic_clean c.args.slot _ _ long c.requires.magic c.in-Ok.ensures.calls.keeps

pub returns-in-Test-clause-either : goal.returns-in-Test-clause-either
returns-in-Test-clause-either g c =
    let sizes = (g.F.Flash.state c.args.flash.now).geometry in
    let p = end_placed c.args.slot sizes (regular sizes (g.met.F.Flash.lawful c.args.flash.now)) c.requires.slot in
    let long : 24 ≤ c.args.slot.at + c.args.slot.length = omega (arith, p.page_some, p.fits) in
    subst (λ (m : Mark). IfSome (g.F.Flash.state c.write_magic.new.flash).bytes (MarkOrNone c.args.slot m)) (sym c.in-Test.is)
    (test_either c.args.slot _ _ long c.requires.flag c.write_magic.ensures.calls.keeps)

pub returns-in-Test-clause-ok : goal.returns-in-Test-clause-ok
returns-in-Test-clause-ok g c =
    let sizes = (g.F.Flash.state c.args.flash.now).geometry in
    let p = end_placed c.args.slot sizes (regular sizes (g.met.F.Flash.lawful c.args.flash.now)) c.requires.slot in
    let long : 24 ≤ c.args.slot.at + c.args.slot.length = omega (arith, p.page_some, p.fits) in
    on_ok_weaker c.write_magic.result (λ h.
    subst (λ (m : Mark). IfSome (g.F.Flash.state c.write_magic.new.flash).bytes (λ held. mark_in c.args.slot held ≡ Some m)) (sym c.in-Test.is)
    (test_stands c.args.slot _ _ long c.requires.flag h)) c.write_magic.ensures.ok

pub returns-in-Ok-clause-calls : goal.returns-in-Ok-clause-calls
returns-in-Ok-clause-calls g c =
    let sizes = (g.F.Flash.state c.args.flash.now).geometry in
    let p = end_placed c.args.slot sizes (regular sizes (g.met.F.Flash.lawful c.args.flash.now)) c.requires.slot in
    let long : 24 ≤ c.args.slot.at + c.args.slot.length = omega (arith, p.page_some, p.fits) in
    let at = c.args.slot.at + c.args.slot.length - 24 in
    let behind = c.args.slot.at + c.args.slot.length - 16 in
    Calls-after (spot at 24) _ _ _ _
    (Calls-wider (spot at 24) (spot at 8) _ _ _ (Covers-within at 8 at 24 (omega arith) (omega arith)) c.in-Ok.ensures.calls)
    (Calls-wider (spot at 24) (spot behind 16) _ _ _ (Covers-within behind 16 at 24 (omega arith) (omega (arith, long))) c.write_magic-in-Ok.ensures.calls)

pub returns-in-Ok-clause-either : goal.returns-in-Ok-clause-either
returns-in-Ok-clause-either g c =
    let sizes = (g.F.Flash.state c.args.flash.now).geometry in
    let p = end_placed c.args.slot sizes (regular sizes (g.met.F.Flash.lawful c.args.flash.now)) c.requires.slot in
    let long : 24 ≤ c.args.slot.at + c.args.slot.length = omega (arith, p.page_some, p.fits) in
    subst (λ (m : Mark). IfSome (g.F.Flash.state c.write_magic-in-Ok.new.flash).bytes (MarkOrNone c.args.slot m)) (sym c.in-Permanent.is)
    (permanent_either c.args.slot _ _ long (flagged_after c.args.slot _ _ c.in-Ok.ensures.ok) c.write_magic-in-Ok.ensures.calls.keeps)

pub returns-in-Ok-clause-ok : goal.returns-in-Ok-clause-ok
returns-in-Ok-clause-ok g c =
    let sizes = (g.F.Flash.state c.args.flash.now).geometry in
    let p = end_placed c.args.slot sizes (regular sizes (g.met.F.Flash.lawful c.args.flash.now)) c.requires.slot in
    let long : 24 ≤ c.args.slot.at + c.args.slot.length = omega (arith, p.page_some, p.fits) in
    on_ok_weaker c.write_magic-in-Ok.result (λ h.
    subst (λ (m : Mark). IfSome (g.F.Flash.state c.write_magic-in-Ok.new.flash).bytes (λ held. mark_in c.args.slot held ≡ Some m)) (sym c.in-Permanent.is)
    (permanent_stands c.args.slot _ _ long (flagged_after c.args.slot _ _ c.in-Ok.ensures.ok) h)) c.write_magic-in-Ok.ensures.ok

pub returns-in-Err-clause-either : goal.returns-in-Err-clause-either
returns-in-Err-clause-either g c =
    let sizes = (g.F.Flash.state c.args.flash.now).geometry in
    let p = end_placed c.args.slot sizes (regular sizes (g.met.F.Flash.lawful c.args.flash.now)) c.requires.slot in
    let long : 24 ≤ c.args.slot.at + c.args.slot.length = omega (arith, p.page_some, p.fits) in
    subst (λ (m : Mark). IfSome (g.F.Flash.state c.write_flag.new.flash).bytes (MarkOrNone c.args.slot m)) (sym c.in-Permanent.is)
    (flag_torn c.args.slot _ _ long c.requires.magic c.write_flag.ensures.calls.keeps)

pub returns-in-Test-clause-keeps : goal.returns-in-Test-clause-keeps
returns-in-Test-clause-keeps g c =
    subst (λ (m : Mark). Told (Keeps (spot (c.args.slot.at + c.args.slot.length - mark_size m) (mark_size m))) (g.F.Flash.state c.args.flash.now).bytes (g.F.Flash.state c.write_magic.new.flash).bytes) (sym c.in-Test.is)
    c.write_magic.ensures.calls.keeps

pub returns-in-Test-clause-holds : goal.returns-in-Test-clause-holds
returns-in-Test-clause-holds g c =
    let sizes = (g.F.Flash.state c.args.flash.now).geometry in
    let p = end_placed c.args.slot sizes (regular sizes (g.met.F.Flash.lawful c.args.flash.now)) c.requires.slot in
    let long : 24 ≤ c.args.slot.at + c.args.slot.length = omega (arith, p.page_some, p.fits) in
    on_ok_weaker c.write_magic.result (λ h.
    subst (λ (m : Mark). IfSome (g.F.Flash.state c.write_magic.new.flash).bytes (λ held. area (c.args.slot.at + c.args.slot.length - 24) 24 held ≡ mark_end m)) (sym c.in-Test.is)
    (test_end c.args.slot _ _ long c.requires.flag h)) c.write_magic.ensures.ok

pub returns-in-Ok-clause-keeps : goal.returns-in-Ok-clause-keeps
returns-in-Ok-clause-keeps g c =
    let sizes = (g.F.Flash.state c.args.flash.now).geometry in
    let p = end_placed c.args.slot sizes (regular sizes (g.met.F.Flash.lawful c.args.flash.now)) c.requires.slot in
    let long : 24 ≤ c.args.slot.at + c.args.slot.length = omega (arith, p.page_some, p.fits) in
    subst (λ (m : Mark). Told (Keeps (spot (c.args.slot.at + c.args.slot.length - mark_size m) (mark_size m))) (g.F.Flash.state c.args.flash.now).bytes (g.F.Flash.state c.write_magic-in-Ok.new.flash).bytes) (sym c.in-Permanent.is)
    (told_both c.args.slot _ _ _ long c.in-Ok.ensures.calls.keeps c.write_magic-in-Ok.ensures.calls.keeps)

pub returns-in-Ok-clause-holds : goal.returns-in-Ok-clause-holds
returns-in-Ok-clause-holds g c =
    let sizes = (g.F.Flash.state c.args.flash.now).geometry in
    let p = end_placed c.args.slot sizes (regular sizes (g.met.F.Flash.lawful c.args.flash.now)) c.requires.slot in
    let long : 24 ≤ c.args.slot.at + c.args.slot.length = omega (arith, p.page_some, p.fits) in
    on_ok_weaker c.write_magic-in-Ok.result (λ h.
    subst (λ (m : Mark). IfSome (g.F.Flash.state c.write_magic-in-Ok.new.flash).bytes (λ held. area (c.args.slot.at + c.args.slot.length - 24) 24 held ≡ mark_end m)) (sym c.in-Permanent.is)
    (permanent_end c.args.slot _ _ _ long c.in-Ok.ensures.ok h)) c.write_magic-in-Ok.ensures.ok

pub returns-in-Err-clause-keeps : goal.returns-in-Err-clause-keeps
returns-in-Err-clause-keeps g c =
    let sizes = (g.F.Flash.state c.args.flash.now).geometry in
    let p = end_placed c.args.slot sizes (regular sizes (g.met.F.Flash.lawful c.args.flash.now)) c.requires.slot in
    let long : 24 ≤ c.args.slot.at + c.args.slot.length = omega (arith, p.page_some, p.fits) in
    subst (λ (m : Mark). Told (Keeps (spot (c.args.slot.at + c.args.slot.length - mark_size m) (mark_size m))) (g.F.Flash.state c.args.flash.now).bytes (g.F.Flash.state c.write_flag.new.flash).bytes) (sym c.in-Permanent.is)
    (told_end c.args.slot 24 8 _ _ long (omega arith) (omega arith) c.write_flag.ensures.calls.keeps)
