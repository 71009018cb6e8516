use Rattle.std.proofs.Common.{Some, sym, ap}
use Rattle.std.specs.Prelude.{option_map}
use Rattle.smp_model.specs.Does.{does}
use Rattle.smp_model.specs.ImageGroup.{sets_image, sets_no_hash}
use Rattle.smp_model.specs.Meant as meant
use Rattle.smp_device.specs.Places.{places_of}
use Rattle.smp_device.specs.Uploads.{sizes_of}
use Rattle.smp_device.proofs.Fields.{images_as}
use Rattle.std.proofs.Common.{None}
use Rattle.smp_device.proofs.Mounting.{set_mounts, set_untouches}
use Rattle.smp_device.proofs.hashes.set.Goals as goal

pub returns-in-None-clause-answers : goal.returns-in-None-clause-answers
returns-in-None-clause-answers g c =
    images_as (places_of c.args.images) 5 c.args.images.target (λ d. sets_no_hash d c.args.confirm) (λ d. does (sizes_of (g.F.Flash.state c.args.flash.now).geometry) d (meant.image_set (option_map (λ h. h.now) c.args.hash) c.args.confirm)) c.set_running.result.images c.set_running.result.result (g.F.Flash.state c.args.flash.now) (g.F.Flash.state c.set_running.new.flash) (λ d bytes stands. ap (λ o. sets_image d (option_map (λ h. h.now) o) c.args.confirm) (sym c.in-None.is)) c.set_running.ensures.answers

pub returns-in-Some-clause-answers : goal.returns-in-Some-clause-answers
returns-in-Some-clause-answers g c =
    images_as (places_of c.args.images) 5 c.args.images.target (λ d. sets_image d (Some c.in-Some.hash.now) c.args.confirm) (λ d. does (sizes_of (g.F.Flash.state c.args.flash.now).geometry) d (meant.image_set (option_map (λ h. h.now) c.args.hash) c.args.confirm)) c.set_hash.result.images c.set_hash.result.result (g.F.Flash.state c.args.flash.now) (g.F.Flash.state c.set_hash.new.flash) (λ d bytes stands. ap (λ o. sets_image d (option_map (λ h. h.now) o) c.args.confirm) (sym c.in-Some.is)) c.set_hash.ensures.answers

pub returns-in-None-clause-untouched : goal.returns-in-None-clause-untouched
returns-in-None-clause-untouched g c =
    set_untouches (sizes_of (g.F.Flash.state c.args.flash.now).geometry) (option_map (λ h. h.now) c.args.hash) None c.args.confirm c.args.images c.set_running.result (g.F.Flash.state c.args.flash.now) (g.F.Flash.state c.set_running.new.flash) (ap (option_map (λ h. h.now)) c.in-None.is) c.set_running.ensures.untouched

pub returns-in-None-clause-mounts : goal.returns-in-None-clause-mounts
returns-in-None-clause-mounts g c =
    set_mounts (sizes_of (g.F.Flash.state c.args.flash.now).geometry) (option_map (λ h. h.now) c.args.hash) None c.args.confirm c.args.images c.set_running.result (g.F.Flash.state c.args.flash.now) (g.F.Flash.state c.set_running.new.flash) (ap (option_map (λ h. h.now)) c.in-None.is) c.set_running.ensures.mounts

pub returns-in-Some-clause-untouched : goal.returns-in-Some-clause-untouched
returns-in-Some-clause-untouched g c =
    set_untouches (sizes_of (g.F.Flash.state c.args.flash.now).geometry) (option_map (λ h. h.now) c.args.hash) (Some c.in-Some.hash.now) c.args.confirm c.args.images c.set_hash.result (g.F.Flash.state c.args.flash.now) (g.F.Flash.state c.set_hash.new.flash) (ap (option_map (λ h. h.now)) c.in-Some.is) c.set_hash.ensures.untouched

pub returns-in-Some-clause-mounts : goal.returns-in-Some-clause-mounts
returns-in-Some-clause-mounts g c =
    set_mounts (sizes_of (g.F.Flash.state c.args.flash.now).geometry) (option_map (λ h. h.now) c.args.hash) (Some c.in-Some.hash.now) c.args.confirm c.args.images c.set_hash.result (g.F.Flash.state c.args.flash.now) (g.F.Flash.state c.set_hash.new.flash) (ap (option_map (λ h. h.now)) c.in-Some.is) c.set_hash.ensures.mounts
