use Rattle.std.proofs.Common.{ap}
use Rattle.std.specs.Prelude.{option_map}
use Rattle.smp_model.specs.Meant as meant
use Rattle.smp_model.specs.Meant.{meant_of}
use Rattle.smp_device.specs.Up.{up_of}
use Rattle.smp_device.proofs.ServingQuietly.{meant_as}
use Rattle.smp_device.proofs.serving.serve.Goals as goal

pub returns-in-ImageList-clause-serves : goal.returns-in-ImageList-clause-serves
returns-in-ImageList-clause-serves g c = λ counters.
    meant_as (g.F.Flash.state c.args.flash.now).geometry meant.image_list (meant_of c.args.request.now) (up_of c.args.images c.args.settings.now c.args.files.now counters) (up_of c.serve_list.result.images c.args.settings.now c.args.files.now counters) c.serve_list.result.result (g.F.Flash.state c.args.flash.now) (g.F.Flash.state c.serve_list.new.flash) (ap meant_of c.in-ImageList.is)
    (c.serve_list.ensures.serves c.args.settings.now c.args.files.now counters c.requires.regions c.requires.says)

pub returns-in-ImageSet-clause-serves : goal.returns-in-ImageSet-clause-serves
returns-in-ImageSet-clause-serves g c = λ counters.
    meant_as (g.F.Flash.state c.args.flash.now).geometry (meant.image_set (option_map (λ h. h.now) c.in-ImageSet.hash) c.in-ImageSet.confirm) (meant_of c.args.request.now) (up_of c.args.images c.args.settings.now c.args.files.now counters) (up_of c.serve_set.result.images c.args.settings.now c.args.files.now counters) c.serve_set.result.result (g.F.Flash.state c.args.flash.now) (g.F.Flash.state c.serve_set.new.flash) (ap meant_of c.in-ImageSet.is)
    (c.serve_set.ensures.serves c.args.settings.now c.args.files.now counters c.requires.regions c.requires.says)

pub returns-in-Upload-clause-serves : goal.returns-in-Upload-clause-serves
returns-in-Upload-clause-serves g c = λ counters.
    meant_as (g.F.Flash.state c.args.flash.now).geometry (meant.upload c.in-Upload.part.image c.in-Upload.part.len c.in-Upload.part.off (option_map (λ s. s.now) c.in-Upload.part.sha) c.in-Upload.part.bytes.now) (meant_of c.args.request.now) (up_of c.args.images c.args.settings.now c.args.files.now counters) (up_of c.serve_upload.result.images c.args.settings.now c.args.files.now counters) c.serve_upload.result.result (g.F.Flash.state c.args.flash.now) (g.F.Flash.state c.serve_upload.new.flash) (ap meant_of c.in-Upload.is)
    (c.serve_upload.ensures.serves c.args.settings.now c.args.files.now counters c.requires.regions c.requires.says)

pub returns-in-Erase-clause-serves : goal.returns-in-Erase-clause-serves
returns-in-Erase-clause-serves g c = λ counters.
    meant_as (g.F.Flash.state c.args.flash.now).geometry (meant.erase c.in-Erase.slot) (meant_of c.args.request.now) (up_of c.args.images c.args.settings.now c.args.files.now counters) (up_of c.serve_erase.result.images c.args.settings.now c.args.files.now counters) c.serve_erase.result.result (g.F.Flash.state c.args.flash.now) (g.F.Flash.state c.serve_erase.new.flash) (ap meant_of c.in-Erase.is)
    (c.serve_erase.ensures.serves c.args.settings.now c.args.files.now counters c.requires.regions c.requires.says)

pub returns-in-SettingWrite-clause-serves : goal.returns-in-SettingWrite-clause-serves
returns-in-SettingWrite-clause-serves g c = λ counters.
    meant_as (g.F.Flash.state c.args.flash.now).geometry (meant.setting_write c.in-SettingWrite.name.now c.in-SettingWrite.val.now) (meant_of c.args.request.now) (up_of c.args.images c.args.settings.now c.args.files.now counters) (up_of c.write_setting.result.images c.write_setting.new.settings c.args.files.now counters) c.write_setting.result.result (g.F.Flash.state c.args.flash.now) (g.F.Flash.state c.args.flash.now) (ap meant_of c.in-SettingWrite.is)
    (c.write_setting.ensures.serves (g.F.Flash.state c.args.flash.now).geometry c.args.files.now counters (g.F.Flash.state c.args.flash.now) c.requires.says)

pub returns-in-SettingDelete-clause-serves : goal.returns-in-SettingDelete-clause-serves
returns-in-SettingDelete-clause-serves g c = λ counters.
    meant_as (g.F.Flash.state c.args.flash.now).geometry (meant.setting_delete c.in-SettingDelete.name.now) (meant_of c.args.request.now) (up_of c.args.images c.args.settings.now c.args.files.now counters) (up_of c.delete_setting.result.images c.delete_setting.new.settings c.args.files.now counters) c.delete_setting.result.result (g.F.Flash.state c.args.flash.now) (g.F.Flash.state c.args.flash.now) (ap meant_of c.in-SettingDelete.is)
    (c.delete_setting.ensures.serves (g.F.Flash.state c.args.flash.now).geometry c.args.files.now counters (g.F.Flash.state c.args.flash.now) c.requires.says)

pub returns-in-Load-clause-serves : goal.returns-in-Load-clause-serves
returns-in-Load-clause-serves g c = λ counters.
    meant_as (g.F.Flash.state c.args.flash.now).geometry meant.load (meant_of c.args.request.now) (up_of c.args.images c.args.settings.now c.args.files.now counters) (up_of c.load.result.images c.load.new.settings c.args.files.now counters) c.load.result.result (g.F.Flash.state c.args.flash.now) (g.F.Flash.state c.load.new.flash) (ap meant_of c.in-Load.is)
    (c.load.ensures.serves c.args.files.now counters)

pub returns-in-Save-clause-serves : goal.returns-in-Save-clause-serves
returns-in-Save-clause-serves g c = λ counters.
    meant_as (g.F.Flash.state c.args.flash.now).geometry meant.save (meant_of c.args.request.now) (up_of c.args.images c.args.settings.now c.args.files.now counters) (up_of c.save.result.images c.save.new.settings c.args.files.now counters) c.save.result.result (g.F.Flash.state c.args.flash.now) (g.F.Flash.state c.save.new.flash) (ap meant_of c.in-Save.is)
    (c.save.ensures.serves c.args.files.now counters)

pub returns-in-FileWrite-clause-serves : goal.returns-in-FileWrite-clause-serves
returns-in-FileWrite-clause-serves g c = λ counters.
    meant_as (g.F.Flash.state c.args.flash.now).geometry (meant.file_write c.in-FileWrite.off c.in-FileWrite.bytes.now c.in-FileWrite.len c.in-FileWrite.name.now) (meant_of c.args.request.now) (up_of c.args.images c.args.settings.now c.args.files.now counters) (up_of c.write_file.result.images c.args.settings.now c.write_file.new.files counters) c.write_file.result.result (g.F.Flash.state c.args.flash.now) (g.F.Flash.state c.args.flash.now) (ap meant_of c.in-FileWrite.is)
    (c.write_file.ensures.serves (g.F.Flash.state c.args.flash.now).geometry c.args.settings.now counters (g.F.Flash.state c.args.flash.now) c.requires.says)
