use Rattle.std.proofs.Common.{sym, ◌∙◌, ap, Ok, true, false}
use Rattle.smp_model.specs.Meant as meant
use Rattle.smp_model.specs.declared.error.TheConstants.{SETTINGS_GROUP, SETTING_NAME_LENGTH}
use Rattle.smp_model.specs.declared.reply.Reply.{Reply}
use Rattle.smp_model.specs.declared.reply.Reply.TheVariants as replied
use Rattle.smp_device.specs.Up.{up_of}
use Rattle.smp_device.proofs.ServingQuietly.{served_as}
use Rattle.smp_device.proofs.ServingFiles.{delete_refused, deleted_as, none_same}
use Rattle.smp_device.proofs.serving.delete_setting.Goals as goal

pub returns-then-not-is_setting_name-clause-serves : goal.returns-then-not-is_setting_name-clause-serves
returns-then-not-is_setting_name-clause-serves c = λ sizes files counters a says.
    let up = up_of c.args.images c.args.settings.now files counters in
    served_as sizes (Ok (meant.setting_delete c.args.name.now)) up up (Ok (replied.GroupError SETTINGS_GROUP SETTING_NAME_LENGTH)) (Ok c.setting_error.result) a a (ap (λ (r : Reply). Ok r) c.setting_error.ensures.reply)
    (delete_refused sizes c.args.name.now up a says (sym c.is_setting_name.ensures.named ∙ c.if-not-is_setting_name.true))

pub returns-then-delete-clause-serves : goal.returns-then-delete-clause-serves
returns-then-delete-clause-serves c = λ sizes files counters a says.
    deleted_as sizes c.args.name.now c.delete.result true replied.Empty (up_of c.args.images c.args.settings.now files counters) c.delete.new.self a c.if-delete.true (λ i. replied.Empty) says
    (c.delete.ensures.responded (sym c.is_setting_name.ensures.named ∙ c.if-not-is_setting_name.false)) c.delete.ensures.deleted (λ e. none_same c.args.name.now c.args.settings.now.running c.delete.result e c.delete.ensures.there)

pub returns-clause-serves : goal.returns-clause-serves
returns-clause-serves c = λ sizes files counters a says.
    deleted_as sizes c.args.name.now c.delete.result false c.setting_error-2.result (up_of c.args.images c.args.settings.now files counters) c.delete.new.self a c.if-delete.false c.setting_error-2.ensures.reply says
    (c.delete.ensures.responded (sym c.is_setting_name.ensures.named ∙ c.if-not-is_setting_name.false)) c.delete.ensures.deleted (λ e. none_same c.args.name.now c.args.settings.now.running c.delete.result e c.delete.ensures.there)
