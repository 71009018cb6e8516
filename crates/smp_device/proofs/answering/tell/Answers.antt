use Rattle.std.proofs.Common.{ap}
use Rattle.smp_groups.specs.Counters.{counters_of}
use Rattle.smp_model.specs.Meant.{meant_of}
use Rattle.smp_model.specs.declared.reply.Reply.TheVariants as replied
use Rattle.smp_model.specs.declared.request.Request.{Request}
use Rattle.smp_device.specs.Telling.{tells}
use Rattle.smp_device.proofs.answering.tell.Goals as goal

pub returns-in-FileTypes : goal.returns-in-FileTypes
returns-in-FileTypes c = record {
  reply = replied.FileTypes;
  told_is = ap (λ (r : Request). tells c.args.settings.now.running c.args.files.now (counters_of c.args.counts.now) (meant_of r)) c.in-FileTypes.is;
  written = c.send-in-FileTypes.ensures.written;
  counted = c.send-in-FileTypes.ensures.counted;
}

pub returns-in-Commit : goal.returns-in-Commit
returns-in-Commit c = record {
  reply = replied.Empty;
  told_is = ap (λ (r : Request). tells c.args.settings.now.running c.args.files.now (counters_of c.args.counts.now) (meant_of r)) c.in-Commit.is;
  written = c.send-in-Commit.ensures.written;
  counted = c.send-in-Commit.ensures.counted;
}

pub returns-in-FileClose : goal.returns-in-FileClose
returns-in-FileClose c = record {
  reply = replied.Empty;
  told_is = ap (λ (r : Request). tells c.args.settings.now.running c.args.files.now (counters_of c.args.counts.now) (meant_of r)) c.in-FileClose.is;
  written = c.send-in-FileClose.ensures.written;
  counted = c.send-in-FileClose.ensures.counted;
}
