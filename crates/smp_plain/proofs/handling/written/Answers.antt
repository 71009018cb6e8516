use Rattle.std.proofs.Common.{arith}
use Rattle.smp_header.specs.Message.{message_of}
use Rattle.smp_plain.proofs.handling.written.Goals as goal

pub write_reply-requires-clause-fits : goal.write_reply-requires-clause-fits
write_reply-requires-clause-fits c = omega (arith, c.fits_within.ensures (message_of c.args.to.now), c.requires.room)
