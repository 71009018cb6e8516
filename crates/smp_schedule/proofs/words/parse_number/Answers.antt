use Rattle.smp_schedule.proofs.Numbers.{decimal_is_text}
use Rattle.smp_schedule.proofs.words.parse_number.Goals as goal

pub returns-in_default : goal.returns-in_default
returns-in_default c n small is = absurd (c.in_default.ensures.cases.0 (decimal_is_text n c.args.bytes.now small is))
