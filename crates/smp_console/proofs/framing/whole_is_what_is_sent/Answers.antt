use Rattle.smp_console.proofs.Again.{whole_is_sent, sent_is_whole}
use Rattle.smp_console.proofs.LineLaws.{LineLaws}
use Rattle.smp_console.proofs.framing.whole_is_what_is_sent.Goals as goal

pub returns-clause-exact : goal.returns-clause-exact
returns-clause-exact c =
    let laws : LineLaws = record {
      held = c.written_lines_are_read.ensures;
      no_newline = c.text_has_no_newline.ensures;
      small = λ bytes fit. (c.crc_is_worked_out.ensures bytes fit).small;
    } in
    λ b p fit bytes fits. (λ h. (whole_is_sent b p fit h).0, sent_is_whole laws b p fits bytes)

pub returns-clause-fits : goal.returns-clause-fits
returns-clause-fits c b p fit h = (whole_is_sent b p fit h).1
