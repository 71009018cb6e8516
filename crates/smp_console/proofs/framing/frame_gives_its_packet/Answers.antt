use Rattle.smp_console.proofs.Again.{frame_alone}
use Rattle.smp_console.proofs.LineLaws.{LineLaws}
use Rattle.smp_console.proofs.framing.frame_gives_its_packet.Goals as goal

pub returns : goal.returns
returns c =
    let laws : LineLaws = record {
      held = c.written_lines_are_read.ensures;
      no_newline = c.text_has_no_newline.ensures;
      small = λ bytes fit. (c.crc_is_worked_out.ensures bytes fit).small;
    } in
    frame_alone laws
