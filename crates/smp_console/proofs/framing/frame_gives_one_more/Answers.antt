use Rattle.smp_console.proofs.Again.{frame_after}
use Rattle.smp_console.proofs.LineLaws.{LineLaws}
use Rattle.smp_console.proofs.framing.frame_gives_one_more.Goals as goal

pub returns-clause-more : goal.returns-clause-more
returns-clause-more c =
    let laws : LineLaws = record {
      held = c.written_lines_are_read.ensures;
      no_newline = c.text_has_no_newline.ensures;
      small = λ bytes fit. (c.crc_is_worked_out.ensures bytes fit).small;
    } in
    λ text packet fits bytes ended. (frame_after laws text packet fits bytes ended).0

pub returns-clause-ended : goal.returns-clause-ended
returns-clause-ended c =
    let laws : LineLaws = record {
      held = c.written_lines_are_read.ensures;
      no_newline = c.text_has_no_newline.ensures;
      small = λ bytes fit. (c.crc_is_worked_out.ensures bytes fit).small;
    } in
    λ text packet fits bytes ended. (frame_after laws text packet fits bytes ended).1
