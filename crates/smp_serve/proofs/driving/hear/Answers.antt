use Rattle.std.proofs.Common.{◌≡◌, length, take, arith}
use Rattle.smp_edge.specs.declared.scripts.Scripted.TheVariants as items
use Rattle.smp_serve.proofs.ClientTurns.{at_packet}
use Rattle.smp_serve.proofs.ClientDrives.{is_never_over}
use Rattle.smp_serve.proofs.Heard.{hears_packet}
use Rattle.smp_serve.proofs.driving.hear.Goals as goal

pub returns-in-Ok-Packet-clause-heard : goal.returns-in-Ok-Packet-clause-heard
returns-in-Ok-Packet-clause-heard g c = λ c' goes stands.
    let size : length c.hear.new.into ≡ 2049 = omega arith in
    let p = hears_packet (g.L.Link.script c.args.link.now) (g.L.Link.script c.hear.new.self) c.hear.new.into c.in-Ok-Packet.field-0 c.in-Ok-Packet.field-0-0 c.in-Ok-Packet.length
    size c.in-Ok-Packet.field-0-is c.in-Ok-Packet.ensures.heard c.in-Ok-Packet.ensures.ok in
    record {
      item = items.Packet c.in-Ok-Packet.field-0-0 p.held;
      hears = p.hears;
      turns = at_packet c' p.held (take c.in-Ok-Packet.length c.hear.new.into) c.hear-in-Ok-Packet.new.self c.hear-in-Ok-Packet.result p.same
          (c.hear-in-Ok-Packet.ensures.heard c' goes stands);
    }

pub returns-in-Ok-Packet-clause-moves : goal.returns-in-Ok-Packet-clause-moves
returns-in-Ok-Packet-clause-moves g c =
    is_never_over c.requires.runs.client c.hear-in-Ok-Packet.new.self c.hear-in-Ok-Packet.result (items.Packet c.in-Ok-Packet.field-0-0 (take c.in-Ok-Packet.length c.hear.new.into))
    (c.hear-in-Ok-Packet.ensures.heard c.requires.runs.client c.requires.runs.goes c.requires.runs.stands)
