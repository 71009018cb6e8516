use Rattle.smp_schedule.proofs.Pieces.{more_put, put_fails, last_put, hex_left}
use Rattle.smp_schedule.proofs.putting.put_hex.Goals as goal

pub returns-in_err-put_piece : goal.returns-in_err-put_piece
returns-in_err-put_piece g c =
    put_fails _ _ _ _ _ _ _ _ _ _ _ _ _ c.pieces.invariant c.in_err-put_piece.was c.put_piece.ensures
    (hex_left _ _ _ 64 c.split_at.ensures.front c.split_at.ensures.back) c.from_residual.ensures.0

pub pieces-preserved : goal.pieces-preserved
pieces-preserved g c =
    more_put _ _ _ _ _ _ _ _ _ _ _ c.pieces.invariant c.in_ok-put_piece.was c.put_piece.ensures
    (hex_left _ _ _ 64 c.split_at.ensures.front c.split_at.ensures.back)

pub returns : goal.returns
returns g c = last_put _ _ _ _ _ _ _ _ _ c.pieces.invariant c.put_piece-2.ensures
