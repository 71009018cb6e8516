use Rattle.smp_app.proofs.replay.try_replay.Goals as goal

pub replay_loaded-requires : goal.replay_loaded-requires
replay_loaded-requires g c = c.read_is_lawful.ensures.lawful c.in-Ok.ensures.loads.0 c.in-Ok.schedule c.in-Ok.ensures.loads.2
