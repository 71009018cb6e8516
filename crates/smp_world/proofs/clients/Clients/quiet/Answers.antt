use Rattle.std.proofs.Common.{◌<◌, ℕ, length, Some, refl, sym, subst}
use Rattle.smp_jobs.specs.Clients.{client_waited}
use Rattle.std.specs.Prelude.{slice_set}
use Rattle.smp_world.specs.Clients.{ClientsState, MovesClient, MovesSeat}
use Rattle.smp_world.specs.declared.clients.Seat.{Seat}
use Rattle.smp_world.proofs.SeatLists.{client_moves, nobody_moves}
use Rattle.smp_world.proofs.clients.Clients.quiet.Goals as goal

pub returns-in_default-clause-moves : goal.returns-in_default-clause-moves
returns-in_default-clause-moves c = nobody_moves client_waited c.args.self.now c.args.number (c.seat.ensures.none c.in_default.is)

pub returns-clause-moves : goal.returns-clause-moves
returns-clause-moves c =
    let old : ClientsState = record { begun = c.self.inside.begun.items; waiting = c.self.inside.waiting.items } in
    let new : ClientsState = record { begun = slice_set old.begun c.in-Some.place c.quiet.new.self; waiting = old.waiting } in
    let few = subst (λ (x : ClientsState). c.in-Some.place < length x.begun) (sym c.self.view_is) c.in-Some.ensures.place.1 in
    subst (λ (x : ClientsState). MovesClient c.args.number client_waited (Some c.quiet.result) x new) c.self.view_is
    (subst (λ (k : ℕ). MovesClient k client_waited (Some c.quiet.result) old new) c.in-Some.ensures.place.0
    (client_moves client_waited c.quiet.result old new c.in-Some.place c.index_mut.result.now c.quiet.new.self few (subst (λ (x : Seat). MovesSeat client_waited c.quiet.result x c.quiet.new.self) c.index_mut.ensures.value c.quiet.ensures) refl refl))
