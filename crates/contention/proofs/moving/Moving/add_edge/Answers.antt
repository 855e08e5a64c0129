-- `contention::moving::Moving::add_edge` meets its contract. An edge that moves words is between known tasks.
use Rattle.contention.proofs.Loads.{ready_to_raise}
use Rattle.contention.proofs.moving.Moving.add_edge.Goals as goal

pub raise-requires : goal.raise-requires
raise-requires c =
    let r = ready_to_raise c.args.self.now.known _ c.requires.edge_in c.args.words.now c.requires.room c.requires.loads c.moved_by-moved.ensures c.if-moved-eq0.false c.from-from.ensures c.from-to.ensures in
    record { write_in = r.0; read_in = r.1; read_fits = r.2; write_fits = r.3 }
