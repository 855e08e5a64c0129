-- `placing::place_phases` meets its contract. The windows of the places passed stand in the columns.
use Rattle.placing.proofs.Places.{done_none, freed_none, closed_none, done_kept, freed_more, closed_more, room_next, start_fits, done_more, done_all}
use Rattle.placing.proofs.place_phases.Goals as goal

pub loop-a-init : goal.loop-a-init
loop-a-init c = record { done = done_none _ _ _; freed = freed_none _ _; closed = closed_none _ _ }

pub start_at-r-requires-clause-room : goal.start_at-r-requires-clause-room
start_at-r-requires-clause-room c =
    let q = c.requires in
    room_next c.args.candidate.ready q.prepared c.args.candidate.few_cores q.starts_room q.ends_room c.loop-a-test.true c.loop-a.invariant.done

pub put_windows-requires-clause-fits : goal.put_windows-requires-clause-fits
put_windows-requires-clause-fits c =
    let q = c.requires in
    start_fits c.args.candidate.ready q.prepared c.args.candidate.few_cores q.starts_room q.ends_room c.loop-a-test.true c.loop-a.invariant.done c.start_at-r.ensures

pub loop-a-preserved : goal.loop-a-preserved
loop-a-preserved c =
    let q = c.requires in
    let i = c.loop-a.invariant in
    let h = c.loop-a-test.true in
    let room = room_next c.args.candidate.ready q.prepared c.args.candidate.few_cores q.starts_room q.ends_room h i.done in
    let done = done_more c.args.candidate.ready q.prepared c.args.candidate.few_cores q.starts_room q.ends_room h i.done c.start_at-r.ensures c.put_windows.ensures.starts c.put_windows.ensures.ends in
    let kept = done_kept i.done done in
    record {
      done = done;
      freed = freed_more kept i.freed room.few_cores c.stand.ensures.free;
      closed = closed_more kept room.few i.closed c.stand.ensures.closes c.stand.ensures.tops;
    }

pub returns : goal.returns
returns c =
    let all = done_all c.requires.starts_room c.requires.ends_room c.loop-a.auto.a-end c.loop-a-test.false c.loop-a.invariant.done in
    record { starts = all.0; ends = all.1 }
