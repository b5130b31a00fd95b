use Rattle.rules.specs.Translation.{table_walk}
use Rattle.access.proofs.Paths.{went_on, stopped_short, walk_after}
use Rattle.access.proofs.segments.table_walk.Goals as goal

pub returns-in_err-segment : goal.returns-in_err-segment
unfolding table_walk
returns-in_err-segment g c =
    stopped_short _ _ _ c.segment_walk.result c.args.storage.now c.segment_walk.new.keys c.segment_walk.ensures
    c.from_residual.result c.in_err-segment.was c.from_residual.ensures.1

pub returns : goal.returns
unfolding table_walk
returns g c =
    let s = c.args.storage.now in
    walk_after _
    (went_on _ _ _ c.segment_walk.result s c.segment_walk.new.keys c.segment_walk.ensures c.in_ok-segment.was)
    c.page_walk.result c.after.result s c.page_walk.new.keys c.after.ensures c.page_walk.ensures
