use Rattle.search.specs.Places.{put_of}
use mir.Facts.{to_z-of_z}
use Rattle.search.proofs.trail.Places.put.Goals as goal

pub returns : goal.returns
unfolding put_of
returns c =
    let f = c.ranges.l in
    rw (rw (to_z-of_z f) at c.side.ensures, rw (to_z-of_z f) at c.atom.ensures, to_z-of_z f)
