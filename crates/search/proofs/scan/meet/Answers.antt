use mir.Facts.{to_z-of_z}
use Rattle.search.proofs.ScanLaws.{met_all, met_one, met_off}
use Rattle.search.proofs.scan.meet.Goals as goal

pub returns-in-All : goal.returns-in-All
returns-in-All c = met_all c.args.value.now c.args.rest c.args.l (rw (to_z-of_z c.ranges.l) at c.in-All.ensures)

pub returns-in-One : goal.returns-in-One
returns-in-One c = met_one c.args.value.now c.args.rest c.args.l (rw (to_z-of_z c.ranges.l) at c.in-One.ensures) (rw (to_z-of_z c.ranges.l) at c.free.ensures)

pub returns-in-Off : goal.returns-in-Off
returns-in-Off c = met_off c.args.value.now c.args.rest c.args.l (rw (to_z-of_z c.ranges.l) at c.in-Off.ensures)
