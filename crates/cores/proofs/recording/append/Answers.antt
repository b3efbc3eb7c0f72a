use Rattle.cores.proofs.Loops.{put_part}
use Rattle.cores.proofs.recording.append.Goals as goal

pub returns : goal.returns
returns c = put_part c.args.members.now c.args.k c.args.more.now c.copy_from_slice.ensures.after c.requires
