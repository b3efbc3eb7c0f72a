use Rattle.std.proofs.Common.{Ok}
use Rattle.aspif.proofs.Loads.{load_answer}
use Rattle.aspif.proofs.text.load.Goals as goal

pub returns-clause-formed : goal.returns-clause-formed
returns-clause-formed c = (load_answer c.read_text.new.p (Ok tt) c.args.s.now c.in_ok-read_text.ensures.answer c.in_ok-read_text.ensures.after).1
