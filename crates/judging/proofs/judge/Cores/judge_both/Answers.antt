use Rattle.cores.proofs.Columns.{known_none}
use Rattle.judging.proofs.judge.Cores.judge_both.Goals as goal

pub judge_with-requires-clause-known : goal.judge_with-requires-clause-known
judge_with-requires-clause-known c = known_none c.if-self-le64.true _

pub judge_with-requires-2-clause-known : goal.judge_with-requires-2-clause-known
judge_with-requires-2-clause-known c = known_none c.args.self.now.formed.ends_few _
