use Rattle.optimizer.proofs.query.Query.judge_full.Goals as goal

pub returns : goal.returns
returns c = c.judge_full.ensures c.args.self.now.wished.now c.args.self.now.spots.now
