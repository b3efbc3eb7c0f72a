use Rattle.optimizer.proofs.prepare.prepare.Goals as goal

pub returns : goal.returns
returns c = record {
  lists = record { readied = c.requires; conditions = c.lists.ensures; heads = c.lists-2.ensures };
  table = record { tries = c.tried_first.ensures };
}
