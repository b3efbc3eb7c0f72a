use Rattle.indexing.proofs.leaf.FullTrail.unsupported.Goals as goal

pub returns : goal.returns
returns c = rw c.lent-heads.ensures at c.unsupported.ensures
