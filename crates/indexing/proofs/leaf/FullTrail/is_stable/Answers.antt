use Rattle.indexing.proofs.LeafLaws.{stable_without, stable_least}
use Rattle.indexing.proofs.leaf.FullTrail.is_stable.Goals as goal

pub returns-in-Some : goal.returns-in-Some
returns-in-Some c =
    let s = c.args.self.now in
    stable_without s.listed.rules.formed s.leaf c.unsupported.ensures c.in-Some.is

pub returns-in-None : goal.returns-in-None
returns-in-None c =
    let s = c.args.self.now in
    stable_least s.listed.rules.formed s.leaf c.is_least.ensures
