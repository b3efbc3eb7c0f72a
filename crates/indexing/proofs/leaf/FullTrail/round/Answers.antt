use borrow.Author.Rules.{rules}
use Rattle.asp.proofs.Rounds.{round_next, round_done}
use Rattle.asp.proofs.RowLaws.{formed_each}
use Rattle.indexing.proofs.LeafLaws.{skipped}
use Rattle.indexing.proofs.leaf.FullTrail.round.Goals as goal

pub add_rule-new-requires : goal.add_rule-new-requires
add_rule-new-requires c = (formed_each c.args.self.now.listed.rules.formed).each c.loop-r.r c.loop-r-test.true

pub loop-r-preserved-then-self-r-ne2 : goal.loop-r-preserved-then-self-r-ne2
loop-r-preserved-then-self-r-ne2 c = skipped c.args.self.now.listed.rules.formed c.args.self.now.leaf c.loop-r.invariant c.requires c.loop-r-test.true c.if-self-r-ne2.true

pub loop-r-preserved : goal.loop-r-preserved
loop-r-preserved c = search (round_next, rules)

pub returns : goal.returns
returns c = search (round_done, rules)
