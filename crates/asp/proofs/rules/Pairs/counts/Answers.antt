use borrow.Author.Rules.{rules}
use lib.IntN.{pos}
use lib.ListN.{get_or}
use mir.Syntax.{w32}
use mir.Val.{SFits}
use mir.Facts.{to_z-of_z}
use Rattle.asp.specs.Sets.{set_of}
use Rattle.asp.proofs.Pairs.{counts_next, counts_done}
use Rattle.asp.proofs.rules.Pairs.counts.Goals as goal

pub loop-i-preserved : goal.loop-i-preserved
loop-i-preserved c =
    let literal_fits : SFits w32 (get_or c.args.self.literals.now c.loop-i.i (pos 0)) = search rules in
    let weight_fits : SFits w32 (get_or c.args.self.weights.now c.loop-i.i (pos 0)) = search rules in
    let counted = simp to_z-of_z at c.counted-sum.ensures.value in
    counts_next (set_of c.args.m.bytes.now) (set_of c.args.x.bytes.now) c.args.self.formed c.loop-i.invariant c.loop-i-test.true counted c.counted-sum.ensures.small

pub returns : goal.returns
returns c = search (counts_done, rules)
