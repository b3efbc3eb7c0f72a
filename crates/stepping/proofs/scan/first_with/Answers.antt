use borrow.Author.Rules.{rules}
use Rattle.stepping.proofs.ScanLaws.{here, inner_start, inner_next, broken_here, breaker_here}
use Rattle.stepping.proofs.scan.first_with.Goals as goal

pub loop-k-init : goal.loop-k-init
loop-k-init c =
    let p = c.requires in
    inner_start _ _ _ _ _ c.args.g.now.readable p.told.0 p.told.1 c.rules-test.true (here c.args.key.now c.args.want c.rules.r c.differs.ensures c.if-differs.false) (search rules) c.from-k.ensures c.body_first-mid.ensures.value (search rules)

pub loop-k-preserved : goal.loop-k-preserved
loop-k-preserved c = inner_next c.loop-k.invariant (search rules) c.left_at-rest.ensures c.is_all.ensures (search rules)

pub returns-then-not-is_all : goal.returns-then-not-is_all
returns-then-not-is_all c =
    let p = c.requires in
    record {
      below = c.rules.invariant.0;
      says = breaker_here _ _ c.loop-k.invariant (search rules) p.told.0 p.told.1 c.rules-test.true (here c.args.key.now c.args.want c.rules.r c.differs.ensures c.if-differs.false) c.left_at-rest.ensures c.is_all.ensures (search rules) c.noted-found.ensures;
    }

pub returns-after-loop-k : goal.returns-after-loop-k
returns-after-loop-k c =
    let p = c.requires in
    record {
      below = c.rules.invariant.0;
      says = broken_here _ _ c.loop-k.invariant (search rules) p.told.0 c.rules-test.true (here c.args.key.now c.args.want c.rules.r c.differs.ensures c.if-differs.false);
    }
