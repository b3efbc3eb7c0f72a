use Rattle.std.proofs.Common.{arith}
use Rattle.cores.proofs.Columns.{literal_small, judge_entry_of, judge_derived_of, count_start, count_yes, count_no}
use Rattle.judging.proofs.judge.Cores.+count_violated.Goals as goal
use Rattle.judging.proofs.judge.Cores.+count_violated.Goals.{count-then-violated, count-else-violated}

pub count-loop-k-init : goal.count-loop-k-init
count-loop-k-init t c =
    count_start c.args.self.now.formed c.requires.known c.requires.le_j.0 c.requires.le_j.1 c.from-k-end.ensures c.from-k.ensures

pub count-loop-k-preserved : goal.count-loop-k-preserved
count-loop-k-preserved t c =
    elim c.if-violated.branch [
      | count-then-violated w ↦ count_yes c.loop-k.invariant c.args.self.now.formed (omega arith) c.from.ensures c.violated.ensures c.violated.auto.counts w.if-violated.true w.n-is
      | count-else-violated w ↦ count_no c.loop-k.invariant c.args.self.now.formed (omega arith) c.from.ensures c.violated.ensures c.violated.auto.counts w.if-violated.false w.n-is
    ]

pub violated-holds-requires : goal.violated-holds-requires
violated-holds-requires t c = literal_small _ _ _ c.args.self.now.formed _ c.requires.p_in_bounds c.soft_at-r.ensures

pub violated-returns-then-j-eq0 : goal.violated-returns-then-j-eq0
violated-returns-then-j-eq0 t c =
    judge_entry_of _ _ _ c.args.self.now.formed _ c.requires.p_in_bounds c.soft_at-r.ensures c.requires.known c.from-j.ensures (omega arith) c.holds.ensures

pub violated-returns : goal.violated-returns
violated-returns t c =
    judge_derived_of _ _ _ c.args.self.now.formed _ c.requires.p_in_bounds c.soft_at-r.ensures c.from-j.ensures (omega arith) c.count.ensures c.from.ensures
