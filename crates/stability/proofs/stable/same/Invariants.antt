use Rattle.asp.specs.Sets.{set_of}
use Rattle.asp.proofs.Agreeing.{Alike}
use Rattle.stability.proofs.stable.same.Given as goal

abbrev pub invariant-loop-a : goal.invariant-loop-a
invariant-loop-a l = Alike (set_of l.m.bytes.now) (set_of l.x.bytes.now) l.a
