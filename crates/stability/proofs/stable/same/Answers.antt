use Rattle.std.proofs.Common.{arith}
use mathlib.Core.Bool.{beq}
use borrow.Author.Tests.{not-true}
use Rattle.asp.specs.Sets.{set_of}
use Rattle.asp.proofs.Agreeing.{alike_same, other_same}
use Rattle.stability.proofs.stable.same.Goals as goal

pub returns-then-has : goal.returns-then-has
returns-then-has c =
    other_same (set_of c.args.m.bytes.now) (set_of c.args.x.bytes.now) c.args.n c.loop-a.auto.a (omega (arith, c.loop-a-test.true)) {b = beq c.has.result c.has-in-loop-a.result} (rw (c.has.ensures, c.has-in-loop-a.ensures)) (not-true _ c.if-has.true)

pub returns : goal.returns
returns c = alike_same c.args.n c.loop-a.invariant (omega (arith, c.loop-a-test.false))
