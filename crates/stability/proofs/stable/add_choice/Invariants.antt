use Rattle.asp.specs.Sets.{set_of}
use Rattle.asp.proofs.Growing.{Choosing}
use Rattle.stability.proofs.stable.add_choice.Given as goal

abbrev pub invariant-loop-l : goal.invariant-loop-l
invariant-loop-l l = Choosing (set_of l.m.bytes.now) l.heads l.l-index l.initial.x l.x l.new
