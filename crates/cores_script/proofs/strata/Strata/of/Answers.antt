use Rattle.std.proofs.Common.{arith, ap, ◌∙◌}
use Rattle.cores.proofs.Lent.{judging_formed, lent_few, cut_long}
use Rattle.cores_script.specs.Script.{strata_at}
use Rattle.cores_script.proofs.Laws.{assumed_few, assumed_inside, strata_is}
use Rattle.cores_script.proofs.strata.Strata.of.Goals as goal

pub slice_bounds-places-end : goal.slice_bounds-places-end
slice_bounds-places-end c = omega (arith, assumed_few _ _ _ _ _ c.assumed-m.ensures, lent_few c.args.t.now c.requires.formed c.soft_literals-softs.ensures)

pub slice_bounds-entries-end : goal.slice_bounds-entries-end
slice_bounds-entries-end c = cut_long _ _ (omega (arith, assumed_few _ _ _ _ _ c.assumed-m.ensures, lent_few c.args.t.now c.requires.formed c.soft_literals-softs.ensures))

pub entries-k-requires-clause-all : goal.entries-k-requires-clause-all
entries-k-requires-clause-all c = assumed_inside _ _ _ _ _ c.assumed-m.ensures (omega (arith, lent_few c.args.t.now c.requires.formed c.soft_literals-softs.ensures))

pub entries-k-requires-clause-by_index : goal.entries-k-requires-clause-by_index
entries-k-requires-clause-by_index c = rw c.soft_literals-softs.ensures (judging_formed c.args.t.now c.requires.formed c.requires.ordered).small

pub returns : goal.returns
returns c =
    strata_is _ _ _ _ _ c.assumed-m.ensures (omega (arith, lent_few c.args.t.now c.requires.formed c.soft_literals-softs.ensures)) _ c.next_stratum.ensures _ c.entries-k.ensures
    ∙ ap (strata_at c.args.s) c.soft_literals-softs.ensures
