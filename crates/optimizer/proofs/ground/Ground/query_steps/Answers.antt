use mathlib.Core.Path.{sym, ap, ◌∙◌, subst}
use Rattle.cores.proofs.Lent.{cut_long}
use Rattle.optimizer.specs.Lent.{source_lent}
use Rattle.advancing.specs.Turn.{QueryTables, turns_of}
use Rattle.advancing.specs.Ready.{ReadyQuery, GoodBlame}
use Rattle.optimizer.proofs.Fronts.{assumed_end, assumed_inside, spots_end, wished_end, query_is}
use Rattle.optimizer.proofs.ground.Ground.query_steps.Goals as goal

pub slice_bounds-assumed-end : goal.slice_bounds-assumed-end
slice_bounds-assumed-end c = assumed_end c.args.w.now.tables c.requires.sound_tables.formed c.args.w.now.stratum c.of-cores.ensures.softs c.of-cores.ensures.ends c.of-cores.ensures.members c.assumed-m.ensures

pub slice_bounds-entries-end : goal.slice_bounds-entries-end
slice_bounds-entries-end c = cut_long _ _ (assumed_end c.args.w.now.tables c.requires.sound_tables.formed c.args.w.now.stratum c.of-cores.ensures.softs c.of-cores.ensures.ends c.of-cores.ensures.members c.assumed-m.ensures)

pub entries-k-requires-clause-all : goal.entries-k-requires-clause-all
entries-k-requires-clause-all c = assumed_inside c.args.w.now.tables c.requires.sound_tables.formed c.args.w.now.stratum c.of-cores.ensures.softs c.of-cores.ensures.ends c.of-cores.ensures.members c.assumed-m.ensures c.args.w.now.level c.args.w.now.lowers c.requires.ready_query

pub slice_bounds-wished-end : goal.slice_bounds-wished-end
slice_bounds-wished-end c = wished_end c.args.w.now.tables c.requires.sound_tables.formed c.args.w.now.stratum c.of-cores.ensures.softs c.of-cores.ensures.ends c.of-cores.ensures.members c.assumed-m.ensures c.entries-k.ensures

pub slice_bounds-q-end : goal.slice_bounds-q-end
slice_bounds-q-end c = cut_long _ _ (wished_end c.args.w.now.tables c.requires.sound_tables.formed c.args.w.now.stratum c.of-cores.ensures.softs c.of-cores.ensures.ends c.of-cores.ensures.members c.assumed-m.ensures c.entries-k.ensures)

pub slice_bounds-spots-end : goal.slice_bounds-spots-end
slice_bounds-spots-end c = spots_end c.args.w.now.tables c.requires.sound_tables.formed c.args.w.now.stratum c.of-cores.ensures.softs c.of-cores.ensures.ends c.of-cores.ensures.members c.assumed-m.ensures c.entries-k.ensures

pub slice_bounds-q-end-2 : goal.slice_bounds-q-end-2
slice_bounds-q-end-2 c = cut_long _ _ (spots_end c.args.w.now.tables c.requires.sound_tables.formed c.args.w.now.stratum c.of-cores.ensures.softs c.of-cores.ensures.ends c.of-cores.ensures.members c.assumed-m.ensures c.entries-k.ensures)

pub slice_bounds-assumed-end-2 : goal.slice_bounds-assumed-end-2
slice_bounds-assumed-end-2 c = assumed_end c.args.w.now.tables c.requires.sound_tables.formed c.args.w.now.stratum c.of-cores.ensures.softs c.of-cores.ensures.ends c.of-cores.ensures.members c.assumed-m.ensures

pub slice_bounds-q-end-3 : goal.slice_bounds-q-end-3
slice_bounds-q-end-3 c = cut_long _ _ (assumed_end c.args.w.now.tables c.requires.sound_tables.formed c.args.w.now.stratum c.of-cores.ensures.softs c.of-cores.ensures.ends c.of-cores.ensures.members c.assumed-m.ensures)

pub invariant_of-q : goal.invariant_of-q
invariant_of-q c = record { ready = subst (ReadyQuery (source_lent c.args.self.now)) (sym (query_is c.args.w.now.tables c.requires.sound_tables.formed c.args.w.now.stratum c.of-cores.ensures.softs c.of-cores.ensures.ends c.of-cores.ensures.members c.assumed-m.ensures c.entries-k.ensures c.args.w.now.level c.args.w.now.lowers)) c.requires.ready_query }

pub run-requires-clause-good_blame : goal.run-requires-clause-good_blame
run-requires-clause-good_blame c = subst (λ (x : QueryTables). GoodBlame x c.args.blame.now) (sym (query_is c.args.w.now.tables c.requires.sound_tables.formed c.args.w.now.stratum c.of-cores.ensures.softs c.of-cores.ensures.ends c.of-cores.ensures.members c.assumed-m.ensures c.entries-k.ensures c.args.w.now.level c.args.w.now.lowers)) c.requires.good_blame

pub returns : goal.returns
returns c = c.run.ensures ∙ ap (λ (x : QueryTables). turns_of (source_lent c.args.self.now) x c.args.budget c.args.trail.now c.args.blame.now) (query_is c.args.w.now.tables c.requires.sound_tables.formed c.args.w.now.stratum c.of-cores.ensures.softs c.of-cores.ensures.ends c.of-cores.ensures.members c.assumed-m.ensures c.entries-k.ensures c.args.w.now.level c.args.w.now.lowers)
