use Rattle.search_traces.proofs.Laws.{program_readied}
use Rattle.search_traces.proofs.program.Program.lists.Goals as goal

pub invariant_of-rules : goal.invariant_of-rules
invariant_of-rules c =
    let r = program_readied c.args.self.now.table.formed c.args.self.now.roomy in
    record { few = r.few; readable = r.readable }

pub invariant_of-listing : goal.invariant_of-listing
invariant_of-listing c = record { readied = program_readied c.args.self.now.table.formed c.args.self.now.roomy }
