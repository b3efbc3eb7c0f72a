-- What the tables that are lent mean. Assumes nothing: this is a definition.
use Rattle.judging.specs.declared.judge.Cores.{Cores}
use Rattle.cores.specs.Judging.{Judging}
use Rattle.cores.specs.Tables.{judging_of}

abbrev pub tables_of : Cores → Judging
tables_of c = judging_of c.softs.now c.ends.now c.members.now
