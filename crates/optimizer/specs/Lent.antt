-- What a lent program and a lent query mean. Assumes nothing: these are definitions.
use Rattle.std.specs.Prelude.{List, ℕ}
use Rattle.counting.specs.declared.counters.Counters.{Counters}
use Rattle.counting.specs.Lent.{lists_lent}
use Rattle.search.specs.Lent.{rules_lent}
use Rattle.indexing.specs.Leaf.{Leaf}
use Rattle.judging.specs.Lent.{tables_of}
use Rattle.advancing.specs.Source.{Source}
use Rattle.advancing.specs.Turn.{QueryTables, query_tables}
use Rattle.optimizer.specs.Tables.{source_by}
use Rattle.optimizer.specs.declared.ground.Ground.{Ground}
use Rattle.optimizer.specs.declared.query.Query.{Query}

abbrev pub source_lent : Ground → Source
source_lent g = source_by g.listed.rules g.limited.objective

abbrev pub query_lent : Query → QueryTables
query_lent q = query_tables q.level q.lowers.now q.wished.now q.spots.now q.assumed.now (tables_of q.cores)

-- the numbers are those of the values v, which are full and break no rule
abbrev pub LeafFor : Ground → List ℕ → Counters → Type 0
LeafFor g v x = Leaf (rules_lent g.listed.rules) g.listed.rules.atoms (lists_lent g.listed.lists) g.heads.now v x
