use Rattle.std.proofs.Common.{arith}
use Rattle.aspif_lines.specs.Text.{rule_line}
use Rattle.aspif_lines.proofs.Heads.{heads_positive}
use Rattle.aspif_lines.proofs.RowKinds.{rule_left, rule_good}
use Rattle.aspif_lines.proofs.Spans.{literals_at_kept}
use Rattle.aspif_lines.proofs.rule.read_rule.Goals as goal

pub returns-clause-answer : goal.returns-clause-answer
unfolding rule_line
returns-clause-answer c =
    let o = c.in_ok-opening in
    let heads = c.in_ok-highest.ensures in
    let body = c.in_ok-body in
    let same = literals_at_kept _ _ _ c.args.used o.opening.count body.ensures.kept (omega arith) in
    let row = rule_left body.ensures.kept c.args.used o.opening.count body.body.count o.opening.head body.body.kind in
    rw (row, same, ← o.ensures.answer, ← heads.answer, ← body.ensures.answer, c.in_ok-read_end.ensures)

pub returns-clause-good : goal.returns-clause-good
returns-clause-good c =
    let o = c.in_ok-opening in
    let heads = c.in_ok-highest.ensures in
    let body = c.in_ok-body in
    let same = literals_at_kept _ _ _ c.args.used o.opening.count body.ensures.kept (omega arith) in
    rule_good _ _ _ _ body.body o.ensures.range.0 o.ensures.range.1 (rw same (heads_positive _ _ _ _ heads.answer)) (rw same heads.top) body.ensures.good
