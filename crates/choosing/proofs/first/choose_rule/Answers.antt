use mathlib.Core.Path.{sym, ◌∙◌}
use borrow.Author.Rules.{rules}
use Rattle.asp.proofs.RowLaws.{heads_named}
use Rattle.choosing.proofs.FirstLaws.{rule_marked, rule_weighted, rule_bodied, rule_plain}
use Rattle.choosing.proofs.first.choose_rule.Goals as goal
use Rattle.choosing.proofs.first.choose_rule.Goals.{else-is_choice-via-then-is_choice+else-row-eq0, else-is_choice-via-else-is_choice}

pub choose-requires : goal.choose-requires
choose-requires c = heads_named c.requires (sym c.is_choice.ensures ∙ c.if-is_choice.true) c.head_atoms.ensures

pub returns-then-row-eq0 : goal.returns-then-row-eq0
returns-then-row-eq0 c =
    rule_marked c.args.pool.now c.args.row (sym c.is_weighted.ensures ∙ c.if-is_weighted.false) (sym c.is_choice.ensures ∙ c.if-is_choice.true) c.if-row-eq0.true c.head_atoms.ensures c.choose.ensures

pub returns-else-is_choice : goal.returns-else-is_choice
returns-else-is_choice c = elim c.else-is_choice.branch [
  | else-is_choice-via-then-is_choice+else-row-eq0 w ↦ rule_bodied c.args.pool.now c.args.row (sym c.is_weighted.ensures ∙ c.if-is_weighted.false) w.if-row-eq0.false (search rules)
  | else-is_choice-via-else-is_choice w ↦ rule_plain c.args.pool.now c.args.row (sym c.is_choice.ensures ∙ w.if-is_choice.false) (search rules)
]
