use Rattle.std.proofs.Common.{sym, ◌∙◌, ne_eqb}
use Rattle.window.specs.GoalLaws.{hits-other, hits-last}
use Rattle.window.proofs.goal.hits.Goals as goal

pub returns-then-digits_of-goal : goal.returns-then-digits_of-goal
returns-then-digits_of-goal c = c.begins.ensures ∙ hits-last c.args.goal c.args.before c.args.cut (sym c.digits_of.ensures ∙ c.if-digits_of-goal.true)

pub returns-else-digits_of-goal : goal.returns-else-digits_of-goal
returns-else-digits_of-goal c =
    rw (ne_eqb _ _ c.if-digits_of-goal.false) (hits-other c.args.goal c.args.before c.args.cut (λ e. c.if-digits_of-goal.false (c.digits_of.ensures ∙ e)))
