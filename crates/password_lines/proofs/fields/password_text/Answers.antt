use Rattle.std.specs.Prelude.{refl, replicate}
use Rattle.std.proofs.Common.{◌∙◌, lit<}
use Rattle.password_lines.specs.LineLaws.{text-refused, text-short, text-zeros, text-printed}
use Rattle.password_lines.proofs.fields.password_text.Goals as goal

pub new-requires : goal.new-requires
new-requires c =
    let out_after = c.password.ensures.out_after in (
      lit< tt,
      (
        lit< tt,
        (
          text-short c.args.algorithm c.args.key.now c.args.time c.args.count c.args.challenge.now c.args.digits refl out_after c.in-Ok.ensures.value,
          text-zeros c.args.algorithm c.args.key.now c.args.time c.args.count c.args.challenge.now c.args.digits refl out_after c.in-Ok.ensures.value,
        ),
      ),
    )

pub returns-in-Ok : goal.returns-in-Ok
returns-in-Ok c =
    c.new.ensures ∙ text-printed c.args.algorithm c.args.key.now c.args.time c.args.count c.args.challenge.now c.args.digits refl c.password.ensures.out_after c.in-Ok.ensures.value

pub returns-in-Err : goal.returns-in-Err
returns-in-Err c =
    text-refused c.args.algorithm c.args.key.now c.args.time c.args.count c.args.challenge.now c.args.digits (replicate 10 0) refl c.in-Err.ensures.value
