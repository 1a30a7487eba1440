use Rattle.std.specs.Prelude.{refl}
use Rattle.std.proofs.Common.{sym, ◌∙◌}
use Rattle.std.proofs.lemmas.Bool.{not-true, not-false}
use Rattle.otp.specs.PasswordLaws.{key-long, key-short, challenge-short, password-shown, answer-refused, answer-short, answer-stored}
use Rattle.otp.proofs.password.Goals as goal

pub returns-then-not-arguments_ok : goal.returns-then-not-arguments_ok
returns-then-not-arguments_ok c =
    let bad = sym c.arguments_ok.ensures ∙ not-true c.arguments_ok.result c.if-not-arguments_ok.true-raw in
    let refused = answer-refused c.args.algorithm c.args.key.now c.args.time c.args.count c.args.challenge.now c.args.digits c.args.out.now bad in
    record { value = rw (← refused.0) refl; out_after = refused.1 }

pub returns-then-out-digits : goal.returns-then-out-digits
returns-then-out-digits c =
    let ok = sym c.arguments_ok.ensures ∙ not-false c.arguments_ok.result c.if-not-arguments_ok.false-raw in
    let short = answer-short c.args.algorithm c.args.key.now c.args.time c.args.count c.args.challenge.now c.args.digits c.args.out.now ok c.if-out-digits.true in
    record { value = rw (← short.0) refl; out_after = short.1 }

pub truncated_once-sum-requires : goal.truncated_once-sum-requires
truncated_once-sum-requires c = let ok = sym c.arguments_ok.ensures ∙ not-false c.arguments_ok.result c.if-not-arguments_ok.false-raw in
    record { in_bounds = key-long _ _ _ _ _ c.args.digits ok; key_len_bound = key-short _ _ _ _ _ c.args.digits ok; challenge_len_bound = challenge-short _ _ _ _ _ c.args.digits ok }

pub returns : goal.returns
returns c =
    let ok = sym c.arguments_ok.ensures ∙ not-false _ c.if-not-arguments_ok.false-raw in
    let shown = password-shown _ _ _ _ _ _ _ c.truncated_once-sum.ensures in
    let stored = answer-stored _ _ _ _ _ _ _ ok c.if-out-digits.false (c.put_decimals.ensures ∙ shown) in
    record { value = rw (← stored.0) refl; out_after = stored.1 }
