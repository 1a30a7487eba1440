use Rattle.std.proofs.Common.{◌≡◌, length, sym, ◌∙◌, arith}
use Rattle.std.proofs.lemmas.Grind.{same_number_lists}
use Rattle.std.proofs.lemmas.List.{length-map, get_or-map}
use Rattle.otp.specs.StepCuts.{words_cut}
use Rattle.otp.proofs.cuts.cuts_of.Goals as goal

pub returns : goal.returns
returns g c =
    let cuts = c.loop-l.cuts in
    let states = c.args.states in
    let long : length cuts ≡ length states = omega arith in
    same_number_lists cuts _ (rw length-map long) (λ k h. c.loop-l.invariant.1 k (omega arith) ∙ sym (get_or-map words_cut states k (record { a = 0; b = 0; c = 0; d = 0 }) 0 (omega arith)))
