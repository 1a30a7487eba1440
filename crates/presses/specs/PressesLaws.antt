-- Lists of calls with and without double presses (`Presses`), by what one press comes to.
use Rattle.token.specs.Answers.{Answer}
use Rattle.std.specs.Prelude.{ℕ, ◌≡◌, refl, List, [], ◌∷◌}
use Rattle.std.proofs.Common.{subst}
use Rattle.words.specs.BoolLaws.{by-test}
use Rattle.desk.specs.Desk.{desk_after, run}
use Rattle.presses.specs.Presses.{is_press, others, idled, PressesOnlyWait, struck, PressesStruck}
use Rattle.presses.specs.BytesKeptLaws.{call-keeps-bytes}
use Rattle.presses.specs.OnePressLaws.{press-is-idle, press-is_nothing}

answers_equal : {a : Answer} {xs ys : List Answer} → xs ≡ ys → ◌≡◌ {A = List Answer} (a ∷ xs) (a ∷ ys)
answers_equal e = cc

pub presses_only_wait : PressesOnlyWait
unfolding run others idled
presses_only_wait passwords [] s = (refl, refl)
presses_only_wait passwords (call ∷ calls) s =
    let after = (desk_after passwords call s).table in
    let rest = presses_only_wait passwords calls after in
    by-test (is_press passwords call s)
    (λ t. rw (t, press-is-idle passwords call s t) rest)
    (λ t. rw t (rest.0, answers_equal rest.1))

pub presses_struck : PressesStruck
unfolding run others struck
presses_struck passwords [] s bytes keys unlocked = (refl, refl)
presses_struck passwords (call ∷ calls) s bytes keys unlocked =
    let after = (desk_after passwords call s).table in
    let rest = presses_struck passwords calls after (call-keeps-bytes passwords call s bytes keys.0) keys.1 unlocked.1 in
    by-test (is_press passwords call s)
    (λ t.
    let still = press-is_nothing passwords call s bytes t (unlocked.0 t) in
    let from : List ℕ → Type 0 = λ z.
    ((run passwords (struck passwords calls after) z).table ≡ (run passwords calls after).table)
    × ((run passwords (struck passwords calls after) z).answers ≡ others passwords calls after (run passwords calls after).answers) in
    rw t (subst from still rest))
    (λ t. rw t (rest.0, answers_equal rest.1))
