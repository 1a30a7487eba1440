-- Items each once: where there are as many items as identifiers, and each identifier is there, each is there once.
use Rattle.std.specs.Prelude.{ℕ, suc, ◌+◌, ◌≤◌, ◌≡◌, refl, Bool, true, false, not, ◌&&◌, List, [], ◌∷◌, eqb, length}
use Rattle.std.proofs.Common.{sym, arith, eq-eqb, eqb-true, lt-ltb, ltb-true}
use Rattle.std.proofs.lemmas.Bool.{not-true}
use Rattle.words.specs.Lists.{one_of}
use Rattle.words.specs.BoolLaws.{by-test, and_left, and_right, or_left, or_right}
use Rattle.message.specs.Message.{Item}
use Rattle.std.specs.List.{list_all}
use Rattle.message_calls.specs.declared.services.Service.{Service}
use Rattle.message_calls.specs.Serving.{items_of, count_of, each_once, only_these}
use Rattle.message_calls.specs.Finding.{has}

-- no identifier stands twice
abbrev pub distinct : List ℕ → Bool
distinct [] = true
distinct (id ∷ ids) = not (one_of id ids) && distinct ids

-- how many items have one of the identifiers
unfoldable counts_of : List ℕ → List Item → ℕ
counts_of [] items = 0
counts_of (id ∷ ids) items = count_of id items + counts_of ids items

abbrev all_have : List ℕ → List Item → Bool
all_have ids items = list_all (λ id. has id items) ids

-- ---- no more than there are items

count-others : (ids : List ℕ) (i : Item) (items : List Item) → one_of i.identifier ids ≡ false → counts_of ids (i ∷ items) ≡ counts_of ids items
unfolding counts_of count_of
count-others [] i items f = refl
count-others (id ∷ ids) i items f =
    rw (or_left (eqb i.identifier id) _ f, count-others ids i items (or_right (eqb i.identifier id) _ f))

count-one : (ids : List ℕ) (i : Item) (items : List Item) → distinct ids ≡ true → counts_of ids (i ∷ items) ≤ suc (counts_of ids items)
unfolding counts_of count_of
count-one [] i items d = omega arith
count-one (id ∷ ids) i items d =
    by-test (eqb i.identifier id)
    (λ t. let apart : one_of i.identifier ids ≡ false = rw (eqb-true i.identifier id t) (not-true (one_of id ids) (and_left _ _ d)) in
    rw (t, count-others ids i items apart) (omega arith))
    (λ f. let h = count-one ids i items (and_right (not (one_of id ids)) _ d) in rw f (omega arith))

counts-none : (ids : List ℕ) → counts_of ids [] ≡ 0
unfolding counts_of count_of
counts-none [] = refl
counts-none (id ∷ ids) = rw (counts-none ids)

counts-few : (ids : List ℕ) (items : List Item) → distinct ids ≡ true → counts_of ids items ≤ length items
counts-few ids [] d = let h = counts-none ids in omega arith
counts-few ids (i ∷ items) d = let h = counts-few ids items d in let one = count-one ids i items d in omega arith

-- ---- so each is there once

counts-many : (ids : List ℕ) (items : List Item) → all_have ids items ≡ true → length ids ≤ counts_of ids items
unfolding counts_of
counts-many [] items h = omega arith
counts-many (id ∷ ids) items h =
    let one = ltb-true 0 (count_of id items) (and_left _ _ h) in
    let rest = counts-many ids items (and_right (has id items) _ h) in
    omega arith

each-there-once : (ids : List ℕ) (items : List Item) → counts_of ids items ≤ length ids → all_have ids items ≡ true → each_once ids items ≡ true
unfolding counts_of
each-there-once [] items few h = refl
each-there-once (id ∷ ids) items few h =
    let one = ltb-true 0 (count_of id items) (and_left _ _ h) in
    let rest = and_right (has id items) _ h in
    let many = counts-many ids items rest in
    rw (eq-eqb (count_of id items) 1 (omega arith), each-there-once ids items (omega arith) rest)

once-there : (ids : List ℕ) (items : List Item) → each_once ids items ≡ true → all_have ids items ≡ true
once-there [] items h = refl
once-there (id ∷ ids) items h =
    let one = eqb-true (count_of id items) 1 (and_left _ _ h) in
    rw (lt-ltb 0 (count_of id items) (omega arith), once-there ids items (and_right (eqb (count_of id items) 1) _ h))

-- both tests or neither
same_test : (a b : Bool) → (a ≡ true → b ≡ true) → (b ≡ true → a ≡ true) → a ≡ b
same_test true b f g = sym (f refl)
same_test false true f g = g refl
same_test false false f g = refl

only_have : (ids : List ℕ) (items : List Item) → distinct ids ≡ true → eqb (length items) (length ids) && all_have ids items ≡ only_these ids items
unfolding only_these
only_have ids items d =
    by-test (eqb (length items) (length ids))
    (λ t. let few = counts-few ids items d in
    let long = eqb-true (length items) (length ids) t in
    rw t (same_test (all_have ids items) (each_once ids items) (each-there-once ids items (omega arith)) (once-there ids items)))
    (λ f. rw f)

-- ---- the items of a call

items_distinct : (service : Service) → distinct (items_of service) ≡ true
items_distinct Service.Login = refl
items_distinct Service.ChallengeLogin = refl
items_distinct Service.Activate = refl
items_distinct Service.Lock = refl
items_distinct Service.Unlock = refl
items_distinct Service.Suspend = refl
items_distinct Service.Resume = refl
items_distinct Service.Sync = refl
items_distinct Service.Void = refl
items_distinct Service.Query = refl

-- as many items as the call has, and each of them there
pub only_items : (service : Service) (items : List Item) → eqb (length items) (length (items_of service)) && list_all (λ id. has id items) (items_of service) ≡ only_these (items_of service) items
only_items service items = only_have (items_of service) items (items_distinct service)
