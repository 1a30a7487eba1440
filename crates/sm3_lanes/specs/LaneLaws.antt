-- Four messages side by side: word i of message l stands at 4 i + l. A lane has one message's words.
use Rattle.std.specs.Prelude.{◌≡◌, ℕ, zero, suc, ◌+◌, ◌*◌, ◌<◌, ◌≤◌, List, [], ◌∷◌, ◌++◌, length, replicate, ◌≢◌, nat_lt, slice_index, slice_index_or, slice_set, refl}
use Rattle.std.proofs.Common.{sym, ap, ◌∙◌, not-suc-le-zero, add-one, arith, ltb-true, ltb-false, length-append, get_or-set_same, get_or-set_other}
use Rattle.std.proofs.Math.ListN.{get_or-append, get_or-eq_default}
use Rattle.std.proofs.Math.Seq.{get_or-append_seam, set_out}
use Rattle.std.proofs.lemmas.List.{set-append_left, set_at}
use Rattle.words.specs.BoolLaws.{by-test}
use Rattle.words.specs.SumLaws.{zero_get}
use Rattle.sm3_lanes.specs.Lanes.{lane_of, Apart}

pub length_lane : (n l : ℕ) (s : List ℕ) → length (lane_of n l s) ≡ n
unfolding lane_of
length_lane zero l s = refl
length_lane (suc n) l s = length-append (lane_of n l s) (slice_index s (4 * n + l) ∷ []) ∙ rw (length_lane n l s) (add-one n)

pub lane_get : (n l : ℕ) (s : List ℕ) (i : ℕ) → i < n → slice_index (lane_of n l s) i ≡ slice_index s (4 * i + l)
unfolding lane_of
lane_get zero l s i h = absurd (not-suc-le-zero h)
lane_get (suc n) l s i h =
    by-test (nat_lt i n)
    (λ t. let m : i < n = ltb-true i n t in
    get_or-append (lane_of n l s) (slice_index s (4 * n + l) ∷ []) 0 i (rw (length_lane n l s) m) ∙ lane_get n l s i m)
    (λ t. let m : n ≤ i = ltb-false i n t in
    let e : i ≡ length (lane_of n l s) = rw (length_lane n l s) (omega arith) in
    let f : i ≡ n = omega arith in
    ap (λ (k : ℕ). slice_index (lane_of n l s ++ (slice_index s (4 * n + l) ∷ [])) k) e
    ∙ get_or-append_seam (lane_of n l s) (slice_index s (4 * n + l)) [] 0 ∙ rw f)

-- a store into message l's word i
pub lane_set : (n l : ℕ) (s : List ℕ) (i x : ℕ) → 4 * i + l < length s → lane_of n l (slice_set s (4 * i + l) x) ≡ slice_set (lane_of n l s) i x
unfolding lane_of
lane_set zero l s i x h = refl
lane_set (suc n) l s i x h =
    let old = lane_of n l s in
    let y = slice_index_or s (4 * n + l) 0 in
    let ih = lane_set n l s i x h in
    let len = length_lane n l s in
    by-test (nat_lt i n)
    (λ t. let m : i < n = ltb-true i n t in
    let kept : slice_index_or (slice_set s (4 * i + l) x) (4 * n + l) 0 ≡ y = get_or-set_other s (4 * i + l) (4 * n + l) x 0 (λ e. omega arith) in
    rw (ih, kept) (sym (set-append_left old (y ∷ []) i x (rw len m))))
    (λ t. let m : n ≤ i = ltb-false i n t in
    by-test (nat_lt n i)
    (λ u. let k : n < i = ltb-true n i u in
    let kept : slice_index_or (slice_set s (4 * i + l) x) (4 * n + l) 0 ≡ y = get_or-set_other s (4 * i + l) (4 * n + l) x 0 (λ e. omega arith) in
    rw (ih, kept, set_out old i x (rw len m)) (sym (set_out (old ++ (y ∷ [])) i x (rw (length-append old (y ∷ []), len) (omega arith)))))
    (λ u. let k : i ≤ n = ltb-false n i u in
    let e : i ≡ n = omega arith in
    let same : slice_index_or (slice_set s (4 * i + l) x) (4 * n + l) 0 ≡ x = rw (← e) (get_or-set_same s (4 * i + l) x 0 h) in
    rw (ih, same, set_out old i x (rw len m)) (sym (set_at old y [] x i (len ∙ sym e)))))

-- a store into another message's word is not seen
pub lane_other : (n k l : ℕ) (s : List ℕ) (i x : ℕ) → k < 4 → l < 4 → (k ≢ l) → lane_of n k (slice_set s (4 * i + l) x) ≡ lane_of n k s
unfolding lane_of
lane_other zero k l s i x p q h = refl
lane_other (suc n) k l s i x p q h =
    let apart : 4 * n + k ≡ 4 * i + l → ⊥ = λ e. h (omega arith) in
    rw (lane_other n k l s i x p q h, get_or-set_other s (4 * i + l) (4 * n + k) x 0 apart)

apart-set : (l : ℕ) (s : List ℕ) (i x : ℕ) → l < 4 → Apart l s (slice_set s (4 * i + l) x)
apart-set l s i x q = λ n k p h. lane_other n k l s i x p q h

apart_then : (l : ℕ) (s s' s'' : List ℕ) → Apart l s s' → Apart l s' s'' → Apart l s s''
apart_then l s s' s'' a b = λ n k p h. b n k p h ∙ a n k p h

pub apart_more : (l : ℕ) (s s' : List ℕ) (i x : ℕ) {s'' : List ℕ} → l < 4 → Apart l s s' → s'' ≡ slice_set s' (4 * i + l) x → Apart l s s''
apart_more l s s' i x {s''} q a e = λ n k p h. ap (lane_of n k) e ∙ apart_then l s s' (slice_set s' (4 * i + l) x) a (apart-set l s' i x q) n k p h

pub apart_none : (l : ℕ) (s : List ℕ) → Apart l s s
apart_none l s = λ n k p h. refl

-- words of zeros
pub lane_zeros : (l n i : ℕ) → slice_index_or {A = ℕ} (lane_of 68 l (replicate n 0)) i 0 ≡ 0
lane_zeros l n i =
    by-test (nat_lt i 68)
    (λ t. lane_get 68 l (replicate n 0) i (ltb-true i 68 t) ∙ zero_get n (4 * i + l))
    (λ t. get_or-eq_default (lane_of 68 l (replicate n 0)) 0 (rw (length_lane 68 l (replicate n 0)) (ltb-false i 68 t)))
