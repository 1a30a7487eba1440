-- How an input is cut into pieces never changes its lines.
use Rattle.std.specs.Prelude.{ℕ, suc, ◌+◌, ◌<◌, ◌≡◌, refl, false, List, [], ◌∷◌, ◌++◌, eqb, length, take}
use Rattle.std.proofs.Common.{append_assoc, append-nil, arith}
use Rattle.words.specs.BoolLaws.{by-test}
use Rattle.words.specs.Search.{index_of, index_after}
use Rattle.text.specs.Text.{longer}
use Rattle.lines.specs.Lines.{line_feed, lines_of, behind, cut, last}

-- the last line may lack its line feed
pub last_feed : (s : List ℕ) (b : ℕ) → eqb b line_feed ≡ false → lines_of (s ++ (b ∷ line_feed ∷ [])) ≡ lines_of (s ++ (b ∷ []))
unfolding lines_of longer
last_feed [] b f = rw f
last_feed (x ∷ s) b f = rw (last_feed s b f)

-- two pieces are cut as one
pub pieces_do_not_matter : (p a b : List ℕ) → cut p (a ++ b) ≡ behind (cut p a).whole (cut (cut p a).pending b)
unfolding cut
pieces_do_not_matter p [] b = refl
pieces_do_not_matter p (x ∷ a) b =
    by-test (eqb x line_feed)
    (λ t. rw (t, pieces_do_not_matter [] a b))
    (λ f. rw (f, pieces_do_not_matter (p ++ (x ∷ [])) a b))

-- ---- the whole input

-- p in front of the first line
begun : List ℕ → List (List ℕ) → List (List ℕ)
begun [] lines = lines
begun (b ∷ p) lines = longer b (begun p lines)

begun_first : (p l : List ℕ) (lines : List (List ℕ)) → begun p (l ∷ lines) ≡ (p ++ l) ∷ lines
unfolding begun longer
begun_first [] l lines = refl
begun_first (b ∷ p) l lines = rw (begun_first p l lines)

begun_more : (p : List ℕ) (b : ℕ) (lines : List (List ℕ)) → begun (p ++ (b ∷ [])) lines ≡ begun p (longer b lines)
unfolding begun
begun_more [] b lines = refl
begun_more (x ∷ p) b lines = rw (begun_more p b lines)

begun-alone : (p : List ℕ) → begun p [] ≡ last p
unfolding begun longer last
begun-alone [] = refl
begun-alone (b ∷ []) = refl
begun-alone (b ∷ c ∷ p) = rw (begun-alone (c ∷ p))

lines_from : (p s : List ℕ) → begun p (lines_of s) ≡ (cut p s).whole ++ last (cut p s).pending
unfolding cut lines_of begun
lines_from p [] = begun-alone p
lines_from p (b ∷ s) =
    by-test (eqb b line_feed)
    (λ t. rw (t, begun_first p [] (lines_of s), append-nil p, ← lines_from [] s))
    (λ f. rw (f, ← begun_more p b (lines_of s)) (lines_from (p ++ (b ∷ [])) s))

-- the lines are those that the pieces end, and one that has begun
pub lines_cut : (s : List ℕ) → lines_of s ≡ (cut [] s).whole ++ last (cut [] s).pending
unfolding begun
lines_cut s = lines_from [] s

-- ---- a piece line by line

-- a piece up to its first line feed ends the pending line
pub cut_line : (p s : List ℕ) → index_of line_feed s < length s
    → cut p (take (index_of line_feed s + 1) s) ≡ record { whole = (p ++ take (index_of line_feed s) s) ∷ []; pending = [] }
unfolding cut index_of index_after
cut_line p [] l = absurd (omega arith)
cut_line p (b ∷ s) l =
    by-test (eqb b line_feed)
    (λ t. rw (t, t, append-nil p))
    (λ f. let m = rw f at l in
    let n : suc (index_of line_feed s) + 1 ≡ suc (index_of line_feed s + 1) = omega arith in
    rw (f, n, f, cut_line (p ++ (b ∷ [])) s (omega arith), append_assoc p (b ∷ []) (take (index_of line_feed s) s)))

-- a piece without a line feed only makes it longer
pub cut-rest : (p s : List ℕ) → index_of line_feed s ≡ length s → cut p s ≡ record { whole = []; pending = p ++ s }
unfolding cut index_of index_after
cut-rest p [] e = rw (append-nil p)
cut-rest p (b ∷ s) e =
    by-test (eqb b line_feed)
    (λ t. let z : 0 ≡ suc (length s) = rw t at e in absurd (omega arith))
    (λ f. let m : suc (index_of line_feed s) ≡ suc (length s) = rw f at e in
    rw (f, cut-rest (p ++ (b ∷ [])) s (omega arith), append_assoc p (b ∷ []) s))
