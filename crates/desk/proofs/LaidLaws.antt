-- Laws of changes laid over a row (`Demand1Bytes`).
use Rattle.std.specs.Prelude.{ℕ, ◌+◌, ◌≤◌, ◌≡◌, refl, Bool, true, false, ◌&&◌, ◌||◌, cond, List, [], ◌∷◌, ◌++◌, eqb, leb, length}
use Rattle.std.proofs.Common.{sym, ap, ◌∙◌, arith, eqb-true, leb-true, length-append}
use Rattle.words.specs.Bytes.{put}
use Rattle.words.specs.PutLaws.{put_nothing, put-length, put_on, put-over, put-apart}
use Rattle.words.specs.BoolLaws.{by-test, and_left, and_right}
use Rattle.row.specs.Row.{row_bytes}
use Rattle.desk.specs.Demand1Bytes.{Change, laid}

-- the offset behind a change
abbrev pub end : Change → ℕ
end c = c.offset + length c.bytes

-- all lie within a row
abbrev pub in_row : List Change → Bool
in_row [] = true
in_row (c ∷ cs) = leb (end c) row_bytes && in_row cs

abbrev pub apart : Change → Change → Bool
apart c d = leb (end c) d.offset || leb (end d) c.offset

abbrev pub apart_from : Change → List Change → Bool
apart_from c [] = true
apart_from c (d ∷ ds) = apart c d && apart_from c ds

-- changes of which the one at an offset is replaced
abbrev pub replaced : Change → List Change → List Change
replaced c [] = []
replaced c (d ∷ ds) = cond (eqb c.offset d.offset) (c ∷ ds) (d ∷ replaced c ds)

-- there is one, as long, and it lies apart from those behind it
abbrev pub replaces : Change → List Change → Bool
replaces c [] = false
replaces c (d ∷ ds) = cond (eqb c.offset d.offset) (eqb (length d.bytes) (length c.bytes) && apart_from c ds) (replaces c ds)

-- and so for each of a list
abbrev pub replaced_by : List Change → List Change → List Change
replaced_by ds [] = ds
replaced_by ds (c ∷ cs) = replaced_by (replaced c ds) cs

abbrev pub replaces_all : List Change → List Change → Bool
replaces_all ds [] = true
replaces_all ds (c ∷ cs) = (in_row ds && replaces c ds) && replaces_all (replaced c ds) cs

module _ (at : ℕ) where
  -- the table after one change
  abbrev one : List ℕ → Change → List ℕ
  one s c = put s (at + c.offset) c.bytes

  pub laid-append : (s : List ℕ) (cs ds : List Change) → laid s at (cs ++ ds) ≡ laid (laid s at cs) at ds
  laid-append s [] ds = refl
  laid-append s (c ∷ cs) ds = laid-append (one s c) cs ds

  one-length : (s : List ℕ) (c : Change) → at + row_bytes ≤ length s → end c ≤ row_bytes → length (one s c) ≡ length s
  one-length s c room l = put-length s (at + c.offset) c.bytes (omega arith)

  one-one : (s : List ℕ) (c d : Change) → at + row_bytes ≤ length s → end c ≤ row_bytes → end d ≤ row_bytes → apart c d ≡ true → one (one s d) c ≡ one (one s c) d
  one-one s c d room f g t =
      by-test (leb (end c) d.offset)
      (λ b. let l = leb-true (end c) d.offset b in sym (put-apart s (at + c.offset) (at + d.offset) c.bytes d.bytes (omega arith) (omega arith)))
      (λ b. let l = leb-true (end d) c.offset (rw b at t) in put-apart s (at + d.offset) (at + c.offset) d.bytes c.bytes (omega arith) (omega arith))

  -- a change goes before others that it lies apart from
  laid-apart : (s : List ℕ) (c : Change) (ds : List Change) → at + row_bytes ≤ length s → end c ≤ row_bytes → in_row ds ≡ true → apart_from c ds ≡ true
      → one (laid s at ds) c ≡ laid (one s c) at ds
  laid-apart s c [] room f within t = refl
  laid-apart s c (d ∷ ds) room f within t =
      let g = leb-true (end d) row_bytes (and_left _ _ within) in
      laid-apart (one s d) c ds (rw (one-length s d room g) room) f (and_right (leb (end d) row_bytes) _ within) (and_right (apart c d) _ t)
      ∙ ap (λ (z : List ℕ). laid z at ds) (one-one s c d room f g (and_left _ _ t))

  laid-replaced : (s : List ℕ) (c : Change) (ds : List Change) → at + row_bytes ≤ length s → in_row ds ≡ true → replaces c ds ≡ true → one (laid s at ds) c ≡ laid s at (replaced c ds)
  laid-replaced s c [] room within t = cc
  laid-replaced s c (d ∷ ds) room within t =
      let g = leb-true (end d) row_bytes (and_left _ _ within) in
      let kept : at + row_bytes ≤ length (one s d) = rw (one-length s d room g) room in
      let rest = and_right (leb (end d) row_bytes) _ within in
      let long = eqb (length d.bytes) (length c.bytes) in
      by-test (eqb c.offset d.offset)
      (λ same. let both : long && apart_from c ds ≡ true = rw same at t in
      let e = eqb-true c.offset d.offset same in
      let n = eqb-true (length d.bytes) (length c.bytes) (and_left _ _ both) in
      let over : one (one s d) c ≡ one s c = rw e (put-over s (at + d.offset) d.bytes c.bytes n (omega arith)) in
      rw same (laid-apart (one s d) c ds kept (omega arith) rest (and_right long _ both) ∙ ap (λ (z : List ℕ). laid z at ds) over))
      (λ other. rw other (laid-replaced (one s d) c ds kept rest (rw other at t)))

  -- changes laid over others that they replace
  pub laid_replacing : (s : List ℕ) (ds cs : List Change) → at + row_bytes ≤ length s → replaces_all ds cs ≡ true → laid (laid s at ds) at cs ≡ laid s at (replaced_by ds cs)
  laid_replacing s ds [] room t = refl
  laid_replacing s ds (c ∷ cs) room t =
      let first = and_left _ _ t in
      rw (laid-replaced s c ds room (and_left _ _ first) (and_right (in_row ds) _ first))
      (laid_replacing s (replaced c ds) cs room (and_right (in_row ds && replaces c ds) _ t))

-- ---- changes that stand one behind the other

abbrev pub Stacked : ℕ → List Change → Type 0
Stacked i [] = Unit {0}
Stacked i (c ∷ cs) = (c.offset ≡ i) × Stacked (end c) cs

abbrev pub joined : List Change → List ℕ
joined [] = []
joined (c ∷ cs) = c.bytes ++ joined cs

pub laid_stacked : (s : List ℕ) (at i : ℕ) (cs : List Change) → Stacked i cs → at + i + length (joined cs) ≤ length s → laid s at cs ≡ put s (at + i) (joined cs)
laid_stacked s at i [] t h = put_nothing s (at + i)
laid_stacked s at i (c ∷ cs) t h =
    let l : length (c.bytes ++ joined cs) ≡ length c.bytes + length (joined cs) = length-append c.bytes (joined cs) in
    let e = t.0 in
    let n : at + end c ≡ at + c.offset + length c.bytes = omega arith in
    laid_stacked (put s (at + c.offset) c.bytes) at (end c) cs t.1 (rw (put-length s (at + c.offset) c.bytes (omega arith)) (omega arith))
    ∙ rw (n, ← e) (put_on s (at + c.offset) c.bytes (joined cs) (omega arith))
