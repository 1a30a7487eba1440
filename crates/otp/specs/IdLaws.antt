-- Laws of what is laid into a buffer of zeros.
use Rattle.std.specs.Prelude.{◌≡◌, ℕ, ◌+◌, ◌≤◌, List, ◌++◌, length, Some, None}
use Rattle.std.proofs.Common.{zero-le, sym, ◌∙◌, append_assoc, add-zero, arith}
use Rattle.std.proofs.Math.ListN.{length-append}
use Rattle.words.specs.Bytes.{put, put_be}
use Rattle.words.specs.BytesLaws.{length-be_bytes, put_be-put}
use Rattle.words.specs.PutLaws.{put_nothing, put_on}
use Rattle.otp.specs.Password.{factor_bytes, id_of, Factor}

-- a factor's bytes
pub factor_length : (width : ℕ) (f : Factor) → length (factor_bytes width f) ≤ width
unfolding factor_bytes
factor_length width None = zero-le
factor_length width (Some x) = rw (length-be_bytes width x) (omega arith)

pub factor_absent : (width at : ℕ) (s : List ℕ) → (at ≡ at + length (factor_bytes width None)) × (s ≡ put s at (factor_bytes width None))
unfolding factor_bytes
factor_absent width at s = (sym (add-zero at), put_nothing s at)

pub factor_present : (width at x : ℕ) (s : List ℕ) {after : List ℕ} → at + width ≤ length s → after ≡ put_be width s at x
    → (at + width ≡ at + length (factor_bytes width (Some x))) × (after ≡ put s at (factor_bytes width (Some x)))
unfolding factor_bytes
factor_present width at x s h e = (rw (length-be_bytes width x), e ∙ put_be-put width s at x h)

-- T, then C, then Q, each put where the one before ends
module _ (s : List ℕ) (at : ℕ) (time count : Factor) (q : List ℕ) {s₁ s₂ s₃ : List ℕ} {a₁ a₂ end : ℕ} where
  pub put_id : at + 44 ≤ length s → length q ≤ 32
      → a₁ ≡ at + length (factor_bytes 8 time) → s₁ ≡ put s at (factor_bytes 8 time)
      → a₂ ≡ a₁ + length (factor_bytes 4 count) → s₂ ≡ put s₁ a₁ (factor_bytes 4 count)
      → end ≡ a₂ + length q → s₃ ≡ put s₂ a₂ q
      → (end ≡ at + length (id_of time count q)) × (s₃ ≡ put s at (id_of time count q))
  unfolding id_of
  put_id h k p e p' e' p'' e'' =
      let t = factor_bytes 8 time in
      let c = factor_bytes 4 count in
      let lt = factor_length 8 time in
      let lc = factor_length 4 count in
      let two : s₂ ≡ put s at (t ++ c) = e' ∙ rw (e, p) (put_on s at t c (omega arith)) in
      let place : a₂ ≡ at + length (t ++ c) = rw length-append (omega arith) in
      let fits : at + length (t ++ c) ≤ length s = rw length-append (omega arith) in
      (rw (length-append, length-append) (omega arith), e'' ∙ rw (two, place) (put_on s at (t ++ c) q fits ∙ rw (append_assoc t c q)))

pub id-length : (time count : Factor) (q : List ℕ) → length (id_of time count q) ≤ 12 + length q
unfolding id_of
id-length time count q =
    let lt = factor_length 8 time in
    let lc = factor_length 4 count in
    rw (length-append, length-append) (omega arith)
