-- The loads of a history: which of them have a serial, and what an entry adds to them.
use Rattle.token.specs.Answers.{Answer}
use Rattle.std.specs.Prelude.{ℕ, ◌≡◌, refl, false, eqb}
use Rattle.std.proofs.Common.{sym}
use mathlib.Core.List.{List, [], ◌∷◌, ◌++◌, append-nil}
use Rattle.std.proofs.Math.Option.{none, some}
use borrow.Author.Tests.{eqb-true, eqb-false, ne_eqb}
use Rattle.words.specs.BoolLaws.{by-test, impossible}
use Rattle.desk.specs.Requests.{Request, DeskCall}
use Rattle.ledger.specs.Ledger.{Entry, Loaded, loads, load_of}
use Rattle.ledger.specs.HistoryTokens.{with_entry, Distinct}

pub flipped : (a b : ℕ) → eqb a b ≡ false → eqb b a ≡ false
flipped a b f = ne_eqb b a (λ e. eqb-false a b f (sym e))

module _ (serial : ℕ) (l : Loaded) (ls : List Loaded) (missing : load_of serial (l ∷ ls) ≡ none) where
  pub first_differs : eqb l.particulars.serial serial ≡ false
  unfolding load_of
  first_differs =
      by-test (eqb l.particulars.serial serial)
      (λ t. let n : some l ≡ none = rw t at missing in impossible (cc))
      (λ f. f)

  pub rest-missing : load_of serial ls ≡ none
  unfolding load_of
  rest-missing = rw first_differs at missing

module _ (serial : ℕ) (l : Loaded) where
  pub found-serial : (ls : List Loaded) → load_of serial ls ≡ some l → l.particulars.serial ≡ serial
  unfolding load_of
  found-serial [] e = impossible (cc)
  found-serial (k ∷ ls) e =
      by-test (eqb k.particulars.serial serial)
      (λ t. let same : some k ≡ some l = rw t at e in let s = eqb-true k.particulars.serial serial t in cc)
      (λ f. found-serial ls (rw f at e))

  pub found-behind : (ls ms : List Loaded) → load_of serial ls ≡ some l → load_of serial (ls ++ ms) ≡ some l
  unfolding load_of
  found-behind [] ms e = impossible (cc)
  found-behind (k ∷ ls) ms e =
      by-test (eqb k.particulars.serial serial)
      (λ t. rw t (rw t at e))
      (λ f. rw f (found-behind ls ms (rw f at e)))

-- ---- one more load at the end

module _ (l : Loaded) where
  pub missing-before : (serial : ℕ) (ls : List Loaded) → load_of serial (ls ++ (l ∷ [])) ≡ none → (load_of serial ls ≡ none) × (eqb l.particulars.serial serial ≡ false)
  unfolding load_of
  missing-before serial [] m = (refl, first_differs serial l [] m)
  missing-before serial (k ∷ ls) m =
      let before = missing-before serial ls (rest-missing serial k (ls ++ (l ∷ [])) m) in
      (rw (first_differs serial k (ls ++ (l ∷ [])) m) before.0, before.1)

  missing-behind : (serial : ℕ) (ls : List Loaded) → load_of serial ls ≡ none → eqb l.particulars.serial serial ≡ false → load_of serial (ls ++ (l ∷ [])) ≡ none
  unfolding load_of
  missing-behind serial [] m f = rw f
  missing-behind serial (k ∷ ls) m f = rw (first_differs serial k ls m) (missing-behind serial ls (rest-missing serial k ls m) f)

  pub distinct-behind : (ls : List Loaded) → Distinct ls → load_of l.particulars.serial ls ≡ none → Distinct (ls ++ (l ∷ []))
  unfolding load_of
  distinct-behind [] apart m = (refl, tt)
  distinct-behind (k ∷ ls) apart m =
      let differs = flipped k.particulars.serial l.particulars.serial (first_differs l.particulars.serial k ls m) in
      (missing-behind k.particulars.serial ls apart.0 differs, distinct-behind ls apart.1 (rest-missing l.particulars.serial k ls m))

pub named-loads : (request : Request) (serial clock : ℕ) (a : Answer) (history : List Entry)
    → loads (with_entry (DeskCall.named request serial clock) a history) ≡ loads history
unfolding loads
named-loads request serial clock a history = append-nil (loads history)
