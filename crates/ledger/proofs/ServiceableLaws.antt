-- Tokens stay serviceable: what a call leaves of them is well formed, and there is room for it.
use Rattle.std.specs.Prelude.{ℕ, zero, suc, ◌-◌, ◌^◌, ◌<◌, ◌≡◌, refl, true, ◌&&◌, eqb, ltb, length, take, replicate}
use Rattle.std.proofs.Common.{ap, arith, ltb-true}
use mathlib.Core.List.{List, [], ◌∷◌, ◌++◌}
use Rattle.std.proofs.lemmas.List.{length-replicate}
use Rattle.std.proofs.Math.Seq.{drop-append_seam}
use Rattle.words.specs.Lists.{all_zero}
use Rattle.words.specs.ListsLaws.{drop_zeros}
use Rattle.words.specs.BoolLaws.{and_left, either, either-by}
use Rattle.window.specs.PasswordAt.{PasswordRule}
use Rattle.row.specs.Row.{key_bytes}
use Rattle.row.specs.WriteLaws.{length-zero_filled}
use Rattle.token.specs.declared.deciding.Left.{Left}
use Rattle.desk.specs.declared.Particulars.{Particulars}
use Rattle.desk.specs.Requests.{Request, DeskCall, clock_ok, request_ok, valued, challenge_of, load_ok}
use Rattle.desk.proofs.LoadLaws.{loaded-serial-fits, loaded-numbers, loaded-key-short}
use Rattle.ledger.specs.Tokens.{Token, TokensAfter, decided_on, kept, served_among, has_token, loaded_token, tokens_after, Serviceable, AllServiceable}
use Rattle.ledger.proofs.DecidedLaws.{LeavesBy, decided-leaves}

zeros_are-zero : (n : ℕ) → all_zero (replicate n 0) ≡ true
unfolding all_zero
zeros_are-zero zero = refl
zeros_are-zero (suc n) = zeros_are-zero n

-- ---- a request

kept-serviceable : (t : Token) → Serviceable t → (left : Left) → LeavesBy t.row left → Serviceable (kept t left)
kept-serviceable t s Left.Same leaves = s
kept-serviceable t s (Left.Stored x) leaves =
    record { live = leaves.live; serial = rw leaves.same.serial s.serial; long = s.long; filled = rw leaves.same.key_length s.filled }
kept-serviceable t s (Left.Voided x) leaves =
    record {
      live = leaves.live;
      serial = rw leaves.same.serial s.serial;
      long = length-replicate {A = ℕ} key_bytes 0;
      filled = rw (drop_zeros x.key_length key_bytes) (zeros_are-zero (key_bytes - x.key_length));
    }

module _ (passwords : PasswordRule) (request : Request) (clock : ℕ) (h : clock < 2 ^ 40) where
  pub token-leaves : (t : Token) → Serviceable t → LeavesBy t.row (decided_on passwords request clock t).left
  token-leaves t s = decided-leaves passwords (valued request) t.row s.live (take t.row.key_length t.key) clock h (challenge_of request)

  served-serviceable : (serial : ℕ) (ts : List Token) → AllServiceable ts → AllServiceable (served_among passwords request serial clock ts).tokens
  unfolding served_among
  served-serviceable serial [] all = tt
  served-serviceable serial (t ∷ ts) all =
      either (λ (x : TokensAfter). AllServiceable x.tokens) (eqb t.row.serial serial)
      (kept-serviceable t all.0 (decided_on passwords request clock t).left (token-leaves t all.0), all.1) (all.0, served-serviceable serial ts all.1)

pub length-served : (passwords : PasswordRule) (request : Request) (clock serial : ℕ) (ts : List Token)
    → length (served_among passwords request serial clock ts).tokens ≡ length ts
unfolding served_among
length-served passwords request clock serial [] = refl
length-served passwords request clock serial (t ∷ ts) =
    either (λ (x : TokensAfter). length x.tokens ≡ suc (length ts)) (eqb t.row.serial serial) refl (ap suc (length-served passwords request clock serial ts))

-- ---- a load

loaded-serviceable : (p : Particulars) (key : List ℕ) → load_ok p key ≡ true → Serviceable (loaded_token p key)
loaded-serviceable p key ok =
    record {
      live = record { numbers = loaded-numbers p key ok; taken = omega arith };
      serial = loaded-serial-fits p key ok;
      long = length-zero_filled key (loaded-key-short p key ok);
      filled = rw (drop-append_seam key (replicate (key_bytes - length key) 0)) (zeros_are-zero (key_bytes - length key));
    }

serviceable_more : (ts : List Token) (t : Token) → AllServiceable ts → Serviceable t → AllServiceable (ts ++ (t ∷ []))
serviceable_more [] t all s = (s, tt)
serviceable_more (u ∷ ts) t all s = (all.0, serviceable_more ts t all.1 s)

-- ---- every call

pub serviceable-after : (passwords : PasswordRule) (rows : ℕ) (call : DeskCall) (ts : List Token) → AllServiceable ts → AllServiceable (tokens_after passwords rows call ts).tokens
unfolding tokens_after
serviceable-after passwords rows (DeskCall.load p key) ts all =
    let P : TokensAfter → Type 0 = λ x. AllServiceable x.tokens in
    either-by P (load_ok p key)
    (λ ok. either P (has_token p.serial ts) all (either P (ltb (length ts) rows) (serviceable_more ts (loaded_token p key) all (loaded-serviceable p key ok)) all))
    (λ bad. all)
serviceable-after passwords rows (DeskCall.named request serial clock) ts all =
    either-by (λ (x : TokensAfter). AllServiceable x.tokens) (clock_ok clock && request_ok request)
    (λ ok. served-serviceable passwords request clock (ltb-true clock (2 ^ 40) (and_left _ _ ok)) serial ts all)
    (λ bad. all)
