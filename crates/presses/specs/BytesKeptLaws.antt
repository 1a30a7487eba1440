-- A call leaves a table of bytes one, where the key of a load is of bytes.
use Rattle.std.specs.Prelude.{ℕ, zero, suc, ◌+◌, ◌-◌, ◌<◌, ◌≡◌, Bool, true, ◌&&◌, List, [], ◌∷◌, ◌++◌, eqb, leb, length, get_or, take, drop, Some, None}
use Rattle.std.proofs.Common.{⊎_elim, zero-lt-suc, arith, get_or-drop}
use borrow.Author.Tests.{eqb-true, leb-true}
use Rattle.words.specs.Bytes.{AreBytes, put}
use Rattle.words.specs.BoolLaws.{and_right, by-test, either}
use Rattle.words.specs.SwapLaws.{bytes-append, bytes-be_bytes}
use Rattle.words.specs.SumLaws.{bytes_zeros}
use Rattle.words.specs.Lists.{one_of}
use Rattle.window.specs.PasswordAt.{PasswordRule}
use Rattle.row.specs.Row.{row_bytes, last_state, number_tests, numbers_ok}
use Rattle.row.specs.Table.{Place, find_row}
use Rattle.row.specs.RangeLaws.{test-passes, known_algorithm, digits_in_range, length_in_range}
use Rattle.row.specs.FoundLaws.{empty-within}
use Rattle.token.specs.Codes.{number_of}
use Rattle.desk.specs.declared.Particulars.{Particulars}
use Rattle.desk.specs.Requests.{DeskCall, loaded_row}
use Rattle.desk.specs.Desk.{desk_after}
use Rattle.desk.proofs.LoadLaws.{loaded-numbers, loaded-key-short}
use Rattle.desk.proofs.BranchLaws.{load-holds}
use Rattle.desk.proofs.RowBytesLaws.{load-laid}
use Rattle.desk.specs.Demand1.{at_place}
use Rattle.desk.specs.Demand1Bytes.{Change, laid, byte, errors, unchanged_codes, wait_run_out, ran_out, one_more, lock_at_limit, accepted_step, besides, left_by, loaded, step_in, press_in}
use Rattle.desk.proofs.Demand1BytesLaws.{demand_1_bytes}
use Rattle.presses.specs.Presses.{KeyIsBytes}

-- ---- lists of bytes

bytes_take : (n : ℕ) (s : List ℕ) → AreBytes s → AreBytes (take n s)
bytes_take zero s h i = zero-lt-suc 255
bytes_take (suc n) [] h i = zero-lt-suc 255
bytes_take (suc n) (x ∷ s) h zero = h zero
bytes_take (suc n) (x ∷ s) h (suc i) = bytes_take n s (λ j. h (suc j)) i

bytes_drop : (n : ℕ) (s : List ℕ) → AreBytes s → AreBytes (drop n s)
bytes_drop n s h i = rw (get_or-drop n s i 0) (h (n + i))

-- numbers below 256, one by one
abbrev Small : List ℕ → Type 0
Small [] = Unit {0}
Small (x ∷ s) = (x < 256) × Small s

bytes_small : (s : List ℕ) → Small s → AreBytes s
bytes_small [] h i = zero-lt-suc 255
bytes_small (x ∷ s) h zero = h.0
bytes_small (x ∷ s) h (suc i) = bytes_small s h.1 i

bytes_one : (x : ℕ) → x < 256 → AreBytes (x ∷ [])
bytes_one x l = bytes_small (x ∷ []) (l, tt)

-- ---- changes of bytes

abbrev AllBytes : List Change → Type 0
AllBytes [] = Unit {0}
AllBytes (c ∷ cs) = AreBytes c.bytes × AllBytes cs

laid-bytes : (s : List ℕ) (at : ℕ) (cs : List Change) → AreBytes s → AllBytes cs → AreBytes (laid s at cs)
laid-bytes s at [] h a = h
laid-bytes s at (c ∷ cs) h a =
    let place = at + c.offset in
    let behind = drop (place + length c.bytes) s in
    laid-bytes (put s place c.bytes) at cs
    (bytes-append (take place s) (c.bytes ++ behind) (bytes_take place s h) (bytes-append c.bytes behind a.0 (bytes_drop (place + length c.bytes) s h))) a.1

append-all : (cs ds : List Change) → AllBytes cs → AllBytes ds → AllBytes (cs ++ ds)
append-all [] ds p q = q
append-all (c ∷ cs) ds p q = (p.0, append-all cs ds p.1 q)

-- ---- a call that names a token

module _ (s : List ℕ) (at clock : ℕ) (press : Bool) where
  more_byte : AreBytes (errors (one_more s at clock)).bytes
  more_byte = bytes_one (one_more s at clock) (omega arith)

  lock-all : AllBytes (lock_at_limit s at clock)
  lock-all = either AllBytes (leb (byte s at 5) (one_more s at clock)) (bytes_one 3 (omega arith), (bytes-be_bytes 8 clock, tt)) tt

  step-all : (a : ℕ) → AllBytes (accepted_step s at clock a)
  step-all a =
      (bytes-be_bytes 8 (a + 1), (bytes_one 0 (omega arith), (bytes-be_bytes 8 clock, either AllBytes (eqb (byte s at 1) 0) (bytes-be_bytes 2 _, tt) tt)))

  besides-all : (code a : ℕ) → AllBytes (besides s at clock press code a)
  besides-all code a =
      either AllBytes (eqb code 0x8004 && press) tt
      (either AllBytes (one_of code (0x8004 ∷ 0x8002 ∷ [])) (more_byte, lock-all)
      (either AllBytes (one_of code (0x8104 ∷ 0x8102 ∷ 0x8105 ∷ [])) (more_byte, tt)
      (either AllBytes (one_of code (0x0001 ∷ 0x0002 ∷ 0x0108 ∷ [])) (step-all a)
      (either AllBytes (one_of code (0x0101 ∷ 0x0105 ∷ [])) (bytes_one 2 (omega arith), step-all a)
      (either AllBytes (eqb code 0x0103) (bytes_one 2 (omega arith), (bytes-be_bytes 8 0, step-all a))
      (either AllBytes (eqb code 0x0102) (bytes_one 4 (omega arith), tt)
      (either AllBytes (eqb code 0x0104) (bytes_one 5 (omega arith), (bytes-be_bytes 8 0, tt))
      (either AllBytes (eqb code 0x010a) (bytes_one 6 (omega arith), (bytes-be_bytes 8 0, (bytes_zeros 32, tt))) tt))))))))

  left-all : (code a : ℕ) → AllBytes (left_by s at clock press code a)
  left-all code a =
      either AllBytes (one_of code unchanged_codes) tt
      (append-all (ran_out s at clock) (besides s at clock press code a)
      (either AllBytes (wait_run_out s at clock) (bytes_one 2 (omega arith), (bytes_one 0 (omega arith), (bytes-be_bytes 8 0, tt))) tt) (besides-all code a))

-- ---- a load

module _ (p : Particulars) (key : List ℕ) (ok : numbers_ok last_state (loaded_row p key) ≡ true) where
  passes : (i : ℕ) → get_or (number_tests last_state (loaded_row p key)) i true ≡ true
  unfolding numbers_ok
  passes i = test-passes (number_tests last_state (loaded_row p key)) i ok

  kind-byte : p.scheme.kind < 256
  unfolding number_tests
  kind-byte = omega (arith, leb-true p.scheme.kind 1 (passes 1))

  algorithm-byte : p.scheme.algorithm < 256
  algorithm-byte =
      ⊎_elim (λ (e : p.scheme.algorithm ≡ 3). omega arith) (λ (e : p.scheme.algorithm ≡ 4). omega arith) (known_algorithm last_state (loaded_row p key) ok)

  period-byte : p.period < 256
  unfolding number_tests
  period-byte =
      by-test (eqb p.scheme.kind 0)
      (λ b. omega (arith, leb-true p.period 60 (and_right (leb 1 p.period) _ (rw b at (passes 4)))))
      (λ b. omega (arith, eqb-true p.period 0 (rw b at (passes 4))))

  limit-byte : p.limit < 256
  unfolding number_tests
  limit-byte = omega (arith, leb-true p.limit 10 (and_right (leb 1 p.limit) _ (passes 5)))

  loaded-all : AreBytes key → AllBytes (loaded p key)
  loaded-all h =
      let digits = (digits_in_range last_state (loaded_row p key) ok).1 in
      let short = (length_in_range last_state (loaded_row p key) ok).1 in
      let head : List ℕ = 1 ∷ p.scheme.kind ∷ p.scheme.algorithm ∷ p.scheme.digits ∷ p.period ∷ p.limit ∷ 0 ∷ length key ∷ [] in (
        bytes_small head
            (omega arith, (kind-byte, (algorithm-byte, (omega (arith, digits), (period-byte, (limit-byte, (omega arith, (omega (arith, short), tt)))))))),
        (
          bytes-be_bytes 8 p.serial,
          (
            bytes-append key _ h (bytes_zeros (32 - length key)),
            (
              bytes_zeros 8,
              (
                bytes_small (0x02 ∷ 0x58 ∷ []) (omega arith, (omega arith, tt)),
                (
                  bytes_zeros 2,
                  (
                    bytes-be_bytes 4 p.wait,
                    (
                      bytes-be_bytes 8 p.expiry.0,
                      (bytes_zeros 24, tt),
                    ),
                  ),
                ),
              ),
            ),
          ),
        ),
      )

-- ---- every call

pub call-keeps-bytes : (passwords : PasswordRule) (call : DeskCall) (s : List ℕ) → AreBytes s → KeyIsBytes call → AreBytes (desk_after passwords call s).table
call-keeps-bytes passwords (DeskCall.load p key) s h k =
    load-holds passwords s (λ x. AreBytes x.table) p key
    (record {
      bad = λ t. h;
      taken = λ fit other e. h;
      full = λ fit none e. h;
      made = λ fit none at e.
          rw (← load-laid p key s at (loaded-key-short p key fit.values) (empty-within row_bytes s (omega arith) at e))
          (laid-bytes s at (loaded p key) h (loaded-all p key (loaded-numbers p key fit.values) k));
    })
call-keeps-bytes passwords (DeskCall.named request serial clock) s h k =
    let answer = (desk_after passwords (DeskCall.named request serial clock) s).answer in
    rw (demand_1_bytes passwords (DeskCall.named request serial clock) s h) (placed (find_row row_bytes s serial) (number_of answer) (step_in answer))
  where
    placed : (place : Place) (code a : ℕ) → AreBytes (at_place s place (λ at. laid s at (left_by s at clock (press_in passwords request s at clock) code a)))
    placed (Some at) code a =
        let press = press_in passwords request s at clock in
        laid-bytes s at (left_by s at clock press code a) h (left-all s at clock press code a)
    placed None code a = h
