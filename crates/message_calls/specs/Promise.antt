-- What is promised of messages that are served (document 02, Ask 1): which code says what, and that whoever chooses messages chooses no more than calls.
-- This page has the statements; `CodesLaws` and `PromiseLaws` have the proofs.
use Rattle.token.specs.Answers.{Answer}
use Rattle.std.specs.Prelude.{ℕ, ◌*◌, ◌≤◌, ◌≡◌, true, false, List, [], ◌∷◌, map, replicate}
use Rattle.words.specs.Lists.{one_of}
use Rattle.words.specs.Exactly.{Exactly}
use Rattle.window.specs.PasswordAt.{PasswordRule}
use Rattle.row.specs.Row.{row_bytes}
use Rattle.token.specs.Codes.{number_of}
use Rattle.desk.specs.Requests.{DeskCall}
use Rattle.desk.specs.Desk.{Result}
use Rattle.desk.specs.Demand1.{codes_of, bytes_for}
use Rattle.desk.specs.Reads.{Reads, read_after}
use Rattle.ledger.specs.Ledger.{ledger}
use Rattle.ledger.specs.Demand3.{Rising}
use Rattle.ledger.specs.ReadRuns.{run_reads, calls_in, with_refusals}
use Rattle.ledger.specs.Demand3Reads.{answers_to, steps_accepted, BehindVoid}
use Rattle.message.specs.Message.{is_reply, kind_in, type_named, version_named, lengths_add_up, attributes_plain, message_at, mac_fits}
use Rattle.message_calls.specs.Serving.{service_of, has_call, options_fit, items_fit, serial_fits, message_reads}

-- ---- the code tells why

-- the reasons for 9001, one by one; the last three are of a service that has a call
pub data Malformed (s : List ℕ) : Type 0 where
  type_not_named : type_named s ≡ false → Malformed s
  version_not_named : version_named s ≡ false → Malformed s
  lengths_differ : lengths_add_up s ≡ false → Malformed s
  reply_sent : is_reply (kind_in s) ≡ true → Malformed s
  attribute_other : attributes_plain s ≡ false → Malformed s
  options_other : has_call (service_of (message_at s).service) ≡ true → options_fit (message_at s) ≡ false → Malformed s
  serial_not_eight : has_call (service_of (message_at s).service) ≡ true → serial_fits (message_at s) ≡ false → Malformed s
  items_other : has_call (service_of (message_at s).service) ≡ true → items_fit (message_at s) ≡ false → Malformed s

-- what is answered to a message on a table
abbrev pub message_after : PasswordRule → List ℕ → ℕ → List ℕ → Result
message_after passwords message clock s = read_after passwords (message_reads message clock) s

abbrev pub code_to : PasswordRule → List ℕ → ℕ → List ℕ → ℕ
code_to passwords message clock s = number_of (message_after passwords message clock s).answer

abbrev pub MessageCodes : Type 0
MessageCodes =
    (passwords : PasswordRule) (message : List ℕ) (clock : ℕ) (s : List ℕ)
    → Exactly (code_to passwords message clock s ≡ 0x9001) (Malformed message)
    × (Exactly (code_to passwords message clock s ≡ 0x9002) ((Malformed message → ⊥) × (mac_fits message ≡ false))
    × Exactly (code_to passwords message clock s ≡ 0x9004) ((Malformed message → ⊥) × ((mac_fits message ≡ true) × (has_call (service_of (message_at message).service) ≡ false))))

-- the codes of the reader alone
abbrev pub reader_codes : List ℕ
reader_codes = 0x9001 ∷ 0x9002 ∷ 0x9004 ∷ []

-- none of the three: the ledger machine sees a call
abbrev pub OthersAreCalls : Type 0
OthersAreCalls =
    (passwords : PasswordRule) (message : List ℕ) (clock : ℕ) (s : List ℕ)
    → Exactly (one_of (code_to passwords message clock s) reader_codes ≡ false) ((call : DeskCall) × (message_reads message clock ≡ Reads.serves call))

-- ---- the first demand for messages

abbrev pub codes_for : Reads → List ℕ
codes_for (Reads.serves call) = codes_of call
codes_for (Reads.refuses refusal) = reader_codes

-- the bytes named for the call's answer; a refused message changes none
abbrev pub bytes_after : PasswordRule → Reads → List ℕ → Answer → List ℕ
bytes_after passwords (Reads.serves call) s answer = bytes_for passwords call s answer
bytes_after passwords (Reads.refuses refusal) s answer = s

abbrev pub Demand1Messages : Type 0
Demand1Messages =
    (passwords : PasswordRule) (message : List ℕ) (clock : ℕ) (s : List ℕ)
    → (one_of (code_to passwords message clock s) (codes_for (message_reads message clock)) ≡ true)
    × ((message_after passwords message clock s).table ≡ bytes_after passwords (message_reads message clock) s (message_after passwords message clock s).answer)

-- ---- the third demand for every mixture of calls and messages

pub data Sent : Type 0 where
  as_call : (call : DeskCall) → Sent
  as_message : (bytes : List ℕ) (clock : ℕ) → Sent

abbrev pub reads_for : Sent → Reads
reads_for (Sent.as_call call) = Reads.serves call
reads_for (Sent.as_message bytes clock) = message_reads bytes clock

abbrev pub reads_in : List Sent → List Reads
reads_in sent = map reads_for sent

-- answers and table are those of the ledger machine that is fed the calls; a refused message stands among the answers with its code
abbrev pub Demand3Messages : Type 0
Demand3Messages =
    (passwords : PasswordRule) (rows : ℕ) → 1 ≤ rows → rows ≤ 256 → (sent : List Sent)
    → run_reads passwords (reads_in sent) (replicate {A = ℕ} (row_bytes * rows) 0) ≡ with_refusals (reads_in sent) (ledger passwords rows (calls_in (reads_in sent)))

abbrev pub MessageStepsRise : Type 0
MessageStepsRise =
    (passwords : PasswordRule) (rows : ℕ) → 1 ≤ rows → rows ≤ 256 → (sent : List Sent) (serial : ℕ)
    → Rising (steps_accepted serial (reads_in sent) (answers_to passwords rows (reads_in sent)))

abbrev pub MessageVoidAcceptsNothing : Type 0
MessageVoidAcceptsNothing =
    (passwords : PasswordRule) (rows : ℕ) → 1 ≤ rows → rows ≤ 256 → (sent : List Sent) (serial : ℕ)
    → BehindVoid serial (λ later answers. steps_accepted serial later answers ≡ []) (reads_in sent) (answers_to passwords rows (reads_in sent))
