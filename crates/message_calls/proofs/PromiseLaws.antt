-- The proofs of what is promised of messages that are served, but for `CodesLaws`: each is the desk's or the ledger machine's promise of what is read.
use Rattle.std.specs.Prelude.{ℕ, ◌≡◌, refl, true, List}
use Rattle.words.specs.Lists.{one_of}
use Rattle.window.specs.PasswordAt.{PasswordRule}
use Rattle.token.specs.Codes.{number_of}
use Rattle.desk.proofs.Demand1Laws.{demand_1}
use Rattle.desk.specs.Reads.{Reads, read_after}
use Rattle.ledger.proofs.Demand3ReadsLaws.{demand_3_reads, read-steps_rise, read-void_accepts_nothing}
use Rattle.message_calls.specs.Serving.{message_reads}
use Rattle.message_calls.specs.Promise.{codes_for, bytes_after, Demand1Messages, reads_in, Demand3Messages, MessageStepsRise, MessageVoidAcceptsNothing}
use Rattle.message_calls.proofs.CodesLaws.{Why, message_why}

-- the codes of a call, or those of messages
read-listed : (passwords : PasswordRule) (message s : List ℕ) (r : Reads) → Why message r
    → (one_of (number_of (read_after passwords r s).answer) (codes_for r) ≡ true) × ((read_after passwords r s).table ≡ bytes_after passwords r s (read_after passwords r s).answer)
unfolding read_after
read-listed passwords message s r (Why.malformed bad) = (refl, refl)
read-listed passwords message s r (Why.mac_other ok other) = (refl, refl)
read-listed passwords message s r (Why.no_call ok fits none) = (refl, refl)
read-listed passwords message s r (Why.called ok fits has call) = demand_1 passwords call s

pub demand_1_messages : Demand1Messages
demand_1_messages passwords message clock s = read-listed passwords message s (message_reads message clock) (message_why message clock)

pub demand_3_messages : Demand3Messages
demand_3_messages passwords rows some few sent = demand_3_reads passwords rows some few (reads_in sent)

pub message-steps_rise : MessageStepsRise
message-steps_rise passwords rows some few sent serial = read-steps_rise passwords rows some few (reads_in sent) serial

pub message-void_accepts_nothing : MessageVoidAcceptsNothing
message-void_accepts_nothing passwords rows some few sent serial = read-void_accepts_nothing passwords rows some few (reads_in sent) serial
