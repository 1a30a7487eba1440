-- The proofs of the buyer's third demand and of what follows from it.
use Rattle.std.specs.Prelude.{ℕ, ◌-◌, ◌*◌, ◌≤◌, ◌≡◌, replicate}
use Rattle.std.proofs.Math.Path.{refl}
use Rattle.std.proofs.Common.{ap, arith}
use mathlib.Core.List.{List, [], ◌∷◌}
use Rattle.window.specs.PasswordAt.{PasswordRule}
use Rattle.row.specs.Row.{row_bytes}
use Rattle.desk.specs.Requests.{DeskCall}
use Rattle.desk.specs.Desk.{desk_after, Run, run}
use Rattle.ledger.specs.Ledger.{Entry, loads, answer_to, rows_of, table_of, ledger_from, ledger}
use Rattle.ledger.specs.Demand3.{Demand3, answers_of, StepsRise, VoidAcceptsNothing, VoidAcceptsNoCode}
use Rattle.ledger.specs.Tokens.{TokensAfter, tokens_after, AllServiceable}
use Rattle.ledger.specs.HistoryTokens.{with_entry, tokens_of, after_entry, Consistent}
use Rattle.ledger.proofs.BytesStep.{bytes-step}
use Rattle.ledger.proofs.ServiceableLaws.{serviceable-after}
use Rattle.ledger.proofs.ConsistentLaws.{start-consistent, consistent-step}
use Rattle.ledger.proofs.HistoryLaws.{history_step, tokens-fit, history_table}
use Rattle.ledger.proofs.StepsLaws.{ledger-steps_rise}
use Rattle.ledger.proofs.VoidLaws.{ledger-void_accepts_nothing}
use Rattle.ledger.proofs.CodesLaws.{after-void-by-code}

-- ---- one call

-- a history that calls on zero rows can have
pub record Faithful (passwords : PasswordRule) (rows : ℕ) (history : List Entry) : Type 0 where
  pub consistent : Consistent rows history
  pub serviceable : AllServiceable (tokens_of passwords (loads history) history)

pub start_faithful : (passwords : PasswordRule) (rows : ℕ) → Faithful passwords rows []
unfolding loads tokens_of
start_faithful passwords rows = record { consistent = start-consistent rows; serviceable = tt }

pub start-table : (passwords : PasswordRule) (rows : ℕ) → table_of passwords rows [] ≡ replicate (row_bytes * rows) 0
unfolding loads rows_of table_of
start-table passwords rows = let e : rows - 0 ≡ rows = omega arith in rw e

module _ (passwords : PasswordRule) (rows : ℕ) (history : List Entry) (call : DeskCall) (faithful : Faithful passwords rows history) where
  step : tokens_after passwords rows call (tokens_of passwords (loads history) history) ≡ after_entry passwords call (answer_to passwords rows history call) history
  step = history_step passwords rows history call faithful.consistent faithful.serviceable

  -- the desk on the machine's table answers as the machine does, and leaves its next table
  pub call_step : 1 ≤ rows → rows ≤ 256
      → desk_after passwords call (table_of passwords rows history)
      ≡ record { answer = answer_to passwords rows history call; table = table_of passwords rows (with_entry call (answer_to passwords rows history call) history) }
  call_step some few =
      rw (
        ← history_table passwords rows history,
        bytes-step passwords rows some few (tokens_of passwords (loads history) history) (tokens-fit passwords rows history faithful.consistent) faithful.serviceable call,
        step,
        history_table passwords rows (with_entry call (answer_to passwords rows history call) history),
      )

  pub faithful_step : Faithful passwords rows (with_entry call (answer_to passwords rows history call) history)
  faithful_step =
      record {
        consistent = consistent-step passwords rows history call faithful.consistent;
        serviceable = rw (ap (λ (x : TokensAfter). x.tokens) step) at (serviceable-after passwords rows call (tokens_of passwords (loads history) history) faithful.serviceable);
      }

-- ---- every list of calls

module _ (passwords : PasswordRule) (rows : ℕ) (some : 1 ≤ rows) (few : rows ≤ 256) where
  run-from : (history : List Entry) (calls : List DeskCall) → Faithful passwords rows history
      → run passwords calls (table_of passwords rows history) ≡ ledger_from passwords rows history calls
  unfolding run ledger_from
  run-from history [] faithful = refl
  run-from history (call ∷ calls) faithful =
      rw (
        call_step passwords rows history call faithful some few,
        run-from (with_entry call (answer_to passwords rows history call) history) calls (faithful_step passwords rows history call faithful),
      )

-- ---- the statements

pub demand_3 : Demand3
demand_3 passwords rows some few calls = rw (← start-table passwords rows) (run-from passwords rows some few [] calls (start_faithful passwords rows))

same-answers : (passwords : PasswordRule) (rows : ℕ) → 1 ≤ rows → rows ≤ 256 → (calls : List DeskCall)
    → answers_of passwords rows calls ≡ (ledger passwords rows calls).answers
same-answers passwords rows some few calls = ap (λ (r : Run). r.answers) (demand_3 passwords rows some few calls)

pub steps_rise : StepsRise
steps_rise passwords rows some few calls serial = rw (same-answers passwords rows some few calls) (ledger-steps_rise passwords rows serial calls)

pub void_accepts_nothing : VoidAcceptsNothing
void_accepts_nothing passwords rows some few calls serial = rw (same-answers passwords rows some few calls) (ledger-void_accepts_nothing passwords serial rows calls)

pub void_accepts_no-code : VoidAcceptsNoCode
void_accepts_no-code passwords rows some few calls serial =
    after-void-by-code passwords serial calls (replicate {A = ℕ} (row_bytes * rows) 0) (void_accepts_nothing passwords rows some few calls serial)
