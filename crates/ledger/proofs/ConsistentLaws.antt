-- Every history that the ledger machine makes is consistent.
use Rattle.token.specs.Answers.{Answer, successful}
use Rattle.std.specs.Prelude.{ℕ, ◌<◌, ◌≡◌, refl, false, ◌&&◌, eqb, ltb, length, Err}
use Rattle.std.proofs.Common.{ap, ◌∙◌, arith, eqb-true, ltb-true}
use mathlib.Core.List.{List, [], ◌∷◌, append-nil}
use Rattle.std.proofs.Math.Option.{Option, none, some}
use Rattle.std.proofs.Math.ListN.{length-append}
use Rattle.words.specs.BoolLaws.{by-test}
use Rattle.window.specs.PasswordAt.{PasswordRule}
use Rattle.token.specs.declared.answers.Content.{Content}
use Rattle.token.specs.declared.answers.Refusal.{Refusal}
use Rattle.token.specs.Codes.{refusal_number}
use Rattle.desk.specs.declared.Particulars.{Particulars}
use Rattle.desk.specs.Requests.{Request, DeskCall, clock_ok, request_ok, load_ok}
use Rattle.ledger.specs.Ledger.{Entry, Loaded, names, entries_of, loads, load_of, marks, requested_of, loaded_of, answer_to}
use Rattle.ledger.specs.HistoryTokens.{with_entry, Consistent}
use Rattle.ledger.proofs.LoadsLaws.{missing-before, distinct-behind, named-loads}
use Rattle.ledger.proofs.TokenLaws.{unnamed_entries, refused-marks}

pub start-consistent : (rows : ℕ) → Consistent rows []
unfolding loads entries_of
start-consistent rows = record { room = omega arith; distinct = tt; unmarked = λ serial m. refl }

unnamed_marks : (serial : ℕ) (e : Entry) (history : List Entry) → names e.call serial ≡ false → marks (entries_of serial (e ∷ history)) ≡ marks (entries_of serial history)
unnamed_marks serial e history n = ap marks (unnamed_entries serial e history n)

module _ (rows : ℕ) (history : List Entry) (c : Consistent rows history) where
  -- an entry without a load, that marks no serial without one
  unloading_consistent : (e : Entry) → loads (e ∷ history) ≡ loads history
      → ((serial : ℕ) → load_of serial (loads history) ≡ none → marks (entries_of serial (e ∷ history)) ≡ marks (entries_of serial history)) → Consistent rows (e ∷ history)
  unloading_consistent e same unmarked =
      record { room = rw same c.room; distinct = rw same c.distinct; unmarked = λ serial m. let n = rw same at m in unmarked serial n ∙ c.unmarked serial n }

  module _ (p : Particulars) (key : List ℕ) where
    refused-consistent : (f : Refusal) → eqb (refusal_number f) 0x0140 ≡ false → Consistent rows (with_entry (DeskCall.load p key) (Err f) history)
    unfolding loads
    refused-consistent f n = unloading_consistent _ (rw (n, append-nil (loads history))) (λ serial m. refused-marks serial _ history refl)

    loaded-consistent : length (loads history) < rows → load_of p.serial (loads history) ≡ none
        → Consistent rows (with_entry (DeskCall.load p key) (successful 0x0140 Content.Plain) history)
    unfolding loads
    loaded-consistent l missing =
        record {
          room = simp length-append (omega arith);
          distinct = distinct-behind (record { particulars = p; key = key }) (loads history) c.distinct missing;
          unmarked = λ serial m. let before = missing-before (record { particulars = p; key = key }) serial (loads history) m in
              unnamed_marks serial _ history before.1 ∙ c.unmarked serial before.0;
        }

    load-consistent : (o : Option Loaded) → load_of p.serial (loads history) ≡ o → Consistent rows (with_entry (DeskCall.load p key) (loaded_of rows (loads history) o) history)
    load-consistent (some l) e = refused-consistent Refusal.AlreadyLoaded refl
    load-consistent none e =
        by-test (ltb (length (loads history)) rows) (λ t. rw t (loaded-consistent (ltb-true (length (loads history)) rows t) e)) (λ f. rw f (refused-consistent Refusal.TableFull refl))

  named-consistent : (request : Request) (serial clock : ℕ) (a : Answer)
      → (load_of serial (loads history) ≡ none → marks (entries_of serial (with_entry (DeskCall.named request serial clock) a history)) ≡ marks (entries_of serial history))
      → Consistent rows (with_entry (DeskCall.named request serial clock) a history)
  named-consistent request serial clock a unknown =
      unloading_consistent _ (named-loads request serial clock a history)
      (λ n m. by-test (eqb serial n) (λ t. let e = eqb-true serial n t in rw (← e) (unknown (rw e m))) (λ f. unnamed_marks n _ history f))

pub consistent-step : (passwords : PasswordRule) (rows : ℕ) (history : List Entry) (call : DeskCall) → Consistent rows history
    → Consistent rows (with_entry call (answer_to passwords rows history call) history)
unfolding answer_to
consistent-step passwords rows history (DeskCall.load p key) c =
    by-test (load_ok p key)
    (λ t. rw t (load-consistent rows history c p key (load_of p.serial (loads history)) refl))
    (λ f. rw f (refused-consistent rows history c p key Refusal.BadArgument refl))
consistent-step passwords rows history (DeskCall.named request serial clock) c =
    by-test (clock_ok clock && request_ok request)
    (λ t. rw t (named-consistent rows history c request serial clock (requested_of passwords history clock request (load_of serial (loads history)))
    (λ missing. refused-marks serial _ history (ap (requested_of passwords history clock request) missing))))
    (λ f. rw f (named-consistent rows history c request serial clock (Err Refusal.BadArgument) (λ missing. refused-marks serial _ history refl)))
