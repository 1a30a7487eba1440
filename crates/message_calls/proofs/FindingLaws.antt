-- An item of a message by its identifier: how often it is there, and its content.
use Rattle.std.specs.Prelude.{ℕ, suc, ◌≡◌, refl, List, [], ◌∷◌, eqb, length, Option, Some, None, is_some, unwrap_or, option_copied}
use Rattle.std.proofs.Common.{sym, ap, ◌∙◌, arith, lt-ltb, eq-eqb, ne_eqb}
use denote.Ref.{Bor}
use Rattle.words.specs.Bytes.{be_at}
use Rattle.words.specs.BoolLaws.{by-test}
use Rattle.message.specs.Message.{Item, Message}
use Rattle.message.specs.Reading.{content_in}
use Rattle.message_calls.specs.Serving.{serial_item, count_of, content_of}
use Rattle.message_calls.specs.Finding.{has, serial_in}

module _ (id : ℕ) where
  has-content : (items : List Item) → is_some (content_in id items) ≡ has id items
  unfolding count_of
  has-content [] = refl
  has-content (i ∷ items) =
      by-test (eqb i.identifier id) (λ t. rw t (sym (lt-ltb 0 (suc (count_of id items)) (omega arith)))) (λ f. rw f (has-content items))

  content-or : (items : List Item) → unwrap_or (content_in id items) [] ≡ content_of id items
  unfolding content_of
  content-or [] = refl
  content-or (i ∷ items) = by-test (eqb i.identifier id) (λ t. rw t) (λ f. rw f (content-or items))

  -- what is found is a part of the message
  module _ (items : List Item) where
    pub found-has : (r : Option (Bor (List ℕ))) → option_copied r ≡ content_in id items → is_some r ≡ has id items
    found-has None e = ap is_some e ∙ has-content items
    found-has (Some part) e = ap is_some e ∙ has-content items

    pub found-content : (r : Option (Bor (List ℕ))) (empty : Bor (List ℕ)) → empty.now ≡ [] → option_copied r ≡ content_in id items → (unwrap_or r empty).now ≡ content_of id items
    found-content None empty n e = n ∙ ap (λ (o : Option (List ℕ)). unwrap_or o []) e ∙ content-or items
    found-content (Some part) empty n e = ap (λ (o : Option (List ℕ)). unwrap_or o []) e ∙ content-or items

-- ---- the serial

module _ (m : Message) {serial : List ℕ} (is : serial ≡ content_of serial_item m.items) where
  pub serial-other : (length serial ≡ 8 → ⊥) → None ≡ serial_in m
  serial-other d = rw (← is, ne_eqb (length serial) 8 d)

  pub serial-read : {r : ℕ} → r ≡ be_at 8 serial 0 → length serial ≡ 8 → Some r ≡ serial_in m
  serial-read e t = rw (← is, eq-eqb (length serial) 8 t, e)
