-- Reading a message: each code exactly when its reason holds.
use Rattle.std.specs.Prelude.{ℕ, ◌≡◌, refl, true, false, List}
use Rattle.words.specs.BoolLaws.{and_left, and_right, by-test, clash, impossible}
use Rattle.message.specs.Message.{type_named, version_named, lengths_add_up, frame_fits, frame_of, message_at, mac_fits}
use Rattle.message.specs.Reading.{read_of}
use Rattle.message.specs.Promise.{Unreadable, ReadCodes}

module _ (s : List ℕ) where
  unreadable : frame_fits s ≡ false → Unreadable s
  unfolding frame_fits
  unreadable f =
      by-test (type_named s)
      (λ type. by-test (version_named s)
      (λ version. by-test (lengths_add_up s) (λ lengths. Unreadable.attribute_other (rw (type, version, lengths) at f)) Unreadable.lengths_differ)
      Unreadable.version_not_named)
      Unreadable.type_not_named

  readable : frame_fits s ≡ true → Unreadable s → ⊥
  unfolding frame_fits
  readable t (Unreadable.type_not_named f) = clash (and_left _ _ t) f
  readable t (Unreadable.version_not_named f) = clash (and_left _ _ (and_right (type_named s) _ t)) f
  readable t (Unreadable.lengths_differ f) = clash (and_left _ _ (and_right (version_named s) _ (and_right (type_named s) _ t))) f
  readable t (Unreadable.attribute_other f) = clash (and_right (lengths_add_up s) _ (and_right (version_named s) _ (and_right (type_named s) _ t))) f

pub read_codes : ReadCodes
unfolding read_of frame_of
read_codes s =
    by-test (frame_fits s)
    (λ t. by-test (mac_fits s)
    (λ mac. rw (t, mac) (
      (λ e. impossible (cc), λ u. absurd (readable s t u)),
      ((λ e. impossible (cc), λ x. clash refl x.1), λ m. (λ e. let same : message_at s ≡ m = cc in (rw same, refl), λ x. let e = x.0 in let same : message_at s ≡ m = cc in rw same)),
    ))
    (λ other. rw (t, other) (
      (λ e. impossible (cc), λ u. absurd (readable s t u)),
      ((λ e. (readable s t, refl), λ x. refl), λ m. (λ e. impossible (cc), λ x. clash x.1 refl)),
    )))
    (λ f. rw f (
      (λ e. unreadable s f, λ u. refl),
      ((λ e. impossible (cc), λ x. absurd (x.0 (unreadable s f))), λ m. (λ e. impossible (cc), λ x. let e = x.0 in impossible (cc))),
    ))
