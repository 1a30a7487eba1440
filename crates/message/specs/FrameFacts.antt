-- The tests on the frame of a message, as equations between numbers.
use Rattle.std.specs.Prelude.{ℕ, ◌+◌, true, List, eqb, length, get_or, Option, Some, None}
use Rattle.std.proofs.Math.Path.{◌≡◌}
use borrow.Author.Tests.{eqb-true, eq-eqb}
use Rattle.words.specs.Bytes.{be_at}
use Rattle.words.specs.BoolLaws.{and_left, and_right, by-test, impossible}
use Rattle.message.specs.Message.{Message, items_end, all_plain, body_start, count_in, items_start, type_named, version_named, lengths_add_up, attributes_plain, message_at, frame_fits, frame_of}

pub record Facts (s : List ℕ) : Type 0 where
  pub named : type_named s ≡ true
  pub version : get_or s 2 0 ≡ 0x01
  pub head : get_or s 0 0 ≡ body_start s
  pub sum : body_start s + be_at 2 s 19 ≡ length s
  pub end : items_end (count_in s) s (items_start s) ≡ length s
  pub plain : all_plain (count_in s) s (items_start s) ≡ true

module _ (s : List ℕ) where
  pub fitting_facts : frame_fits s ≡ true → Facts s
  unfolding frame_fits lengths_add_up attributes_plain
  fitting_facts t =
      let behindType = and_right (type_named s) _ t in
      let behindVersion = and_right (version_named s) _ behindType in
      let lengths = and_left _ _ behindVersion in
      let sums = and_right (eqb (get_or s 0 0) (body_start s)) _ lengths in
      record {
        named = and_left _ _ t;
        version = eqb-true (get_or s 2 0) 0x01 (and_left _ _ behindType);
        head = eqb-true (get_or s 0 0) (body_start s) (and_left _ _ lengths);
        sum = eqb-true (body_start s + be_at 2 s 19) (length s) (and_left _ _ sums);
        end = eqb-true (items_end (count_in s) s (items_start s)) (length s) (and_right (eqb (body_start s + be_at 2 s 19) (length s)) _ sums);
        plain = and_right (lengths_add_up s) _ behindVersion;
      }

  pub facts_fit : Facts s → frame_fits s ≡ true
  unfolding frame_fits lengths_add_up attributes_plain
  facts_fit f =
      rw (
        f.named,
        f.plain,
        eq-eqb (get_or s 2 0) 0x01 f.version,
        eq-eqb (get_or s 0 0) (body_start s) f.head,
        eq-eqb (body_start s + be_at 2 s 19) (length s) f.sum,
        eq-eqb (items_end (count_in s) s (items_start s)) (length s) f.end,
      )

  pub some_facts : (m : Message) → frame_of s ≡ Some m → Facts s × (message_at s ≡ m)
  unfolding frame_of
  some_facts m e =
      by-test (frame_fits s)
      (λ t. let same : Some (message_at s) ≡ Some m = rw t at e in (fitting_facts t, cc))
      (λ f. let other : ◌≡◌ {A = Option Message} None (Some m) = rw f at e in impossible (cc))
